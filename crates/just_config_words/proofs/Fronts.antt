-- What a word adds to the options that are read, and where they end.
use Rattle.std.proofs.Common.{◌≡◌, ℕ, Bool, true, false, if◌then◌else◌, List, [], ◌∷◌, refl, ◌∙◌, ap, subst, drop}
use Rattle.std.specs.Prelude.{Some, None}
use Rattle.just_config_words.specs.declared.occurrence.Occurrence.{Occurrence}
use Rattle.just_config_words.specs.declared.usage.UsageKind.{UsageKind}
use Rattle.just_config_words.specs.declared.front.Step.TheVariants as step
use Rattle.just_config_words.specs.Parsed.{is_value, ends_options, parsed_options}
use Rattle.just_config_words.specs.Faults.{asks_for_help, asks_for_version}
use Rattle.just_config_words.specs.Front.{AreOptions, AreSplit, IsNext, IsFaulty, Asks, has_options, positional_in, none, more, ended, delimited, began}
use Rattle.just_config_words.specs.Steps.{IsStep}

-- where nothing is read
pub nothing_read : (words : List (List ℕ)) (given : List Occurrence) → given ≡ [] → AreOptions words given words
nothing_read words given e = none given words e refl

-- ---- where the options end

split_by : (words : List (List ℕ)) (given : List Occurrence) (w : List ℕ) (ws ps : List (List ℕ)) (v e : Bool) → is_value w ≡ v → ends_options w ≡ e
    → AreOptions words given (w ∷ ws) → (if v then Some (w ∷ ws) else (if e then Some ws else None)) ≡ Some ps → AreSplit words given ps
split_by words given w ws ps true e p q h k = let f : ps ≡ w ∷ ws = cc in began w ws h p f
split_by words given w ws ps false true p q h k = let f : ws ≡ ps = cc in subst (λ (t : List (List ℕ)). AreSplit words given t) f (delimited w h q)
split_by words given w ws ps false false p q h k = let f : ⊥ = cc in absurd f

pub split_at : (words : List (List ℕ)) (given : List Occurrence) (rest ps : List (List ℕ)) → AreOptions words given rest → positional_in rest ≡ Some ps → AreSplit words given ps
split_at words given [] ps h k = let f : ps ≡ [] = cc in ended h f
split_at words given (w ∷ ws) ps h k = split_by words given w ws ps (is_value w) (ends_options w) refl refl h k

-- ---- a word with options

here : (words : List (List ℕ)) (given : List Occurrence) (rest : List (List ℕ)) (w : List ℕ) (ws : List (List ℕ)) → AreOptions words given rest → rest ≡ w ∷ ws → AreOptions words given (w ∷ ws)
here words given rest w ws h e = subst (λ (t : List (List ℕ)). AreOptions words given t) e h

pub word_taken : (words : List (List ℕ)) (given after : List Occurrence) (rest : List (List ℕ)) (w : List ℕ) (behind left : List (List ℕ)) (n : ℕ)
    → AreOptions words given rest → (rest ≡ w ∷ behind) × (has_options w ≡ true) → IsStep given w behind after (step.Taken n) → left ≡ drop n behind → AreOptions words after left
word_taken words given after rest w behind left n h e s r =
    more given w behind after left (here words given rest w behind h e.0) e.1 s.0 s.1 s.2 (r ∙ ap (λ k. drop k behind) s.3)

next_is : (words : List (List ℕ)) (given : List Occurrence) (rest : List (List ℕ)) (w : List ℕ) (behind : List (List ℕ))
    → AreOptions words given rest → (rest ≡ w ∷ behind) × (has_options w ≡ true) → IsNext words given w (parsed_options w behind)
next_is words given rest w behind h e = record { behind = behind; before = here words given rest w behind h e.0; has = e.1; are = refl }

pub word_faulty : (words : List (List ℕ)) (given after : List Occurrence) (rest : List (List ℕ)) (w : List ℕ) (behind : List (List ℕ)) (kind : UsageKind)
    → AreOptions words given rest → (rest ≡ w ∷ behind) × (has_options w ≡ true) → IsStep given w behind after (step.Fault kind) → IsFaulty words kind w
word_faulty words given after rest w behind kind h e s = record { given = given; ms = parsed_options w behind; at = next_is words given rest w behind h e; fault = s }

pub word_asks_help : (words : List (List ℕ)) (given after : List Occurrence) (rest : List (List ℕ)) (w : List ℕ) (behind : List (List ℕ))
    → AreOptions words given rest → (rest ≡ w ∷ behind) × (has_options w ≡ true) → IsStep given w behind after step.Help → Asks asks_for_help words
word_asks_help words given after rest w behind h e s = record { given = given; w = w; ms = parsed_options w behind; at = next_is words given rest w behind h e; sound = s.0; asked = s.1 }

pub word_asks_version : (words : List (List ℕ)) (given after : List Occurrence) (rest : List (List ℕ)) (w : List ℕ) (behind : List (List ℕ))
    → AreOptions words given rest → (rest ≡ w ∷ behind) × (has_options w ≡ true) → IsStep given w behind after step.Version → Asks asks_for_version words
word_asks_version words given after rest w behind h e s = record { given = given; w = w; ms = parsed_options w behind; at = next_is words given rest w behind h e; sound = s.0; asked = s.1 }
