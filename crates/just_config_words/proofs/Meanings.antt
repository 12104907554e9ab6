-- What options and positional words mean.
use Rattle.std.proofs.Common.{◌≡◌, ◌∙◌, ap, ℕ, List, Option, inl, inr, length, take, Bor}
use Rattle.std.specs.Prelude.{Some, None, Result, Ok, Err}
use Rattle.just_config_words.specs.declared.occurrence.Occurrence.{Occurrence}
use Rattle.just_config_words.specs.declared.usage.Usage.{Usage}
use Rattle.just_config_words.specs.declared.usage.UsageKind.{UsageKind}
use Rattle.just_config_words.specs.declared.words.Read.{Read}
use Rattle.just_config_words.specs.declared.words.Read.TheVariants as read
use Rattle.just_config_words.specs.Table.{table}
use Rattle.just_config_words.specs.Front.{AreSplit, IsFaulty}
use Rattle.just_config_words.specs.Variables.{Pairs, first_ill, filled, IsFilled}
use Rattle.just_config_words.specs.Words.{Means, fault, single, variable, conflicts, requires_other, sound}
use Rattle.just_config_words.specs.Steps.{IsJudged, IsOutcome}
use Rattle.std.proofs.Common.{subst, sym}

-- what is judged of options that no variable spoils is what the words mean
from_judged : (words : List (List ℕ)) (environ : Pairs) (given : List Occurrence) (positional : List (List ℕ)) (r : Result Read Usage)
    → AreSplit words given positional → first_ill environ given table ≡ None → IsJudged given (filled environ given) positional r → Means words environ r
from_judged words environ given positional (Ok (read.Go a)) s f j = sound given positional a s f j.0 j.1 j.2
from_judged words environ given positional (Ok read.Help) s f j = absurd j.2
from_judged words environ given positional (Ok read.Version) s f j = absurd j.2
from_judged words environ given positional (Err u) s f j =
    elim j [
      | inl c ↦ subst (λ (v : Usage). Means words environ (Err v)) (sym c.2) (conflicts given positional c.0 s f c.1)
      | inr m ↦ subst (λ (v : Usage). Means words environ (Err v)) (sym m.1.2) (requires_other given positional m.1.0 s f m.0 m.1.1)
    ]

pub outcome_meaning : (environ : Pairs) (given all front : List Occurrence) (positional : List (List ℕ)) (ill : Option (Bor (List ℕ))) (r : Result Read Usage) (n : ℕ)
    → IsFilled environ given all ill → IsOutcome ill front all positional r → front ≡ take n all → n ≡ length given
    → (words : List (List ℕ)) → AreSplit words given positional → Means words environ r
outcome_meaning environ given all front positional None r n f j e l words s =
    from_judged words environ given positional r s f.fills.0
    (subst (λ (t : List Occurrence). IsJudged given t positional r) f.fills.1 (subst (λ (t : List Occurrence). IsJudged t all positional r) (e ∙ ap (λ (k : ℕ). take k all) l ∙ f.words) j))
outcome_meaning environ given all front positional (Some v) r n f j e l words s =
    subst (λ (x : Result Read Usage). Means words environ x) (sym j) (variable given positional v.now s f.fills)

-- the same, where what is judged is shown by a slice
pub shown_meaning : (environ : Pairs) (given all shown front : List Occurrence) (positional : List (List ℕ)) (ill : Option (Bor (List ℕ))) (r : Result Read Usage) (n : ℕ)
    → IsFilled environ given all ill → IsOutcome ill front shown positional r → shown ≡ all → front ≡ take n shown → n ≡ length given
    → (words : List (List ℕ)) → AreSplit words given positional → Means words environ r
shown_meaning environ given all shown front positional ill r n f j q e l =
    outcome_meaning environ given all front positional ill r n f (subst (λ (t : List Occurrence). IsOutcome ill front t positional r) q j) (e ∙ ap (λ (t : List Occurrence). take n t) q) l

-- a word has a fault
pub single_meaning : (environ : Pairs) (k : UsageKind) (w : List ℕ) (u : Usage) → u ≡ fault k w → (words : List (List ℕ)) → IsFaulty words k w → Means words environ (Err u)
single_meaning environ k w u e words f = subst (λ (x : Usage). Means words environ (Err x)) (sym e) (single k w f)
