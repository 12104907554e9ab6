-- What a recipe takes of the words behind its path: positional words, and switches with their values.
use Rattle.std.specs.Prelude.{ℕ, ◌==◌, ◌&&◌, ◌||◌, not, Bool, true, false, if◌then◌else◌, List, [], ◌∷◌, ◌++◌, length, Option, Some, None, Ok, Err, bytes_eq}
use Rattle.std.specs.List.{list_any}
use Rattle.just_lang_types.specs.declared.recipe.Parameter.{Parameter}
use Rattle.just_lang_types.specs.declared.recipe.Recipe.{Recipe}
use Rattle.just_lang_types.specs.declared.switch.Switch.{Switch}
use Rattle.just_lang_types.specs.declared.switch.Switch.TheVariants as a_switch
use Rattle.just_lang_types.specs.declared.project.LangError.TheVariants as error
use Rattle.just_eval_closure.specs.Answers.{Answer, and_then}
use Rattle.just_eval_words.specs.declared.taken.Taken.{Taken}
use Rattle.just_eval_words.specs.declared.taken.Next.{Next}
use Rattle.just_eval_words.specs.declared.taken.Next.TheVariants as next
use Rattle.just_print.specs.Usages.{is_variadic, has_options}
use Rattle.just_eval_words.specs.Parameters.{most_words, has_room, has_long, has_short, numbered_from, fixed_value}
use Rattle.just_eval_words.specs.Sorts.{Word, Sort, sort}

-- ---- what was taken, and what comes next

-- positional words, and values of options with the numbers of their parameters
pub record Words : Type 0 where
  pub positional : List Word
  pub options : List (ℕ × Word)

abbrev pub no_words : Words
no_words = record { positional = []; options = [] }

abbrev pub with_word : Words → Word → Words
with_word t w = record { positional = t.positional ++ w ∷ []; options = t.options }

abbrev pub with_option : Words → ℕ → Word → Words
with_option t n v = record { positional = t.positional; options = t.options ++ (n, v) ∷ [] }

-- any word, where the switches may have ended; or the value of an option, by its switch and the number of its parameter
pub data Awaited : Type 0 where
  a_word : Bool → Awaited
  a_value : Switch → ℕ → Parameter → Awaited

abbrev pub words_of : Taken → Words
words_of t = record { positional = t.positional.items; options = t.options.items }

abbrev pub awaited : Next → Awaited
awaited (next.Word ended) = Awaited.a_word ended
awaited (next.Value switch number parameter) = Awaited.a_value switch number parameter.now

abbrev pub Step : Type 0
Step = Words × Awaited

abbrev pub is_last : List ℕ → Bool
is_last [] = true
is_last (c ∷ cs) = false

-- whether an option has a value, and whether it takes no other
abbrev pub has_value : ℕ → Words → Bool
has_value n t = list_any (λ o. o.0 == n) t.options

abbrev pub is_full : ℕ → Parameter → Words → Bool
is_full n p t = has_value n t && not (p.multiple || is_variadic p.kind)

module _ (r : Recipe) where
  -- ---- one switch

  -- a value comes once, but where the option may come several times
  abbrev pub noted : Switch → ℕ → Parameter → Words → Word → Answer Words
  noted switch n p t v = if is_full n p t then Err (error.DuplicateOption r.name switch) else Ok (with_option t n v)

  abbrev pub then_any : Answer Words → Answer Step
  then_any a = and_then a (λ u. Ok (u, Awaited.a_word false))

  -- a long switch: by the value that its option takes without words, and the one behind its `=`
  abbrev pub option_taken : Switch → Words → ℕ → Parameter → Option Word → Option Word → Answer Step
  option_taken switch t n p (Some fixed) (Some given) = Err (error.FlagWithValue r.name switch)
  option_taken switch t n p (Some fixed) None = then_any (noted switch n p t fixed)
  option_taken switch t n p None (Some given) = then_any (noted switch n p t given)
  option_taken switch t n p None None = Ok (t, Awaited.a_value switch n p)

  abbrev pub long_found : Switch → Words → Option Word → Option (ℕ × Parameter) → Answer Step
  long_found switch t given None = Err (error.UnknownOption r.name switch)
  long_found switch t given (Some o) = option_taken switch t o.0 o.1 (fixed_value o.1) given

  -- `--NAME` or `--NAME=VALUE`
  abbrev pub long_taken : Word → List ℕ → Option Word → Words → Answer Step
  long_taken w name given t =
      if bytes_eq name [] then Err (error.InvalidOption w) else long_found (a_switch.Long name) t given (numbered_from (has_long name) 0 r.parameters)

  -- a letter: by whether it is the last one of its group, and the value that its option takes without words
  abbrev pub letter_valued : Switch → Bool → Words → ℕ → Parameter → Option Word → Answer Step
  letter_valued switch last t n p (Some fixed) = then_any (noted switch n p t fixed)
  letter_valued switch true t n p None = Ok (t, Awaited.a_value switch n p)
  letter_valued switch false t n p None = Err (error.NonFinalOptionWithValue r.name switch)

  abbrev pub letter_found : Switch → Bool → Words → Option (ℕ × Parameter) → Answer Step
  letter_found switch last t None = Err (error.UnknownOption r.name switch)
  letter_found switch last t (Some o) = letter_valued switch last t o.0 o.1 (fixed_value o.1)

  abbrev pub letter_taken : ℕ → Bool → Words → Answer Step
  letter_taken c last t = letter_found (a_switch.Short c) last t (numbered_from (has_short c) 0 r.parameters)

  -- the letters of a group, one after the other
  abbrev pub letters_taken : List ℕ → Answer Step → Answer Step
  letters_taken [] s = s
  letters_taken (c ∷ cs) s = letters_taken cs (and_then s (λ u. letter_taken c (is_last cs) u.0))

  -- ---- one word

  -- a positional word, where there is room for it; else it is left
  abbrev pub positional_taken : Bool → Words → Word → Option Step
  positional_taken ended t w = if has_room (most_words r.parameters) (length t.positional) then Some (with_word t w, Awaited.a_word ended) else None

  abbrev pub taken_of : Answer Step → Answer (Option Step)
  taken_of s = and_then s (λ u. Ok (Some u))

  abbrev pub sort_taken : Words → Word → Sort → Answer (Option Step)
  sort_taken t w Sort.positional = Ok (positional_taken false t w)
  sort_taken t w Sort.dashes = Ok (Some (t, Awaited.a_word true))
  sort_taken t w (Sort.long name given) = taken_of (long_taken w name given t)
  sort_taken t w (Sort.letters cs) = taken_of (letters_taken cs (Ok (t, Awaited.a_word false)))

  -- what comes of a word: nothing where it is left
  abbrev pub word_taken : Awaited → Words → Word → Answer (Option Step)
  word_taken (Awaited.a_value switch n p) t w = taken_of (then_any (noted switch n p t w))
  word_taken (Awaited.a_word true) t w = Ok (positional_taken true t w)
  word_taken (Awaited.a_word false) t w = sort_taken t w (sort w)

  -- ---- all words

  abbrev pub at_end : Awaited → Words → Answer (Words × List Word)
  at_end (Awaited.a_word ended) t = Ok (t, [])
  at_end (Awaited.a_value switch n p) t = Err (error.OptionMissingValue r.name switch)

  abbrev pub or_left : {A : Type 0} → Option Step → (Step → A) → A → A
  or_left None go left = left
  or_left (Some s) go left = go s

  -- what is taken of words, with the words that are left
  abbrev pub takes : Awaited → Words → List Word → Answer (Words × List Word)
  takes a t [] = at_end a t
  takes a t (w ∷ ws) = and_then (word_taken a t w) (λ o. or_left o (λ s. takes s.1 s.0 ws) (Ok (t, w ∷ ws)))

  -- where a recipe has no options, every word is positional
  abbrev pub all_taken : List Word → Answer (Words × List Word)
  all_taken ws = takes (Awaited.a_word (not (has_options r.parameters))) no_words ws
