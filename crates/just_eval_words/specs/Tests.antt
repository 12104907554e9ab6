-- What is tested behind all words.
use Rattle.std.specs.Prelude.{ℕ, suc, ◌==◌, nat_lt, not, Bool, true, false, if◌then◌else◌, List, [], ◌∷◌, ◌++◌, length, take, drop, map, filter, find, Option, Some, None, is_some, Result, Ok, Err, ◌≡◌, ◌≢◌}
use Rattle.std.specs.List.{list_any}
use Rattle.std.specs.Option.{option_map}
use Rattle.just_path_text.specs.Environ.{or_else}
use Rattle.just_lang_types.specs.declared.recipe.Parameter.{Parameter}
use Rattle.just_lang_types.specs.declared.recipe.Pattern.{Pattern}
use Rattle.just_lang_types.specs.declared.recipe.Recipe.{Recipe}
use Rattle.just_lang_types.specs.declared.switch.Switch.{Switch}
use Rattle.just_lang_types.specs.declared.switch.Switch.TheVariants as switch
use Rattle.just_lang_types.specs.declared.project.LangError.{LangError}
use Rattle.just_lang_types.specs.declared.project.LangError.TheVariants as error
use Rattle.just_print.specs.Usages.{is_variadic, is_option}
use Rattle.just_eval_words.specs.Parameters.{least_words}
use Rattle.just_eval_words.specs.Sorts.{Word}
use Rattle.just_eval_words.specs.Switches.{Words}
use Rattle.just_eval_words.specs.Patterns.{matches}

-- ---- what each parameter was given

-- the values that the option of that number was given
abbrev pub values_for : ℕ → List (ℕ × Word) → List Word
values_for n options = map (λ o. o.1) (filter (λ o. o.0 == n) options)

-- from the number n on: an option its values, a variadic parameter all words that are left, another one a word
abbrev pub given_from : ℕ → List Parameter → List Word → List (ℕ × Word) → List (List Word)
given_from n [] words options = []
given_from n (p ∷ ps) words options =
    if is_option p then values_for n options ∷ given_from (suc n) ps words options
    else (if is_variadic p.kind then words ∷ given_from (suc n) ps [] options
    else take 1 words ∷ given_from (suc n) ps (drop 1 words) options)

abbrev pub given_words : List Parameter → Words → List (List Word)
given_words ps t = given_from 0 ps t.positional t.options

-- ---- tests

-- the switch of an option, the long one where it has both; none of a parameter that is no option
abbrev pub switch_by : Option (List ℕ) → Option ℕ → Option Switch
switch_by (Some long) short = Some (switch.Long long)
switch_by None (Some short) = Some (switch.Short short)
switch_by None None = None

abbrev pub switch_of : Parameter → Option Switch
switch_of p = switch_by p.long p.short

-- what a test says of the first parameter, in their order, of which it says something
abbrev pub first_over : (Parameter → List Word → Option LangError) → List Parameter → List (List Word) → Option LangError
first_over test [] given = None
first_over test (p ∷ ps) [] = None
first_over test (p ∷ ps) (g ∷ gs) = or_else (test p g) (first_over test ps gs)

module _ (r : Recipe) where
  -- too few positional words; more than there is room for are never taken
  abbrev pub count_refusal : ℕ → Option LangError
  count_refusal count = if nat_lt count (least_words r.parameters) then Some (error.PositionalArgumentCountMismatch r.name r.path r.parameters count) else None

  -- an option without a default that wasn't given
  abbrev pub lack : Parameter → List Word → Option LangError
  lack p [] = if is_some p.default then None else option_map (error.MissingOption r.name) (switch_of p)
  lack p (v ∷ vs) = None

  -- fewer values than it takes, or more
  abbrev pub too_few : Parameter → ℕ → Option ℕ → Option LangError
  too_few p found None = None
  too_few p found (Some min) = if nat_lt found min then Some (error.ArgumentTooFewValues r.name p.name found min) else None

  abbrev pub too_many : Parameter → ℕ → Option ℕ → Option LangError
  too_many p found None = None
  too_many p found (Some max) = if nat_lt max found then Some (error.ArgumentTooManyValues r.name p.name found max) else None

  abbrev pub miscount : Parameter → List Word → Option LangError
  miscount p values = or_else (too_few p (length values) p.min) (too_many p (length values) p.max)

  -- the first value that no pattern matches
  abbrev pub mismatch_by : Parameter → Option Pattern → List Word → Option LangError
  mismatch_by p None values = None
  mismatch_by p (Some pattern) values =
      option_map (λ v. error.ArgumentPatternMismatch v r.name p.name pattern.texts) (find (λ v. not (list_any (λ p. matches p v) pattern.texts)) values)

  abbrev pub mismatch : Parameter → List Word → Option LangError
  mismatch p values = mismatch_by p p.pattern values

  -- the first refusal of that many positional words, and of what each parameter was given
  abbrev pub refusal : ℕ → List (List Word) → Option LangError
  refusal count given = or_else (count_refusal count) (or_else (first_over lack r.parameters given) (or_else (first_over miscount r.parameters given) (first_over mismatch r.parameters given)))

-- a call passes where there is no refusal, and else answers it, or memory is wanting
abbrev pub Passes : {A : Type 0} → Option LangError → Result A LangError → Type 0
Passes refused (Ok done) = refused ≡ None
Passes refused (Err e) = e ≢ error.NoMemory → refused ≡ Some e
