-- How the parameters of a recipe take words.
use Rattle.std.specs.Prelude.{ℕ, nat_lt, ◌==◌, ◌&&◌, ◌||◌, not, Bool, true, false, if◌then◌else◌, List, [], ◌∷◌, length, suc, Option, Some, None, is_some, codes, bytes_eq}
use Rattle.std.specs.List.{list_any, filter}
use Rattle.just_lang_types.specs.declared.recipe.Parameter.{Parameter}
use Rattle.just_print.specs.Usages.{is_option, is_optional, is_variadic}

-- ---- positional parameters: those that are no options

abbrev pub is_positional : Parameter → Bool
is_positional p = not (is_option p)

-- a positional parameter that can't go without a word
abbrev pub needs_word : Parameter → Bool
needs_word p = not (is_option p) && not (is_optional p)

-- one that takes any number of words
abbrev pub takes_all : Parameter → Bool
takes_all p = not (is_option p) && is_variadic p.kind

-- how many positional words a recipe with these parameters takes at least, and at most, where there is a bound
abbrev pub least_words : List Parameter → ℕ
least_words ps = length (filter needs_word ps)

abbrev pub most_words : List Parameter → Option ℕ
most_words ps = if list_any takes_all ps then None else Some (length (filter is_positional ps))

-- whether there is room for a word behind that many
abbrev pub has_room : Option ℕ → ℕ → Bool
has_room None count = true
has_room (Some most) count = nat_lt count most

-- ---- options

abbrev pub is_long : List ℕ → Option (List ℕ) → Bool
is_long name None = false
is_long name (Some long) = bytes_eq long name

abbrev pub has_long : List ℕ → Parameter → Bool
has_long name p = is_long name p.long

abbrev pub is_short : ℕ → Option ℕ → Bool
is_short letter None = false
is_short letter (Some short) = short == letter

abbrev pub has_short : ℕ → Parameter → Bool
has_short letter p = is_short letter p.short

-- the first parameter that passes, with its number, counted from n
abbrev pub numbered_from : (Parameter → Bool) → ℕ → List Parameter → Option (ℕ × Parameter)
numbered_from test n [] = None
numbered_from test n (p ∷ ps) = if test p then Some (n, p) else numbered_from test (suc n) ps

-- the value of an option that takes none from the words
abbrev pub fixed_value : Parameter → Option (List ℕ)
fixed_value p = if p.flag then Some (codes "true") else p.value
