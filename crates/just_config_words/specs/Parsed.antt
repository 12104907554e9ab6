-- What a word says of options: which ones stand in it, and which values they have.
use Rattle.std.specs.Prelude.{ℕ, Bool, true, false, not, ◌||◌, ◌&&◌, ◌==◌, if◌then◌else◌, ◌-◌, List, [], ◌∷◌, ◌++◌, length, take, slice_get, Option, Some, None, codes, bytes_eq}
use Rattle.just_config_words.specs.declared.entry.Entry.{Entry}
use Rattle.just_config_words.specs.declared.entry.Values.{Values}
use Rattle.just_config_words.specs.declared.entry.Values.TheVariants as values
use Rattle.just_config_words.specs.declared.parsed.Attached.{Attached}
use Rattle.just_config_words.specs.declared.parsed.Attached.TheVariants.{Nothing, Joined, Assigned}
use Rattle.just_config_words.specs.declared.parsed.ParsedOption.{ParsedOption}
use Rattle.just_config_words.specs.Kinds.{is_help, is_version}
use Rattle.just_config_words.specs.Cuts.{holds, before_first, behind_first, behind_sign}
use Rattle.just_config_words.specs.Table.{entry_named, entry_lettered}

abbrev pub dash : ℕ
dash = 45

abbrev pub equals_sign : ℕ
equals_sign = 61

-- whether a word may be a value and may be positional: it is `-`, or doesn't begin with `-`
abbrev pub is_value : List ℕ → Bool
is_value [] = true
is_value (c ∷ []) = true
is_value (c ∷ (d ∷ cs)) = not (c == dash)

-- the word that ends the options
abbrev pub ends_options : List ℕ → Bool
ends_options w = bytes_eq w (codes "--")

-- ---- how many values

-- whether any word may be a value
abbrev pub takes_any : Values → Bool
takes_any values.Any = true
takes_any values.Rest = true
takes_any _ = false

-- whether no word is a value
abbrev pub takes_nothing : Values → Bool
takes_nothing values.Nothing = true
takes_nothing _ = false

-- how many values there are at least
abbrev pub least : Values → ℕ
least values.Nothing = 0
least values.One = 1
least values.Any = 1
least values.Two = 2
least values.Following = 0
least values.AtLeastOne = 1
least values.Rest = 1

-- how many words are values at most, where k values are attached, and n words stand behind
abbrev pub most : Values → ℕ → ℕ → ℕ
most values.Nothing k n = 0
most values.One k n = 1 - k
most values.Any k n = 1 - k
most values.Two k n = 2 - k
most values.Following k n = n
most values.AtLeastOne k n = n
most values.Rest k n = n

-- ---- the values of an option

-- the longest front of words that are values, of all words where any may be one
abbrev pub run : Bool → List (List ℕ) → List (List ℕ)
run any [] = []
run any (w ∷ ws) = if any || is_value w then w ∷ run any ws else []

-- the value that is attached
abbrev pub attached_values : Attached → List (List ℕ)
attached_values Nothing = []
attached_values (Joined t) = t ∷ []
attached_values (Assigned t) = t ∷ []

-- the words behind that are values too
abbrev pub taken : Values → Attached → List (List ℕ) → List (List ℕ)
taken v a ws = take (most v (length (attached_values a)) (length ws)) (run (takes_any v) ws)

-- a long name or a letter in front of these words, as its option with its values
abbrev pub parsed_option : Option Entry → Attached → List (List ℕ) → ParsedOption
parsed_option None a ws = record { option = None; attached = a; values = []; taken = 0 }
parsed_option (Some e) a ws = record { option = Some e; attached = a; values = attached_values a ++ taken e.values a ws; taken = length (taken e.values a ws) }

-- ---- a long name

-- what stands before the first `=`
abbrev pub name_in : List ℕ → List ℕ
name_in t = before_first equals_sign t

-- what stands behind the first `=`
abbrev pub assigned_in : List ℕ → Attached
assigned_in t = if holds equals_sign t then Assigned (behind_first equals_sign t) else Nothing

-- ---- letters

abbrev pub is_empty : List ℕ → Bool
is_empty [] = true
is_empty (c ∷ cs) = false

-- what stands in the word behind a letter: a value, where there is `=` or the option takes one
abbrev pub attached_to : Option Entry → List ℕ → Attached
attached_to None t = Nothing
attached_to (Some e) t = elim (behind_sign equals_sign t) [ None ↦ if is_empty t || takes_nothing e.values then Nothing else Joined t | Some v ↦ Assigned v ]

abbrev pub is_nothing : Attached → Bool
is_nothing Nothing = true
is_nothing _ = false

-- whether further letters may follow: not behind one that is unknown, takes values, has a value attached, or asks for the help or the version
abbrev pub may_go_on : Option Entry → Attached → Bool
may_go_on None a = false
may_go_on (Some e) a = takes_nothing e.values && is_nothing a && not (is_help e.kind || is_version e.kind)

abbrev pub letters : List ℕ → List (List ℕ) → List ParsedOption
letters [] ws = []
letters (c ∷ cs) ws =
    parsed_option (entry_lettered c) (attached_to (entry_lettered c) cs) ws
    ∷ (if may_go_on (entry_lettered c) (attached_to (entry_lettered c) cs) then letters cs ws else [])

-- ---- a word

-- the options that stand behind the dash of a word: behind a second one a long name, else letters
abbrev pub behind_dash : List ℕ → List (List ℕ) → List ParsedOption
behind_dash t ws = elim (behind_sign dash t) [ None ↦ letters t ws | Some name ↦ parsed_option (entry_named (name_in name)) (assigned_in name) ws ∷ [] ]

-- the options that stand in a word in front of these words
abbrev pub parsed_options : List ℕ → List (List ℕ) → List ParsedOption
parsed_options w ws = elim (behind_sign dash w) [ None ↦ [] | Some t ↦ behind_dash t ws ]

-- how many of the words behind are values: those of the last option, since the others take none
abbrev pub words_taken : List ParsedOption → ℕ
words_taken ms = elim (slice_get ms (length ms - 1)) [ None ↦ 0 | Some m ↦ m.taken ]
