-- Variables with their values, as they are printed.
use Rattle.std.specs.Prelude.{ℕ, ◌-◌, ◌==◌, if◌then◌else◌, List, [], ◌∷◌, ◌++◌, map, length, chars, codes, encode_utf8}
use Rattle.std.specs.List.{flat_map}
use Rattle.just_print.specs.Printed.{newline}
use Rattle.just_print_lists.specs.declared.variable.Evaluated.{Evaluated}
use Rattle.just_print_lists.specs.declared.variable.EvaluateFormat.{EvaluateFormat}
use Rattle.just_print_lists.specs.declared.variable.EvaluateFormat.TheVariants.{Just, Shell}
use Rattle.just_print_lists.specs.Order.{by_name}
use Rattle.just_print_lists.specs.Blanks.{blanks}
use Rattle.just_print_lists.specs.Greatest.{greatest}

-- a character in double quotes: `\\`, `\"`, `\n`, `\r`, `\t`, or itself
abbrev pub escaped : ℕ → List ℕ
escaped c =
    if c == 92 then 92 ∷ 92 ∷ []
    else (if c == 34 then 92 ∷ 34 ∷ []
    else (if c == 10 then 92 ∷ 110 ∷ [] else (if c == 13 then 92 ∷ 114 ∷ [] else (if c == 9 then 92 ∷ 116 ∷ [] else encode_utf8 c))))

-- a text in double quotes
abbrev pub element_text : List ℕ → List ℕ
element_text characters = 34 ∷ (flat_map escaped characters ++ (34 ∷ []))

-- a character in single quotes of a shell: `'\''` for `'`, or itself
abbrev pub quoted_once : ℕ → List ℕ
quoted_once c = if c == 39 then 39 ∷ 92 ∷ 39 ∷ 39 ∷ [] else encode_utf8 c

-- the greatest length of a name
abbrev pub longest_name : List Evaluated → ℕ
longest_name xs = greatest (map (λ (v : Evaluated). length v.name) xs)

-- `NAME := "TEXT"`, the name with blanks up to the width
abbrev pub just_line : ℕ → Evaluated → List ℕ
just_line columns v = v.name ++ (blanks (columns - length v.name) ++ (codes " := " ++ (34 ∷ (flat_map escaped (chars v.text) ++ (34 ∷ newline)))))

-- `NAME='TEXT'`
abbrev pub shell_line : Evaluated → List ℕ
shell_line v = v.name ++ (codes "='" ++ (flat_map quoted_once (chars v.text) ++ (codes "'" ++ newline)))

abbrev pub line : EvaluateFormat → ℕ → Evaluated → List ℕ
line Just columns v = just_line columns v
line Shell columns v = shell_line v

-- all variables, by the bytes of their names
abbrev pub evaluated_text : EvaluateFormat → List Evaluated → List ℕ
evaluated_text format xs = flat_map (line format (longest_name xs)) (by_name (λ (v : Evaluated). v.name) xs)
