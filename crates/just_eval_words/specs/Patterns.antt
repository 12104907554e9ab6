-- Which texts match a pattern as a whole.
use Rattle.std.specs.Prelude.{ℕ, nat_le, ◌&&◌, Bool, false, List, ◌++◌, Option, Some, None, is_some, codes, chars}
use Rattle.std.specs.List.{list_any}
use Rattle.regex.specs.Patterns.{Re, find_str, default_config}
use Rattle.regex.specs.Strings.{regex_pattern}
use Rattle.regex.specs.declared.string.regex.Regex.{Regex}
use Rattle.regex_syntax.specs.Brackets.{Nested}
use Rattle.regex_syntax.specs.Grammar.{Names, read}

-- the pattern P, for whole texts
abbrev pub whole : List ℕ → List ℕ
whole pattern = codes "^(?:" ++ (pattern ++ codes ")$")

-- what the grammar of patterns reads, within its limit on nesting, is found in a text
abbrev pub is_found : Option (Nested Re × Names) → List ℕ → Bool
is_found None text = false
is_found (Some (re, names)) text = nat_le re.depth default_config.nest_limit && is_some (find_str re.value text 0)

-- whether a text matches a pattern as a whole
unfoldable pub matches : List ℕ → List ℕ → Bool
matches pattern text = is_found (read default_config (chars (whole pattern))) text

-- the same of a pattern that was built; one that is none matches nothing
abbrev pub matches_built : Option Regex → List ℕ → Bool
matches_built None text = false
matches_built (Some r) text = is_some (find_str (regex_pattern r) text 0)
