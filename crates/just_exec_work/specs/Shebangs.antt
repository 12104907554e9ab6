-- The interpreter that the first line of a script names.
use Rattle.std.specs.Prelude.{ℕ, Bool, not, ◌==◌, ◌&&◌, if◌then◌else◌, nat_eq, List, length, drop, Option, Some, None, codes}
use Rattle.std.specs.List.{starts_with}
use Rattle.std.specs.Option.{option_map}
use Rattle.std.specs.Str.{trim}
use Rattle.just_exec_work.specs.declared.shebang.Shebang.{Shebang}
use Rattle.just_exec_work.specs.Cuts.{is_blank, is_newline, before_first, behind_first, last_piece}
use Rattle.just_exec_work.specs.Kinds.{is_cmd}

-- an interpreter, and what is behind it in its line
pub record Named : Type 0 where
  pub argument : Option (List ℕ)
  pub interpreter : List ℕ

-- whether a text begins with `#!`
abbrev pub is_marked : List ℕ → Bool
is_marked t = starts_with nat_eq t (codes "#!")

-- what is behind the `#!` of a text in its first line, without the white space around it
abbrev pub directive : List ℕ → List ℕ
directive t = trim (before_first is_newline (drop 2 t))

-- what a line is cut into at its first blank
abbrev pub named_by : List ℕ → Named
named_by line = record { argument = behind_first is_blank line; interpreter = before_first is_blank line }

abbrev pub is_named : Named → Bool
is_named n = not (length n.interpreter == 0)

-- the interpreter that a text names, where it names one
abbrev pub shebang : List ℕ → Option Named
shebang t = if is_marked t && is_named (named_by (directive t)) then Some (named_by (directive t)) else None

-- a shebang without where it lies in memory
abbrev pub named_of : Shebang → Named
named_of s = record { argument = option_map (λ a. a.now) s.argument; interpreter = s.interpreter.now }

-- whether the interpreter's scripts keep the lines that begin with `#!`
abbrev pub keeps_shebang_lines : Named → Bool
keeps_shebang_lines n = not (is_cmd (last_piece n.interpreter))
