-- The names and texts of scripts.
use Rattle.std.specs.Prelude.{ℕ, ◌+◌, ◌-◌, Bool, true, false, if◌then◌else◌, List, [], ◌∷◌, ◌++◌, drop, replicate, Option}
use Rattle.std.specs.List.{prefix_len, take_while, flat_map}
use Rattle.std.specs.Option.{option_or, unwrap_or}
use Rattle.just_lang_types.specs.declared.node.BodyLine.{BodyLine}
use Rattle.just_lang_types.specs.declared.settings.Interpreter.{Interpreter}
use Rattle.just_exec_work.specs.declared.executor.Executor.{Executor}
use Rattle.just_exec_work.specs.declared.executor.Executor.TheVariants as executor
use Rattle.just_exec_work.specs.declared.kind.ShellKind.{ShellKind}
use Rattle.just_exec_work.specs.declared.kind.ShellKind.TheVariants as kind
use Rattle.just_exec_work.specs.Kinds.{kind_of, extension_of}
use Rattle.just_exec_work.specs.Shebangs.{Named, is_marked, named_of, keeps_shebang_lines}

-- what runs a script, without where it lies in memory: a command, or the interpreter that the script's first line names
pub data Runner : Type 0 where
  by_command : Interpreter → Runner
  by_shebang : Named → Runner

abbrev pub runner_of : Executor → Runner
runner_of (executor.Command i) = by_command i
runner_of (executor.Shebang s) = by_shebang (named_of s)

-- the program that runs the script
abbrev pub program : Runner → List ℕ
program (by_command i) = i.command
program (by_shebang n) = n.interpreter

-- the name of a recipe's script: the recipe's, and how it ends, where nothing else is asked for as the kind of its program says
abbrev pub script_name : Runner → List ℕ → Option (List ℕ) → List ℕ
script_name r recipe extension = recipe ++ unwrap_or (option_or extension (extension_of (kind_of (program r)))) []

-- ---- the byte order mark

abbrev pub is_powershell_kind : ShellKind → Bool
is_powershell_kind kind.Cmd = false
is_powershell_kind kind.Other = false
is_powershell_kind kind.Powershell = true

abbrev pub needs_bom : Runner → Bool
needs_bom (by_command i) = is_powershell_kind (kind_of i.command)
needs_bom (by_shebang n) = false

-- the byte order mark, where the script begins with it
abbrev pub byte_order_mark : Runner → List ℕ
byte_order_mark r = if needs_bom r then 239 ∷ 187 ∷ 191 ∷ [] else []

-- ---- lines

-- the lines in front that begin with `#!`, and those behind them
abbrev pub is_shebang_line : BodyLine → Bool
is_shebang_line l = is_marked l.text

abbrev pub shebang_count : List BodyLine → ℕ
shebang_count lines = prefix_len is_shebang_line lines

-- a text and the end of its line
abbrev pub ended : List ℕ → List ℕ
ended t = t ++ (10 ∷ [])

-- these lines, or as many blank ones
abbrev pub shebang_lines : Bool → List BodyLine → List ℕ
shebang_lines kept lines = flat_map (λ l. ended (if kept then l.text else [])) lines

-- how many blank lines stand in front of a line behind so many lines, so that it comes to its number
abbrev pub gap : ℕ → BodyLine → ℕ
gap above l = l.number - 1 - above

-- lines behind so many others, each at its number
abbrev pub placed : ℕ → List BodyLine → List ℕ
placed above [] = []
placed above (l ∷ ls) = replicate (gap above l) 10 ++ (ended l.text ++ placed (above + gap above l + 1) ls)

-- how many lines of a body begin its script as a shebang
abbrev pub lines_above : Runner → List BodyLine → ℕ
lines_above (by_command i) lines = 0
lines_above (by_shebang n) lines = shebang_count lines

-- the lines of a body that stand at their numbers
abbrev pub numbered : Runner → List BodyLine → List BodyLine
numbered r lines = drop (lines_above r lines) lines

-- the text of the script of a body
abbrev pub script_text : Runner → List BodyLine → List ℕ
script_text (by_command i) lines = byte_order_mark (by_command i) ++ placed 0 lines
script_text (by_shebang n) lines = shebang_lines (keeps_shebang_lines n) (take_while is_shebang_line lines) ++ placed (shebang_count lines) (drop (shebang_count lines) lines)
