-- The kinds of shells.
use Rattle.std.specs.Prelude.{Bool, true, false, if◌then◌else◌, ℕ, List, [], ◌∷◌, Option, Some, None, codes}
use Rattle.std.specs.List.{list_any}
use Rattle.std.specs.Str.{bytes_eq}
use Rattle.just_exec_work.specs.declared.kind.ShellKind.{ShellKind}
use Rattle.just_exec_work.specs.declared.kind.ShellKind.TheVariants.{Cmd, Other, Powershell}
use Rattle.just_exec_work.specs.Cuts.{last_piece}

abbrev pub is_one_of : List (List ℕ) → List ℕ → Bool
is_one_of names name = list_any (bytes_eq name) names

abbrev pub is_cmd : List ℕ → Bool
is_cmd name = is_one_of (codes "cmd" ∷ codes "cmd.exe" ∷ []) name

abbrev pub is_powershell : List ℕ → Bool
is_powershell name = is_one_of (codes "powershell" ∷ codes "powershell.exe" ∷ codes "pwsh" ∷ codes "pwsh.exe" ∷ []) name

abbrev pub kind_named : List ℕ → ShellKind
kind_named name = if is_cmd name then Cmd else (if is_powershell name then Powershell else Other)

-- the kind of the shell at a path
abbrev pub kind_of : List ℕ → ShellKind
kind_of path = kind_named (last_piece path)

-- how the name of its scripts ends
abbrev pub extension_of : ShellKind → Option (List ℕ)
extension_of Cmd = Some (codes ".bat")
extension_of Other = None
extension_of Powershell = Some (codes ".ps1")

-- whether the first argument behind a command is taken as the name of the shell
abbrev pub takes_shell_name : ShellKind → Bool
takes_shell_name Cmd = false
takes_shell_name Other = true
takes_shell_name Powershell = false
