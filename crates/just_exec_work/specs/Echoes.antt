-- What is printed before a child starts.
use Rattle.std.specs.Prelude.{ℕ, Bool, not, ◌&&◌, ◌||◌, if◌then◌else◌, List, []}
use Rattle.std.specs.List.{flat_map}
use Rattle.just_lang_types.specs.declared.node.BodyLine.{BodyLine}
use Rattle.just_lang_types.specs.declared.settings.Settings.{Settings}
use Rattle.just_exec_work.specs.Scripts.{ended}
use Rattle.just_exec_work.specs.declared.run_attributes.RunAttributes.{RunAttributes}
use Rattle.just_exec_work.specs.declared.run_flags.RunFlags.{RunFlags}

-- whether exactly one of them is
abbrev pub is_one : Bool → Bool → Bool
is_one a b = if a then not b else b

-- whether a line isn't printed, where the words don't ask for it: by the `@` of the line or of its recipe, by the setting or by the words
abbrev pub is_quiet : RunFlags → Settings → RunAttributes → Bool → Bool → Bool
is_quiet flags settings attributes recipe line = is_one line recipe || ((settings.quiet && not attributes.no_quiet) || flags.quiet)

abbrev pub shows_line : RunFlags → Settings → RunAttributes → Bool → Bool → Bool
shows_line flags settings attributes recipe line = flags.dry_run || (flags.loquacious || not (is_quiet flags settings attributes recipe line))

abbrev pub line_echo : Bool → List ℕ → List ℕ
line_echo shown text = if shown then ended text else []

-- whether the lines of a script are printed: in a dry run, or by the `@` of the recipe
abbrev pub shows_script : RunFlags → Bool → Bool
shows_script flags recipe = not flags.quiet && (flags.dry_run || recipe)

abbrev pub script_echo : Bool → List BodyLine → List ℕ
script_echo shown lines = if shown then flat_map (λ l. ended l.text) lines else []
