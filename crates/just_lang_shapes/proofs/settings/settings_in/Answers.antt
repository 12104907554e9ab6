-- The settings by their sorts.
use Rattle.std.proofs.Common.{◌∙◌}
use Rattle.just_lang_spots.specs.Entries.{entries}
use Rattle.just_lang_shapes.proofs.Kept.{settings_are}
use Rattle.just_lang_shapes.proofs.settings.settings_in.Goals as goal

pub returns : goal.returns
returns g c =
    let f = c.flag_settings-of_flags.ensures in
    let t = c.in_ok-of_texts.ensures in
    let l = c.in_ok-of_lists.ensures in
    c.settings_with.ensures
    ∙ settings_are (g.T.Texts.text_of c.args.texts.now) (entries c.args.items.now) c.flag_settings-of_flags.result c.in_ok-of_texts.of_texts c.in_ok-of_lists.of_lists
    f.allow_duplicate_recipes f.allow_duplicate_variables f.default_list f.dotenv_load f.dotenv_override f.dotenv_required f.export f.fallback f.guards f.ignore_comments f.lists f.no_cd f.no_exit_message f.positional_arguments f.quiet f.unstable f.windows_powershell
    t.dotenv_command t.dotenv_filename t.dotenv_path t.indentation t.tempdir t.working_directory l.shell l.script_interpreter l.windows_shell
