-- What the table of a module answers.
use Rattle.std.proofs.Common.{◌≡◌, Some, None, ap, sym, ◌∙◌}
use Rattle.std.specs.Prelude.{slice_get}
use Rattle.std.specs.Option.{option_copied}
use Rattle.just_lang_names.proofs.LookupLaws.{absent_by}
use Rattle.just_lang_names.proofs.target.is_absent.Goals as goal

pub returns-in-None : goal.returns-in-None
returns-in-None c =
    let none : slice_get c.args.names.now.modules.items c.args.number ≡ None = sym c.names_at.ensures ∙ ap option_copied c.in-None.is in
    absent_by c.args.names.now c.args.number c.args.name.now None c.requires none

pub returns-in-Some : goal.returns-in-Some
returns-in-Some c =
    let here : slice_get c.args.names.now.modules.items c.args.number ≡ Some c.in-Some.of_module.now = sym c.names_at.ensures ∙ ap option_copied c.in-Some.is in
    c.absent_in.ensures ∙ absent_by c.args.names.now c.args.number c.args.name.now (Some c.in-Some.of_module.now) c.requires here
