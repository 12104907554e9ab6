-- What the table of the modules within modules answers.
use Rattle.std.proofs.Common.{rules, ◌≡◌, Option, Some, None, ◌∙◌}
use Rattle.std.specs.Prelude.{slice_get, unwrap_or}
use Rattle.just_lang_names.proofs.LookupLaws.{child_by}
use Rattle.just_lang_names.proofs.target.child.Goals as goal

pub returns-in-None : goal.returns-in-None
returns-in-None c =
    let own : unwrap_or (slice_get c.args.names.now.numbers.items c.args.number) None ≡ None = search rules in
    child_by c.args.names.now c.args.number c.args.name.now None c.requires own

pub returns-in-Some : goal.returns-in-Some
returns-in-Some c =
    let own : unwrap_or (slice_get c.args.names.now.numbers.items c.args.number) None ≡ Some c.in-Some.own = search rules in
    c.number.ensures ∙ child_by c.args.names.now c.args.number c.args.name.now (Some c.in-Some.own) c.requires own
