-- A dot is one byte, so a name may be cut before it.
use Rattle.std.proofs.Common.{◌≡◌, arith, ◌∙◌, take}
use Rattle.std.proofs.lemmas.Slice.{between_from_start}
use Rattle.std.proofs.lemmas.Grind.{common_steps}
use Rattle.just_path.proofs.NameParts.{prefix_at, prefix_none}
use Rattle.just_path.proofs.name.prefix_of.Goals as goal

pub returns-in-Some : goal.returns-in-Some
returns-in-Some c =
    let a : c.range.result.now ≡ take c.in-Some.at c.args.name.now = grind (arith, common_steps, between_from_start) in
    a ∙ prefix_at c.args.name.now c.in-Some.at c.in-Some.ensures.0 c.in-Some.ensures.1 c.in-Some.ensures.2 c.in-Some.ensures.3

pub returns-in-None : goal.returns-in-None
returns-in-None c = prefix_none c.args.name.now c.in-None.ensures
