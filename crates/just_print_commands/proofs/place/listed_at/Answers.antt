-- A name leads to a module.
use Rattle.std.proofs.Common.{rules, ◌≡◌, ◌∙◌, Some}
use Rattle.just_print_commands.specs.Places.{listed_within}
use Rattle.just_print_commands.proofs.Finding.{listed_here}
use Rattle.just_print_commands.proofs.place.listed_at.Goals as goal

pub names-preserved : goal.names-preserved
names-preserved c =
    let inside : listed_within c.names.listed.now c.name-item.result ≡ Some c.in-Some.inner.now = search rules in
    listed_here c.args.names.now c.names.name-index c.name-item.result c.names.listed.now c.in-Some.inner.now c.names-test.true c.name-item.is inside ∙ c.names.invariant
