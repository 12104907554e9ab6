-- The module has it.
use Rattle.std.proofs.Common.{rules, sym, ◌∙◌}
use Rattle.just_eval_words.specs.Sights.{located_of}
use Rattle.just_eval_words.proofs.Lookups.{in_module}
use Rattle.just_eval_words.proofs.name.recipe_at.Goals as goal

pub returns-in-Some : goal.returns-in-Some
returns-in-Some c =
    sym (in_module c.args.modules.now c.modules.inside-index c.args.path.now c.inside-item.result (located_of c.in-Some.found) c.modules-test.true (first_of (assumption c.inside-item.is, search (rules, c.inside-item.is))) (sym c.in-Some.ensures)) ∙ c.modules.invariant
