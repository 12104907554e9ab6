-- The parts are what the module has.
use Rattle.std.proofs.Common.{◌∙◌}
use Rattle.just_print_tree.proofs.body.module_of.Goals as goal

pub returns-clause-listed : goal.returns-clause-listed
returns-clause-listed g c = record {
  name = c.module_with.ensures.name ∙ c.in_ok-head.ensures.name;
  path = c.module_with.ensures.path ∙ c.in_ok-head.ensures.path;
  doc = c.module_with.ensures.doc ∙ c.in_ok-head.ensures.doc;
  groups = c.module_with.ensures.groups ∙ c.in_ok-head.ensures.groups;
  private = c.module_with.ensures.private ∙ c.in_ok-head.ensures.private;
  recipes = c.module_with.ensures.recipes ∙ c.in_ok-body.ensures.recipes;
  aliases = c.module_with.ensures.aliases ∙ c.in_ok-body.ensures.aliases;
  named_groups = c.module_with.ensures.named_groups ∙ c.in_ok-body.ensures.named_groups;
}
