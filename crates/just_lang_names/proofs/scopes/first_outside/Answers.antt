-- There are no parameters outside recipes.
use Rattle.just_lang_names.proofs.ScopeLaws.{outside_is}
use Rattle.just_lang_names.proofs.scopes.first_outside.Goals as goal

pub returns : goal.returns
returns c = outside_is c.args.names.now c.new-parameters.result c.args.file c.args.expr.now c.first_in_expr.result c.new-parameters.ensures c.first_in_expr.ensures
