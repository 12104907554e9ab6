-- A refusal within the loop is that of the whole.
use Rattle.std.proofs.Common.{◌≡◌, true, List, ap, sym, ◌∙◌, rules}
use Rattle.just_lang_syntax.specs.declared.ast.AstParameter.{AstParameter}
use Rattle.just_lang_syntax.specs.Recipes.{begins_parameter}
use Rattle.just_lang_syntax.proofs.Loops.{parameters_to_come, parameters_begin, parameters_wrong}
use Rattle.just_lang_syntax.proofs.recipe.singular.Goals as goal

pub returns-in-Err : goal.returns-in-Err
returns-in-Err c = λ n.
    let more : begins_parameter c.parameters.cursor ≡ true = search rules in
    parameters_begin c.args.cursor.now ∙ (ap (λ (found : List AstParameter). parameters_to_come found c.args.cursor.now) (sym c.new-found.ensures.items)
    ∙ (c.parameters.invariant ∙ parameters_wrong c.parameters.cursor c.parameters.found.items c.in-Err.refused more (c.in-Err.ensures n)))
