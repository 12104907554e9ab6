-- A refusal within the loop is that of the whole.
use Rattle.std.proofs.Common.{◌≡◌, true, List, ap, sym, ◌∙◌, rules}
use Rattle.just_lang_syntax.specs.declared.ast.AstDependency.{AstDependency}
use Rattle.just_lang_syntax.specs.Recipes.{begins_dependency}
use Rattle.just_lang_syntax.proofs.Loops.{dependencies_to_come, dependencies_begin, dependencies_wrong}
use Rattle.just_lang_syntax.proofs.recipe.dependencies.Goals as goal

pub returns-in-Err : goal.returns-in-Err
returns-in-Err c = λ n.
    let more : begins_dependency c.dependencies.cursor ≡ true = search rules in
    dependencies_begin c.args.cursor.now ∙ (ap (λ (found : List AstDependency). dependencies_to_come found c.args.cursor.now) (sym c.new-found.ensures.items)
    ∙ (c.dependencies.invariant ∙ dependencies_wrong c.dependencies.cursor c.dependencies.found.items c.in-Err.refused more (c.in-Err.ensures n)))
