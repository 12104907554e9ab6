-- The rule on each attribute, by the names of the parameters.
use Rattle.std.proofs.Common.{◌≡◌, List, map, IfOk, subst, sym}
use Rattle.std.specs.List.{flat_map}
use Rattle.just_lang_syntax.specs.declared.ast.AstItem.{AstItem}
use Rattle.just_lang_syntax.specs.declared.ast.AstParameter.{AstParameter}
use Rattle.just_lang_syntax.specs.declared.ast.Attribute.{Attribute}
use Rattle.just_lang_spots.specs.declared.spot.Spot.{Spot}
use Rattle.just_lang_spots.specs.Spots.{first_spot}
use Rattle.just_lang_rules.specs.AttributeSpots.{unknown_arg_of, unknown_args_of}
use Rattle.just_lang_rules.proofs.arguments.UnknownArgParameterRuleAstItem.first.Goals as goal

pub returns-in-Recipe : goal.returns-in-Recipe
returns-in-Recipe g c =
    let spots : List AstParameter → List Attribute → List Spot = λ ps xs. flat_map (unknown_arg_of (g.T.Texts.text_of c.args.self.now.texts.now) c.args.file (map (λ (p : AstParameter). p.name.text) ps)) xs in
    let parameters : c.as_slice.result.now ≡ c.in-Recipe.recipe.parameters = let a = c.as_slice.ensures in let b = c.get-recipe.ensures in cc in
    let attributes : c.as_slice-in-Recipe.result.now ≡ c.in-Recipe.recipe.attributes = let a = c.as_slice-in-Recipe.ensures in let b = c.get-recipe.ensures in cc in
    subst (λ (x : AstItem). IfOk c.first_among.result (λ s. s ≡ first_spot (unknown_args_of (g.T.Texts.text_of c.args.self.now.texts.now) c.args.file x))) (sym c.in-Recipe.is)
    (subst (λ (ps : List AstParameter). IfOk c.first_among.result (λ s. s ≡ first_spot (spots ps c.in-Recipe.recipe.attributes))) parameters
    (subst (λ (xs : List Attribute). IfOk c.first_among.result (λ s. s ≡ first_spot (spots c.as_slice.result.now xs))) attributes c.first_among.ensures))
