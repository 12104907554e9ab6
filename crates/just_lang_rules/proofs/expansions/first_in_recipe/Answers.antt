-- The first string by those of the parts of a recipe.
use Rattle.std.proofs.Common.{List, ◌++◌}
use Rattle.std.specs.List.{flat_map}
use Rattle.just_lang_syntax.specs.declared.ast.StringLiteral.{StringLiteral}
use Rattle.just_lang_spots.specs.declared.spot.Spot.{Spot}
use Rattle.just_lang_spots.specs.Spots.{spot_where}
use Rattle.just_lang_spots.specs.Places.{literal_spot}
use Rattle.just_lang_rules.specs.Literals.{literals_of_attribute, literals_of_parameter, literals_behind_colon}
use Rattle.just_lang_rules.specs.Expansions.{cannot_expand}
use Rattle.just_lang_rules.proofs.Parts.{given_two, given_each}
use Rattle.just_lang_rules.proofs.expansions.first_in_recipe.Goals as goal

pub returns : goal.returns
returns g c =
    let f : StringLiteral → List Spot = λ x. spot_where (cannot_expand (g.T.Texts.text_of c.args.texts.now) x) (literal_spot c.args.file x) in
    let r = c.args.recipe.now in
    given_two f (flat_map literals_of_attribute r.attributes) (flat_map literals_of_parameter r.parameters ++ literals_behind_colon r) c.in_ok-attributes.attributes c.earlier-behind.result c.earlier.result c.earlier.ensures
    (given_each f literals_of_attribute r.attributes c.as_slice.result.now c.in_ok-attributes.attributes c.in_ok-attributes.ensures c.as_slice.ensures)
    (given_two f (flat_map literals_of_parameter r.parameters) (literals_behind_colon r) c.in_ok-parameters.parameters c.in_ok-further.further c.earlier-behind.result c.earlier-behind.ensures
    (given_each f literals_of_parameter r.parameters c.as_slice-2.result.now c.in_ok-parameters.parameters c.in_ok-parameters.ensures c.as_slice-2.ensures)
    c.in_ok-further.ensures)
