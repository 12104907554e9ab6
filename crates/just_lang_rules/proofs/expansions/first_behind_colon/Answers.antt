-- The first string by those of the dependencies and of the body.
use Rattle.std.proofs.Common.{List, ◌++◌}
use Rattle.std.specs.List.{flat_map}
use Rattle.just_lang_syntax.specs.declared.ast.StringLiteral.{StringLiteral}
use Rattle.just_lang_spots.specs.declared.spot.Spot.{Spot}
use Rattle.just_lang_spots.specs.Spots.{spot_where}
use Rattle.just_lang_spots.specs.Places.{literal_spot}
use Rattle.just_lang_rules.specs.Literals.{literals_of_dependency, literals_of_line}
use Rattle.just_lang_rules.specs.Expansions.{cannot_expand}
use Rattle.just_lang_rules.proofs.Parts.{given_two, given_each}
use Rattle.just_lang_rules.proofs.expansions.first_behind_colon.Goals as goal

pub returns : goal.returns
returns g c =
    let f : StringLiteral → List Spot = λ x. spot_where (cannot_expand (g.T.Texts.text_of c.args.texts.now) x) (literal_spot c.args.file x) in
    let r = c.args.recipe.now in
    given_two f (flat_map literals_of_dependency r.priors) (flat_map literals_of_dependency r.subsequents ++ flat_map literals_of_line r.body) c.in_ok-priors.priors c.earlier-behind.result c.earlier.result c.earlier.ensures
    (given_each f literals_of_dependency r.priors c.as_slice.result.now c.in_ok-priors.priors c.in_ok-priors.ensures c.as_slice.ensures)
    (given_two f (flat_map literals_of_dependency r.subsequents) (flat_map literals_of_line r.body) c.in_ok-subsequents.subsequents c.in_ok-body.body c.earlier-behind.result c.earlier-behind.ensures
    (given_each f literals_of_dependency r.subsequents c.as_slice-2.result.now c.in_ok-subsequents.subsequents c.in_ok-subsequents.ensures c.as_slice-2.ensures)
    (given_each f literals_of_line r.body c.as_slice-3.result.now c.in_ok-body.body c.in_ok-body.ensures c.as_slice-3.ensures))
