-- The first string of a module's line by those of its attributes and of its path.
use Rattle.std.proofs.Common.{List, ap, ◌∙◌, sym}
use Rattle.std.specs.List.{flat_map}
use Rattle.just_lang_syntax.specs.declared.ast.AstItem.{AstItem}
use Rattle.just_lang_syntax.specs.declared.ast.StringLiteral.{StringLiteral}
use Rattle.just_lang_spots.specs.declared.spot.Spot.{Spot}
use Rattle.just_lang_spots.specs.Spots.{spot_where, first_spot}
use Rattle.just_lang_spots.specs.Places.{literal_spot}
use Rattle.just_lang_rules.specs.Literals.{literals_of_attribute, literals_of_path, literals_of}
use Rattle.just_lang_rules.specs.Expansions.{cannot_expand}
use Rattle.just_lang_rules.proofs.Parts.{given_two, given_each}
use Rattle.just_lang_rules.proofs.expansions.ShellExpansionRuleAstItem.first.Goals as goal

pub returns-in_ok-path-in-Module : goal.returns-in_ok-path-in-Module
returns-in_ok-path-in-Module g c =
    let f : StringLiteral → List Spot = λ x. spot_where (cannot_expand (g.T.Texts.text_of c.args.self.now.texts.now) x) (literal_spot c.args.file x) in
    given_two f (flat_map literals_of_attribute c.in-Module.attributes) (literals_of_path c.in-Module.path) c.in_ok-found-in-Module.found c.in_ok-path-in-Module.path c.earlier.result c.earlier.ensures
    (given_each f literals_of_attribute c.in-Module.attributes c.as_slice.result.now c.in_ok-found-in-Module.found c.in_ok-found-in-Module.ensures c.as_slice.ensures) c.in_ok-path-in-Module.ensures
    ∙ ap (λ (x : AstItem). first_spot (flat_map f (literals_of x))) (sym c.in-Module.is)
