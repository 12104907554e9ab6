-- Records by their fields.
use Rattle.std.proofs.Common.{◌≡◌, ℕ, Bool, List, Option, ap, ◌∙◌}
use Rattle.std.specs.Prelude.{codes}
use Rattle.just_lang_syntax.specs.declared.ast.Argument.{Argument}
use Rattle.just_lang_syntax.specs.declared.ast.AstParameter.{AstParameter}
use Rattle.just_lang_syntax.specs.declared.ast.AstRecipe.{AstRecipe}
use Rattle.just_lang_syntax.specs.declared.ast.Attribute.{Attribute}
use Rattle.just_lang_syntax.specs.declared.ast.Expr.{Expr}
use Rattle.just_lang_syntax.specs.declared.ast.Line.{Line}
use Rattle.just_lang_syntax.specs.declared.ast.StringLiteral.{StringLiteral}
use Rattle.just_lang_types.specs.declared.recipe.Dependency.{Dependency}
use Rattle.just_lang_types.specs.declared.recipe.Modulepath.{Modulepath}
use Rattle.just_lang_types.specs.declared.recipe.Parameter.{Parameter}
use Rattle.just_lang_types.specs.declared.recipe.Pattern.{Pattern}
use Rattle.just_lang_types.specs.declared.recipe.Recipe.{Recipe}
use Rattle.just_lang_types.specs.Attributes.{is_script}
use Rattle.just_lang_shapes.specs.Attributes.{doc_of, is_private}
use Rattle.just_lang_shapes.specs.Expansions.{expanded_attributes, expanded_default, expanded_lines}
use Rattle.just_lang_shapes.specs.Parameters.{stands_alone, long_of, short_of, value_of, values_of, pattern_of, number_at, parameter_with, parameters_of}
use Rattle.just_lang_shapes.specs.Recipes.{path_within, recipe_of}

-- a parameter whose fields are what the keys say
pub parameter_are : (text_of : StringLiteral → Option (List ℕ)) (xs : List Argument) (p : AstParameter)
    (name : List ℕ) (default : Option Expr) (long : Option (List ℕ)) (short : Option ℕ) (value : Option (List ℕ)) (flag : Bool) (multiple : Bool) (help : Option (List ℕ)) (pattern : Option Pattern) (min : Option ℕ) (max : Option ℕ)
    → name ≡ p.name.text
    → default ≡ expanded_default text_of p.default
    → long ≡ long_of text_of p.name.text xs
    → short ≡ short_of text_of xs
    → value ≡ value_of text_of (codes "value") xs
    → flag ≡ stands_alone (codes "flag") xs
    → multiple ≡ stands_alone (codes "multiple") xs
    → help ≡ value_of text_of (codes "help") xs
    → pattern ≡ pattern_of (values_of text_of (codes "pattern") xs)
    → min ≡ number_at text_of (codes "min") xs
    → max ≡ number_at text_of (codes "max") xs
    → record { name = name; kind = p.kind; export = p.export; default = default; long = long; short = short; value = value; flag = flag; multiple = multiple; help = help; pattern = pattern; min = min; max = max } ≡ parameter_with text_of xs p
unfolding parameter_with
parameter_are text_of xs p name default long short value flag multiple help pattern min max e0 e1 e2 e3 e4 e5 e6 e7 e8 e9 e10 =
    let s0 : Parameter = record { name = name; kind = p.kind; export = p.export; default = default; long = long; short = short; value = value; flag = flag; multiple = multiple; help = help; pattern = pattern; min = min; max = max } in
    let s1 : Parameter = record s0 { name = p.name.text } in
    let s2 : Parameter = record s1 { default = expanded_default text_of p.default } in
    let s3 : Parameter = record s2 { long = long_of text_of p.name.text xs } in
    let s4 : Parameter = record s3 { short = short_of text_of xs } in
    let s5 : Parameter = record s4 { value = value_of text_of (codes "value") xs } in
    let s6 : Parameter = record s5 { flag = stands_alone (codes "flag") xs } in
    let s7 : Parameter = record s6 { multiple = stands_alone (codes "multiple") xs } in
    let s8 : Parameter = record s7 { help = value_of text_of (codes "help") xs } in
    let s9 : Parameter = record s8 { pattern = pattern_of (values_of text_of (codes "pattern") xs) } in
    let s10 : Parameter = record s9 { min = number_at text_of (codes "min") xs } in
    ap (λ (z : List ℕ). record s0 { name = z }) e0
    ∙ ap (λ (z : Option Expr). record s1 { default = z }) e1
    ∙ ap (λ (z : Option (List ℕ)). record s2 { long = z }) e2
    ∙ ap (λ (z : Option ℕ). record s3 { short = z }) e3
    ∙ ap (λ (z : Option (List ℕ)). record s4 { value = z }) e4
    ∙ ap (λ (z : Bool). record s5 { flag = z }) e5
    ∙ ap (λ (z : Bool). record s6 { multiple = z }) e6
    ∙ ap (λ (z : Option (List ℕ)). record s7 { help = z }) e7
    ∙ ap (λ (z : Option Pattern). record s8 { pattern = z }) e8
    ∙ ap (λ (z : Option ℕ). record s9 { min = z }) e9
    ∙ ap (λ (z : Option ℕ). record s10 { max = z }) e10

-- a recipe whose fields are what it says
pub recipe_are : (text_of : StringLiteral → Option (List ℕ)) (m : Modulepath) (above : Option (List ℕ)) (priors subsequents : List Dependency) (r : AstRecipe)
    (name : List ℕ) (path : Modulepath) (doc : Option (List ℕ)) (attributes : List Attribute) (parameters : List Parameter) (body : List Line) (private : Bool) (script : Bool)
    → name ≡ r.name.text
    → path ≡ path_within m r.name.text
    → doc ≡ doc_of text_of r.attributes above
    → attributes ≡ expanded_attributes text_of r.attributes
    → parameters ≡ parameters_of text_of r.attributes r.parameters
    → body ≡ expanded_lines text_of r.body
    → private ≡ is_private r.attributes r.name.text
    → script ≡ is_script r
    → record { name = name; path = path; doc = doc; attributes = attributes; parameters = parameters; priors = priors; subsequents = subsequents; body = body; quiet = r.quiet; private = private; script = script; line = r.name.line } ≡ recipe_of text_of m above priors subsequents r
unfolding recipe_of
recipe_are text_of m above priors subsequents r name path doc attributes parameters body private script e0 e1 e2 e3 e4 e5 e6 e7 =
    let s0 : Recipe = record { name = name; path = path; doc = doc; attributes = attributes; parameters = parameters; priors = priors; subsequents = subsequents; body = body; quiet = r.quiet; private = private; script = script; line = r.name.line } in
    let s1 : Recipe = record s0 { name = r.name.text } in
    let s2 : Recipe = record s1 { path = path_within m r.name.text } in
    let s3 : Recipe = record s2 { doc = doc_of text_of r.attributes above } in
    let s4 : Recipe = record s3 { attributes = expanded_attributes text_of r.attributes } in
    let s5 : Recipe = record s4 { parameters = parameters_of text_of r.attributes r.parameters } in
    let s6 : Recipe = record s5 { body = expanded_lines text_of r.body } in
    let s7 : Recipe = record s6 { private = is_private r.attributes r.name.text } in
    ap (λ (z : List ℕ). record s0 { name = z }) e0
    ∙ ap (λ (z : Modulepath). record s1 { path = z }) e1
    ∙ ap (λ (z : Option (List ℕ)). record s2 { doc = z }) e2
    ∙ ap (λ (z : List Attribute). record s3 { attributes = z }) e3
    ∙ ap (λ (z : List Parameter). record s4 { parameters = z }) e4
    ∙ ap (λ (z : List Line). record s5 { body = z }) e5
    ∙ ap (λ (z : Bool). record s6 { private = z }) e6
    ∙ ap (λ (z : Bool). record s7 { script = z }) e7
