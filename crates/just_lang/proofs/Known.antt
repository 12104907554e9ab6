-- Names that no rule calls undefined are known.
use Rattle.std.proofs.Common.{◌≡◌, ℕ, Bool, true, false, not, ◌||◌, List, [], ◌∷◌, ◌++◌, map, Option, Some, None, refl, sym, ap, ◌∙◌, subst}
use Rattle.std.specs.Prelude.{All, IfSome, is_some, if◌then◌else◌, bytes_eq, codes, option_map}
use Rattle.std.specs.List.{AllByRecursion, flat_map, list_any, cons_option}
use Rattle.std.proofs.lemmas.List.Elements.{All-from_recursion}
use Rattle.just_lang_syntax.specs.declared.ast.Argument.{Argument}
use Rattle.just_lang_syntax.specs.declared.ast.AstDependency.{AstDependency}
use Rattle.just_lang_syntax.specs.declared.ast.AstItem.{AstItem}
use Rattle.just_lang_syntax.specs.declared.ast.AstItem.TheVariants as item
use Rattle.just_lang_syntax.specs.declared.ast.AstParameter.{AstParameter}
use Rattle.just_lang_syntax.specs.declared.ast.Attribute.{Attribute}
use Rattle.just_lang_syntax.specs.declared.ast.Expr.{Expr}
use Rattle.just_lang_syntax.specs.declared.ast.Fragment.{Fragment}
use Rattle.just_lang_syntax.specs.declared.ast.Fragment.TheVariants as fragment
use Rattle.just_lang_syntax.specs.declared.ast.Line.{Line}
use Rattle.just_lang_syntax.specs.declared.ast.Name.{Name}
use Rattle.just_lang_syntax.specs.declared.ast.StringLiteral.{StringLiteral}
use Rattle.just_lang_types.specs.Constants.{constant_of}
use Rattle.just_lang_types.specs.declared.recipe.Dependency.{Dependency}
use Rattle.just_lang_types.specs.declared.recipe.Modulepath.{Modulepath}
use Rattle.just_lang_types.specs.declared.scope.Assignment.{Assignment}
use Rattle.just_lang_spots.specs.Spots.{spot_where}
use Rattle.just_lang_spots.specs.declared.spot.Spot.{Spot}
use Rattle.just_lang_spots.specs.Places.{name_spot}
use Rattle.just_lang_spots.specs.Items.{item_name, is_assignment}
use Rattle.just_lang_spots.specs.Repeated.{is_among}
use Rattle.just_lang_spots.specs.Standing.{has_name, named, or_earlier}
use Rattle.just_lang_names.specs.NamesUsed.{names_of_expr}
use Rattle.just_lang_names.specs.ScopeSpots.{Scope, has_parameter, with_parameters, unknown_name, unknown_names, unknown_in_default, unknown_in_defaults, unknown_in_argument, unknown_in_attribute, unknown_in_dependency, unknown_in_fragment, unknown_in_line}
use Rattle.just_lang_shapes.specs.Expansions.{expanded_expr, expanded_exprs, expanded_arguments, expanded_attribute, expanded_attributes, expanded_default, expanded_fragments, expanded_lines}
use Rattle.just_lang_shapes.specs.Parameters.{parameter_with, parameter_of, parameters_of}
use Rattle.just_lang_shapes.specs.Scopes.{assignments_of}
use Rattle.just_lang_justfile.specs.Links.{Links}
use Rattle.just_lang_justfile.specs.Recipes.{dependencies_of}
use Rattle.just_lang_justfile.specs.Standing.{names_of}
use Rattle.just_lang.specs.Sound.{IsKnown, AreKnown, AreDefaultsKnown, parameter_names, exprs_in_cache, exprs_in_fragment, exprs_in_body}
use Rattle.just_lang.proofs.Lists.{none_left, none_right, all_append}
use Rattle.just_lang.proofs.Expanded.{names_stay}

-- ---- tests

or_all : (a b c : Bool) → ((a || b) || c) ≡ (a || (b || c))
or_all true b c = refl
or_all false b c = refl

or_last : (a b c : Bool) → ((a || (b || false)) || c) ≡ (b || (a || c))
or_last true true c = refl
or_last true false c = refl
or_last false true c = refl
or_last false false c = refl

pub any_append : {A : Type 0} (test : A → Bool) (xs ys : List A) → list_any test (xs ++ ys) ≡ (list_any test xs || list_any test ys)
any_append test [] ys = refl
any_append test (x ∷ xs) ys = ap (λ (b : Bool). test x || b) (any_append test xs ys) ∙ sym (or_all (test x) (list_any test xs) (list_any test ys))

-- ---- the names of a module's variables

named_is : (q : List ℕ) (xs : List (ℕ × AstItem)) → is_some (named item_name q xs) ≡ is_among q (names_of xs)
named_is q [] = refl
named_is q (x ∷ xs) = earlier (has_name item_name q x) (named item_name q xs) ∙ ap (λ (b : Bool). has_name item_name q x || b) (named_is q xs)
  where
    earlier : (b : Bool) (o : Option (ℕ × AstItem)) → is_some (or_earlier x b o) ≡ (b || is_some o)
    earlier true (Some y) = refl
    earlier false (Some y) = refl
    earlier true None = refl
    earlier false None = refl

abbrev pub AreAssignments : List (ℕ × AstItem) → Type 0
AreAssignments xs = AllByRecursion (λ (x : ℕ × AstItem). is_assignment x ≡ true) xs

pub assigned : (text_of : StringLiteral → Option (List ℕ)) (xs : List (ℕ × AstItem)) → AreAssignments xs → map (λ (a : Assignment). a.name) (assignments_of text_of xs) ≡ names_of xs
assigned text_of [] h = refl
assigned text_of ((n, item.Assignment export name value comment) ∷ xs) h = ap (λ (ns : List (List ℕ)). name.text ∷ ns) (assigned text_of xs h.1)
assigned text_of ((n, item.Blank) ∷ xs) h = absurd (let e : false ≡ true = h.0 in let no : ⊥ = cc in no)
assigned text_of ((n, item.Comment text) ∷ xs) h = absurd (let e : false ≡ true = h.0 in let no : ⊥ = cc in no)
assigned text_of ((n, item.Alias name path comment) ∷ xs) h = absurd (let e : false ≡ true = h.0 in let no : ⊥ = cc in no)
assigned text_of ((n, item.Import optional path comment) ∷ xs) h = absurd (let e : false ≡ true = h.0 in let no : ⊥ = cc in no)
assigned text_of ((n, item.Module attributes optional name path comment) ∷ xs) h = absurd (let e : false ≡ true = h.0 in let no : ⊥ = cc in no)
assigned text_of ((n, item.Unexport name comment) ∷ xs) h = absurd (let e : false ≡ true = h.0 in let no : ⊥ = cc in no)
assigned text_of ((n, item.Setting name value comment) ∷ xs) h = absurd (let e : false ≡ true = h.0 in let no : ⊥ = cc in no)
assigned text_of ((n, item.Recipe r) ∷ xs) h = absurd (let e : false ≡ true = h.0 in let no : ⊥ = cc in no)

-- ---- scopes

-- a scope has these names and the constants
abbrev pub IsScopeOf : List (List ℕ) → Scope → Type 0
IsScopeOf names scope = (q : List ℕ) → scope q ≡ (is_among q names || is_some (constant_of q))

pub module_names : (text_of : StringLiteral → Option (List ℕ)) (xs : List (ℕ × AstItem)) → AreAssignments xs
    → IsScopeOf (map (λ (a : Assignment). a.name) (assignments_of text_of xs)) (λ q. is_some (named item_name q xs) || is_some (constant_of q))
module_names text_of xs h q = ap (λ (b : Bool). b || is_some (constant_of q)) (named_is q xs ∙ ap (is_among q) (sym (assigned text_of xs h)))

-- one more parameter
one_more : (names : List (List ℕ)) (scope : Scope) (before : List AstParameter) (p : AstParameter) → IsScopeOf names (with_parameters before scope)
    → IsScopeOf (p.name.text ∷ names) (with_parameters (before ++ p ∷ []) scope)
one_more names scope before p h q =
    ap (λ (b : Bool). b || scope q) (any_append (λ (x : AstParameter). bytes_eq x.name.text q) before (p ∷ []))
    ∙ or_last (has_parameter before q) (bytes_eq p.name.text q) (scope q)
    ∙ ap (λ (b : Bool). bytes_eq p.name.text q || b) (h q)
    ∙ sym (or_all (bytes_eq p.name.text q) (is_among q names) (is_some (constant_of q)))

module _ (text_of : StringLiteral → Option (List ℕ)) where
  pub name_stays : (attributes : List Attribute) (p : AstParameter) → (parameter_of text_of attributes p).name ≡ p.name.text
  unfolding parameter_with
  name_stays attributes p = refl

  pub default_stays : (attributes : List Attribute) (p : AstParameter) → (parameter_of text_of attributes p).default ≡ expanded_default text_of p.default
  unfolding parameter_with
  default_stays attributes p = refl

  parameters_named : (attributes : List Attribute) (ps : List AstParameter) (q : List ℕ) → is_among q (parameter_names (parameters_of text_of attributes ps)) ≡ has_parameter ps q
  parameters_named attributes [] q = refl
  parameters_named attributes (p ∷ ps) q =
      ap (λ (n : List ℕ). bytes_eq n q || is_among q (parameter_names (parameters_of text_of attributes ps))) (name_stays attributes p)
      ∙ ap (λ (b : Bool). bytes_eq p.name.text q || b) (parameters_named attributes ps q)

  -- all parameters of a recipe
  pub with_all : (names : List (List ℕ)) (scope : Scope) (attributes : List Attribute) (ps : List AstParameter) → IsScopeOf names scope
      → IsScopeOf (parameter_names (parameters_of text_of attributes ps) ++ names) (with_parameters ps scope)
  with_all names scope attributes ps h q =
      ap (λ (b : Bool). has_parameter ps q || b) (h q)
      ∙ sym (or_all (has_parameter ps q) (is_among q names) (is_some (constant_of q)))
      ∙ ap (λ (b : Bool). (b || is_among q names) || is_some (constant_of q)) (sym (parameters_named attributes ps q))
      ∙ ap (λ (b : Bool). b || is_some (constant_of q)) (sym (any_append (λ (other : List ℕ). bytes_eq other q) (parameter_names (parameters_of text_of attributes ps)) names))

  -- ---- expressions

  spot_none : (b : Bool) (s : Spot) → spot_where (not b) s ≡ [] → b ≡ true
  spot_none true s h = refl
  spot_none false s h = absurd (let no : ⊥ = cc in no)

  module _ (names : List (List ℕ)) (scope : Scope) (file : ℕ) (is : IsScopeOf names scope) where
    names_known : (ns : List Name) → flat_map (unknown_name scope file) ns ≡ [] → AllByRecursion (IsKnown names) ns
    names_known [] h = tt
    names_known (n ∷ ns) h = (
      sym (is n.text) ∙ spot_none (scope n.text) (name_spot file n) (none_left (unknown_name scope file n) (flat_map (unknown_name scope file) ns) h),
      names_known ns (none_right (unknown_name scope file n) (flat_map (unknown_name scope file) ns) h),
    )

    pub known : (x : Expr) → unknown_names scope file x ≡ [] → AreKnown names (expanded_expr text_of x)
    known x h =
        subst (All (IsKnown names)) (sym (names_stay text_of x))
        (All-from_recursion (IsKnown names) (names_of_expr x) (names_known (names_of_expr x) h))

    all_known : (xs : List Expr) → flat_map (unknown_names scope file) xs ≡ [] → AllByRecursion (AreKnown names) (expanded_exprs text_of xs)
    all_known [] h = tt
    all_known (x ∷ xs) h =
        (known x (none_left (unknown_names scope file x) (flat_map (unknown_names scope file) xs) h), all_known xs (none_right (unknown_names scope file x) (flat_map (unknown_names scope file) xs) h))

    -- the arguments of dependencies
    abbrev pub AreArgumentsKnown : Dependency → Type 0
    AreArgumentsKnown d = All (AreKnown names) d.arguments

    module _ (links : Links) (number : ℕ) where
      one_dependency : (o : Option Modulepath) (xs : List Expr) (rest : List Dependency) → flat_map (unknown_names scope file) xs ≡ [] → AllByRecursion AreArgumentsKnown rest
          → AllByRecursion AreArgumentsKnown (cons_option (option_map (λ (p : Modulepath). record { path = p; arguments = expanded_exprs text_of xs }) o) rest)
      one_dependency None xs rest h k = k
      one_dependency (Some p) xs rest h k = (All-from_recursion (AreKnown names) (expanded_exprs text_of xs) (all_known xs h), k)

      pub arguments_known : (ds : List AstDependency) → flat_map (unknown_in_dependency scope file) ds ≡ [] → AllByRecursion AreArgumentsKnown (dependencies_of links number text_of ds)
      arguments_known [] h = tt
      arguments_known (d ∷ ds) h =
          one_dependency (links.dependency_path number d.path) d.arguments (dependencies_of links number text_of ds)
          (none_left (unknown_in_dependency scope file d) (flat_map (unknown_in_dependency scope file) ds) h)
          (arguments_known ds (none_right (unknown_in_dependency scope file d) (flat_map (unknown_in_dependency scope file) ds) h))

    fragments_known : (fs : List Fragment) → flat_map (unknown_in_fragment scope file) fs ≡ [] → AllByRecursion (AreKnown names) (flat_map exprs_in_fragment (expanded_fragments text_of fs))
    fragments_known [] h = tt
    fragments_known (fragment.Text text ∷ fs) h = fragments_known fs h
    fragments_known (fragment.Value x ∷ fs) h =
        (known x (none_left (unknown_names scope file x) (flat_map (unknown_in_fragment scope file) fs) h), fragments_known fs (none_right (unknown_names scope file x) (flat_map (unknown_in_fragment scope file) fs) h))

    -- the lines of a body
    pub body_known : (lines : List Line) → flat_map (unknown_in_line scope file) lines ≡ [] → AllByRecursion (AreKnown names) (exprs_in_body (expanded_lines text_of lines))
    body_known [] h = tt
    body_known (line ∷ lines) h =
        all_append (AreKnown names) (flat_map exprs_in_fragment (expanded_fragments text_of line.fragments)) (exprs_in_body (expanded_lines text_of lines))
        (fragments_known line.fragments (none_left (unknown_in_line scope file line) (flat_map (unknown_in_line scope file) lines) h))
        (body_known lines (none_right (unknown_in_line scope file line) (flat_map (unknown_in_line scope file) lines) h))

    -- the values of the keys of `cache`
    argument_values_known : (xs : List Argument) → flat_map (unknown_in_argument scope file) xs ≡ [] → AllByRecursion (AreKnown names) (map (λ (x : Argument). x.value) (expanded_arguments text_of xs))
    argument_values_known [] h = tt
    argument_values_known (x ∷ xs) h = (
      known x.value (none_left (unknown_in_argument scope file x) (flat_map (unknown_in_argument scope file) xs) h),
      argument_values_known xs (none_right (unknown_in_argument scope file x) (flat_map (unknown_in_argument scope file) xs) h),
    )

    cache_known : (a : Attribute) → unknown_in_attribute scope file a ≡ [] → AllByRecursion (AreKnown names) (exprs_in_cache (expanded_attribute text_of a))
    cache_known a h = by (bytes_eq a.name.text (codes "cache")) h
      where
        by : (b : Bool) → (if b then flat_map (unknown_in_argument scope file) a.arguments else []) ≡ [] → AllByRecursion (AreKnown names) (if b then map (λ (x : Argument). x.value) (expanded_arguments text_of a.arguments) else [])
        by true k = argument_values_known a.arguments k
        by false k = tt

    pub attributes_known : (attributes : List Attribute) → flat_map (unknown_in_attribute scope file) attributes ≡ [] → AllByRecursion (AreKnown names) (flat_map exprs_in_cache (expanded_attributes text_of attributes))
    attributes_known [] h = tt
    attributes_known (a ∷ attributes) h =
        all_append (AreKnown names) (exprs_in_cache (expanded_attribute text_of a)) (flat_map exprs_in_cache (expanded_attributes text_of attributes))
        (cache_known a (none_left (unknown_in_attribute scope file a) (flat_map (unknown_in_attribute scope file) attributes) h))
        (attributes_known attributes (none_right (unknown_in_attribute scope file a) (flat_map (unknown_in_attribute scope file) attributes) h))

  default_known : (names : List (List ℕ)) (scope : Scope) (file : ℕ) → IsScopeOf names scope → (o : Option Expr) → unknown_in_default scope file o ≡ [] → IfSome (expanded_default text_of o) (AreKnown names)
  default_known names scope file is None h = tt
  default_known names scope file is (Some x) h = known names scope file is x h

  -- the defaults of parameters behind others
  pub defaults_known : (attributes : List Attribute) (file : ℕ) (scope : Scope) (names : List (List ℕ)) (before ps : List AstParameter) → IsScopeOf names (with_parameters before scope)
      → unknown_in_defaults scope file before ps ≡ [] → AreDefaultsKnown names (parameters_of text_of attributes ps)
  defaults_known attributes file scope names before [] is h = tt
  defaults_known attributes file scope names before (p ∷ ps) is h =
      let first : unknown_in_default (with_parameters before scope) file p.default ≡ [] =
      none_left (unknown_in_default (with_parameters before scope) file p.default) (unknown_in_defaults scope file (before ++ p ∷ []) ps) h in
      let others : unknown_in_defaults scope file (before ++ p ∷ []) ps ≡ [] =
      none_right (unknown_in_default (with_parameters before scope) file p.default) (unknown_in_defaults scope file (before ++ p ∷ []) ps) h in (
        subst (λ (o : Option Expr). IfSome o (AreKnown names)) (sym (default_stays attributes p)) (default_known names (with_parameters before scope) file is p.default first),
        subst (λ (n : List ℕ). AreDefaultsKnown (n ∷ names) (parameters_of text_of attributes ps)) (sym (name_stays attributes p))
            (defaults_known attributes file scope (p.name.text ∷ names) (before ++ p ∷ []) ps (one_more names scope before p is) others),
      )
