-- Recipe lines: what the code reads is what the grammar says.
use Rattle.std.proofs.Common.{◌≡◌, ℕ, true, false, if◌then◌else◌, List, [], ◌++◌, Option, Some, None, Ok, Err, codes, sym, subst, ⊎_elim}
use Rattle.just_lang_read.specs.Place.{Place, AreMany, begins}
use Rattle.just_lang_read.specs.Reader.{and_then, pure}
use Rattle.just_lang_read.specs.declared.error.ReadError.TheVariants.{Syntax}
use Rattle.just_lang_read.proofs.Laws.{bind_ok, choose, ok_value, ok_place, many_ok}
use Rattle.just_lang_syntax.specs.declared.ast.Expr.{Expr}
use Rattle.just_lang_syntax.specs.declared.ast.Attribute.{Attribute}
use Rattle.just_lang_syntax.specs.declared.ast.ParameterKind.{ParameterKind}
use Rattle.just_lang_syntax.specs.declared.ast.ParameterKind.TheVariants.{Singular, Plus, Star}
use Rattle.just_lang_syntax.specs.declared.ast.AstParameter.{AstParameter}
use Rattle.just_lang_syntax.specs.declared.ast.AstDependency.{AstDependency}
use Rattle.just_lang_syntax.specs.declared.ast.AstRecipe.{AstRecipe}
use Rattle.just_lang_read.specs.Lines.{IsToken}
use Rattle.just_lang_syntax.specs.Places.{IsPath, IsRest}
use Rattle.just_lang_syntax.specs.Exprs.{IsInner, IsValue}
use Rattle.just_lang_syntax.specs.Recipes.{begins_parameter, begins_dependency, listed, IsDefault, IsParameter, IsSingular, IsVariadic, AreParameters, IsDependencyValue, IsDependency, AreDependencies, AreSubsequents, IsRecipeLine}
use Rattle.just_lang_syntax.specs.Recipes.IsDefault.{default, without}
use Rattle.just_lang_syntax.specs.Recipes.IsParameter.{parameter}
use Rattle.just_lang_syntax.specs.Recipes.IsVariadic.{star, plus, none as no_variadic}
use Rattle.just_lang_syntax.specs.Recipes.AreParameters.{parameters}
use Rattle.just_lang_syntax.specs.Recipes.IsDependency.{bare, grouped}
use Rattle.just_lang_syntax.specs.Recipes.AreDependencies.{dependencies}
use Rattle.just_lang_syntax.specs.Recipes.AreSubsequents.{none as no_subsequents, some as some_subsequents}
use Rattle.just_lang_syntax.specs.Recipes.IsRecipeLine.{line}
use Rattle.just_lang_syntax.specs.Readers as reader
use Rattle.just_lang_read.specs.Tokens as tokens
use Rattle.just_lang_syntax.specs.ItemReaders as item
use Rattle.just_lang_syntax.proofs.Beginnings.{not_true}
use Rattle.just_lang_syntax.proofs.Tokens.{token_ok, name_ok}
use Rattle.just_lang_syntax.proofs.LineLaws.{maybe_ok, path_ok, rest_ok}
use Rattle.just_lang_syntax.proofs.ExprSound.{value_ok, inner_ok}
use Rattle.just_lang_syntax.proofs.ExprComplete.{expr_ok}

-- ---- parameters

-- the default of a parameter
pub parameter_default_ok : (p q : Place) (x : Option Expr) → item.parameter_default p ≡ Ok (x, q) → IsDefault p q x
unfolding item.parameter_default
parameter_default_ok p q x h =
    ⊎_elim
    (λ (s : _).
    let (u, m, t, k) = bind_ok (tokens.token (codes "=") p) _ x q s.1 in
    let (y, n, v, j) = bind_ok (reader.value (reader.inner 256) m) _ x q k in
    default m y (token_ok (codes "=") p u m t)
    (subst (λ (r : Place). IsValue (IsInner 256) m r y) (ok_place (Some y) x n q j) (value_ok (reader.inner 256) (IsInner 256) (inner_ok 256) m n y v))
    (sym (ok_value (Some y) x n q j)))
    (λ (s : _). without s.0 (sym (ok_place None x p q s.1)) (sym (ok_value None x p q s.1)))
    (choose (begins (codes "=") p) (and_then (tokens.token (codes "=") p) (λ _ m. and_then (reader.value (reader.inner 256) m) (λ y. pure (Some y)))) (Ok (None, p)) (Ok (x, q)) h)

-- a parameter behind the sign of its kind
pub parameter_ok : (kind : ParameterKind) (p q : Place) (x : AstParameter) → item.parameter kind p ≡ Ok (x, q) → IsParameter kind p q x
unfolding item.parameter
parameter_ok kind p q x h =
    let (b, m, h1, k1) = bind_ok (tokens.maybe (codes "$") p) _ x q h in
    let (n, r, h2, k2) = bind_ok (reader.name m) _ x q k1 in
    let (d, s, h3, k3) = bind_ok (item.parameter_default r) _ x q k2 in
    let made : AstParameter = record { kind = kind; export = b; name = n; default = d } in
    parameter m r b n d (maybe_ok (codes "$") p m b h1) (name_ok m n r h2)
    (subst (λ (l : Place). IsDefault r l d) (ok_place made x s q k3) (parameter_default_ok r s d h3)) (sym (ok_value made x s q k3))

-- a parameter behind the sign that it takes several values
signed_ok : (kind : ParameterKind) (text : List ℕ) (p q : Place) (x : Option AstParameter)
    → and_then (tokens.token text p) (λ _ m. and_then (item.parameter kind m) (λ y. pure (Some y))) ≡ Ok (x, q)
    → (m : Place) × (y : AstParameter) × IsToken text p m × IsParameter kind m q y × (x ≡ Some y)
signed_ok kind text p q x h =
    let (u, m, t, k) = bind_ok (tokens.token text p) _ x q h in
    let (y, n, v, j) = bind_ok (item.parameter kind m) _ x q k in
    (m, y, token_ok text p u m t, subst (λ (r : Place). IsParameter kind m r y) (ok_place (Some y) x n q j) (parameter_ok kind m n y v), sym (ok_value (Some y) x n q j))

-- the last parameter, which takes several values
pub variadic_ok : (p q : Place) (x : Option AstParameter) → item.variadic p ≡ Ok (x, q) → IsVariadic p q x
unfolding item.variadic
variadic_ok p q x h =
    ⊎_elim
    (λ (s : _). let (m, y, t, i, z) = signed_ok Star (codes "*") p q x s.1 in star m y t i z)
    (λ (s : _).
    ⊎_elim
    (λ (t : _). let (m, y, o, i, z) = signed_ok Plus (codes "+") p q x t.1 in plus m y o i z)
    (λ (t : _). no_variadic s.0 t.0 (sym (ok_place None x p q t.1)) (sym (ok_value None x p q t.1)))
    (choose (begins (codes "+") p) (and_then (tokens.token (codes "+") p) (λ _ m. and_then (item.parameter Plus m) (λ y. pure (Some y)))) (Ok (None, p)) (Ok (x, q)) s.1))
    (choose (begins (codes "*") p) (and_then (tokens.token (codes "*") p) (λ _ m. and_then (item.parameter Star m) (λ y. pure (Some y))))
    (if begins (codes "+") p then and_then (tokens.token (codes "+") p) (λ _ m. and_then (item.parameter Plus m) (λ y. pure (Some y))) else Ok (None, p)) (Ok (x, q)) h)

-- the parameters that take one value
pub singular_ok : (p q : Place) (xs : List AstParameter) → item.singular p ≡ Ok (xs, q) → AreMany IsSingular p q xs × (begins_parameter q ≡ false)
unfolding item.singular
singular_ok p q xs h = many_ok begins_parameter (item.parameter Singular) IsSingular (λ a b x m o. (m, parameter_ok Singular a b x o)) p q xs h

-- all parameters
pub parameters_ok : (p q : Place) (xs : List AstParameter) → item.parameters p ≡ Ok (xs, q) → AreParameters p q xs
unfolding item.parameters
parameters_ok p q xs h =
    let (ys, m, h1, k1) = bind_ok (item.singular p) _ xs q h in
    let (last, n, h2, k2) = bind_ok (item.variadic m) _ xs q k1 in
    let (are, done) = singular_ok p m ys h1 in
    parameters m ys last are done (subst (λ (r : Place). IsVariadic m r last) (ok_place (ys ++ listed last) xs n q k2) (variadic_ok m n last h2))
    (sym (ok_value (ys ++ listed last) xs n q k2))

-- ---- dependencies

-- the arguments of a dependency
pub dependency_values_ok : (p q : Place) (xs : List Expr) → item.dependency_values p ≡ Ok (xs, q) → AreMany IsDependencyValue p q xs × (item.is_open q ≡ false)
unfolding item.dependency_values
dependency_values_ok p q xs h = many_ok item.is_open item.expr IsDependencyValue (λ a b x m o. (not_true (begins (codes ")") a) m, expr_ok a b x o)) p q xs h

-- a dependency in parentheses
grouped_ok : (p q : Place) (x : AstDependency)
    → and_then (tokens.token (codes "(") p) (λ _ m. and_then (reader.path m) (λ ns n. and_then (item.dependency_values n) (λ xs o. and_then (tokens.token (codes ")") o)
    (λ _. pure (record { path = ns; grouped = true; arguments = xs }))))) ≡ Ok (x, q) → IsDependency p q x
grouped_ok p q x h =
    let (u, m, h1, k1) = bind_ok (tokens.token (codes "(") p) _ x q h in
    let (ns, n, h2, k2) = bind_ok (reader.path m) _ x q k1 in
    let (xs, o, h3, k3) = bind_ok (item.dependency_values n) _ x q k2 in
    let (v, r, h4, k4) = bind_ok (tokens.token (codes ")") o) _ x q k3 in
    let made : AstDependency = record { path = ns; grouped = true; arguments = xs } in
    let (are, done) = dependency_values_ok n o xs h3 in
    grouped m n o ns xs (token_ok (codes "(") p u m h1) (path_ok m n ns h2) are
    (subst (λ (l : Place). IsToken (codes ")") o l) (ok_place made x r q k4) (token_ok (codes ")") o v r h4)) (sym (ok_value made x r q k4))

-- a dependency
pub dependency_ok : (p q : Place) (x : AstDependency) → item.dependency p ≡ Ok (x, q) → IsDependency p q x
unfolding item.dependency
dependency_ok p q x h =
    ⊎_elim (λ (s : _). grouped_ok p q x s.1)
    (λ (s : _).
    let (ns, m, h1, k1) = bind_ok (reader.path p) _ x q s.1 in
    let made : AstDependency = record { path = ns; grouped = false; arguments = [] } in
    bare ns (subst (λ (l : Place). IsPath p l ns) (ok_place made x m q k1) (path_ok p m ns h1)) (sym (ok_value made x m q k1)))
    (choose (begins (codes "(") p)
    (and_then (tokens.token (codes "(") p) (λ _ m. and_then (reader.path m) (λ ns n. and_then (item.dependency_values n) (λ xs o. and_then (tokens.token (codes ")") o)
    (λ _. pure (record { path = ns; grouped = true; arguments = xs }))))))
    (and_then (reader.path p) (λ ns. pure (record { path = ns; grouped = false; arguments = [] }))) (Ok (x, q)) h)

-- dependencies, as long as one begins
pub dependencies_ok : (p q : Place) (xs : List AstDependency) → item.dependencies p ≡ Ok (xs, q) → AreDependencies p q xs
unfolding item.dependencies
dependencies_ok p q xs h =
    let (are, done) = many_ok begins_dependency item.dependency IsDependency (λ a b x m o. dependency_ok a b x o) p q xs h in
    dependencies are done

-- at least one dependency
some_ok : (p m q : Place) (xs : List AstDependency) → IsToken (codes "&&") p m → item.some_dependencies m ≡ Ok (xs, q) → AreSubsequents p q xs
some_ok p m q xs t h =
    ⊎_elim (λ (s : _). some_subsequents m t s.0 (dependencies_ok m q xs s.1))
    (λ (s : _). absurd (let no : ⊥ = cc (s.1) in no))
    (choose (begins_dependency m) (item.dependencies m) (Err Syntax) (Ok (xs, q)) h)

-- `&&` and dependencies, or nothing
pub subsequents_ok : (p q : Place) (xs : List AstDependency) → item.subsequents p ≡ Ok (xs, q) → AreSubsequents p q xs
unfolding item.subsequents
subsequents_ok p q xs h =
    ⊎_elim
    (λ (s : _). let (u, m, t, k) = bind_ok (tokens.token (codes "&&") p) (λ _. item.some_dependencies) xs q s.1 in some_ok p m q xs (token_ok (codes "&&") p u m t) k)
    (λ (s : _). no_subsequents s.0 (sym (ok_place [] xs p q s.1)) (sym (ok_value [] xs p q s.1)))
    (choose (begins (codes "&&") p) (and_then (tokens.token (codes "&&") p) (λ _. item.some_dependencies)) (Ok ([], p)) (Ok (xs, q)) h)

-- ---- the line

-- the line of a recipe
pub recipe_line_ok : (attributes : List Attribute) (p q : Place) (x : AstRecipe) → item.recipe_line attributes p ≡ Ok (x, q) → IsRecipeLine attributes p q x
unfolding item.recipe_line
recipe_line_ok attributes p q x h =
    let (quiet, m, h1, k1) = bind_ok (tokens.maybe (codes "@") p) _ x q h in
    let (name, n, h2, k2) = bind_ok (reader.name m) _ x q k1 in
    let (ps, o, h3, k3) = bind_ok (item.parameters n) _ x q k2 in
    let (u, r, h4, k4) = bind_ok (tokens.token (codes ":") o) _ x q k3 in
    let (a, s, h5, k5) = bind_ok (item.dependencies r) _ x q k4 in
    let (b, t, h6, k6) = bind_ok (item.subsequents s) _ x q k5 in
    let (c, w, h7, k7) = bind_ok (reader.rest t) _ x q k6 in
    let made : AstRecipe = record { attributes = attributes; quiet = quiet; name = name; parameters = ps; priors = a; subsequents = b; comment = c; body = [] } in
    line m n o r s t quiet name ps a b c (maybe_ok (codes "@") p m quiet h1) (name_ok m name n h2) (parameters_ok n o ps h3) (token_ok (codes ":") o u r h4)
    (dependencies_ok r s a h5) (subsequents_ok s t b h6) (subst (λ (l : Place). IsRest t l c) (ok_place made x w q k7) (rest_ok t w c h7)) (sym (ok_value made x w q k7))
