-- Recipe lines that hold an expression that is too deep: those that the code finds so, and those that the grammar says do.
use Rattle.std.proofs.Common.{◌≡◌, true, false, List, [], ◌∷◌, Err, codes, refl, sym, ap, ◌∙◌, ⊎_elim}
use Rattle.just_lang_read.specs.Place.{Place, AreMany, begins}
use Rattle.just_lang_read.specs.declared.error.ReadError.TheVariants.{Depth}
use Rattle.just_lang_read.proofs.Laws.{choose}
use Rattle.just_lang_syntax.specs.declared.ast.Attribute.{Attribute}
use Rattle.just_lang_syntax.specs.declared.ast.ParameterKind.{ParameterKind}
use Rattle.just_lang_syntax.specs.declared.ast.ParameterKind.TheVariants.{Singular, Plus, Star}
use Rattle.just_lang_syntax.specs.declared.ast.AstParameter.{AstParameter}
use Rattle.just_lang_syntax.specs.declared.ast.AstDependency.{AstDependency}
use Rattle.just_lang_read.specs.Lines.{IsToken}
use Rattle.just_lang_syntax.specs.Places.{IsName}
use Rattle.just_lang_syntax.specs.Exprs.{IsInner}
use Rattle.just_lang_syntax.specs.Recipes.{begins_parameter, begins_dependency, IsMaybe, IsSingular, AreParameters, IsDependencyValue, IsDependency}
use Rattle.just_lang_syntax.specs.Deep.{IsDeepBehind, IsTooDeep, IsDeepDefault, IsDeepParameter, IsDeepSingular, AreDeepParameters, IsDeepDependencyValue, IsDeepDependency, IsDeepRecipeLine}
use Rattle.just_lang_syntax.specs.Deep.IsDeepBehind.{behind}
use Rattle.just_lang_syntax.specs.Deep.IsDeepDefault.{default}
use Rattle.just_lang_syntax.specs.Deep.IsDeepParameter.{parameter}
use Rattle.just_lang_syntax.specs.Deep.IsDeepSingular.{singular as one_singular}
use Rattle.just_lang_syntax.specs.Deep.AreDeepParameters.{singular as some_singular, star, plus}
use Rattle.just_lang_syntax.specs.Deep.IsDeepDependencyValue.{value}
use Rattle.just_lang_syntax.specs.Deep.IsDeepDependency.{grouped}
use Rattle.just_lang_syntax.specs.Deep.IsDeepRecipeLine.{parameters, priors, subsequents}
use Rattle.just_lang_syntax.specs.ItemReaders as item
use Rattle.just_lang_syntax.specs.Readers as reader
use Rattle.just_lang_read.specs.Tokens as tokens
use Rattle.just_lang_read.proofs.Laws.{begins_first, begins_other}
use Rattle.just_lang_syntax.proofs.Beginnings.{not_true}
use Rattle.just_lang_syntax.proofs.Tokens.{token_ok, token_again, name_ok, name_again}
use Rattle.just_lang_syntax.proofs.LineLaws.{maybe_ok, maybe_again, path_ok, path_again}
use Rattle.just_lang_syntax.proofs.ExprSound.{inner_ok}
use Rattle.just_lang_syntax.proofs.ExprComplete.{inner_again, expr_ok, expr_again}
use Rattle.just_lang_syntax.proofs.Loops.{values_shorter, parameters_shorter, dependencies_shorter}
use Rattle.just_lang_syntax.proofs.RecipeSound.{parameter_ok, singular_ok, parameters_ok, dependency_ok, dependencies_ok}
use Rattle.just_lang_syntax.proofs.RecipeComplete.{parameter_again, singular_again, parameters_again, dependency_begins, dependency_again, dependencies_again}
use Rattle.just_lang_syntax.proofs.DeepChains.{shallow_ok, shallow_refuse, shallow_gives, depth_either, depth_behind, depth_first, many_deep_ok, many_deep_again}
use Rattle.just_lang_syntax.proofs.DeepNone.{token_shallow, name_shallow, maybe_shallow, path_shallow, rest_shallow}
use Rattle.just_lang_syntax.proofs.DeepExpr.{value_deep_ok, value_deep_again, inner_deep_ok, inner_deep_again, expr_deep_ok, expr_deep_again}

-- ---- parameters that are found too deep

-- a default that the code finds too deep is
default_deep_ok : (p : Place) → item.parameter_default p ≡ Err Depth → IsDeepDefault p
unfolding item.parameter_default
default_deep_ok p h =
    ⊎_elim
    (λ (s : _).
    let (u, m, t, k) = depth_behind (tokens.token (codes "=") p) _ (token_shallow (codes "=") p) s.1 in
    default m (token_ok (codes "=") p u m t)
    (value_deep_ok (reader.inner 256) (IsInner 256) (IsTooDeep 256) (inner_ok 256) (inner_deep_ok 256) m
    (depth_first (reader.value (reader.inner 256) m) _ (λ x n j. shallow_ok _ j) k)))
    (λ (s : _). absurd (shallow_ok _ s.1))
    (choose (begins (codes "=") p) _ _ (Err Depth) h)

-- a parameter that the code finds too deep is
parameter_deep_ok : (kind : ParameterKind) (p : Place) → item.parameter kind p ≡ Err Depth → IsDeepParameter p
unfolding item.parameter
parameter_deep_ok kind p h =
    let (b, m, t, k) = depth_behind (tokens.maybe (codes "$") p) _ (maybe_shallow (codes "$") p) h in
    let (name, n, i, j) = depth_behind (reader.name m) _ (name_shallow m) k in
    parameter m n b name (maybe_ok (codes "$") p m b t) (name_ok m name n i)
    (default_deep_ok n (depth_first (item.parameter_default n) _ (λ x o l. shallow_ok _ l) j))

-- parameters of one value that the code finds too deep are
singular_deep_ok : (p : Place) → item.singular p ≡ Err Depth → IsDeepBehind IsSingular IsDeepSingular p
unfolding item.singular
singular_deep_ok p h =
    many_deep_ok begins_parameter (item.parameter Singular) IsSingular IsDeepSingular (λ a b x c k. (c, parameter_ok Singular a b x k))
    (λ a c k. one_singular c (parameter_deep_ok Singular a k)) p h

-- a last parameter that the code finds too deep is
variadic_deep_ok : (p m : Place) (xs : List AstParameter) → AreMany IsSingular p m xs → begins_parameter m ≡ false → item.variadic m ≡ Err Depth
    → AreDeepParameters p
unfolding item.variadic
variadic_deep_ok p m xs are done h =
    ⊎_elim
    (λ (s : _).
    let (u, n, t, k) = depth_behind (tokens.token (codes "*") m) _ (token_shallow (codes "*") m) s.1 in
    star m n xs are done (token_ok (codes "*") m u n t) (parameter_deep_ok Star n (depth_first (item.parameter Star n) _ (λ x o l. shallow_ok _ l) k)))
    (λ (s : _).
    ⊎_elim
    (λ (r : _).
    let (u, n, t, k) = depth_behind (tokens.token (codes "+") m) _ (token_shallow (codes "+") m) r.1 in
    plus m n xs are done (token_ok (codes "+") m u n t) (parameter_deep_ok Plus n (depth_first (item.parameter Plus n) _ (λ x o l. shallow_ok _ l) k)))
    (λ (r : _). absurd (shallow_ok _ r.1))
    (choose (begins (codes "+") m) _ _ (Err Depth) s.1))
    (choose (begins (codes "*") m) _ _ (Err Depth) h)

-- parameters that the code finds too deep are
parameters_deep_ok : (p : Place) → item.parameters p ≡ Err Depth → AreDeepParameters p
unfolding item.parameters
parameters_deep_ok p h =
    ⊎_elim (λ (s : _). some_singular (singular_deep_ok p s))
    (λ (s : _).
    let (xs, m, o, k) = s in
    let (are, done) = singular_ok p m xs o in
    variadic_deep_ok p m xs are done (depth_first (item.variadic m) _ (λ x n l. shallow_ok _ l) k))
    (depth_either (item.singular p) _ h)

-- ---- dependencies that are found too deep

-- arguments of a dependency that the code finds too deep are
values_deep_ok : (p : Place) → item.dependency_values p ≡ Err Depth → IsDeepBehind IsDependencyValue IsDeepDependencyValue p
unfolding item.dependency_values
values_deep_ok p h =
    many_deep_ok item.is_open item.expr IsDependencyValue IsDeepDependencyValue (λ a b x c k. (not_true (begins (codes ")") a) c, expr_ok a b x k))
    (λ a c k. value (not_true (begins (codes ")") a) c) (expr_deep_ok a k)) p h

-- a dependency that the code finds too deep is
dependency_deep_ok : (p : Place) → item.dependency p ≡ Err Depth → IsDeepDependency p
unfolding item.dependency
dependency_deep_ok p h =
    ⊎_elim
    (λ (s : _).
    let (u, m, t, k) = depth_behind (tokens.token (codes "(") p) _ (token_shallow (codes "(") p) s.1 in
    let (path, n, i, j) = depth_behind (reader.path m) _ (path_shallow m) k in
    grouped m n path (token_ok (codes "(") p u m t) (path_ok m n path i)
    (values_deep_ok n (depth_first (item.dependency_values n) _ (λ xs o l. shallow_gives (tokens.token (codes ")") o) _ (token_shallow (codes ")") o) l) j)))
    (λ (s : _). absurd (shallow_gives (reader.path p) _ (path_shallow p) s.1))
    (choose (begins (codes "(") p) _ _ (Err Depth) h)

-- dependencies that the code finds too deep are
dependencies_deep_ok : (p : Place) → item.dependencies p ≡ Err Depth → IsDeepBehind IsDependency IsDeepDependency p
unfolding item.dependencies
dependencies_deep_ok p h =
    many_deep_ok begins_dependency item.dependency IsDependency IsDeepDependency (λ a b x c k. dependency_ok a b x k) (λ a c k. dependency_deep_ok a k) p h

-- dependencies behind `&&` that the code finds too deep are
subsequents_deep_ok : (p : Place) → item.subsequents p ≡ Err Depth → (m : Place) × IsToken (codes "&&") p m × IsDeepBehind IsDependency IsDeepDependency m
unfolding item.subsequents
subsequents_deep_ok p h =
    ⊎_elim
    (λ (s : _).
    let (u, m, t, k) = depth_behind (tokens.token (codes "&&") p) _ (token_shallow (codes "&&") p) s.1 in
    ⊎_elim (λ (r : _). (m, token_ok (codes "&&") p u m t, dependencies_deep_ok m r.1)) (λ (r : _). absurd (shallow_refuse m r.1))
    (choose (begins_dependency m) _ _ (Err Depth) k))
    (λ (s : _). absurd (shallow_ok _ s.1))
    (choose (begins (codes "&&") p) _ _ (Err Depth) h)

-- ---- lines that are found too deep

-- the line of a recipe that the code finds too deep is
pub recipe_line_deep_ok : (attributes : List Attribute) (p : Place) → item.recipe_line attributes p ≡ Err Depth → IsDeepRecipeLine p
unfolding item.recipe_line
recipe_line_deep_ok attributes p h =
    let (quiet, m, t, k) = depth_behind (tokens.maybe (codes "@") p) _ (maybe_shallow (codes "@") p) h in
    let (name, n, i, j) = depth_behind (reader.name m) _ (name_shallow m) k in
    let may : IsMaybe (codes "@") p m quiet = maybe_ok (codes "@") p m quiet t in
    let named : IsName m n name = name_ok m name n i in
    ⊎_elim (λ (s : _). parameters m n quiet name may named (parameters_deep_ok n s))
    (λ (s : _).
    let (xs, o, l, a) = s in
    let (u, r, c, b) = depth_behind (tokens.token (codes ":") o) _ (token_shallow (codes ":") o) a in
    let have : AreParameters n o xs = parameters_ok n o xs l in
    let sign : IsToken (codes ":") o r = token_ok (codes ":") o u r c in
    ⊎_elim (λ (d : _). priors m n o r quiet name xs may named have sign (dependencies_deep_ok r d))
    (λ (d : _).
    let (ys, q, f, g) = d in
    let (e, v, w) = subsequents_deep_ok q (depth_first (item.subsequents q) _ (λ zs y z. shallow_gives (reader.rest y) _ (rest_shallow y) z) g) in
    subsequents m n o r q e quiet name xs ys may named have sign (dependencies_ok r q ys f) v w)
    (depth_either (item.dependencies r) _ b))
    (depth_either (item.parameters n) _ j)

-- ---- parameters that are too deep are found so

-- a default that is too deep is found so
default_deep_again : (p : Place) → IsDeepDefault p → item.parameter_default p ≡ Err Depth
unfolding item.parameter_default
default_deep_again p (default m t d) =
    rw (
      t.0,
      token_again (codes "=") p m t,
      value_deep_again (reader.inner 256) (IsInner 256) (IsTooDeep 256) (inner_again 256) (inner_deep_again 256) m d,
    ) refl

-- a parameter that is too deep is found so
parameter_deep_again : (kind : ParameterKind) (p : Place) → IsDeepParameter p → item.parameter kind p ≡ Err Depth
unfolding item.parameter
parameter_deep_again kind p (parameter m n b name t i d) = rw (maybe_again (codes "$") p m b t, name_again m n name i, default_deep_again n d) refl

-- where one of one value begins
one_singular_again : (p : Place) → IsDeepSingular p → (begins_parameter p ≡ true) × (item.parameter Singular p ≡ Err Depth)
one_singular_again p (one_singular b d) = (b, parameter_deep_again Singular p d)

-- parameters of one value that are too deep are found so
singular_deep_again : (p : Place) → IsDeepBehind IsSingular IsDeepSingular p → item.singular p ≡ Err Depth
unfolding item.singular
singular_deep_again p d =
    many_deep_again begins_parameter (item.parameter Singular) parameters_shorter IsSingular IsDeepSingular (λ a b x i. (i.0, parameter_again Singular a b x i.1))
    one_singular_again p d

-- a parameter behind a star that is too deep is found so
star_deep_again : (p m : Place) → IsToken (codes "*") p m → IsDeepParameter m → item.variadic p ≡ Err Depth
unfolding item.variadic
star_deep_again p m t d = rw (t.0, token_again (codes "*") p m t, parameter_deep_again Star m d) refl

-- a parameter behind a plus that is too deep is found so
plus_deep_again : (p m : Place) → IsToken (codes "+") p m → IsDeepParameter m → item.variadic p ≡ Err Depth
unfolding item.variadic
plus_deep_again p m t d =
    rw (begins_other 43 42 [] p (begins_first 43 [] p t.0) refl, t.0, token_again (codes "+") p m t, parameter_deep_again Plus m d) refl

-- parameters that are too deep are found so
parameters_deep_again : (p : Place) → AreDeepParameters p → item.parameters p ≡ Err Depth
unfolding item.parameters
parameters_deep_again p (some_singular d) = rw (singular_deep_again p d) refl
parameters_deep_again p (star m n xs are done t d) = rw (singular_again p m xs are done, star_deep_again m n t d) refl
parameters_deep_again p (plus m n xs are done t d) = rw (singular_again p m xs are done, plus_deep_again m n t d) refl

-- ---- dependencies that are too deep are found so

-- an argument of a dependency that is too deep is found so
value_again : (p : Place) → IsDeepDependencyValue p → (item.is_open p ≡ true) × (item.expr p ≡ Err Depth)
value_again p (value b d) = (rw b refl, expr_deep_again p d)

-- arguments of a dependency that are too deep are found so
values_deep_again : (p : Place) → IsDeepBehind IsDependencyValue IsDeepDependencyValue p → item.dependency_values p ≡ Err Depth
unfolding item.dependency_values
values_deep_again p d =
    many_deep_again item.is_open item.expr values_shorter IsDependencyValue IsDeepDependencyValue (λ a b x i. (rw (i.0) refl, expr_again a b x i.1)) value_again p d

-- a dependency that is too deep is found so
dependency_deep_again : (p : Place) → IsDeepDependency p → (begins_dependency p ≡ true) × (item.dependency p ≡ Err Depth)
unfolding item.dependency
dependency_deep_again p (grouped m n path t i d) =
    (rw (t.0) refl, rw (t.0, token_again (codes "(") p m t, path_again m n path i, values_deep_again n d) refl)

-- dependencies that are too deep are found so
dependencies_deep_again : (p : Place) → IsDeepBehind IsDependency IsDeepDependency p → item.dependencies p ≡ Err Depth
unfolding item.dependencies
dependencies_deep_again p d =
    many_deep_again begins_dependency item.dependency dependencies_shorter IsDependency IsDeepDependency
    (λ a b x i. (dependency_begins a b x i, dependency_again a b x i)) dependency_deep_again p d

-- where dependencies are too deep one begins
some_begins : (p m : Place) (xs : List AstDependency) → AreMany IsDependency p m xs → IsDeepDependency m → begins_dependency p ≡ true
some_begins p m [] e d = ap begins_dependency (sym e) ∙ (dependency_deep_again m d).0
some_begins p m (x ∷ xs) (n, i, are) d = dependency_begins p n x i

-- the same of a whole list of them
dependencies_begin : (p : Place) → IsDeepBehind IsDependency IsDeepDependency p → begins_dependency p ≡ true
dependencies_begin p (behind m xs are d) = some_begins p m xs are d

-- dependencies behind `&&` that are too deep are found so
subsequents_deep_again : (p m : Place) → IsToken (codes "&&") p m → IsDeepBehind IsDependency IsDeepDependency m → item.subsequents p ≡ Err Depth
unfolding item.subsequents
subsequents_deep_again p m t d = rw (t.0, token_again (codes "&&") p m t, dependencies_begin m d) (dependencies_deep_again m d)

-- ---- lines that are too deep are found so

-- the line of a recipe that is too deep is found so
pub recipe_line_deep_again : (attributes : List Attribute) (p : Place) → IsDeepRecipeLine p → item.recipe_line attributes p ≡ Err Depth
unfolding item.recipe_line
recipe_line_deep_again attributes p (parameters m n quiet name t i d) = rw (maybe_again (codes "@") p m quiet t, name_again m n name i, parameters_deep_again n d) refl
recipe_line_deep_again attributes p (priors m n o r quiet name xs t i j u d) =
    rw (maybe_again (codes "@") p m quiet t, name_again m n name i, parameters_again n o xs j, token_again (codes ":") o r u, dependencies_deep_again r d) refl
recipe_line_deep_again attributes p (subsequents m n o r s l quiet name xs ys t i j u k v d) =
    rw (
      maybe_again (codes "@") p m quiet t,
      name_again m n name i,
      parameters_again n o xs j,
      token_again (codes ":") o r u,
      dependencies_again r s ys k,
      subsequents_deep_again s l v d,
    ) refl
