-- Keys that words ask for name recipes of the project, with one value for each parameter.
use Rattle.std.proofs.Common.{◌≡◌, ℕ, suc, ◌+◌, ◌==◌, cond, Bool, true, false, find, List, [], ◌∷◌, ◌++◌, map, length, length-append, Option, Some, None, Ok, Err, refl, ap, ◌∙◌, subst, arith}
use Rattle.std.specs.Prelude.{if◌then◌else◌, take, drop, bytes_eq, IfOk, IfSome, All, Contains}
use Rattle.std.proofs.lemmas.List.Elements.{All-nil, All-cons, All-weaker, All-contains, All-contains_itself, Contains-append_left, Contains-append_right}
use Rattle.std.proofs.lemmas.List.{length-map}
use Rattle.std.proofs.lemmas.Result.{IfOk-weaker}
use Rattle.just_path_text.specs.Environ.{or_else}
use Rattle.just_lang_types.specs.declared.key.Key.{Key}
use Rattle.just_lang_types.specs.declared.key.Value.{Value}
use Rattle.just_lang_types.specs.declared.recipe.Parameter.{Parameter}
use Rattle.just_lang_types.specs.declared.recipe.Recipe.{Recipe}
use Rattle.just_lang_types.specs.declared.scope.Alias.{Alias}
use Rattle.just_lang_types.specs.declared.scope.Disabled.{Disabled}
use Rattle.just_lang_types.specs.declared.scope.Scopes.{Scopes}
use Rattle.just_lang_types.specs.declared.project.Justfile.{Justfile, out-Justfile}
use Rattle.just_lang_types.specs.declared.project.LangError.{LangError}
use Rattle.just_lang_types.specs.declared.project.LangError.TheVariants as error
use Rattle.just_lang_types.specs.Keys.{same_path}
use Rattle.just_eval_closure.specs.Answers.{Answer, and_then}
use Rattle.just_lang_types.specs.Modules.{path_of, recipes_of, modules_of, AreModules, Located, located}
use Rattle.just_lang_types.proofs.Nesting.{same_modules}
use Rattle.just_eval_closure.specs.Dependencies.{value_from, values_behind, values_given}
use Rattle.just_print.specs.Usages.{is_variadic, is_option}
use Rattle.just_eval_words.specs.Parameters.{least_words}
use Rattle.just_eval_words.specs.Switches.{Words, all_taken}
use Rattle.just_eval_words.specs.Tests.{values_for, given_from, given_words, refusal}
use Rattle.just_eval_words.specs.Given.{unless, tested, words_given}
use Rattle.just_eval_words.specs.Paths.{Word, parts}
use Rattle.just_eval_words.specs.Names.{Target, has_name, submodule, alias_at, disabled_at, recipe_in, in_module, is_absent, aliased_module, module_named, aliased_recipe, target_among, last_target, no_module, within, target_of}
use Rattle.just_eval_words.specs.Targets.{is_default, first_of, default_in, default_enabled, default_by, default_of, behind_target, chosen}
use Rattle.just_eval_words.specs.Invocations.{as_given, key_of, key_behind, first_key, Invokes, NamesRecipe}

-- ---- answers that go on

-- what holds of an answer that goes on, where it holds of each that is gone on from
then_ok : {A B : Type 0} (P : A → Type 0) (Q : B → Type 0) (a : Answer A) (next : A → Answer B) → IfOk a P → ((x : A) → P x → IfOk (next x) Q) → IfOk (and_then a next) Q
then_ok P Q (Ok x) next h f = f x h
then_ok P Q (Err e) next h f = tt

then_any : {A B : Type 0} (Q : B → Type 0) (a : Answer A) (next : A → Answer B) → ((x : A) → IfOk (next x) Q) → IfOk (and_then a next) Q
then_any Q (Ok x) next f = f x
then_any Q (Err e) next f = tt

-- ---- members of lists

first_in : {X : Type 0} (x : X) (xs : List X) → Contains (x ∷ xs) x
first_in x xs = (0, omega arith, refl)

later_in : {X : Type 0} (y : X) (xs : List X) (x : X) → Contains xs x → Contains (y ∷ xs) x
later_in y xs x h = Contains-append_right (y ∷ []) xs x h

-- what `find` finds is a member
found_in : {X : Type 0} (test : X → Bool) (xs : List X) → IfSome (find test xs) (Contains xs)
found_in {X = X} test [] = tt
found_in {X = X} test (y ∷ ys) = pick (test y) (find test ys) (found_in test ys)
  where
    further : (o : Option X) → IfSome o (Contains ys) → IfSome o (Contains (y ∷ ys))
    further None h = tt
    further (Some x) h = later_in y ys x h

    pick : (b : Bool) (o : Option X) → IfSome o (Contains ys) → IfSome (cond b (Some y) o) (Contains (y ∷ ys))
    pick true o h = first_in y ys
    pick false o h = further o h

-- members of a list are members of a longer one
all_left : {X : Type 0} (P : X → Type 0) (xs ys : List X) → All P (xs ++ ys) → All P xs
all_left P xs ys h = All-weaker (Contains xs) P (λ x k. All-contains P (xs ++ ys) x h (Contains-append_left xs ys x k)) xs (All-contains_itself xs)

all_right : {X : Type 0} (P : X → Type 0) (xs ys : List X) → All P (xs ++ ys) → All P ys
all_right P xs ys h = All-weaker (Contains ys) P (λ y k. All-contains P (xs ++ ys) y h (Contains-append_right xs ys y k)) ys (All-contains_itself ys)

all_mapped : {X Y : Type 0} (f : X → Y) (xs : List X) → All (λ x. Contains (map f xs) (f x)) xs
all_mapped f [] = All-nil (λ x. Contains [] (f x))
all_mapped f (x ∷ xs) =
    All-cons (λ y. Contains (f x ∷ map f xs) (f y)) x xs (first_in (f x) (map f xs)) (All-weaker (λ y. Contains (map f xs) (f y)) (λ y. Contains (f x ∷ map f xs) (f y)) (λ y h. later_in (f x) (map f xs) (f y) h) xs (all_mapped f xs))

-- ---- modules, and the recipes in them

-- modules that hold those within each of them
abbrev IsWhole : List Justfile → Type 0
IsWhole all = All (λ m. All (Contains all) (modules_of m)) all

members : (js all : List Justfile) → AreModules js all → All (Contains all) js × IsWhole all
members js all AreModules.none = (All-nil (Contains []), All-nil (λ m. All (Contains []) (modules_of m)))
members js all (AreModules.first j others more a) =
    let both : All (Contains more) (modules_of j ++ others) × IsWhole more = members (modules_of j ++ others) more a in
    let wider : (ks : List Justfile) → All (Contains more) ks → All (Contains (j ∷ more)) ks = λ ks h. All-weaker (Contains more) (Contains (j ∷ more)) (λ k i. later_in j more k i) ks h in (
      All-cons (Contains (j ∷ more)) j others (first_in j more) (wider others (all_right (Contains more) (modules_of j) others both.0)),
      All-cons (λ m. All (Contains (j ∷ more)) (modules_of m)) j more (wider (modules_of j) (all_left (Contains more) (modules_of j) others both.0)) (All-weaker (λ m. All (Contains more) (modules_of m)) (λ m. All (Contains (j ∷ more)) (modules_of m)) (λ m h. wider (modules_of m) h) more both.1),
    )

abbrev those_of : Justfile → List Located
those_of j = map (λ r. record { parent = j; recipe = r }) (recipes_of j)

-- the recipes of a module are among those of all
recipes_in : (ms : List Justfile) → All (λ j. All (Contains (located ms)) (those_of j)) ms
recipes_in [] = All-nil (λ j. All (Contains []) (those_of j))
recipes_in (m ∷ ms) =
    All-cons (λ j. All (Contains (those_of m ++ located ms)) (those_of j)) m ms (All-weaker (Contains (those_of m)) (Contains (those_of m ++ located ms)) (λ l h. Contains-append_left (those_of m) (located ms) l h) (those_of m) (All-contains_itself (those_of m))) (All-weaker (λ j. All (Contains (located ms)) (those_of j)) (λ j. All (Contains (those_of m ++ located ms)) (those_of j)) (λ j h. All-weaker (Contains (located ms)) (Contains (those_of m ++ located ms)) (λ l k. Contains-append_right (those_of m) (located ms) l k) (those_of j) h) ms (recipes_in ms))

module _ (ms : List Justfile) where
  recipe_of_module : (j : Justfile) (r : Recipe) → Contains ms j → Contains (recipes_of j) r → Contains (located ms) (record { parent = j; recipe = r })
  recipe_of_module j r h k =
      All-contains (Contains (located ms)) (those_of j) (record { parent = j; recipe = r }) (All-contains (λ i. All (Contains (located ms)) (those_of i)) ms j (recipes_in ms) h) (All-contains (λ s. Contains (those_of j) (record { parent = j; recipe = s })) (recipes_of j) r (all_mapped (λ s. record { parent = j; recipe = s }) (recipes_of j)) k)

  some_recipe : (j : Justfile) → Contains ms j → (o : Option Recipe) → IfSome o (Contains (recipes_of j)) → IfSome (in_module j o) (Contains (located ms))
  some_recipe j h None k = tt
  some_recipe j h (Some r) k = recipe_of_module j r h k

  -- ---- what names come to

  -- a module or a recipe of these
  abbrev Within : Target → Type 0
  Within (Target.to_module m) = Contains ms m
  Within (Target.to_recipe l) = Contains (located ms) l

  by_path : (o : Option Alias) → IfSome (aliased_module ms o) (Contains ms)
  by_path None = tt
  by_path (Some a) = found_in (λ m. same_path (path_of m) a.target) ms

  recipe_by_path : (o : Option Alias) → IfSome (aliased_recipe ms o) (Contains (located ms))
  recipe_by_path None = tt
  recipe_by_path (Some a) = found_in (λ l. same_path l.recipe.path a.target) (located ms)

  either : (a b : Option Justfile) → IfSome a (Contains ms) → IfSome b (Contains ms) → IfSome (or_else a b) (Contains ms)
  either None b h k = k
  either (Some m) b h k = h

  some_module : (inside : List Justfile) → All (Contains ms) inside → (o : Option Justfile) → IfSome o (Contains inside) → IfSome o (Contains ms)
  some_module inside h None k = tt
  some_module inside h (Some m) k = All-contains (Contains ms) inside m h k

  among : (name : List ℕ) (word : Word) (m : Option Justfile) (absent : Bool) (d : Option Disabled) (r : Option Located) (e : Option Disabled) (a : Option Located) → IfSome m (Contains ms) → IfSome r (Contains (located ms)) → IfSome a (Contains (located ms)) → IfOk (target_among name word m absent d r e a) Within
  among name word (Some m) absent d r e a h i k = h
  among name word None true d r e a h i k = tt
  among name word None false (Some d) r e a h i k = tt
  among name word None false None (Some l) e a h i k = i
  among name word None false None None (Some e) a h i k = tt
  among name word None false None None None (Some l) h i k = k
  among name word None false None None None None h i k = tt

  module _ (whole : IsWhole ms) where
    named_module : (j : Justfile) (name : List ℕ) → Contains ms j → IfSome (module_named ms j name) (Contains ms)
    named_module j name h =
        either (submodule j name) (aliased_module ms (alias_at (out-Justfile j).module_aliases name)) (some_module (modules_of j) (All-contains (λ m. All (Contains ms) (modules_of m)) ms j whole h) (submodule j name) (found_in (λ m. has_name name m) (modules_of j))) (by_path (alias_at (out-Justfile j).module_aliases name))

    last_named : (j : Justfile) (name : List ℕ) (word : Word) → Contains ms j → IfOk (last_target ms j name word) Within
    last_named j name word h =
        among name word (module_named ms j name) (is_absent j name) (disabled_at (out-Justfile j).disabled_recipes name) (in_module j (recipe_in j name)) (disabled_at (out-Justfile j).disabled_aliases name) (aliased_recipe ms (alias_at (out-Justfile j).recipe_aliases name)) (named_module j name h) (some_recipe j h (recipe_in j name) (found_in (λ r. bytes_eq r.name name) (recipes_of j))) (recipe_by_path (alias_at (out-Justfile j).recipe_aliases name))

    inside : {A : Type 0} (Q : A → Type 0) (o : Option Justfile) (next : Justfile → Answer A) (e : LangError) → IfSome o (Contains ms) → ((m : Justfile) → Contains ms m → IfOk (next m) Q) → IfOk (within o next e) Q
    inside Q None next e h f = tt
    inside Q (Some m) next e h f = f m h

    parts_in : (ps : List Word) (word : Word) (j : Justfile) → Contains ms j → IfOk (target_of ms ps word j) Within
    parts_in [] word j h = tt
    parts_in (name ∷ []) word j h = last_named j name word h
    parts_in (name ∷ other ∷ names) word j h =
        inside Within (module_named ms j name) (λ m. target_of ms (other ∷ names) word m) (no_module j name) (named_module j name h) (λ m k. parts_in (other ∷ names) word m k)

    -- ---- the recipe that words lead to

    abbrev Leads : Located × List Word → Type 0
    Leads c = Contains (located ms) c.0

    default_there : (j : Justfile) → IfSome (default_in j) (Contains (recipes_of j))
    default_there j = pick (find is_default (recipes_of j)) (first_of (recipes_of j)) (found_in is_default (recipes_of j)) (front (recipes_of j))
      where
        pick : (a b : Option Recipe) → IfSome a (Contains (recipes_of j)) → IfSome b (Contains (recipes_of j)) → IfSome (or_else a b) (Contains (recipes_of j))
        pick None b h k = k
        pick (Some r) b h k = h

        front : (rs : List Recipe) → IfSome (first_of rs) (Contains rs)
        front [] = tt
        front (r ∷ rs) = first_in r rs

    enabled : (j : Justfile) (r : Recipe) (d : Option Disabled) → Contains ms j → Contains (recipes_of j) r → IfOk (default_enabled j r d) (Contains (located ms))
    enabled j r (Some d) h k = tt
    enabled j r None h k = pick (least_words r.parameters == 0)
      where
        pick : (b : Bool) → IfOk (if b then Ok (record { parent = j; recipe = r }) else Err (error.DefaultRecipeRequiresArguments r.name (least_words r.parameters))) (Contains (located ms))
        pick true = recipe_of_module j r h k
        pick false = tt

    default_by_in : (j : Justfile) (o : Option Recipe) → Contains ms j → IfSome o (Contains (recipes_of j)) → IfOk (default_by j o) (Contains (located ms))
    default_by_in j None h k = tt
    default_by_in j (Some r) h k = enabled j r (disabled_at (out-Justfile j).disabled_recipes r.name) h k

    behind : (t : Target) (next : Justfile → Answer (Located × List Word)) (left : List Word) → Within t → ((m : Justfile) → Contains ms m → IfOk (next m) Leads) → IfOk (behind_target t next (λ l. Ok (l, left))) Leads
    behind (Target.to_module m) next left h f = f m h
    behind (Target.to_recipe l) next left h f = h

    words_lead : (ws : List Word) (j : Justfile) → Contains ms j → IfOk (chosen ms ws j) Leads
    words_lead [] j h = then_ok (Contains (located ms)) Leads (default_of j) (λ l. Ok (l, [])) (default_by_in j (default_in j) h (default_there j)) (λ l k. k)
    words_lead (w ∷ ws) j h =
        then_ok Within Leads (target_of ms (parts w) w j) (λ t. behind_target t (λ m. chosen ms ws m) (λ l. Ok (l, ws))) (parts_in (parts w) w j h) (λ t k. behind t (λ m. chosen ms ws m) ws k (λ m i. words_lead ws m i))

-- ---- how many values there are

-- each parameter is given something, maybe nothing
one_each : (n : ℕ) (ps : List Parameter) (words : List Word) (options : List (ℕ × Word)) → length (given_from n ps words options) ≡ length ps
one_each n [] words options = refl
one_each n (p ∷ ps) words options = pick (is_option p) (is_variadic p.kind) (λ vs. one_each (suc n) ps vs options)
  where
    pick : (a b : Bool) → ((vs : List Word) → length (given_from (suc n) ps vs options) ≡ length ps) → length (if a then values_for n options ∷ given_from (suc n) ps words options else (if b then words ∷ given_from (suc n) ps [] options else take 1 words ∷ given_from (suc n) ps (drop 1 words) options)) ≡ suc (length ps)
    pick true b each = ap suc (each words)
    pick false true each = ap suc (each [])
    pick false false each = ap suc (each (drop 1 words))

given_each : (r : Recipe) (ws : List Word) → IfOk (words_given r ws) (λ g. length g.0 ≡ length r.parameters)
given_each r ws =
    then_any (λ g. length g.0 ≡ length r.parameters) (all_taken r ws) (λ s. tested r s.0 s.1) (λ s. pick s (refusal r (length s.0.positional) (given_words r.parameters s.0)))
  where
    pick : (s : Words × List Word) (o : Option LangError) → IfOk {T = List (List Word) × List Word} (unless o (given_words r.parameters s.0, s.1)) (λ g. length g.0 ≡ length r.parameters)
    pick s None = one_each 0 r.parameters s.0.positional s.0.options
    pick s (Some e) = tt

module _ (scopes : Scopes) (to : Located) where
  values_each : (ps : List Parameter) (gs : List (Option (List Word))) (done : List Value) → length gs ≡ length ps → IfOk (values_behind scopes to done ps gs) (λ vs. length vs ≡ length done + length ps)
  values_each [] gs done h = omega arith
  values_each (p ∷ ps) [] done h = absurd (let no : ⊥ = omega (arith, h) in no)
  values_each (p ∷ ps) (g ∷ gs) done h =
      then_any (λ vs. length vs ≡ length done + suc (length ps)) (value_from scopes to p p.kind g done) (λ v. values_behind scopes to (done ++ v ∷ []) ps gs) (λ v. IfOk-weaker (values_behind scopes to (done ++ v ∷ []) ps gs) (λ vs. length vs ≡ length (done ++ v ∷ []) + length ps) (λ vs. length vs ≡ length done + suc (length ps)) (λ vs k. omega (arith, k, length-append done (v ∷ []))) (values_each ps gs (done ++ v ∷ []) (omega (arith, h))))

-- ---- keys

module _ (ms : List Justfile) (scopes : Scopes) where
  key_named : (l : Located) (ws : List Word) → Contains (located ms) l → IfOk (key_behind scopes l ws) (λ c. NamesRecipe ms c.0)
  key_named l ws h =
      then_ok (λ g. length g.0 ≡ length l.recipe.parameters) (λ c. NamesRecipe ms c.0) (words_given l.recipe ws) (λ g. and_then (key_of scopes l g.0) (λ k. Ok (k, g.1))) (given_each l.recipe ws) (λ g many. then_ok (NamesRecipe ms) (λ c. NamesRecipe ms c.0) (key_of scopes l g.0) (λ k. Ok (k, g.1)) (with_values g.0 many) (λ k i. i))
    where
      with_values : (given : List (List Word)) → length given ≡ length l.recipe.parameters → IfOk (key_of scopes l given) (NamesRecipe ms)
      with_values given many =
          then_ok (λ vs. length vs ≡ 0 + length l.recipe.parameters) (NamesRecipe ms) (values_given scopes l (map as_given given)) (λ vs. Ok (record { recipe = l.recipe.path; arguments = vs })) (values_each scopes l l.recipe.parameters (map as_given given) [] (length-map given as_given ∙ many)) (λ vs is. record { found = l; among = h; path = refl; values = omega (arith, is) })

  module _ (root : Justfile) (there : Contains ms root) (whole : IsWhole ms) where
    first_named : (ws : List Word) → IfOk (first_key ms scopes root ws) (λ c. NamesRecipe ms c.0)
    first_named ws =
        then_ok (λ c. Contains (located ms) c.0) (λ c. NamesRecipe ms c.0) (chosen ms ws root) (λ c. key_behind scopes c.0 c.1) (words_lead ms whole ws root there) (λ c h. key_named c.0 c.1 h)

    first_is_named : (ws left : List Word) (k : Key) → first_key ms scopes root ws ≡ Ok (k, left) → NamesRecipe ms k
    first_is_named ws left k h = subst (λ a. IfOk a (λ c. NamesRecipe ms c.0)) h (first_named ws)

    all_named : (ws : List Word) (a : Answer (List Key)) → Invokes ms scopes root ws a → IfOk a (All (NamesRecipe ms))
    all_named ws a (Invokes.refused us e h) = tt
    all_named ws a (Invokes.last us k h) = All-cons (NamesRecipe ms) k [] (first_is_named us [] k h) (All-nil (NamesRecipe ms))
    all_named ws a (Invokes.more us vs w k others h later) =
        then_ok (All (NamesRecipe ms)) (All (NamesRecipe ms)) others (λ ks. Ok (k ∷ ks)) (all_named (w ∷ vs) others later) (λ ks i. All-cons (NamesRecipe ms) k ks (first_is_named us (w ∷ vs) k h) i)

-- the keys name recipes of the project, whatever its modules are called
pub named : (ms others : List Justfile) (scopes : Scopes) (root : Justfile) (ws : List Word) (ks : List Key) → AreModules (root ∷ []) ms → AreModules (root ∷ []) others → Invokes ms scopes root ws (Ok ks) → All (NamesRecipe others) ks
named ms others scopes root ws ks a b h =
    let both : All (Contains ms) (root ∷ []) × IsWhole ms = members (root ∷ []) ms a in
    let there : Contains ms root = All-contains (Contains ms) (root ∷ []) root both.0 (first_in root []) in
    subst (λ xs. All (NamesRecipe xs) ks) (same_modules (root ∷ []) ms others a b) (all_named ms scopes root there both.1 ws (Ok ks) h)
