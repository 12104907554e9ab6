-- The keys around a key have shorter chains of dependencies.
use Rattle.std.proofs.Common.{◌≡◌, ℕ, zero, suc, ◌+◌, ◌-◌, ◌<◌, ◌≤◌, Bool, true, false, ◌&&◌, ◌⊎◌, inl, inr, List, [], ◌∷◌, ◌++◌, length, Option, Some, None, Ok, Err, refl, sym, ap, ◌∙◌, subst, arith}
use Rattle.std.specs.Prelude.{if◌then◌else◌}
use Rattle.std.specs.List.{list_all}
use Rattle.just_lang_types.specs.declared.key.Key.{Key}
use Rattle.just_lang_types.specs.declared.key.Value.{Value}
use Rattle.just_lang_types.specs.declared.recipe.Dependency.{Dependency}
use Rattle.just_lang_types.specs.declared.recipe.Modulepath.{Modulepath}
use Rattle.just_lang_types.specs.declared.scope.Scopes.{Scopes}
use Rattle.just_lang_types.specs.declared.project.Justfile.{Justfile}
use Rattle.just_lang_types.specs.declared.project.LangError.{LangError}
use Rattle.just_eval_closure.specs.Visits.{IsRanked, priors_in, subsequents_in}
use Rattle.just_eval_closure.proofs.Items.{In, contains_in}
use Rattle.just_eval_closure.specs.Answers.{Answer, and_then, each}
use Rattle.just_eval_closure.specs.AskedClosures.{around_of}
use Rattle.just_eval_closure.specs.Dependencies.{argument, shares, values_given, key_to, key_of, keys_of}
use Rattle.just_eval_closure.specs.Ends.{dependencies_of, ends_within, AreEnding, longest_within, longest}
use Rattle.just_lang_types.specs.Modules.{Located, located, recipe_at}

-- ---- tests

apart : true ≡ false → ⊥
apart h = let no : ⊥ = cc in no

both : (a b : Bool) → (a && b) ≡ true → (a ≡ true) × (b ≡ true)
both true b h = (refl, h)
both false b h = absurd (apart (sym h))

all_of : {A : Type 0} (p q : A → Bool) (xs : List A) → ((x : A) → p x ≡ true → q x ≡ true) → list_all p xs ≡ true → list_all q xs ≡ true
all_of p q [] f h = refl
all_of p q (x ∷ xs) f h =
    let parts = both (p x) (list_all p xs) h in ap (λ b. b && list_all q xs) (f x parts.0) ∙ all_of p q xs f parts.1

one_of : {A : Type 0} (p : A → Bool) (xs : List A) (x : A) → In x xs → list_all p xs ≡ true → p x ≡ true
one_of p [] x i h = absurd i
one_of p (y ∷ ys) x (inl same) h = subst (λ z. p z ≡ true) same (both (p y) (list_all p ys) h).0
one_of p (y ∷ ys) x (inr i) h = one_of p ys x i (both (p y) (list_all p ys) h).1

-- ---- chains

module _ (ms : List Justfile) where
  -- what ends within some members ends within more
  one_longer : (n : ℕ) (path : Modulepath) → ends_within ms n path ≡ true → ends_within ms (suc n) path ≡ true
  one_longer zero path h = absurd (apart (sym h))
  one_longer (suc n) path h = all_of (λ d. ends_within ms n d.path) (λ d. ends_within ms (suc n) d.path) (dependencies_of (recipe_at ms path)) (λ d g. one_longer n d.path g) h

  longer_by : (k n : ℕ) (path : Modulepath) → ends_within ms n path ≡ true → ends_within ms (k + n) path ≡ true
  longer_by zero n path h = subst (λ m. ends_within ms m path ≡ true) (zero_more n) h
    where
      zero_more : (n : ℕ) → n ≡ 0 + n
      zero_more n = omega arith
  longer_by (suc k) n path h = subst (λ m. ends_within ms m path ≡ true) (up k n) (one_longer (k + n) path (longer_by k n path h))
    where
      up : (k n : ℕ) → suc (k + n) ≡ suc k + n
      up k n = omega arith

  longer : (n m : ℕ) (path : Modulepath) → n ≤ m → ends_within ms n path ≡ true → ends_within ms m path ≡ true
  longer n m path le h = subst (λ k. ends_within ms k path ≡ true) (rest n m le) (longer_by (m - n) n path h)
    where
      rest : (n m : ℕ) → n ≤ m → (m - n) + n ≡ m
      rest n m le = omega (arith, le)

  -- a longest chain is one that ends
  ends_there : (n : ℕ) (path : Modulepath) → ends_within ms n path ≡ true → ends_within ms (longest_within ms n path) path ≡ true
  ends_there zero path h = absurd (apart (sym h))
  ends_there (suc n) path h = elim (ends_within ms n path) as (λ b. ends_within ms n path ≡ b → ends_within ms (if b then longest_within ms n path else suc n) path ≡ true) [ true ↦ λ e. ends_there n path e | false ↦ λ e. h ] refl

  bounded : (n : ℕ) (path : Modulepath) → longest_within ms n path ≤ n
  bounded zero path = omega arith
  bounded (suc n) path = elim (ends_within ms n path) as (λ b. (if b then longest_within ms n path else suc n) ≤ suc n) [ true ↦ omega (arith, bounded n path) | false ↦ omega arith ]

  split : (k n : ℕ) → k ≤ suc n → (k ≤ n) ⊎ (k ≡ suc n)
  split k n le = grind (arith, le)

  -- no shorter one is
  shortest : (n k : ℕ) (path : Modulepath) → k ≤ n → ends_within ms k path ≡ true → longest_within ms n path ≤ k
  shortest zero k path le h = omega arith
  shortest (suc n) k path le h = pick (ends_within ms n path) refl (split k n le) (λ low. shortest n k path low h)
    where
      pick : (b : Bool) → ends_within ms n path ≡ b → (k ≤ n) ⊎ (k ≡ suc n) → (k ≤ n → longest_within ms n path ≤ k) → (if b then longest_within ms n path else suc n) ≤ k
      pick true e (inl low) f = f low
      pick true e (inr same) f = omega (arith, bounded n path, same)
      pick false e (inl low) f = absurd (apart (sym (longer k n path low h) ∙ e))
      pick false e (inr same) f = omega (arith, same)

  -- what a recipe depends on has a shorter chain
  shorter_by : (n : ℕ) (path : Modulepath) (d : Dependency) → ends_within ms n path ≡ true → In d (dependencies_of (recipe_at ms path)) → (r : ℕ) → longest_within ms n path ≡ r → longest_within ms n d.path < longest_within ms n path
  shorter_by n path d h i zero is = absurd (apart (sym (subst (λ m. ends_within ms m path ≡ true) is (ends_there n path h))))
  shorter_by n path d h i (suc r) is =
      let there : ends_within ms (suc r) path ≡ true = subst (λ m. ends_within ms m path ≡ true) is (ends_there n path h) in
      let low : r ≤ n = omega (arith, bounded n path, is) in
      omega (arith, is, shortest n r d.path low (one_of (λ x. ends_within ms r x.path) (dependencies_of (recipe_at ms path)) d i there))

  pub shorter : AreEnding ms → (path : Modulepath) (d : Dependency) → In d (dependencies_of (recipe_at ms path)) → longest ms d.path < longest ms path
  shorter ends path d i = shorter_by (suc (length (located ms))) path d (ends path) i (longest ms path) refl

-- ---- keys

abbrev answered : {B : Type 0} → List B → Answer (List B)
answered ys = Ok ys

abbrev refused : (B : Type 0) → LangError → Answer (List B)
refused B e = Err e

-- one list is answered
one_list : {B : Type 0} (xs ys : List B) → answered xs ≡ answered ys → xs ≡ ys
one_list xs ys h = cc

-- what is refused isn't answered
no_list : {B : Type 0} (e : LangError) (ys : List B) → refused B e ≡ answered ys → ⊥
no_list e ys h = let no : ⊥ = cc in no

-- one of some answers is that of one of the questions
module _ {A B : Type 0} (f : A → Answer B) where
  one_answer : (xs : List A) (ys : List B) (y : B) → each f xs ≡ Ok ys → In y ys → (x : A) × In x xs × (f x ≡ Ok y)
  one_answer [] ys y h i = absurd (subst (λ zs. In y zs) (sym (one_list [] ys h)) i)
  one_answer (x ∷ xs) ys y h i = first_by (f x) refl (each f xs) refl h (λ zs e j. one_answer xs zs y e j)
    where
      first_by : (a : Answer B) → f x ≡ a → (r : Answer (List B)) → each f xs ≡ r → and_then a (λ z. and_then r (λ zs. Ok (z ∷ zs))) ≡ Ok ys → ((zs : List B) → each f xs ≡ Ok zs → In y zs → (w : A) × In w xs × (f w ≡ Ok y)) → (w : A) × In w (x ∷ xs) × (f w ≡ Ok y)
      first_by (Err e) is r are g rest = absurd (no_list e ys g)
      first_by (Ok z) is (Err e) are g rest = absurd (no_list e ys g)
      first_by (Ok z) is (Ok zs) are g rest = pick z zs is are (subst (λ l. In y l) (sym (one_list (z ∷ zs) ys g)) i) rest
        where
          pick : (z : B) (zs : List B) → f x ≡ Ok z → each f xs ≡ Ok zs → In y (z ∷ zs) → ((us : List B) → each f xs ≡ Ok us → In y us → (w : A) × In w xs × (f w ≡ Ok y)) → (w : A) × In w (x ∷ xs) × (f w ≡ Ok y)
          pick z zs is are (inl e) rest = (x, inl refl, is ∙ ap (λ v. Ok v) e)
          pick z zs is are (inr j) rest = let one = rest zs are j in (one.0, inr one.1, one.2)

-- the key of a dependency has its path
key_path : (ms : List Justfile) (scopes : Scopes) (from : Located) (values : List Value) (d : Dependency) (k : Key) → key_of ms scopes from values d ≡ Ok k → k.recipe ≡ d.path
key_path ms scopes from values d k h = given_by (each (argument scopes from values) d.arguments) refl h
  where
    to_by : (arguments : List Value) (o : Option Located) → key_to ms scopes d.path arguments o ≡ Ok k → k.recipe ≡ d.path
    to_by arguments None g = let same : record { recipe = d.path; arguments = arguments } ≡ k = cc in sym (ap (λ q. q.recipe) same)
    to_by arguments (Some to) g = values_by (values_given scopes to (shares to.recipe.parameters arguments)) g
      where
        values_by : (a : Answer (List Value)) → and_then a (λ vs. Ok (record { recipe = d.path; arguments = vs })) ≡ Ok k → k.recipe ≡ d.path
        values_by (Err e) g = absurd (let no : ⊥ = cc in no)
        values_by (Ok vs) g = let same : record { recipe = d.path; arguments = vs } ≡ k = cc in sym (ap (λ q. q.recipe) same)

    given_by : (a : Answer (List Value)) → each (argument scopes from values) d.arguments ≡ a → and_then a (λ arguments. key_to ms scopes d.path arguments (recipe_at ms d.path)) ≡ Ok k → k.recipe ≡ d.path
    given_by (Err e) is g = absurd (let no : ⊥ = cc in no)
    given_by (Ok arguments) is g = to_by arguments (recipe_at ms d.path) g

in_left : {A : Type 0} (xs ys : List A) (x : A) → In x xs → In x (xs ++ ys)
in_left [] ys x i = absurd i
in_left (z ∷ xs) ys x (inl e) = inl e
in_left (z ∷ xs) ys x (inr i) = inr (in_left xs ys x i)

in_right : {A : Type 0} (xs ys : List A) (x : A) → In x ys → In x (xs ++ ys)
in_right [] ys x i = i
in_right (z ∷ xs) ys x i = inr (in_right xs ys x i)

module _ (ms : List Justfile) (scopes : Scopes) (ends : AreEnding ms) where
  -- a key among those of some dependencies has the path of one of them
  from_one : (from : Located) (values : List Value) (ds : List Dependency) (ks : List Key) (q : Key) → each (key_of ms scopes from values) ds ≡ Ok ks → In q ks → (d : Dependency) × In d ds × (q.recipe ≡ d.path)
  from_one from values ds ks q h i =
      let one = one_answer (key_of ms scopes from values) ds ks q h i in (one.0, one.1, key_path ms scopes from values one.0 q one.2)

  lower : (path : Modulepath) (from : Located) (d : Dependency) (q : Key) → recipe_at ms path ≡ Some from → In d (dependencies_of (Some from)) → q.recipe ≡ d.path → longest ms q.recipe < longest ms path
  lower path from d q is i same = subst (λ p. longest ms p < longest ms path) (sym same) (shorter ms ends path d (subst (λ o. In d (dependencies_of o)) (sym is) i))

  -- the keys around one have shorter chains
  lower_keys : (path : Modulepath) (values : List Value) (o : Option Located) → recipe_at ms path ≡ o → (q : Key) → (In q (priors_in (keys_of ms scopes o values)) ⊎ In q (subsequents_in (keys_of ms scopes o values))) → longest ms q.recipe < longest ms path
  lower_keys path values None is q (inl i) = absurd i
  lower_keys path values None is q (inr i) = absurd i
  lower_keys path values (Some from) is q i = priors_by (each (key_of ms scopes from values) from.recipe.priors) refl (each (key_of ms scopes from values) from.recipe.subsequents) refl i
    where
      priors_by : (a : Answer (List Key)) → each (key_of ms scopes from values) from.recipe.priors ≡ a → (b : Answer (List Key)) → each (key_of ms scopes from values) from.recipe.subsequents ≡ b
          → (In q (priors_in (and_then a (λ ps. and_then b (λ ss. Ok (ps, ss))))) ⊎ In q (subsequents_in (and_then a (λ ps. and_then b (λ ss. Ok (ps, ss)))))) → longest ms q.recipe < longest ms path
      priors_by (Err e) h b g (inl j) = absurd j
      priors_by (Err e) h b g (inr j) = absurd j
      priors_by (Ok ps) h (Err e) g (inl j) = absurd j
      priors_by (Ok ps) h (Err e) g (inr j) = absurd j
      priors_by (Ok ps) h (Ok ss) g (inl j) =
          let one = from_one from values from.recipe.priors ps q h j in lower path from one.0 q is (in_left from.recipe.priors from.recipe.subsequents one.0 one.1) one.2
      priors_by (Ok ps) h (Ok ss) g (inr j) =
          let one = from_one from values from.recipe.subsequents ss q g j in lower path from one.0 q is (in_right from.recipe.priors from.recipe.subsequents one.0 one.1) one.2

  around_lower : (no_deps : Bool) (k q : Key) → (In q (priors_in (around_of no_deps ms scopes k)) ⊎ In q (subsequents_in (around_of no_deps ms scopes k))) → longest ms q.recipe < longest ms k.recipe
  around_lower true k q (inl i) = absurd i
  around_lower true k q (inr i) = absurd i
  around_lower false k q i = lower_keys k.recipe k.arguments (recipe_at ms k.recipe) refl q i

  pub ranked : (no_deps : Bool) → IsRanked (around_of no_deps ms scopes) (λ k. longest ms k.recipe)
  ranked no_deps = record {
    priors = λ k q c. around_lower no_deps k q (inl (contains_in (priors_in (around_of no_deps ms scopes k)) q c));
    subsequents = λ k q c. around_lower no_deps k q (inr (contains_in (subsequents_in (around_of no_deps ms scopes k)) q c));
  }
