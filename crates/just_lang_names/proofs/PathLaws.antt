-- The modules by their paths.
use Rattle.std.proofs.Common.{◌≡◌, ℕ, zero, suc, ◌+◌, ◌<◌, ◌≤◌, Bool, true, false, cond, List, [], ◌∷◌, ◌++◌, map, length, take, get_or, Option, Some, None, refl, sym, ap, ◌∙◌, subst, arith}
use Rattle.std.specs.Prelude.{slice_get, bytes_eq}
use Rattle.std.specs.Option.{option_and_then, option_map}
use Rattle.std.specs.Ordering.{is_eq, nat_cmp}
use Rattle.std.specs.Cmp.Lexicographic.{slice_cmp, lists_ties, texts_ties, pointwise_decides, bytes_decides}
use Rattle.std.proofs.lemmas.Option.{slice_get-map}
use Rattle.just_lang_layout.specs.declared.layout.Module.{Module}
use Rattle.just_lang_names.specs.declared.children.Children.{Children}
use Rattle.just_lang_names.specs.Lookup.{same_path, or_here, module_from, module_at}
use Rattle.just_lang_names.specs.Names.{child_in, AreChildren, own_numbers}

-- ---- equal paths

pub same_to_equal : (p q : List (List ℕ)) → same_path p q ≡ true → p ≡ q
same_to_equal p q h = (pointwise_decides bytes_decides p q).0 h

pub equal_to_same : (p q : List (List ℕ)) → p ≡ q → same_path p q ≡ true
equal_to_same p q h = (pointwise_decides bytes_decides p q).1 h

same_key : (key path : List (List ℕ)) → is_eq (slice_cmp (slice_cmp nat_cmp) key path) ≡ same_path key path
same_key key path = sym (lists_ties (slice_cmp nat_cmp) texts_ties key path)

-- ---- one more module

or_here_first : (n : ℕ) (b : Bool) → or_here n b None ≡ cond b (Some (n + 0)) None
or_here_first n true = ap Some (omega arith)
or_here_first n false = refl

pub module_from_more : (n : ℕ) (ms : List Module) (m : Module) (path : List (List ℕ))
    → module_from n (ms ++ m ∷ []) path ≡ cond (same_path m.path.components path) (Some (n + length ms)) (module_from n ms path)
module_from_more n [] m path = or_here_first n (same_path m.path.components path)
module_from_more n (x ∷ ms) m path =
    ap (or_here n (same_path x.path.components path)) (module_from_more (suc n) ms m path)
    ∙ elim (same_path m.path.components path) as (λ b. or_here n (same_path x.path.components path) (cond b (Some (suc n + length ms)) (module_from (suc n) ms path))
    ≡ cond b (Some (n + suc (length ms))) (or_here n (same_path x.path.components path) (module_from (suc n) ms path))) [
      | true ↦ ap Some (omega arith)
      | false ↦ refl
    ]

taken_count : (ms : List Module) (i : ℕ) → i < length ms → length (take i ms) ≡ i
taken_count [] i h = absurd (omega (arith, h))
taken_count (x ∷ ms) zero h = refl
taken_count (x ∷ ms) (suc i) h = ap suc (taken_count ms i (omega (arith, h)))

zero_plus : (n : ℕ) → 0 + n ≡ n
zero_plus n = omega arith

pub module_more : (ms : List Module) (i : ℕ) (m : Module) (path : List (List ℕ)) → i < length ms → take (i + 1) ms ≡ take i ms ++ m ∷ []
    → module_at (take (i + 1) ms) path ≡ cond (same_path m.path.components path) (Some i) (module_at (take i ms) path)
module_more ms i m path lt more =
    ap (λ xs. module_at xs path) more ∙ module_from_more 0 (take i ms) m path
    ∙ ap (λ n. cond (same_path m.path.components path) (Some n) (module_at (take i ms) path)) (zero_plus (length (take i ms)) ∙ taken_count ms i lt)

-- after one more module the table has its number for its path
pub path_step : (ms : List Module) (i : ℕ) (m : Module) (key path : List (List ℕ)) (before after : Option ℕ) → i < length ms → take (i + 1) ms ≡ take i ms ++ m ∷ []
    → key ≡ m.path.components → before ≡ module_at (take i ms) path → after ≡ cond (is_eq (slice_cmp (slice_cmp nat_cmp) key path)) (Some i) before
    → after ≡ module_at (take (i + 1) ms) path
path_step ms i m key path before after lt more is h k =
    k ∙ ap (λ b. cond b (Some i) before) (same_key key path ∙ ap (λ c. same_path c path) is)
    ∙ ap (cond (same_path m.path.components path) (Some i)) h
    ∙ sym (module_more ms i m path lt more)

-- ---- one number stands for one path

some_inj : {X : Type 0} (x y : X) → Some x ≡ Some y → x ≡ y
some_inj x y e = grind arith

not_some : {X : Type 0} (x : X) → None ≡ Some x → ⊥
not_some x e = grind arith

-- numbers begin at the first module's
pub above : (n : ℕ) (ms : List Module) (p : List (List ℕ)) (c : ℕ) → module_from n ms p ≡ Some c → n ≤ c
above n [] p c h = absurd (not_some c h)
above n (m ∷ ms) p c h =
    elim (module_from (suc n) ms p) as (λ o. module_from (suc n) ms p ≡ o → or_here n (same_path m.path.components p) o ≡ Some c → n ≤ c) [
      | Some k ↦ λ e g. let up : suc n ≤ c = above (suc n) ms p c (e ∙ g) in omega (arith, up)
      | None ↦ λ e g. here (same_path m.path.components p) g
    ] refl h
  where
    here : (b : Bool) → or_here n b None ≡ Some c → n ≤ c
    here true g = let is : n ≡ c = some_inj n c g in omega (arith, is)
    here false g = absurd (not_some c g)

here_is : (n : ℕ) (b : Bool) (c : ℕ) → or_here n b None ≡ Some c → (b ≡ true) × (n ≡ c)
here_is n true c g = (refl, some_inj n c g)
here_is n false c g = absurd (not_some c g)

pub one_path : (n : ℕ) (ms : List Module) (p q : List (List ℕ)) (c : ℕ) → module_from n ms p ≡ Some c → module_from n ms q ≡ Some c → p ≡ q
one_path n [] p q c h k = absurd (not_some c h)
one_path n (m ∷ ms) p q c h k =
    elim (module_from (suc n) ms p) as (λ o. module_from (suc n) ms p ≡ o → or_here n (same_path m.path.components p) o ≡ Some c → p ≡ q) [
      | Some i ↦ λ e g. behind (one_path (suc n) ms p q c) (e ∙ g)
      | None ↦ λ e g. first (here_is n (same_path m.path.components p) c g)
    ] refl h
  where
    behind : (module_from (suc n) ms p ≡ Some c → module_from (suc n) ms q ≡ Some c → p ≡ q) → module_from (suc n) ms p ≡ Some c → p ≡ q
    behind again g =
        elim (module_from (suc n) ms q) as (λ o. module_from (suc n) ms q ≡ o → or_here n (same_path m.path.components q) o ≡ Some c → p ≡ q) [
          | Some j ↦ λ e f. again g (e ∙ f)
          | None ↦ λ e f. let up : suc n ≤ c = above (suc n) ms p c g in let is : n ≡ c = (here_is n (same_path m.path.components q) c f).1 in absurd (omega (arith, up, is))
        ] refl k

    first : (same_path m.path.components p ≡ true) × (n ≡ c) → p ≡ q
    first g =
        elim (module_from (suc n) ms q) as (λ o. module_from (suc n) ms q ≡ o → or_here n (same_path m.path.components q) o ≡ Some c → p ≡ q) [
          | Some j ↦ λ e f. let up : suc n ≤ c = above (suc n) ms q c (e ∙ f) in let is : n ≡ c = g.1 in absurd (omega (arith, up, is))
          | None ↦ λ e f. sym (same_to_equal m.path.components p g.0) ∙ same_to_equal m.path.components q (here_is n (same_path m.path.components q) c f).0
        ] refl k

-- ---- a module of the list has a number

or_here_some : (n : ℕ) (b : Bool) (o : Option ℕ) → b ≡ true → (c : ℕ) × (or_here n b o ≡ Some c)
or_here_some n true None e = (n, refl)
or_here_some n false None e = absurd (cc)
or_here_some n b (Some k) e = (k, refl)

or_here_behind : (n : ℕ) (b : Bool) (o : Option ℕ) (c : ℕ) → o ≡ Some c → or_here n b o ≡ Some c
or_here_behind n b o c e = ap (or_here n b) e

pub has_number : (n : ℕ) (ms : List Module) (k : ℕ) (m : Module) → slice_get ms k ≡ Some m → (c : ℕ) × (module_from n ms m.path.components ≡ Some c)
has_number n [] k m e = absurd (not_some m e)
has_number n (x ∷ ms) zero m e =
    or_here_some n (same_path x.path.components m.path.components) (module_from (suc n) ms m.path.components)
    (equal_to_same x.path.components m.path.components (ap (λ (y : Module). y.path.components) (some_inj x m e)))
has_number n (x ∷ ms) (suc k) m e =
    let r = has_number (suc n) ms k m e in
    (r.0, or_here_behind n (same_path x.path.components m.path.components) (module_from (suc n) ms m.path.components) r.0 r.1)

-- ---- the module of a name in another

abbrev pub own_child : Children → List (Option ℕ) → ℕ → List ℕ → Option ℕ
own_child children numbers k q = option_and_then (λ (o : Option ℕ). option_and_then (λ (c : ℕ). child_in children c q) o) (slice_get numbers k)

pub child_is : (ms : List Module) (numbers : List (Option ℕ)) (children : Children) (k : ℕ) (q : List ℕ) → numbers ≡ own_numbers ms → AreChildren ms children
    → own_child children numbers k q ≡ option_and_then (λ (m : Module). module_at ms (m.path.components ++ q ∷ [])) (slice_get ms k)
child_is ms numbers children k q e are =
    ap (λ ns. own_child children ns k q) e
    ∙ ap (option_and_then (λ (o : Option ℕ). option_and_then (λ (c : ℕ). child_in children c q) o)) (slice_get-map (λ (m : Module). module_at ms m.path.components) ms k)
    ∙ elim (slice_get ms k) as (λ o. slice_get ms k ≡ o
    → option_and_then (λ (o : Option ℕ). option_and_then (λ (c : ℕ). child_in children c q) o) (option_map (λ (m : Module). module_at ms m.path.components) o)
    ≡ option_and_then (λ (m : Module). module_at ms (m.path.components ++ q ∷ [])) o) [
      | None ↦ λ g. refl
      | Some m ↦ λ g. let r = has_number 0 ms k m g in
          ap (option_and_then (λ (c : ℕ). child_in children c q)) r.1 ∙ are m.path.components r.0 r.1 q
    ] refl
