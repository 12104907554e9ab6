-- The modules within modules, one more module at a time.
use Rattle.std.proofs.Common.{◌≡◌, ℕ, zero, suc, ◌+◌, ◌<◌, Bool, true, false, ◌&&◌, cond, List, [], ◌∷◌, ◌++◌, length, take, get_or, Option, Some, None, refl, sym, ap, ◌∙◌, subst, arith}
use Rattle.std.specs.Prelude.{nat_eq, bytes_eq}
use Rattle.std.proofs.lemmas.Bool.Decides.{nat_tests}
use denote.Ref.{Bor}
use Rattle.just_lang_layout.specs.declared.layout.Module.{Module}
use Rattle.just_lang_spots.proofs.ListLaws.{take_here}
use Rattle.just_lang_names.specs.declared.paths.Paths.{Paths}
use Rattle.just_lang_names.specs.Children.{StandsIn, entered}
use Rattle.just_lang_names.specs.Lookup.{same_path, module_at}
use Rattle.just_lang_names.specs.Names.{number_in, ArePaths}
use Rattle.just_lang_names.proofs.PathLaws.{same_to_equal, equal_to_same, module_more, one_path}

-- ---- paths with one more name

end_not_empty : (p : List (List ℕ)) (q : List ℕ) → same_path [] (p ++ q ∷ []) ≡ false
end_not_empty [] q = refl
end_not_empty (x ∷ p) q = refl

not_empty_end : (p : List (List ℕ)) (q : List ℕ) → same_path (p ++ q ∷ []) [] ≡ false
not_empty_end [] q = refl
not_empty_end (x ∷ p) q = refl

and_false : (b : Bool) → b && false ≡ false
and_false true = refl
and_false false = refl

and_true : (b : Bool) → b && true ≡ b
and_true true = refl
and_true false = refl

and_assoc : (a b c : Bool) → a && (b && c) ≡ (a && b) && c
and_assoc true b c = refl
and_assoc false b c = refl

-- two paths with one more name each are the same where they are and the names are
pub same_ends : (p r : List (List ℕ)) (k q : List ℕ) → same_path (p ++ k ∷ []) (r ++ q ∷ []) ≡ same_path p r && bytes_eq k q
same_ends [] [] k q = and_true (bytes_eq k q)
same_ends [] (y ∷ r) k q = ap (λ b. bytes_eq k y && b) (end_not_empty r q) ∙ and_false (bytes_eq k y)
same_ends (x ∷ p) [] k q = ap (λ b. bytes_eq x q && b) (not_empty_end p k) ∙ and_false (bytes_eq x q)
same_ends (x ∷ p) (y ∷ r) k q = ap (λ b. bytes_eq x y && b) (same_ends p r k q) ∙ and_assoc (bytes_eq x y) (same_path p r) (bytes_eq k q)

by_both : (a b : Bool) → (a ≡ true → b ≡ true) → (b ≡ true → a ≡ true) → a ≡ b
by_both true b h k = sym (h refl)
by_both false true h k = k refl
by_both false false h k = refl

same_numbers : (m n : ℕ) → nat_eq m n ≡ true → m ≡ n
same_numbers m n h = grind (arith, nat_tests)

equal_numbers : (m n : ℕ) → m ≡ n → nat_eq m n ≡ true
equal_numbers m n h = grind (arith, nat_tests)

some_inj : (x y : ℕ) → Some x ≡ Some y → x ≡ y
some_inj x y e = grind arith

not_some : (x : ℕ) → None ≡ Some x → ⊥
not_some x e = grind arith

-- paths are the same where their numbers are
pub same_by_number : (ms : List Module) (p q : List (List ℕ)) (m n : ℕ) → module_at ms p ≡ Some m → module_at ms q ≡ Some n → same_path p q ≡ nat_eq m n
same_by_number ms p q m n h k =
    by_both (same_path p q) (nat_eq m n)
    (λ e. equal_numbers m n (some_inj m n (sym h ∙ ap (module_at ms) (same_to_equal p q e) ∙ k)))
    (λ e. equal_to_same p q (one_path 0 ms p q n (h ∙ ap Some (same_numbers m n e)) k))

-- ---- one more module

-- one that stands in another: the table has its number under that one's and its name
child_step : (ms : List Module) (paths : Paths) (i : ℕ) (m : Module) (own : List (List ℕ)) (key : ℕ × Bor (List ℕ)) (before after : ℕ → List ℕ → Option ℕ) → ArePaths ms paths
    → i < length ms → take (i + 1) ms ≡ take i ms ++ m ∷ [] → own ≡ m.path.components → StandsIn (number_in paths) own (Some key)
    → ((path : List (List ℕ)) (outer : ℕ) → module_at ms path ≡ Some outer → (q : List ℕ) → before outer q ≡ module_at (take i ms) (path ++ q ∷ []))
    → ((outer : ℕ) (q : List ℕ) → after outer q ≡ entered (Some key) i before outer q)
    → (path : List (List ℕ)) (outer : ℕ) → module_at ms path ≡ Some outer → (q : List ℕ) → after outer q ≡ module_at (take (i + 1) ms) (path ++ q ∷ [])
child_step ms paths i m own key before after are lt more is stands h u path outer e q =
    let around : module_at ms stands.0 ≡ Some key.0 = sym (are stands.0) ∙ stands.2 in
    let test : nat_eq key.0 outer && bytes_eq key.1.now q ≡ same_path m.path.components (path ++ q ∷ []) =
    ap (λ b. b && bytes_eq key.1.now q) (sym (same_by_number ms stands.0 path key.0 outer around e))
    ∙ sym (same_ends stands.0 path key.1.now q)
    ∙ ap (λ p. same_path p (path ++ q ∷ [])) (sym stands.1 ∙ is) in
    u outer q ∙ ap (λ b. cond b (Some i) (before outer q)) test ∙ ap (cond (same_path m.path.components (path ++ q ∷ [])) (Some i)) (h path outer e q)
    ∙ sym (module_more ms i m (path ++ q ∷ []) lt more)

if_not : (b : Bool) (i : ℕ) (o : Option ℕ) → (b ≡ true → ⊥) → o ≡ cond b (Some i) o
if_not true i o h = absurd (h refl)
if_not false i o h = refl

-- one that stands in none
child_passed : (ms : List Module) (paths : Paths) (i : ℕ) (m : Module) (own : List (List ℕ)) (before : ℕ → List ℕ → Option ℕ) → ArePaths ms paths
    → i < length ms → take (i + 1) ms ≡ take i ms ++ m ∷ [] → own ≡ m.path.components → StandsIn (number_in paths) own None
    → ((path : List (List ℕ)) (outer : ℕ) → module_at ms path ≡ Some outer → (q : List ℕ) → before outer q ≡ module_at (take i ms) (path ++ q ∷ []))
    → (path : List (List ℕ)) (outer : ℕ) → module_at ms path ≡ Some outer → (q : List ℕ) → before outer q ≡ module_at (take (i + 1) ms) (path ++ q ∷ [])
child_passed ms paths i m own before are lt more is stands h path outer e q =
    h path outer e q
    ∙ if_not (same_path m.path.components (path ++ q ∷ [])) i (module_at (take i ms) (path ++ q ∷ []))
    (λ t. not_some outer (sym (sym (are path) ∙ stands path q (is ∙ same_to_equal m.path.components (path ++ q ∷ []) t)) ∙ e))
    ∙ sym (module_more ms i m (path ++ q ∷ []) lt more)

-- one of both
pub child_entered : (ms : List Module) (paths : Paths) (i : ℕ) (m : Module) (own : List (List ℕ)) (key : Option (ℕ × Bor (List ℕ))) (before after : ℕ → List ℕ → Option ℕ) → ArePaths ms paths
    → i < length ms → m ≡ get_or ms i m → own ≡ m.path.components → StandsIn (number_in paths) own key
    → ((path : List (List ℕ)) (outer : ℕ) → module_at ms path ≡ Some outer → (q : List ℕ) → before outer q ≡ module_at (take i ms) (path ++ q ∷ []))
    → ((outer : ℕ) (q : List ℕ) → after outer q ≡ entered key i before outer q)
    → (path : List (List ℕ)) (outer : ℕ) → module_at ms path ≡ Some outer → (q : List ℕ) → after outer q ≡ module_at (take (i + 1) ms) (path ++ q ∷ [])
child_entered ms paths i m own None before after are lt is n stands h u path outer e q =
    u outer q ∙ child_passed ms paths i m own before are lt (take_here ms i m lt is) n stands h path outer e q
child_entered ms paths i m own (Some key) before after are lt is n stands h u path outer e q =
    child_step ms paths i m own key before after are lt (take_here ms i m lt is) n stands h u path outer e q
