-- The last values of pairs, as they grow.
use Rattle.std.proofs.Common.{◌≡◌, ℕ, Bool, true, false, cond, List, [], ◌∷◌, ◌++◌, Option, Some, None, bytes_eq, refl, ap, sym, subst, ◌∙◌}
use Rattle.std.specs.BTreeMap.{BTreeMap, get, Updates, is_at}
use Rattle.std.specs.Cmp.Lexicographic.{slice_cmp}
use Rattle.std.specs.Map.{lookup}
use Rattle.std.specs.Ordering.{nat_cmp}
use Rattle.std.proofs.lemmas.Map.Text.{is_eq-slice_cmp}
use Rattle.just_path_text.specs.Environ.{value_of, or_else}
use Rattle.just_dotenv.specs.Meaning.{Pairs}
use Rattle.just_dotenv.specs.LastValues.{AreLastValues}

-- an answer that comes first, behind what else there is
chosen : (b : Bool) (v : List ℕ) (o : Option (List ℕ)) → cond b (Some v) o ≡ or_else (cond b (Some v) None) o
chosen true v o = refl
chosen false v o = refl

or_else_assoc : (a b c : Option (List ℕ)) → or_else (or_else a b) c ≡ or_else a (or_else b c)
or_else_assoc None b c = refl
or_else_assoc (Some x) b c = refl

or_else_none : (o : Option (List ℕ)) → o ≡ or_else o None
or_else_none None = refl
or_else_none (Some x) = refl

-- the last pair counts before those in front of it
value_behind : (name : List ℕ) (ps : Pairs) (p : List ℕ × List ℕ) → value_of name (ps ++ p ∷ []) ≡ or_else (cond (bytes_eq p.0 name) (Some p.1) None) (value_of name ps)
value_behind name [] p = or_else_none (cond (bytes_eq p.0 name) (Some p.1) None)
value_behind name (q ∷ ps) p =
    ap (λ o. or_else o (cond (bytes_eq q.0 name) (Some q.1) None)) (value_behind name ps p)
    ∙ or_else_assoc (cond (bytes_eq p.0 name) (Some p.1) None) (value_of name ps) (cond (bytes_eq q.0 name) (Some q.1) None)

-- no pair has no value
pub values_none : (m : BTreeMap (List ℕ) (List ℕ)) → m.entries ≡ [] → AreLastValues [] m
values_none m e q = ap (λ es. lookup (is_at (slice_cmp nat_cmp q)) es) e

-- one more pair has its value, all other names keep theirs
values_push : (pairs : Pairs) (m n : BTreeMap (List ℕ) (List ℕ)) (p : List ℕ × List ℕ) → AreLastValues pairs m → Updates (slice_cmp nat_cmp) m n p.0 (Some p.1) → AreLastValues (pairs ++ p ∷ []) n
values_push pairs m n p are updates q =
    updates.0 q
    ∙ ap (λ b. cond b (Some p.1) (get (slice_cmp nat_cmp) m q)) (is_eq-slice_cmp p.0 q)
    ∙ ap (λ o. cond (bytes_eq p.0 q) (Some p.1) o) (are q)
    ∙ chosen (bytes_eq p.0 q) p.1 (value_of q pairs)
    ∙ sym (value_behind q pairs p)

-- the same, by copies of its name and its value
pub values_more : (pairs : Pairs) (m n : BTreeMap (List ℕ) (List ℕ)) (p : List ℕ × List ℕ) (name value : List ℕ) → AreLastValues pairs m → Updates (slice_cmp nat_cmp) m n name (Some value) → name ≡ p.0 → value ≡ p.1 → AreLastValues (pairs ++ p ∷ []) n
values_more pairs m n p name value are updates named valued =
    values_push pairs m n p are
    (subst (λ (v : List ℕ). Updates (slice_cmp nat_cmp) m n p.0 (Some v)) valued (subst (λ (k : List ℕ). Updates (slice_cmp nat_cmp) m n k (Some value)) named updates))
