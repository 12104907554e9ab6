-- Of each layout it can be told which file wins over which: whether one reaches another is found by going through the files one by one, each as a
-- file that may lie between.
use Rattle.std.proofs.Common.{◌≡◌, ◌↔◌, ◌⊎◌, inl, inr, ℕ, zero, suc, ◌<◌, ◌≤◌, Bool, true, false, List, [], ◌∷◌, length, get_or, refl, sym, subst, arith}
use Rattle.std.specs.Prelude.{nat_eq, nat_lt, ◌||◌, ◌&&◌}
use Rattle.std.specs.List.{All, Contains}
use Rattle.std.proofs.lemmas.Bool.{false≢true}
use Rattle.std.proofs.lemmas.Bool.Decides.{nat_tests}
use Rattle.std.proofs.lemmas.List.{get_or_past}
use Rattle.std.proofs.lemmas.List.Elements.{All-contains}
use Rattle.just_lang_layout.specs.declared.layout.Layout.{Layout}
use Rattle.just_lang_spots.specs.Graph.{IsGraph, Reaches, edge, along, targets}
use Rattle.just_lang_spots.specs.Importers.{own_imports}
use Rattle.just_lang_spots.specs.Standing.{Wins}
use Rattle.just_lang_spots.proofs.Search.{targets_within}
use Rattle.just_lang_spots.proofs.Whole.{graph_of}
use Rattle.just_lang.specs.Projects.{AreWins}

or_left : (a b : Bool) → a ≡ true → (a || b) ≡ true
or_left true b h = refl
or_left false b h = absurd (false≢true h)

or_right : (a b : Bool) → b ≡ true → (a || b) ≡ true
or_right true b h = refl
or_right false b h = h

or_one : (a b : Bool) → (a || b) ≡ true → (a ≡ true) ⊎ (b ≡ true)
or_one true b h = inl refl
or_one false b h = inr h

both_and : (a b : Bool) → a ≡ true → b ≡ true → (a && b) ≡ true
both_and true b h k = k
both_and false b h k = absurd (false≢true h)

and_both : (a b : Bool) → (a && b) ≡ true → (a ≡ true) × (b ≡ true)
and_both true b h = (refl, h)
and_both false b h = absurd (false≢true h)

-- ---- whether a number is in a list

is_in : ℕ → List ℕ → Bool
is_in g [] = false
is_in g (x ∷ xs) = nat_eq g x || is_in g xs

same_number : (g x : ℕ) → nat_eq g x ≡ true → x ≡ g
same_number g x t = grind (arith, nat_tests)

self_number : (g : ℕ) → nat_eq g g ≡ true
self_number g = grind (arith, nat_tests)

found : (g : ℕ) (xs : List ℕ) → is_in g xs ≡ true → Contains xs g
unfolding is_in
found g [] h = absurd (false≢true h)
found g (x ∷ xs) h = elim (or_one (nat_eq g x) (is_in g xs) h) [
  | inl t ↦ (0, omega arith, same_number g x t)
  | inr t ↦ let r = found g xs t in (suc r.0, omega (arith, r.1), r.2)
]

found_at : (g : ℕ) (xs : List ℕ) (k : ℕ) → k < length xs → get_or xs k g ≡ g → is_in g xs ≡ true
unfolding is_in
found_at g [] k lt e = absurd (omega (arith, lt))
found_at g (x ∷ xs) zero lt e = or_left (nat_eq g x) (is_in g xs) (subst (λ t. nat_eq g t ≡ true) (sym e) (self_number g))
found_at g (x ∷ xs) (suc k) lt e = or_right (nat_eq g x) (is_in g xs) (found_at g xs k (omega (arith, lt)) e)

-- ---- whether a node reaches another through nodes below a bound

through : List (List ℕ) → ℕ → ℕ → ℕ → Bool
through edges zero f g = is_in g (targets edges f)
through edges (suc k) f g = through edges k f g || (through edges k f k && through edges k k g)

joins : (edges : List (List ℕ)) (v w x : ℕ) → Reaches edges v w → Reaches edges w x → Reaches edges v x
joins edges v w x (edge a b i) r = along v w x i r
joins edges v w x (along a b c i more) r = along v b x i (joins edges b w x more r)

-- what is told is so
sound : (edges : List (List ℕ)) (k f g : ℕ) → through edges k f g ≡ true → Reaches edges f g
unfolding is_in through
sound edges zero f g h = edge f g (found g (targets edges f) h)
sound edges (suc k) f g h = elim (or_one (through edges k f g) (through edges k f k && through edges k k g) h) [
  | inl t ↦ sound edges k f g t
  | inr t ↦ let b = and_both (through edges k f k) (through edges k k g) t in joins edges f k g (sound edges k f k b.0) (sound edges k k g b.1)
]

-- a path whose inner nodes are below a bound
data Below (edges : List (List ℕ)) (k : ℕ) : ℕ → ℕ → Type 0 where
  straight : (v w : ℕ) → Contains (targets edges v) w → Below edges k v w
  over : (v w x : ℕ) → Contains (targets edges v) w → w < k → Below edges k w x → Below edges k v x

place_by : (w k : ℕ) (b : Bool) → nat_lt w k ≡ b → w < suc k → (w < k) ⊎ (w ≡ k)
place_by w k true t lt = inl (grind (arith, nat_tests))
place_by w k false t lt = inr (grind (arith, nat_tests))

-- an edge in front of a path that either avoids the last inner node or is cut there
over_cut : (edges : List (List ℕ)) (k v w x : ℕ) → Contains (targets edges v) w → (w < k) ⊎ (w ≡ k) → Below edges k w x ⊎ (Below edges k w k × Below edges k k x) → Below edges k v x ⊎ (Below edges k v k × Below edges k k x)
over_cut edges k v w x i (inl lt) (inl b) = inl (over v w x i lt b)
over_cut edges k v w x i (inl lt) (inr p) = inr (over v w k i lt p.0, p.1)
over_cut edges k v w x i (inr e) (inl b) = inr (straight v k (subst (λ (n : ℕ). Contains (targets edges v) n) e i), subst (λ (n : ℕ). Below edges k n x) e b)
over_cut edges k v w x i (inr e) (inr p) = inr (straight v k (subst (λ (n : ℕ). Contains (targets edges v) n) e i), p.1)

cut_path : (edges : List (List ℕ)) (k v x : ℕ) → Below edges (suc k) v x → Below edges k v x ⊎ (Below edges k v k × Below edges k k x)
cut_path edges k v x (straight a b i) = inl (straight v x i)
cut_path edges k v x (over a b c i lt more) = over_cut edges k v b x i (place_by b k (nat_lt b k) refl lt) (cut_path edges k b x more)

-- what is so is told
complete : (edges : List (List ℕ)) (k v x : ℕ) → Below edges k v x → through edges k v x ≡ true
unfolding is_in through
complete edges zero v x (straight a b i) = found_at x (targets edges v) i.0 i.1 i.2
complete edges zero v x (over a b c i lt more) = absurd (omega (arith, lt))
complete edges (suc k) v x b = elim (cut_path edges k v x b) [
  | inl p ↦ or_left (through edges k v x) (through edges k v k && through edges k k x) (complete edges k v x p)
  | inr p ↦ or_right (through edges k v x) (through edges k v k && through edges k k x) (both_and (through edges k v k) (through edges k k x) (complete edges k v k p.0) (complete edges k k x p.1))
]

-- ---- all nodes of a graph are below its length

no_target : (w : ℕ) → Contains [] w → ⊥
no_target w c = omega (arith, c.1)

place_of : (v n : ℕ) (b : Bool) → nat_lt v n ≡ b → (v < n) ⊎ (n ≤ v)
place_of v n true t = inl (grind (arith, nat_tests))
place_of v n false t = inr (grind (arith, nat_tests))

target_below : (edges : List (List ℕ)) (v w : ℕ) → IsGraph edges → Contains (targets edges v) w → w < length edges
target_below edges v w graph i = elim (place_of v (length edges) (nat_lt v (length edges)) refl) [
  | inl less ↦ All-contains (λ x. x < length edges) (targets edges v) w (targets_within edges v graph less) i
  | inr far ↦ absurd (no_target w (subst (λ ws. Contains ws w) (get_or_past edges v [] far) i))
]

bounded : (edges : List (List ℕ)) (v x : ℕ) → IsGraph edges → Reaches edges v x → Below edges (length edges) v x
bounded edges v x graph (edge a b i) = straight v x i
bounded edges v x graph (along a b c i more) = over v b x i (target_below edges v b graph i) (bounded edges b x graph more)

-- which of a layout's files win over which
pub wins_exist : (layout : Layout) → (wins : Wins) × AreWins layout wins
wins_exist layout =
    let edges = own_imports layout.imports in (
      through edges (length edges),
      λ f g. (sound edges (length edges) f g, λ r. complete edges (length edges) f g (bounded edges f g (graph_of layout.imports edges refl) r)),
    )
