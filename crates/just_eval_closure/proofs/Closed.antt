-- Visits that aren't refused list the closure, and its nodes are well formed.
use Rattle.std.proofs.Common.{◌≡◌, ℕ, zero, suc, ◌+◌, ◌<◌, ◌≤◌, true, false, not, cond, List, [], ◌∷◌, length, Option, Some, None, option_map, refl, ap, sym, ◌∙◌, subst, arith, slice_get}
use Rattle.std.specs.List.{All, Contains}
use Rattle.just_lang_types.specs.declared.key.Key.{Key}
use Rattle.just_lang_types.specs.declared.node.Node.{Node}
use Rattle.just_lang_types.specs.declared.place.Place.{Place}
use Rattle.just_eval_closure.specs.Places.{place, is_place, number_of, numbers_of, node_of, nodes_from, IsMember, IsClosure}
use Rattle.just_eval_closure.specs.Visits.{Around, priors_by, subsequents_by, Visits}
use Rattle.just_eval_closure.specs.WellFormed.{round_at, IsUsed, IsWellFormed}
use Rattle.just_eval_closure.proofs.Grown.{IsPlaced, IsFresh, outer, inner, reached, grown_walk, none_some, true_false}
use Rattle.just_eval_closure.proofs.Places.{At, Has, is_place_is, is_place_self, some_is}
use Rattle.just_eval_closure.proofs.Reaches.{FromAny, from, reach_member}
use Rattle.just_eval_closure.proofs.Items.{In, in_all, in_map, map_in, in_contains, contains_in}

-- ## The least set

-- one number is some number
some_number : (x y : ℕ) → Some x ≡ Some y → x ≡ y
some_number x y e = cc

-- on the command line a round is named by a place before it
first_round : {Root : Key → Type 0} {n : ℕ} {x : Place} → IsFresh None Root 0 n x → (m : ℕ) → x.round ≡ Some m → m < n
first_round (outer e root) m is = absurd (none_some m (sym e ∙ is))
first_round (inner j e h lt) m is = let same : j ≡ m = some_number j m (sym e ∙ is) in omega (arith, same, lt)

-- a key that is reached is a member
root_member : (p s : Key → List Key) (keys : List Key) (list : List Place) (k : Key) → FromAny p keys k → IsMember p s keys list None k
root_member p s keys list k (from q i reach) = reach_member p s keys list None q k (IsMember.invoked q (in_contains keys q i)) reach

-- a member is listed
has_member : (p s : Key → List Key) (keys : List Key) (list : List Place) → ((q : Key) → In q keys → Has list None q) → ((n : ℕ) (x : Place) → At list n x → IsPlaced p s list n x) → (r : Option ℕ) (k : Key) → IsMember p s keys list r k → Has list r k
has_member p s keys list first made r k (IsMember.invoked a c) = first a (contains_in keys a c)
has_member p s keys list first made r k (IsMember.prior t a q member c) =
    let n = has_member p s keys list first made t a member in
    let m = (made n.0 (place t a) n.1).priors q (contains_in (p a) q c) in (m.0, m.2)
has_member p s keys list first made r k (IsMember.subsequent n t a q member stands c) =
    let m = (made n (place t a) stands).subsequents q (contains_in (s a) q c) in (m.0, m.2)

-- visits that aren't refused list the closure
pub is_closure : (around : Key → Around) (keys : List Key) (list : List Place) → Visits around (reached []) None keys (reached list) → IsClosure (priors_by around) (subsequents_by around) keys list
is_closure around keys list visits =
    let p = priors_by around in
    let s = subsequents_by around in
    let walked = grown_walk around keys list visits in
    let grown = walked.0 in
    record {
      all = λ r k member. has_member p s keys list walked.1 (λ i x at. grown.made i x (omega arith) at) r k member;
      only = λ i x at. grown.member keys list (λ j y h. h) (λ k root. root_member p s keys list k root) i x (omega arith) at;
      once = λ i j x at bt. grown.distinct i j x (omega arith) at bt;
      priors = λ i x at q c. (grown.made i x (omega arith) at).priors q (contains_in (p x.key) q c);
      subsequents = λ i x at q c. (grown.made i x (omega arith) at).subsequents q (contains_in (s x.key) q c);
      rounds = λ i m x at e. first_round (grown.fresh i x (omega arith) at) m e;
    }

-- ## Numbers

-- one more
plus_one : (n : ℕ) → 1 + n ≡ suc n
plus_one n = omega arith

-- none more
zero_plus : (n : ℕ) → 0 + n ≡ n
zero_plus n = omega arith

-- the number of the key at the front is 0
number_true : (x : Place) (xs : List Place) (r : Option ℕ) (k : Key) → is_place r k x ≡ true → number_of (x ∷ xs) r k ≡ 0
number_true x xs r k e = ap (λ b. cond (not b) (1 + number_of xs r k) 0) e

-- the number of another key is one more behind the front
number_false : (x : Place) (xs : List Place) (r : Option ℕ) (k : Key) → is_place r k x ≡ false → number_of (x ∷ xs) r k ≡ suc (number_of xs r k)
number_false x xs r k e = ap (λ b. cond (not b) (1 + number_of xs r k) 0) e ∙ plus_one (number_of xs r k)

-- the number of a key behind the front is the first of its places
number_behind : (x : Place) (xs : List Place) (r : Option ℕ) (k : Key) (m : ℕ) → ((i : ℕ) → At xs i (place r k) → (number_of xs r k ≤ i) × At xs (number_of xs r k) (place r k)) → is_place r k x ≡ false → At (x ∷ xs) m (place r k) → (suc (number_of xs r k) ≤ m) × At xs (number_of xs r k) (place r k)
number_behind x xs r k zero rest e h =
    absurd (true_false (sym (is_place_self r k) ∙ ap (λ y. is_place r k y) (sym (some_is x (place r k) h)) ∙ e))
number_behind x xs r k (suc m) rest e h = let there = rest m h in (omega (arith, there.0), there.1)

-- the number of a key is the first of its places
pub number_at : (list : List Place) (r : Option ℕ) (k : Key) (m : ℕ) → At list m (place r k) → (number_of list r k ≤ m) × At list (number_of list r k) (place r k)
number_at [] r k m h = absurd (cc)
number_at (x ∷ xs) r k m h =
    elim (is_place r k x) as (λ b. is_place r k x ≡ b → (number_of (x ∷ xs) r k ≤ m) × At (x ∷ xs) (number_of (x ∷ xs) r k) (place r k)) [
      | true ↦ λ e. subst (λ n. (n ≤ m) × At (x ∷ xs) n (place r k)) (sym (number_true x xs r k e)) (omega arith, ap (λ y. Some y) (is_place_is r k x e))
      | false ↦ λ e. subst (λ n. (n ≤ m) × At (x ∷ xs) n (place r k)) (sym (number_false x xs r k e)) (number_behind x xs r k m (number_at xs r k) e h)
    ] refl

-- ## Nodes

-- there is a node for each place
pub nodes_length : (p s : Key → List Key) (list : List Place) (n : ℕ) (xs : List Place) → length (nodes_from p s list n xs) ≡ length xs
nodes_length p s list n [] = refl
nodes_length p s list n (x ∷ xs) = ap (λ i. suc i) (nodes_length p s list (suc n) xs)

-- the node of a number is that of its place
nodes_get : (p s : Key → List Key) (list : List Place) (n : ℕ) (xs : List Place) (i : ℕ) → slice_get (nodes_from p s list n xs) i ≡ option_map (node_of p s list (n + i)) (slice_get xs i)
nodes_get p s list n [] i = refl
nodes_get p s list n (x ∷ xs) zero = ap (λ m. Some (node_of p s list m x)) (omega arith)
nodes_get p s list n (x ∷ xs) (suc i) = nodes_get p s list (suc n) xs i ∙ ap (λ m. option_map (node_of p s list m) (slice_get xs i)) (omega arith)

-- the node at a place
pub node_there : (p s : Key → List Key) (list : List Place) (n : ℕ) (y : Place) → At list n y → slice_get (nodes_from p s list 0 list) n ≡ Some (node_of p s list n y)
node_there p s list n y at = nodes_get p s list 0 list n ∙ ap (λ m. option_map (node_of p s list m) (slice_get list n)) (zero_plus n) ∙ ap (λ o. option_map (node_of p s list n) o) at

-- nothing is no node
nothing_is : (x : Node) → None ≡ Some x → ⊥
nothing_is x e = absurd (cc)

-- one node has a number
node_is : (x y : Node) → Some x ≡ Some y → x ≡ y
node_is x y e = cc

-- each node is that of a place
node_from : (p s : Key → List Key) (list : List Place) (n : ℕ) (x : Node) (o : Option Place) → slice_get list n ≡ o → slice_get (nodes_from p s list 0 list) n ≡ Some x → (y : Place) × At list n y × (x ≡ node_of p s list n y)
node_from p s list n x None e h =
    absurd (nothing_is x (sym (nodes_get p s list 0 list n ∙ ap (λ o. option_map (node_of p s list (0 + n)) o) e) ∙ h))
node_from p s list n x (Some y) e h = (y, e, node_is x (node_of p s list n y) (sym h ∙ node_there p s list n y e))

-- the round of a node is that of its place
pub round_there : (p s : Key → List Key) (list : List Place) (r : Option ℕ) (k : Key) (n : ℕ) → At list n (place r k) → round_at (nodes_from p s list 0 list) n ≡ Some r
round_there p s list r k n at = ap (λ o. option_map (λ x. x.round) o) (node_there p s list n (place r k) at)

-- the number of one of some keys is one of their numbers
in_numbers : (list : List Place) (r : Option ℕ) (keys : List Key) (k : Key) (n : ℕ) → In k keys → number_of list r k ≡ n → Contains (numbers_of list r keys) n
in_numbers list r keys k n i e = in_contains (numbers_of list r keys) n (map_in (λ q. number_of list r q) keys k n i e)

-- each member is a node that something asks for
used_by : (p s : Key → List Key) (keys : List Key) (list : List Place) → IsClosure p s keys list → (r : Option ℕ) (k : Key) → IsMember p s keys list r k → (n : ℕ) → At list n (place r k) → IsUsed (nodes_from p s list 0 list) (numbers_of list None keys) n
used_by p s keys list closed r k (IsMember.invoked a c) n at =
    IsUsed.invoked (in_numbers list None keys a n (contains_in keys a c) (closed.once n (number_of list None a) (place None a) at (number_at list None a n at).1))
used_by p s keys list closed r k (IsMember.prior t a q member c) n at =
    let m = closed.all t a member in
    IsUsed.prior m.0 (node_of p s list m.0 (place t a)) (node_there p s list m.0 (place t a) m.1) (in_numbers list t (p a) q n (contains_in (p a) q c) (closed.once n (number_of list t q) (place t q) at (number_at list t q n at).1))
used_by p s keys list closed r k (IsMember.subsequent m t a q member stands c) n at =
    IsUsed.subsequent m (node_of p s list m (place t a)) (node_there p s list m (place t a) stands) (in_numbers list (Some m) (s a) q n (contains_in (s a) q c) (closed.once n (number_of list (Some m) q) (place (Some m) q) at (number_at list (Some m) q n at).1))

-- the priors of a node stand before it, in its round
priors_stand : (p s : Key → List Key) (keys : List Key) (list : List Place) → IsClosure p s keys list → (n : ℕ) (y : Place) → At list n y → All (λ m. (m < n) × (round_at (nodes_from p s list 0 list) m ≡ Some y.round)) (numbers_of list y.round (p y.key))
priors_stand p s keys list closed n y at =
    in_all (λ m. (m < n) × (round_at (nodes_from p s list 0 list) m ≡ Some y.round)) (numbers_of list y.round (p y.key)) (λ m i.
    let q = in_map (λ k. number_of list y.round k) (p y.key) m i in
    let before = closed.priors n y at q.0 (in_contains (p y.key) q.0 q.1) in
    let first = number_at list y.round q.0 before.0 before.2 in
    subst (λ j. (j < n) × (round_at (nodes_from p s list 0 list) j ≡ Some y.round)) q.2 (omega (arith, first.0, before.1), round_there p s list y.round q.0 (number_of list y.round q.0) first.1))

-- its subsequents stand behind it, in the round that it names
subsequents_stand : (p s : Key → List Key) (keys : List Key) (list : List Place) → IsClosure p s keys list → (n : ℕ) (y : Place) → At list n y → All (λ m. (n < m) × (round_at (nodes_from p s list 0 list) m ≡ Some (Some n))) (numbers_of list (Some n) (s y.key))
subsequents_stand p s keys list closed n y at =
    in_all (λ m. (n < m) × (round_at (nodes_from p s list 0 list) m ≡ Some (Some n))) (numbers_of list (Some n) (s y.key)) (λ m i.
    let q = in_map (λ k. number_of list (Some n) k) (s y.key) m i in
    let behind = closed.subsequents n y at q.0 (in_contains (s y.key) q.0 q.1) in
    let first = number_at list (Some n) q.0 behind.0 behind.2 in
    subst (λ j. (n < j) × (round_at (nodes_from p s list 0 list) j ≡ Some (Some n))) q.2 (closed.rounds (number_of list (Some n) q.0) n (place (Some n) q.0) first.1 refl, round_there p s list (Some n) q.0 (number_of list (Some n) q.0) first.1))

-- the invocations are nodes of no round
invoked_stand : (p s : Key → List Key) (keys : List Key) (list : List Place) → IsClosure p s keys list → All (λ m. round_at (nodes_from p s list 0 list) m ≡ Some None) (numbers_of list None keys)
invoked_stand p s keys list closed =
    in_all (λ m. round_at (nodes_from p s list 0 list) m ≡ Some None) (numbers_of list None keys) (λ m i.
    let q = in_map (λ k. number_of list None k) keys m i in
    let there = closed.all None q.0 (IsMember.invoked q.0 (in_contains keys q.0 q.1)) in
    subst (λ j. round_at (nodes_from p s list 0 list) j ≡ Some None) q.2 (round_there p s list None q.0 (number_of list None q.0) (number_at list None q.0 there.0 there.1).1))

-- the nodes of a closure are in order
pub well_formed : (p s : Key → List Key) (keys : List Key) (list : List Place) → IsClosure p s keys list → IsWellFormed (nodes_from p s list 0 list) (numbers_of list None keys)
well_formed p s keys list closed =
    let nodes : List Node = nodes_from p s list 0 list in
    record {
      invocations_are = invoked_stand p s keys list closed;
      priors_are = λ n x h. let y = node_from p s list n x (slice_get list n) refl h in subst (λ z. All (λ m. (m < n) × (round_at nodes m ≡ Some z.round)) z.priors) (sym y.2) (priors_stand p s keys list closed n y.0 y.1);
      subsequents_are = λ n x h. let y = node_from p s list n x (slice_get list n) refl h in subst (λ z. All (λ m. (n < m) × (round_at nodes m ≡ Some (Some n))) z.subsequents) (sym y.2) (subsequents_stand p s keys list closed n y.0 y.1);
      rounds_are = λ n m x h e. let y = node_from p s list n x (slice_get list n) refl h in closed.rounds n m y.0 y.1 (sym (ap (λ z. z.round) y.2) ∙ e);
      used = λ n x h. let y = node_from p s list n x (slice_get list n) refl h in used_by p s keys list closed y.0.round y.0.key (closed.only n y.0 y.1) n y.1;
      distinct = λ n m x z h g er ek.
          let a = node_from p s list n x (slice_get list n) refl h in
          let b = node_from p s list m z (slice_get list m) refl g in
          let same_r : b.0.round ≡ a.0.round = sym (ap (λ y. y.round) b.2) ∙ sym er ∙ ap (λ y. y.round) a.2 in
          let same_k : b.0.key ≡ a.0.key = sym (ap (λ y. y.key) b.2) ∙ sym ek ∙ ap (λ y. y.key) a.2 in
          let same : b.0 ≡ a.0 = ap (λ r. place r b.0.key) same_r ∙ ap (λ k. place a.0.round k) same_k in
          closed.once m n a.0 (subst (λ y. At list m y) same b.1) a.1;
    }
