-- What was seen of a node's cache, behind one event more.
use Rattle.std.proofs.Common.{◌≡◌, ℕ, ◌==◌, ◌||◌, Bool, true, false, if◌then◌else◌, List, [], ◌∷◌, ◌++◌, Option, Some, None, is_some, filter_map, refl, ap, sym, ◌∙◌, eqb-true, eq-eqb}
use Rattle.std.specs.List.{cons_option}
use Rattle.just_host_record.specs.declared.entry.Look.{Look}
use Rattle.just_sched_history.specs.declared.event.Event.{Event}
use Rattle.just_sched_history.specs.declared.event.Event.TheVariants as event
use Rattle.just_sched_history.specs.declared.plan_node.PlanNode.{PlanNode}
use Rattle.just_sched_history.specs.Cached.{looks, saves, look_of, is_looked_at, is_saved, seen_at, full_in, saw_full}
use Rattle.just_sched_history.specs.State.{is_of, first}
use Rattle.just_sched_history.proofs.Tests.{any_none, first_cons, first_kept, first_none, list_more, list_none}

-- a look that is there, by the first event
looked_at : (b c : Bool) (x : List (List ℕ) × Look) (xs : List (List (List ℕ) × Look)) → is_some (first xs) ≡ c → is_some (first (cons_option (if b then Some x else None) xs)) ≡ (b || c)
looked_at true c x xs e = refl
looked_at false c x xs e = e

-- a node was looked at where something was seen
pub looked_seen : (h : List Event) (n : ℕ) → is_some (seen_at h n) ≡ is_looked_at h n
looked_seen [] n = refl
looked_seen (event.Looked m sums seen ∷ h) n = looked_at (m == n) (is_looked_at h n) (sums, seen) (filter_map (look_of n) h) (looked_seen h n)
looked_seen (_ ∷ h) n = looked_seen h n

-- what is seen full is there
full_some : (nodes : List PlanNode) (n : ℕ) (o : Option (List (List ℕ) × Look)) → full_in nodes n o ≡ true → is_some o ≡ true
full_some nodes n None q = absurd (cc)
full_some nodes n (Some x) q = refl

-- a full look is a look
pub full_looked : (nodes : List PlanNode) (h : List Event) (n : ℕ) → saw_full nodes h n ≡ true → is_looked_at h n ≡ true
full_looked nodes h n q = sym (looked_seen h n) ∙ full_some nodes n (seen_at h n) q

-- an event that is no look of the node has nothing that was seen of it
pub unseen : (n : ℕ) (e : Event) → looks n e ≡ false → look_of n e ≡ None
unseen n (event.Looked m sums seen) q = ap (λ b. if b then Some (sums, seen) else None) q
unseen n _ q = refl

-- an event of another node is no look of this one
pub looked_of : (n : ℕ) (e : Event) → is_of n e ≡ false → looks n e ≡ false
looked_of n (event.Looked m sums seen) o = o
looked_of n _ o = refl

-- and saves nothing of it
pub saved_of : (n : ℕ) (e : Event) → is_of n e ≡ false → saves n e ≡ false
saved_of n (event.Saved m) o = o
saved_of n _ o = refl

-- what was seen stays; where nothing was, it is what the event saw
pub seen_kept : (h : List Event) (e : Event) (n : ℕ) (x : List (List ℕ) × Look) → seen_at h n ≡ Some x → seen_at (h ++ e ∷ []) n ≡ Some x
seen_kept h e n x q = ap first (list_more (look_of n) h e) ∙ first_kept (filter_map (look_of n) h) _ x q

pub seen_new : (h : List Event) (e : Event) (n : ℕ) → seen_at h n ≡ None → seen_at (h ++ e ∷ []) n ≡ look_of n e
seen_new h e n q = ap first (list_more (look_of n) h e) ∙ first_none (filter_map (look_of n) h) _ q ∙ first_cons (look_of n e)

-- an event that saw nothing of it leaves what was seen
pub seen_stays : (h : List Event) (e : Event) (n : ℕ) → look_of n e ≡ None → seen_at (h ++ e ∷ []) n ≡ seen_at h n
seen_stays h e n q = ap first (list_none (look_of n) h e q)

pub full_stays : (nodes : List PlanNode) (h : List Event) (e : Event) (n : ℕ) → looks n e ≡ false → saw_full nodes (h ++ e ∷ []) n ≡ saw_full nodes h n
full_stays nodes h e n q = ap (full_in nodes n) (seen_stays h e n (unseen n e q))

pub looked_stays : (h : List Event) (e : Event) (n : ℕ) → looks n e ≡ false → is_looked_at (h ++ e ∷ []) n ≡ is_looked_at h n
looked_stays h e n q = any_none (looks n) h e q

pub saved_stays : (h : List Event) (e : Event) (n : ℕ) → saves n e ≡ false → is_saved (h ++ e ∷ []) n ≡ is_saved h n
saved_stays h e n q = any_none (saves n) h e q

-- what a look of the node saw
pub look_sees : (n : ℕ) (sums : List (List ℕ)) (seen : Look) → look_of n (event.Looked n sums seen) ≡ Some (sums, seen)
look_sees n sums seen = ap (λ b. if b then Some (sums, seen) else None) (eq-eqb n n refl)

-- the pair that is there, or another
abbrev seen_or : List (List ℕ) × Look → Option (List (List ℕ) × Look) → List (List ℕ) × Look
seen_or other (Some x) = x
seen_or other None = other

-- a look of the node, by a test
look_is_at : (n m : ℕ) (sums : List (List ℕ)) (seen : Look) (x : List (List ℕ) × Look) (b : Bool) → (m == n) ≡ b → (if b then Some (sums, seen) else None) ≡ Some x → event.Looked m sums seen ≡ event.Looked n x.0 x.1
look_is_at n m sums seen x true same q =
    ap (λ k. event.Looked k sums seen) (eqb-true m n same) ∙ ap (λ (y : List (List ℕ) × Look). event.Looked n y.0 y.1) (ap (λ o. seen_or x o) q)
look_is_at n m sums seen x false same q = absurd (cc)

-- an event that saw something of a node is its look
pub look_is : (n : ℕ) (e : Event) (x : List (List ℕ) × Look) → look_of n e ≡ Some x → e ≡ event.Looked n x.0 x.1
look_is n (event.Looked m sums seen) x q = look_is_at n m sums seen x (m == n) refl q
look_is n _ x q = absurd (cc)

-- nothing seen is nothing looked at, and the other way round
pub unlooked_unseen_at : (o : Option (List (List ℕ) × Look)) → is_some o ≡ false → o ≡ None
unlooked_unseen_at None q = refl
unlooked_unseen_at (Some x) q = absurd (cc)

pub unlooked_unseen : (h : List Event) (n : ℕ) → is_looked_at h n ≡ false → seen_at h n ≡ None
unlooked_unseen h n q = unlooked_unseen_at (seen_at h n) (looked_seen h n ∙ q)
