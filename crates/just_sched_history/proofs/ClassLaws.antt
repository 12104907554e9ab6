-- Laws of the classes of nodes: their numbers, and which have an open body.
use Rattle.std.proofs.Common.{◌≡◌, ℕ, zero, suc, ◌+◌, ◌<◌, ◌≤◌, ◌==◌, ◌&&◌, ◌||◌, not, Bool, true, false, if◌then◌else◌, cond, List, [], ◌∷◌, ◌++◌, length, length-append, set, get_or, get_or-set_same, get_or-set_other, slice_get, Option, Some, None, option_map, bytes_eq, true≢false, ⊎_elim, refl, ap, ap₂, sym, ◌∙◌, subst, arith, eqb-true, eq-eqb, ne_eqb}
use Rattle.std.specs.List.{list_any, range_with_len}
use denote.Ref.{Bor}
use Rattle.std.specs.HashMap.{HashMap, Updates}
use Rattle.std.proofs.Math.ListN.{get_or-append, replicate}
use Rattle.std.proofs.Math.Seq.{get_or-append_seam}
use Rattle.std.proofs.lemmas.Option.{slice_get_within}
use Rattle.std.proofs.Math.Bool.{Bool-set}
use Rattle.std.proofs.Math.Logic.{∥∥₁_elim}
use Rattle.just_lang_spots.proofs.Seen.{text_eq}
use Rattle.just_lang_spots.proofs.Tables.{query}
use Rattle.std.proofs.lemmas.Slice.Eq.{bytes_eq-Decides}
use Rattle.just_sched_history.specs.declared.cache_plan.CachePlan.{CachePlan}
use Rattle.just_sched_history.specs.declared.event.Event.{Event}
use Rattle.just_sched_history.specs.declared.event.Event.TheVariants as event
use Rattle.just_sched_history.specs.declared.plan_node.PlanNode.{PlanNode}
use Rattle.just_sched_history.specs.Cached.{same_class, are_one_class, class_is_open}
use Rattle.just_sched_history.specs.Classes.{class_of, AreClasses, AreOpen, Numbers, KeepsClasses, IsShift, some_or, number_in}
use Rattle.just_sched_history.specs.Legal.{Run, IsClosed}
use Rattle.just_sched_history.specs.Nodes.{cache_in, cache_at}
use Rattle.just_sched_history.specs.State.{takes, gives, has_taken, has_given, is_open}
use Rattle.just_sched_history.specs.Tables.{flag}
use Rattle.just_sched_history.proofs.Due.{is_opened}
use Rattle.just_sched_history.proofs.OneMore.{is_open_stays}
use Rattle.just_sched_history.proofs.RowLaws.{same_or}
use Rattle.just_sched_history.proofs.Tests.{all_both, and_false, any_none, any_now, both, or_true}

-- ---- tests of numbers in a row

-- a number that passes is one of them, by the first
any_in_at : (p : ℕ → Bool) (a n : ℕ) (b : Bool) → p a ≡ b → (b || list_any p (range_with_len (a + 1) n)) ≡ true → (list_any p (range_with_len (a + 1) n) ≡ true → (k : ℕ) × (a + 1 ≤ k) × (k < a + 1 + n) × (p k ≡ true)) → (k : ℕ) × (a ≤ k) × (k < a + suc n) × (p k ≡ true)
any_in_at p a n true here q rest = (a, omega arith, omega arith, here)
any_in_at p a n false here q rest = let r = rest q in (r.0, omega (arith, r.1), omega (arith, r.2), r.3)

-- a number that passes is one of them
pub any_in : (p : ℕ → Bool) (a n : ℕ) → list_any p (range_with_len a n) ≡ true → (k : ℕ) × (a ≤ k) × (k < a + n) × (p k ≡ true)
any_in p a zero q = absurd (cc)
any_in p a (suc n) q = any_in_at p a n (p a) refl q (λ rest. any_in p (a + 1) n rest)

-- one of them that passes is enough
pub any_of : (p : ℕ → Bool) (a n k : ℕ) → a ≤ k → k < a + n → p k ≡ true → list_any p (range_with_len a n) ≡ true
any_of p a zero k low high q = absurd (omega (arith, low, high))
any_of p a (suc n) k low high q =
    ⊎_elim (λ (same : k ≡ a). ap (λ b. b || list_any p (range_with_len (a + 1) n)) (subst (λ j. p j ≡ true) same q))
    (λ (other : k ≡ a → ⊥). ap (λ b. p a || b) (any_of p (a + 1) n k (omega (arith, low, other)) (omega (arith, high)) q) ∙ or_true (p a))
    (same_or k a)

-- where none passes, none does
pub none_of : (p : ℕ → Bool) (a n : ℕ) → ((k : ℕ) → a ≤ k → k < a + n → p k ≡ false) → list_any p (range_with_len a n) ≡ false
none_of p a zero each = refl
none_of p a (suc n) each =
    ap₂ (λ b c. b || c) (each a (omega arith) (omega arith)) (none_of p (a + 1) n (λ k low high. each k (omega (arith, low)) (omega (arith, high))))

-- two tests each of which gives the other are one
pub same_truth : (a b : Bool) → (a ≡ true → b ≡ true) → (b ≡ true → a ≡ true) → a ≡ b
same_truth true b f g = sym (f refl)
same_truth false true f g = g refl
same_truth false false f g = refl

-- ---- classes

-- what is there is one thing, and not nothing
some_one : {A : Type 0} (o : Option A) (x y : A) → o ≡ Some x → o ≡ Some y → x ≡ y
some_one o x y p q = some_same x y (sym p ∙ q)
  where
    some_same : {A : Type 0} (x y : A) → ◌≡◌ {A = Option A} (Some x) (Some y) → x ≡ y
    some_same x y e = cc

some_none : {A : Type 0} (o : Option A) (x : A) → o ≡ Some x → o ≡ None → ⊥
some_none o x p q = clash x (sym p ∙ q)
  where
    clash : {A : Type 0} (x : A) → ◌≡◌ {A = Option A} (Some x) None → ⊥
    clash x e = cc

-- caches of one class have equal texts
same_texts : (a b : Option CachePlan) (c d : CachePlan) → a ≡ Some c → b ≡ Some d → same_class a b ≡ true → c.class ≡ d.class
same_texts a b c d p q e = (bytes_eq-Decides c.class d.class).0 (sym (ap₂ same_class p q) ∙ e)

-- and the other way round
texts_same : (a b : Option CachePlan) (c d : CachePlan) → a ≡ Some c → b ≡ Some d → c.class ≡ d.class → same_class a b ≡ true
texts_same a b c d p q e = ap₂ same_class p q ∙ (bytes_eq-Decides c.class d.class).1 e

-- what is of a class has a cache
first_cached : (a b : Option CachePlan) → same_class a b ≡ true → (c : CachePlan) × (a ≡ Some c)
first_cached (Some c) b q = (c, refl)
first_cached None b q = absurd (cc)

second_cached : (a b : Option CachePlan) → same_class a b ≡ true → (c : CachePlan) × (b ≡ Some c)
second_cached (Some c) (Some d) q = (d, refl)
second_cached (Some c) None q = absurd (cc)
second_cached None b q = absurd (cc)

-- being of one class goes both ways
pub class_sym : (nodes : List PlanNode) (m n : ℕ) → are_one_class nodes m n ≡ true → are_one_class nodes n m ≡ true
class_sym nodes m n q =
    let a = first_cached (cache_at nodes m) (cache_at nodes n) q in
    let b = second_cached (cache_at nodes m) (cache_at nodes n) q in
    texts_same (cache_at nodes n) (cache_at nodes m) b.0 a.0 b.1 a.1 (sym (same_texts (cache_at nodes m) (cache_at nodes n) a.0 b.0 a.1 b.1 q))

-- a node with a cache is one of the plan
cached_there_at : (nodes : List PlanNode) (m : ℕ) (c : CachePlan) (o : Option PlanNode) → slice_get nodes m ≡ o → cache_in o ≡ Some c → m < length nodes
cached_there_at nodes m c (Some x) e q = slice_get_within nodes m x e
cached_there_at nodes m c None e q = absurd (cc)

pub cached_there : (nodes : List PlanNode) (m : ℕ) (c : CachePlan) → cache_at nodes m ≡ Some c → m < length nodes
cached_there nodes m c q = cached_there_at nodes m c (slice_get nodes m) refl q

-- where no body is open, no class is
pub class_closed : (s : Run) (h : List Event) (n : ℕ) → IsClosed s h → class_is_open s.nodes h n ≡ false
class_closed s h n closed = none_of (λ m. is_open h m && are_one_class s.nodes m n) 0 (length s.nodes) (λ m low high. ap (λ b. b && are_one_class s.nodes m n) (closed m (omega (arith, high))))

-- an open body of the class of a node opens the class
pub class_opened : (nodes : List PlanNode) (h : List Event) (m n : ℕ) → is_open h m ≡ true → are_one_class nodes m n ≡ true → class_is_open nodes h n ≡ true
class_opened nodes h m n o q =
    let c = first_cached (cache_at nodes m) (cache_at nodes n) q in
    any_of (λ k. is_open h k && are_one_class nodes k n) 0 (length nodes) m (omega arith) (omega (arith, cached_there nodes m c.0 c.1)) (all_both (is_open h m) (are_one_class nodes m n) o q)

-- a class that is told is that of a cache
pub classed : (o : Option CachePlan) (t : List ℕ) → ◌≡◌ {A = Option (List ℕ)} (Some t) (option_map (λ c. c.class) o) → (d : CachePlan) × (o ≡ Some d) × (t ≡ d.class)
classed (Some d) t e = (d, refl, some_one (Some t) t d.class refl e)
classed None t e = absurd (some_none (Some t) t refl e)

-- where none is, there is no cache
pub classless : (o : Option CachePlan) → ◌≡◌ {A = Option (List ℕ)} None (option_map (λ c. c.class) o) → o ≡ None
classless None e = refl
classless (Some d) e = absurd (some_none (Some d.class) d.class refl (sym e))

-- ---- the numbers of classes

-- each node before a place has its number: that of its class, or its own; and each class that is in the map has the number of a node of it
pub record AreNumbered {S : Type 0} (nodes : List PlanNode) (place : ℕ) (classes : List ℕ) (numbers : HashMap (Bor (List ℕ)) ℕ S) : Type 0 where
  pub long : length classes ≡ place
  pub cached : (n : ℕ) (c : CachePlan) → n < place → cache_at nodes n ≡ Some c → number_in numbers c.class ≡ Some (class_of classes n)
  pub alone : (n : ℕ) → n < place → cache_at nodes n ≡ None → class_of classes n ≡ n
  pub there : (name : List ℕ) (k : ℕ) → number_in numbers name ≡ Some k → (k < place) × ((c : CachePlan) × (cache_at nodes k ≡ Some c) × (c.class ≡ name))

-- nothing is numbered yet
pub numbered_none : {S : Type 0} (nodes : List PlanNode) (classes : List ℕ) (numbers : HashMap (Bor (List ℕ)) ℕ S) → classes ≡ [] → ((name : List ℕ) → number_in numbers name ≡ None) → AreNumbered nodes 0 classes numbers
numbered_none nodes classes numbers empty none = record {
  long = ap length empty;
  cached = λ n c lt q. absurd (omega (arith, lt));
  alone = λ n lt q. absurd (omega (arith, lt));
  there = λ name k q. absurd (some_none (number_in numbers name) k q (none name));
}

-- a class number behind others
pushed_before : (classes : List ℕ) (place x n : ℕ) → length classes ≡ place → n < place → class_of (classes ++ x ∷ []) n ≡ class_of classes n
pushed_before classes place x n long lt = get_or-append classes (x ∷ []) 0 n (omega (arith, long, lt))

pushed_here : (classes : List ℕ) (place x : ℕ) → length classes ≡ place → class_of (classes ++ x ∷ []) place ≡ x
pushed_here classes place x long = subst (λ k. get_or (classes ++ x ∷ []) k 0 ≡ x) long (get_or-append_seam classes x [] 0)

-- a node without a cache has its own number
pub numbered_alone : {S : Type 0} (nodes : List PlanNode) (place : ℕ) (classes later : List ℕ) (numbers : HashMap (Bor (List ℕ)) ℕ S) → later ≡ classes ++ place ∷ [] → cache_at nodes place ≡ None → AreNumbered nodes place classes numbers → AreNumbered nodes (place + 1) later numbers
numbered_alone nodes place classes later numbers grew none a = subst (λ l. AreNumbered nodes (place + 1) l numbers) (sym grew) (record {
  long = length-append classes (place ∷ []) ∙ omega (arith, a.long);
  cached = λ n c lt q.
      ⊎_elim (λ (same : n ≡ place). absurd (some_none (cache_at nodes place) c (subst (λ k. cache_at nodes k ≡ Some c) same q) none))
      (λ (other : n ≡ place → ⊥). a.cached n c (omega (arith, lt, other)) q ∙ ap (λ k. Some k) (sym (pushed_before classes place place n a.long (omega (arith, lt, other)))))
      (same_or n place);
  alone = λ n lt q.
      ⊎_elim (λ (same : n ≡ place). subst (λ k. class_of (classes ++ place ∷ []) k ≡ k) (sym same) (pushed_here classes place place a.long))
      (λ (other : n ≡ place → ⊥). pushed_before classes place place n a.long (omega (arith, lt, other)) ∙ a.alone n (omega (arith, lt, other)) q)
      (same_or n place);
  there = λ name k q. let t = a.there name k q in (omega (arith, t.0), t.1);
})

-- the number of a class, where it has one, is that of a node before the place; else it is the place
module _ {S : Type 0} (nodes : List PlanNode) (place number : ℕ) (d : CachePlan) (classes : List ℕ) (old new : HashMap (Bor (List ℕ)) ℕ S) (at : cache_at nodes place ≡ Some d) (a : AreNumbered nodes place classes old) (step : Numbers d.class place number old new) where
  -- in the map as it is now, the class has its number
  now_has : number_in new d.class ≡ Some number
  now_has = step.1 d.class ∙ ap (λ b. if b then Some number else number_in old d.class) ((bytes_eq-Decides d.class d.class).1 refl)

  -- what the map had before, it has
  kept : (name : List ℕ) (k : ℕ) → number_in old name ≡ Some k → number_in new name ≡ Some k
  kept name k q = kept_at (bytes_eq d.class name) refl
    where
      kept_at : (b : Bool) → bytes_eq d.class name ≡ b → number_in new name ≡ Some k
      kept_at true e =
          let was = subst (λ t. number_in old t ≡ Some k) (sym ((bytes_eq-Decides d.class name).0 e)) q in
          step.1 name ∙ ap (λ b. if b then Some number else number_in old name) e ∙ ap (λ o. Some o) (step.0 ∙ ap (λ o. some_or o place) was)
      kept_at false e = step.1 name ∙ ap (λ b. if b then Some number else number_in old name) e ∙ q

  -- what it has now, it had, or it is the number of the class
  came : (name : List ℕ) (k : ℕ) → number_in new name ≡ Some k → (b : Bool) → bytes_eq d.class name ≡ b → (o : Option ℕ) → number_in old d.class ≡ o → (k < place + 1) × ((c : CachePlan) × (cache_at nodes k ≡ Some c) × (c.class ≡ name))
  came name k q false e o w = let t = a.there name k (sym (ap (λ b. if b then Some number else number_in old name) e) ∙ sym (step.1 name) ∙ q) in (omega (arith, t.0), t.1)
  came name k q true e (Some j) w =
      let is : j ≡ k = cc (sym (ap (λ o. some_or o place) w) ∙ sym step.0, sym (ap (λ b. if b then Some number else number_in old name) e) ∙ sym (step.1 name) ∙ q) in
      let t = a.there d.class k (w ∙ ap (λ x. Some x) is) in
      (omega (arith, t.0), (t.1.0, t.1.1, t.1.2 ∙ (bytes_eq-Decides d.class name).0 e))
  came name k q true e None w =
      let is : place ≡ k = cc (sym (ap (λ o. some_or o place) w) ∙ sym step.0, sym (ap (λ b. if b then Some number else number_in old name) e) ∙ sym (step.1 name) ∙ q) in
      (omega (arith, is), (d, subst (λ j. cache_at nodes j ≡ Some d) is at, (bytes_eq-Decides d.class name).0 e))

  pub numbered_cached : (later : List ℕ) → later ≡ classes ++ number ∷ [] → AreNumbered nodes (place + 1) later new
  numbered_cached later grew = subst (λ l. AreNumbered nodes (place + 1) l new) (sym grew) (record {
    long = length-append classes (number ∷ []) ∙ omega (arith, a.long);
    cached = λ n c lt q.
        ⊎_elim (λ (same : n ≡ place).
        let is : d.class ≡ c.class = ap (λ x. x.class) (some_one (cache_at nodes place) d c at (subst (λ k. cache_at nodes k ≡ Some c) same q)) in
        subst (λ t. number_in new t ≡ Some (class_of (classes ++ number ∷ []) n)) is (now_has ∙ ap (λ k. Some k) (sym (subst (λ k. class_of (classes ++ number ∷ []) k ≡ number) (sym same) (pushed_here classes place number a.long)))))
        (λ (other : n ≡ place → ⊥). kept c.class (class_of (classes ++ number ∷ []) n) (a.cached n c (omega (arith, lt, other)) q ∙ ap (λ k. Some k) (sym (pushed_before classes place number n a.long (omega (arith, lt, other))))))
        (same_or n place);
    alone = λ n lt q.
        ⊎_elim (λ (same : n ≡ place). absurd (some_none (cache_at nodes place) d at (subst (λ k. cache_at nodes k ≡ None) same q)))
        (λ (other : n ≡ place → ⊥). pushed_before classes place number n a.long (omega (arith, lt, other)) ∙ a.alone n (omega (arith, lt, other)) q)
        (same_or n place);
    there = λ name k q. came name k q (bytes_eq d.class name) refl (number_in old d.class) refl;
  })

-- a table after one more number
pub number_put : {S : Type 0} (class : Bor (List ℕ)) (number : ℕ) (old new : HashMap (Bor (List ℕ)) ℕ S) → Updates text_eq old new class (Some number) → (name : List ℕ)
    → number_in new name ≡ (if bytes_eq class.now name then Some number else number_in old name)
number_put class number old new updates name = updates.0 (query name)

-- a class that has a number has it again
pub number_again : {S : Type 0} (class : Bor (List ℕ)) (next number : ℕ) (old put new : HashMap (Bor (List ℕ)) ℕ S) → number_in old class.now ≡ Some number → Updates text_eq old put class (Some next) → Updates text_eq put new class (Some number)
    → Numbers class.now next number old new
number_again class next number old put new was once again = (
  sym (ap (λ o. some_or o next) was),
  λ name.
      number_put class number put new again name ∙ ap (λ o. if bytes_eq class.now name then Some number else o) (number_put class next old put once name)
      ∙ twice (bytes_eq class.now name) (Some number) (Some next) (number_in old name),
)
  where
    twice : (b : Bool) (x y z : Option ℕ) → cond b x (cond b y z) ≡ cond b x z
    twice true x y z = refl
    twice false x y z = refl

-- one that has none gets the next
pub number_new : {S : Type 0} (class : Bor (List ℕ)) (next : ℕ) (old new : HashMap (Bor (List ℕ)) ℕ S) → number_in old class.now ≡ None → Updates text_eq old new class (Some next) → Numbers class.now next next old new
number_new class next old new none updates = (sym (ap (λ o. some_or o next) none), number_put class next old new updates)

-- all nodes are numbered
module _ {S : Type 0} (nodes : List PlanNode) (place : ℕ) (classes : List ℕ) (numbers : HashMap (Bor (List ℕ)) ℕ S) (all : length nodes ≤ place) (a : AreNumbered nodes place classes numbers) where
  -- the number of a node, by its cache
  number_within : (n : ℕ) → n < length nodes → (o : Option CachePlan) → cache_at nodes n ≡ o → class_of classes n < length nodes
  number_within n lt (Some c) q = let t = a.there c.class (class_of classes n) (a.cached n c (omega (arith, lt, all)) q) in cached_there nodes (class_of classes n) t.1.0 t.1.1
  number_within n lt None q = omega (arith, lt, a.alone n (omega (arith, lt, all)) q)

  numbers_alike : (m n : ℕ) → m < length nodes → n < length nodes → are_one_class nodes m n ≡ true → class_of classes m ≡ class_of classes n
  numbers_alike m n lt_m lt_n q =
      let c = first_cached (cache_at nodes m) (cache_at nodes n) q in
      let d = second_cached (cache_at nodes m) (cache_at nodes n) q in
      let same = same_texts (cache_at nodes m) (cache_at nodes n) c.0 d.0 c.1 d.1 q in
      some_one (number_in numbers c.0.class) (class_of classes m) (class_of classes n) (a.cached m c.0 (omega (arith, lt_m, all)) c.1) (ap (λ t. number_in numbers t) same ∙ a.cached n d.0 (omega (arith, lt_n, all)) d.1)

  -- a node with the number of a cached one is cached
  number_cached : (m n : ℕ) (c : CachePlan) → m < length nodes → cache_at nodes m ≡ Some c → class_of classes m ≡ n → cache_at nodes n ≡ None → ⊥
  number_cached m n c lt q is none =
      let t = a.there c.class (class_of classes m) (a.cached m c (omega (arith, lt, all)) q) in
      some_none (cache_at nodes n) t.1.0 (subst (λ k. cache_at nodes k ≡ Some t.1.0) is t.1.1) none

  -- the class that a number is of
  number_text : (m k : ℕ) (c x : CachePlan) → m < length nodes → cache_at nodes m ≡ Some c → class_of classes m ≡ k → cache_at nodes k ≡ Some x → x.class ≡ c.class
  number_text m k c x lt q is at =
      let t = a.there c.class k (a.cached m c (omega (arith, lt, all)) q ∙ ap (λ j. Some j) is) in
      ap (λ y. y.class) (some_one (cache_at nodes k) x t.1.0 at t.1.1) ∙ t.1.2

  -- two cached nodes with one number are of one class
  number_one : (m n : ℕ) (c d : CachePlan) → m < length nodes → n < length nodes → class_of classes m ≡ class_of classes n → cache_at nodes m ≡ Some c → cache_at nodes n ≡ Some d → are_one_class nodes m n ≡ true
  number_one m n c d lt_m lt_n e q r =
      let t = a.there c.class (class_of classes m) (a.cached m c (omega (arith, lt_m, all)) q) in
      texts_same (cache_at nodes m) (cache_at nodes n) c d q r (sym t.1.2 ∙ number_text n (class_of classes m) d t.1.0 lt_n r (sym e) t.1.1)

  numbers_apart : (m n : ℕ) → m < length nodes → n < length nodes → class_of classes m ≡ class_of classes n → (o : Option CachePlan) → cache_at nodes m ≡ o → (p : Option CachePlan) → cache_at nodes n ≡ p → (m == n || are_one_class nodes m n) ≡ true
  numbers_apart m n lt_m lt_n e None q None r =
      ap (λ b. b || are_one_class nodes m n) (eq-eqb m n (sym (a.alone m (omega (arith, lt_m, all)) q) ∙ e ∙ a.alone n (omega (arith, lt_n, all)) r))
  numbers_apart m n lt_m lt_n e (Some c) q None r = absurd (number_cached m n c lt_m q (e ∙ a.alone n (omega (arith, lt_n, all)) r) r)
  numbers_apart m n lt_m lt_n e None q (Some d) r = absurd (number_cached n m d lt_n r (sym e ∙ a.alone m (omega (arith, lt_m, all)) q) q)
  numbers_apart m n lt_m lt_n e (Some c) q (Some d) r = ap (λ b. m == n || b) (number_one m n c d lt_m lt_n e q r) ∙ or_true (m == n)

  pub numbered_all : AreClasses nodes classes
  numbered_all = record {
    within = λ n lt. number_within n lt (cache_at nodes n) refl;
    alike = numbers_alike;
    apart = λ m n lt_m lt_n e. numbers_apart m n lt_m lt_n e (cache_at nodes m) refl (cache_at nodes n) refl;
  }

-- ---- the classes with an open body

-- the test of a body that is open, with that class number
abbrev opens : List Event → List ℕ → ℕ → ℕ → Bool
opens h classes k n = is_open h n && (class_of classes n == k)

-- no flag of those is up
get_or_none : (count k : ℕ) → get_or (replicate count false) k false ≡ false
get_or_none zero k = refl
get_or_none (suc count) zero = refl
get_or_none (suc count) (suc k) = get_or_none count k

-- in no history is a class open
pub none_open : (nodes : List PlanNode) (classes : List ℕ) (flags : List Bool) (count : ℕ) → flags ≡ replicate count false → AreOpen nodes [] classes flags
none_open nodes classes flags count are = record {
  opened = λ n lt o. absurd (cc o);
  only = λ k up. absurd (true≢false (sym up ∙ down k));
}
  where
    down : (k : ℕ) → flag flags k ≡ false
    down k = ap (λ fs. get_or fs k false) are ∙ get_or_none count k

module _ (nodes : List PlanNode) (h : List Event) (classes : List ℕ) (flags : List Bool) (n : ℕ) (lt : n < length nodes) (sized : length flags ≡ length nodes) (numbers : AreClasses nodes classes) (old : AreOpen nodes h classes flags) where
  -- the class of the node has a flag
  flagged : class_of classes n < length flags
  flagged = omega (arith, numbers.within n lt, sized)

  -- a body took a job, which no body of its node gave back
  pub took_opens_class : has_given h n ≡ false → AreOpen nodes (h ++ event.Took n ∷ []) classes (set flags (class_of classes n) true)
  took_opens_class g = record {
    opened = λ m lt_m o.
        ⊎_elim (λ (same : class_of classes m ≡ class_of classes n). rw same (get_or-set_same flags (class_of classes n) true false flagged))
        (λ (other : class_of classes m ≡ class_of classes n → ⊥). rw get_or-set_other (old.opened m lt_m (was_open m (λ e. other (ap (class_of classes) e)) o)))
        (same_or (class_of classes m) (class_of classes n));
    only = λ k up.
        ⊎_elim (λ (same : k ≡ class_of classes n). any_of (opens (h ++ event.Took n ∷ []) classes k) 0 (length nodes) n (omega arith) (omega (arith, lt)) (all_both _ _ now_open (eq-eqb (class_of classes n) k (sym same))))
        (λ (other : k ≡ class_of classes n → ⊥).
        let r = any_in (opens h classes k) 0 (length nodes) (old.only k (sym (get_or-set_other flags (class_of classes n) k true false other) ∙ up)) in
        let parts = both (is_open h r.0) (class_of classes r.0 == k) r.3 in
        any_of (opens (h ++ event.Took n ∷ []) classes k) 0 (length nodes) r.0 r.1 r.2 (all_both _ _ (is_open_stays h (event.Took n) r.0 (ne_eqb n r.0 (λ e. other (sym (ap (class_of classes) e ∙ eqb-true (class_of classes r.0) k parts.1)))) refl ∙ parts.0) parts.1))
        (same_or k (class_of classes n));
  }
    where
      now_open : is_open (h ++ event.Took n ∷ []) n ≡ true
      now_open = is_opened (h ++ event.Took n ∷ []) n (any_now (takes n) h (event.Took n) (eq-eqb n n refl)) (any_none (gives n) h (event.Took n) refl ∙ g)

      was_open : (m : ℕ) → (m ≡ n → ⊥) → is_open (h ++ event.Took n ∷ []) m ≡ true → is_open h m ≡ true
      was_open m ne o = sym (is_open_stays h (event.Took n) m (ne_eqb n m (λ e. ne (sym e))) refl) ∙ o

  -- a body gave its job back, and no other open body is of its class
  pub gave_closes_class : ((m : ℕ) → (m ≡ n → ⊥) → is_open h m ≡ true → are_one_class nodes m n ≡ false) → AreOpen nodes (h ++ event.Gave n ∷ []) classes (set flags (class_of classes n) false)
  gave_closes_class alone = record {
    opened = λ m lt_m o.
        ⊎_elim (λ (same : class_of classes m ≡ class_of classes n). absurd (not_alone m lt_m o same))
        (λ (other : class_of classes m ≡ class_of classes n → ⊥). rw get_or-set_other (old.opened m lt_m (was_open m (not_self m o) o)))
        (same_or (class_of classes m) (class_of classes n));
    only = λ k up.
        ⊎_elim (λ (same : k ≡ class_of classes n). absurd (true≢false (sym up ∙ rw same (get_or-set_same flags (class_of classes n) false false flagged))))
        (λ (other : k ≡ class_of classes n → ⊥).
        let r = any_in (opens h classes k) 0 (length nodes) (old.only k (sym (get_or-set_other flags (class_of classes n) k false false other) ∙ up)) in
        let parts = both (is_open h r.0) (class_of classes r.0 == k) r.3 in
        any_of (opens (h ++ event.Gave n ∷ []) classes k) 0 (length nodes) r.0 r.1 r.2 (all_both _ _ (is_open_stays h (event.Gave n) r.0 refl (ne_eqb n r.0 (λ e. other (sym (ap (class_of classes) e ∙ eqb-true (class_of classes r.0) k parts.1)))) ∙ parts.0) parts.1))
        (same_or k (class_of classes n));
  }
    where
      closed_now : is_open (h ++ event.Gave n ∷ []) n ≡ false
      closed_now = ap (λ b. has_taken (h ++ event.Gave n ∷ []) n && not b) (any_now (gives n) h (event.Gave n) (eq-eqb n n refl)) ∙ and_false _

      not_self : (m : ℕ) → is_open (h ++ event.Gave n ∷ []) m ≡ true → m ≡ n → ⊥
      not_self m o e = true≢false (sym (subst (λ k. is_open (h ++ event.Gave n ∷ []) k ≡ true) e o) ∙ closed_now)

      was_open : (m : ℕ) → (m ≡ n → ⊥) → is_open (h ++ event.Gave n ∷ []) m ≡ true → is_open h m ≡ true
      was_open m ne o = sym (is_open_stays h (event.Gave n) m refl (ne_eqb n m (λ e. ne (sym e)))) ∙ o

      not_alone : (m : ℕ) → m < length nodes → is_open (h ++ event.Gave n ∷ []) m ≡ true → class_of classes m ≡ class_of classes n → ⊥
      not_alone m lt_m o e =
          let ne = not_self m o in
          true≢false (sym (numbers.apart m n lt_m lt e) ∙ ap₂ (λ a b. a || b) (ne_eqb m n ne) (alone m ne (was_open m ne o)))

-- an event that takes and gives no job keeps the flags
pub quiet_classes : (nodes : List PlanNode) (h : List Event) (classes : List ℕ) (flags : List Bool) (e : Event) → ((m : ℕ) → m < length nodes → is_open (h ++ e ∷ []) m ≡ is_open h m) → AreOpen nodes h classes flags → AreOpen nodes (h ++ e ∷ []) classes flags
quiet_classes nodes h classes flags e same old = record {
  opened = λ m lt o. old.opened m lt (sym (same m lt) ∙ o);
  only = λ k up.
      let r = any_in (opens h classes k) 0 (length nodes) (old.only k up) in
      let parts = both (is_open h r.0) (class_of classes r.0 == k) r.3 in
      any_of (opens (h ++ e ∷ []) classes k) 0 (length nodes) r.0 r.1 r.2 (all_both _ _ (same r.0 (omega (arith, r.2)) ∙ parts.0) parts.1);
}

-- the number of a class, however it is read
pub class_read : (classes : List ℕ) (n x : ℕ) → n < length classes → x ≡ get_or classes n x → x ≡ class_of classes n
class_read classes n x lt is = is ∙ other_default classes n x 0 lt
  where
    other_default : (xs : List ℕ) (i d e : ℕ) → i < length xs → get_or xs i d ≡ get_or xs i e
    other_default [] i d e lt = absurd (omega (arith, lt))
    other_default (x ∷ xs) zero d e lt = refl
    other_default (x ∷ xs) (suc i) d e lt = other_default xs i d e (omega (arith, lt))

-- a flag that is read by the number of a class
pub flag_read : (flags : List Bool) (k j : ℕ) → k ≡ j → (b : Bool) → k < length flags → b ≡ get_or flags k b → b ≡ flag flags j
flag_read flags k j same b lt is = is ∙ other_default flags k b false lt ∙ ap (λ i. get_or flags i false) same
  where
    other_default : (xs : List Bool) (i : ℕ) (d e : Bool) → i < length xs → get_or xs i d ≡ get_or xs i e
    other_default [] i d e lt = absurd (omega (arith, lt))
    other_default (x ∷ xs) zero d e lt = refl
    other_default (x ∷ xs) (suc i) d e lt = other_default xs i d e (omega (arith, lt))

-- an event by which a body takes a job or gives it back keeps the flags, where that of its class is set so
pub shifted : (nodes : List PlanNode) (h : List Event) (classes : List ℕ) (flags : List Bool) (e : Event) (n k : ℕ) (up : Bool) → n < length nodes → length flags ≡ length nodes → k ≡ class_of classes n → IsShift (Some (n, up)) e
    → AreClasses nodes classes → KeepsClasses nodes h e → AreOpen nodes h classes flags → AreOpen nodes (h ++ e ∷ []) classes (set flags k up)
shifted nodes h classes flags e n k true lt sized at is numbers keeps old =
    subst (λ j. AreOpen nodes (h ++ e ∷ []) classes (set flags j true)) (sym at)
    (subst (λ x. AreOpen nodes (h ++ x ∷ []) classes (set flags (class_of classes n) true)) (sym is) (took_opens_class nodes h classes flags n lt sized numbers old (subst (KeepsClasses nodes h) is keeps)))
shifted nodes h classes flags e n k false lt sized at is numbers keeps old =
    subst (λ j. AreOpen nodes (h ++ e ∷ []) classes (set flags j false)) (sym at)
    (subst (λ x. AreOpen nodes (h ++ x ∷ []) classes (set flags (class_of classes n) false)) (sym is) (gave_closes_class nodes h classes flags n lt sized numbers old (subst (KeepsClasses nodes h) is keeps)))

-- one of a node that the plan doesn't have keeps them
pub shifted_past : (nodes : List PlanNode) (h : List Event) (classes : List ℕ) (flags : List Bool) (e : Event) (n : ℕ) (up : Bool) → length nodes ≤ n → IsShift (Some (n, up)) e → AreOpen nodes h classes flags → AreOpen nodes (h ++ e ∷ []) classes flags
shifted_past nodes h classes flags e n true le is old =
    quiet_classes nodes h classes flags e (λ m lt. is_open_stays h e m (ap (takes m) is ∙ ne_eqb n m (λ same. omega (arith, same, le, lt))) (ap (gives m) is)) old
shifted_past nodes h classes flags e n false le is old =
    quiet_classes nodes h classes flags e (λ m lt. is_open_stays h e m (ap (takes m) is) (ap (gives m) is ∙ ne_eqb n m (λ same. omega (arith, same, le, lt)))) old

-- and one that takes and gives no job
pub unshifted : (nodes : List PlanNode) (h : List Event) (classes : List ℕ) (flags : List Bool) (e : Event) → IsShift None e → AreOpen nodes h classes flags → AreOpen nodes (h ++ e ∷ []) classes flags
unshifted nodes h classes flags e is old = quiet_classes nodes h classes flags e (λ m lt. is_open_stays h e m (is m).0 (is m).1) old

-- whether some open body is of the class of a node that isn't open, by its flag
pub flag_opens : (nodes : List PlanNode) (h : List Event) (classes : List ℕ) (flags : List Bool) → ∥ AreClasses nodes classes ∥₁ → ∥ AreOpen nodes h classes flags ∥₁ → (n : ℕ) → n < length nodes → is_open h n ≡ false → flag flags (class_of classes n) ≡ class_is_open nodes h n
flag_opens nodes h classes flags numbers old n lt closed = ∥∥₁_elim numbers (Bool-set _ _) (λ a. ∥∥₁_elim old (Bool-set _ _) (λ o. same_truth _ _ (up a o) (down a o)))
  where
    up : AreClasses nodes classes → AreOpen nodes h classes flags → flag flags (class_of classes n) ≡ true → class_is_open nodes h n ≡ true
    up a o q =
        let r = any_in (opens h classes (class_of classes n)) 0 (length nodes) (o.only (class_of classes n) q) in
        let parts = both (is_open h r.0) (class_of classes r.0 == class_of classes n) r.3 in
        let ne : r.0 ≡ n → ⊥ = λ e. true≢false (sym parts.0 ∙ ap (is_open h) e ∙ closed) in
        any_of (λ k. is_open h k && are_one_class nodes k n) 0 (length nodes) r.0 r.1 r.2
        (all_both _ _ parts.0 (sym (ap (λ b. b || are_one_class nodes r.0 n) (ne_eqb r.0 n ne)) ∙ a.apart r.0 n (omega (arith, r.2)) lt (eqb-true (class_of classes r.0) (class_of classes n) parts.1)))

    down : AreClasses nodes classes → AreOpen nodes h classes flags → class_is_open nodes h n ≡ true → flag flags (class_of classes n) ≡ true
    down a o q =
        let r = any_in (λ k. is_open h k && are_one_class nodes k n) 0 (length nodes) q in
        let parts = both (is_open h r.0) (are_one_class nodes r.0 n) r.3 in
        sym (ap (flag flags) (a.alike r.0 n (omega (arith, r.2)) lt parts.1)) ∙ o.opened r.0 (omega (arith, r.2)) parts.0
