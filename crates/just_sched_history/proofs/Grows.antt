-- Histories that grow by events of one node: how they go on, and that the other nodes stay as they were.
use Rattle.std.proofs.Common.{◌≡◌, ◌≢◌, ℕ, ◌==◌, ◌||◌, not, Bool, true, false, true≢false, List, [], ◌∷◌, ◌++◌, Option, Some, None, is_none, refl, ap, sym, ◌∙◌, subst, append_assoc, append-nil, eqb-true, eq-eqb}
use Rattle.std.specs.List.{list_all}
use Rattle.std.proofs.lemmas.List.Folds.{list_all-append}
use Rattle.std.proofs.lemmas.List.Sums.{AllPass-from_list_all, list_all-from_AllPass}
use Rattle.just_sched_history.specs.declared.event.Event.{Event}
use Rattle.just_sched_history.specs.Legal.{Run}
use Rattle.just_sched_history.specs.State.{node_of, names, is_of, has_taken, has_given, is_open, is_running, last_start}
use Rattle.just_sched_history.specs.Moves.{concerns, GrowsWhere, GrowsBy, GrowsOrCatches, IsMove, RunsWith, Rests}
use Rattle.just_sched_history.proofs.Others.{apart, others_stay}
use Rattle.just_sched_history.proofs.Tests.{all_both, both, or_true}

-- no events are events of each node
pub grows_none : (h : List Event) (n : ℕ) → GrowsBy h h n
grows_none h n = record { more = []; grew = sym (append-nil h); own = AllPass-from_list_all (is_of n) [] refl }

-- one event of the node
pub grows_one : (h later : List Event) (e : Event) (n : ℕ) → later ≡ h ++ e ∷ [] → is_of n e ≡ true → GrowsBy h later n
grows_one h later e n grew q = record { more = e ∷ []; grew = grew; own = AllPass-from_list_all (is_of n) (e ∷ []) (all_both (is_of n e) true q refl) }

-- events behind events, by a test
pub grows_both : (t : Event → Bool) (a b c : List Event) → GrowsWhere t a b → GrowsWhere t b c → GrowsWhere t a c
grows_both t a b c p q = record {
  more = p.more ++ q.more;
  grew = q.grew ∙ ap (λ k. k ++ q.more) p.grew ∙ append_assoc a p.more q.more;
  own =
      AllPass-from_list_all t (p.more ++ q.more)
      (list_all-append t p.more q.more ∙ all_both (list_all t p.more) (list_all t q.more) (list_all-from_AllPass t p.more p.own) (list_all-from_AllPass t q.more q.own));
}

-- and by the node
pub grows_two : (a b c : List Event) (n : ℕ) → GrowsBy a b n → GrowsBy b c n → GrowsBy a c n
grows_two a b c n p q = grows_both (is_of n) a b c p q

-- the same, where the history between is given twice
pub grows_on : (a b b' c : List Event) (n : ℕ) → GrowsBy a b n → b' ≡ b → GrowsBy b' c n → GrowsBy a c n
grows_on a b b' c n p e q = grows_two a b' c n (subst (λ k. GrowsBy a k n) (sym e) p) q

-- events of the node pass the test that caught signals pass too
all_concern : (n : ℕ) (es : List Event) → list_all (is_of n) es ≡ true → list_all (concerns n) es ≡ true
all_concern n [] q = refl
all_concern n (e ∷ es) q =
    let parts = both (is_of n e) (list_all (is_of n) es) q in
    all_both (concerns n e) (list_all (concerns n) es) (ap (λ b. is_none (node_of e) || b) parts.0 ∙ or_true (is_none (node_of e))) (all_concern n es parts.1)

-- so where no signal may be caught, one may be
pub or_caught : (old new : List Event) (n : ℕ) → GrowsBy old new n → GrowsOrCatches old new n
or_caught old new n g = record {
  more = g.more;
  grew = g.grew;
  own = AllPass-from_list_all (concerns n) g.more (all_concern n g.more (list_all-from_AllPass (is_of n) g.more g.own));
}

-- a turn of a body: its child's end is noted, and it is gone on with
pub grows_turn : (a b c : List Event) (n m k : ℕ) → m ≡ n → k ≡ m → GrowsBy a b m → GrowsOrCatches b c k → GrowsOrCatches a c n
grows_turn a b c n m k first after p q =
    grows_both (concerns n) a b c (or_caught a b n (subst (λ j. GrowsBy a b j) first p)) (subst (λ j. GrowsOrCatches b c j) (after ∙ first) q)

-- an event of the node isn't one of another
other_at : (o : Option ℕ) (n m : ℕ) → (is_none o || names o n) ≡ true → m ≢ n → names o m ≡ false
other_at None n m q ne = refl
other_at (Some k) n m q ne = apart k m (λ e. ne (sym e ∙ eqb-true k n q))

-- what an event of another node leaves, events of another node leave
stays_by : {A : Type 0} (f : List Event → A) (m n : ℕ) → ((h : List Event) (e : Event) → is_of m e ≡ false → f (h ++ e ∷ []) ≡ f h) → m ≢ n → (h more : List Event) → list_all (concerns n) more ≡ true → f (h ++ more) ≡ f h
stays_by f m n one ne h [] own = ap f (append-nil h)
stays_by f m n one ne h (e ∷ more) own =
    let parts = both (concerns n e) (list_all (concerns n) more) own in
    ap f (sym (append_assoc h (e ∷ []) more)) ∙ stays_by f m n one ne (h ++ e ∷ []) more parts.1 ∙ one h e (other_at (node_of e) n m parts.0 ne)

-- what events of other nodes leave, a growth by another node leaves
stays : {A : Type 0} (f : List Event → A) (old new : List Event) (n m : ℕ) → ((h : List Event) (e : Event) → is_of m e ≡ false → f (h ++ e ∷ []) ≡ f h) → GrowsOrCatches old new n → m ≢ n → f new ≡ f old
stays f old new n m one g ne = ap f g.grew ∙ stays_by f m n one ne old g.more (list_all-from_AllPass (concerns n) g.more g.own)

-- every other node is as open as it was
pub others_open : (old new : List Event) (n m : ℕ) → GrowsOrCatches old new n → m ≢ n → is_open new m ≡ is_open old m
others_open old new n m g ne = stays (λ h. is_open h m) old new n m (λ h e q. (others_stay h e m q).is_open) g ne

-- it runs where it ran
pub others_run : (old new : List Event) (n m : ℕ) → GrowsOrCatches old new n → m ≢ n → is_running new m ≡ is_running old m
others_run old new n m g ne = stays (λ h. is_running h m) old new n m (λ h e q. (others_stay h e m q).running) g ne

-- and started last what it had started last
pub others_started : (old new : List Event) (n m : ℕ) → GrowsOrCatches old new n → m ≢ n → last_start new m ≡ last_start old m
others_started old new n m g ne = stays (λ h. last_start h m) old new n m (λ h e q. (others_stay h e m q).last_start) g ne

-- so a body of another node runs on with its child
pub runs_on : (old new : List Event) (n m child : ℕ) → GrowsOrCatches old new n → m ≢ n → RunsWith old m child → RunsWith new m child
runs_on old new n m child g ne r = record {
  opened = others_open old new n m g ne ∙ r.opened;
  runs = others_run old new n m g ne ∙ r.runs;
  place = r.place;
  started = others_started old new n m g ne ∙ r.started;
}

-- what holds of the others and of the node holds of each
same_or : (P : ℕ → Type 0) (m n : ℕ) (b : Bool) → (m == n) ≡ b → (m ≢ n → P m) → P n → P m
same_or P m n true q other here = subst P (sym (eqb-true m n q)) here
same_or P m n false q other here = other (λ e. absurd (cc (eq-eqb m n e, q)))

-- where a node came to rest, the nodes are closed that were closed but for it
pub closed_where : (Q : ℕ → Type 0) (old new : List Event) (n : ℕ) → GrowsOrCatches old new n → Rests new n → ((m : ℕ) → m ≢ n → Q m → is_open old m ≡ false) → (m : ℕ) → Q m → is_open new m ≡ false
closed_where Q old new n g rests closed m q = same_or (λ k. is_open new k ≡ false) m n (m == n) refl (λ ne. others_open old new n m g ne ∙ closed m ne q) rests.closed

-- a node that rests now leaves all closed that was closed
pub closed_by : (a c : List Event) (n : ℕ) → GrowsOrCatches a c n → Rests c n → ((m : ℕ) → is_open a m ≡ false) → (m : ℕ) → is_open c m ≡ false
closed_by a c n g rests closed m = closed_where (λ _. Unit {0}) a c n g rests (λ k ne q. closed k) m tt

-- a move takes a node with no open body, so another than each that runs
pub move_apart : (s : Run) (old new : List Event) (n m child : ℕ) → IsMove s old new n → RunsWith old m child → m ≢ n
move_apart s old new n m child move runs same =
    true≢false (sym (both (has_taken old m) (not (has_given old m)) runs.opened).0 ∙ ap (has_taken old) same ∙ move.not_taken)
