-- What comes before what in a legal history, and how often.
use Rattle.std.proofs.Common.{◌≡◌, ℕ, ◌+◌, ◌≤◌, ◌&&◌, ◌||◌, not, Bool, true, false, cond, List, [], ◌∷◌, ◌++◌, count_by, refl, ap₂, sym, ◌∙◌, arith, true≢false}
use Rattle.std.specs.List.{list_any}
use Rattle.std.proofs.lemmas.List.Sums.{sum_by-cons}
use Rattle.just_sched_history.specs.declared.event.Event.{Event}
use Rattle.just_sched_history.specs.declared.event.Event.TheVariants as event
use Rattle.just_sched_history.specs.State.{is_over, takes, skips, begins, starts, concludes_well, gives, has_taken, has_given, is_begun, is_skipped, is_over_well, is_confirmed}
use Rattle.just_sched_history.specs.Cached.{looks, is_cached, is_looked_at, saw_full}
use Rattle.just_sched_history.specs.Legal.{Run, May, IsLegal}
use Rattle.just_sched_history.proofs.CachedLaws.{full_looked, full_stays}
use Rattle.just_sched_history.proofs.Due.{begun_due, gave_due, inside, looked_due, opened, skip_due, started_due, took_ready, well_due}
use Rattle.just_sched_history.proofs.Histories.{legal_holds}
use Rattle.just_sched_history.proofs.OneMore.{confirmed_kept, over_kept}
use Rattle.just_sched_history.proofs.Tests.{any_kept, any_none, both, count_none, count_now, excluded, neither, not_true, unless}

-- ---- tests over a legal history

-- what holds since an event of a kind, behind one event more
since_step : (p : Event → Bool) (Q : List Event → Type 0) (h : List Event) (e : Event) (b : Bool) → p e ≡ b → (p e ≡ true → Q (h ++ e ∷ [])) → (list_any p h ≡ true → Q (h ++ e ∷ [])) → list_any p (h ++ e ∷ []) ≡ true → Q (h ++ e ∷ [])
since_step p Q h e true q now old a = now q
since_step p Q h e false q now old a = old (sym (any_none p h e q) ∙ a)

-- what holds behind each event of a kind, and stays, holds of a history that has such an event
pub since : (s : Run) (p : Event → Bool) (Q : List Event → Type 0) → ((h : List Event) (e : Event) → Q h → Q (h ++ e ∷ [])) → ((h : List Event) (e : Event) → IsLegal s h → May s h e → p e ≡ true → Q (h ++ e ∷ [])) → (h : List Event) → IsLegal s h → list_any p h ≡ true → Q h
since s p Q grows now h l =
    legal_holds s (λ k. list_any p k ≡ true → Q k) (λ a. absurd (cc)) (λ k e legal old m a. since_step p Q k e (p e) refl (now k e legal m) (λ b. grows k e (old b)) a) h l

-- the same, where it is that some other kind of event came before
pub earlier : (s : Run) (p q : Event → Bool) → ((h : List Event) (e : Event) → IsLegal s h → May s h e → p e ≡ true → list_any q h ≡ true) → (h : List Event) → IsLegal s h → list_any p h ≡ true → list_any q h ≡ true
earlier s p q now h l a = since s p (λ k. list_any q k ≡ true) (λ k e b. any_kept q k e b) (λ k e legal m b. any_kept q k e (now k e legal m b)) h l a

-- a kind that never comes, behind one event more
never_step : (p : Event → Bool) (h : List Event) (e : Event) (b : Bool) → p e ≡ b → (p e ≡ true → ⊥) → list_any p h ≡ false → list_any p (h ++ e ∷ []) ≡ false
never_step p h e true q no_event old = absurd (no_event q)
never_step p h e false q no_event old = any_none p h e q ∙ old

-- an event that may never come doesn't
pub never : (s : Run) (p : Event → Bool) → ((h : List Event) (e : Event) → IsLegal s h → May s h e → p e ≡ true → ⊥) → (h : List Event) → IsLegal s h → list_any p h ≡ false
never s p no_event h l = legal_holds s (λ k. list_any p k ≡ false) refl (λ k e legal old m. never_step p k e (p e) refl (no_event k e legal m) old) h l

-- what none passes counts 0
pub none_zero : {A : Type 0} (p : A → Bool) (h : List A) → list_any p h ≡ false → count_by p h ≡ 0
none_zero p [] a = refl
none_zero p (x ∷ h) a =
    let c = neither (p x) (list_any p h) a in
    sum_by-cons (λ y. cond (p y) 1 0) x h ∙ ap₂ (λ b k. cond b 1 0 + k) c.0 (none_zero p h c.1)

-- a kind that comes once at most, behind one event more
once_step : (p : Event → Bool) (h : List Event) (e : Event) (b : Bool) → p e ≡ b → (p e ≡ true → list_any p h ≡ false) → count_by p h ≤ 1 → count_by p (h ++ e ∷ []) ≤ 1
once_step p h e true q free old = let z = none_zero p h (free q) in let c = count_now p h e q in omega arith
once_step p h e false q free old = let c = count_none p h e q in omega arith

-- an event that may only come where none of its kind was comes at most once
pub once : (s : Run) (p : Event → Bool) → ((h : List Event) (e : Event) → IsLegal s h → May s h e → p e ≡ true → list_any p h ≡ false) → (h : List Event) → IsLegal s h → count_by p h ≤ 1
once s p free h l = legal_holds s (λ k. count_by p k ≤ 1) (omega arith) (λ k e legal old m. once_step p k e (p e) refl (free k e legal m) old) h l

-- ---- which comes before which

-- a node that was begun took a job
pub begun_took : (s : Run) (h : List Event) (n : ℕ) → IsLegal s h → is_begun h n ≡ true → has_taken h n ≡ true
begun_took s h n l = earlier s (begins n) (takes n) (λ k e legal m q. (inside k n (begun_due s k n e m q).0).took) h l

-- so did one that gave it back
pub gave_took : (s : Run) (h : List Event) (n : ℕ) → IsLegal s h → has_given h n ≡ true → has_taken h n ≡ true
gave_took s h n l = earlier s (gives n) (takes n) (λ k e legal m q. (opened k n (gave_due s k n e m q).0).0) h l

-- a job is given back by a body that is over
pub gave_over : (s : Run) (h : List Event) (n : ℕ) → IsLegal s h → has_given h n ≡ true → is_over h n ≡ true
gave_over s h n l = since s (gives n) (λ k. is_over k n ≡ true) (λ k e o. over_kept k e n o) (λ k e legal m q. over_kept k e n (gave_due s k n e m q).1) h l

-- a node that started a command was begun
pub started_begun : (s : Run) (h : List Event) (n : ℕ) → IsLegal s h → list_any (starts n) h ≡ true → is_begun h n ≡ true
started_begun s h n l = earlier s (starts n) (begins n) (λ k e legal m q. (started_due s k n e m q).1.1) h l

-- ---- a body and its cache

-- a node whose entry was looked at has a cache
pub looked_cached : (s : Run) (h : List Event) (n : ℕ) → IsLegal s h → is_looked_at h n ≡ true → is_cached s.nodes n ≡ true
looked_cached s h n l = since s (looks n) (λ k. is_cached s.nodes n ≡ true) (λ k e c. c) (λ k e legal m q. (looked_due s k n e m q).1) h l

-- what lets a cached body be begun: it was looked at, and the look wasn't full
may_cached : (cached looked full : Bool) → cached ≡ true → (not cached || (looked && not full)) ≡ true → (looked ≡ true) × (full ≡ false)
may_cached true looked full q m = let c = both looked (not full) m in (c.0, not_true full c.1)
may_cached false looked full q m = absurd (cc)

-- a cached body is begun once it was looked at
pub looked_before_begun : (s : Run) (h : List Event) (n : ℕ) → IsLegal s h → is_cached s.nodes n ≡ true → is_begun h n ≡ true → is_looked_at h n ≡ true
looked_before_begun s h n l c =
    earlier s (begins n) (looks n) (λ k e legal m q. (may_cached (is_cached s.nodes n) (is_looked_at k n) (saw_full s.nodes k n) c (begun_due s k n e m q).2).0) h l

-- a cached body that wasn't looked at isn't begun
pub unlooked_unbegun : (s : Run) (h : List Event) (n : ℕ) → IsLegal s h → is_cached s.nodes n ≡ true → is_looked_at h n ≡ false → is_begun h n ≡ false
unlooked_unbegun s h n l c q = unless (is_begun h n) (is_looked_at h n) (looked_before_begun s h n l c) q

-- a look isn't a begin
look_no_begin : (n : ℕ) (e : Event) → looks n e ≡ true → begins n e ≡ false
look_no_begin n (event.Looked m sums seen) q = refl
look_no_begin n _ q = absurd (cc)

-- a body isn't begun behind a full look, by whether the event looks and begins
full_by : (s : Run) (h : List Event) (n : ℕ) (e : Event) → IsLegal s h → May s h e → (saw_full s.nodes h n ≡ true → is_begun h n ≡ false) → (a b : Bool) → looks n e ≡ a → begins n e ≡ b → saw_full s.nodes (h ++ e ∷ []) n ≡ true → is_begun (h ++ e ∷ []) n ≡ false
full_by s h n e l may old true b q p full =
    let due = looked_due s h n e may q in
    any_none (begins n) h e (look_no_begin n e q) ∙ unlooked_unbegun s h n l due.1 due.2
full_by s h n e l may old false true q p full =
    let was = sym (full_stays s.nodes h e n q) ∙ full in
    let c = looked_cached s h n l (full_looked s.nodes h n was) in
    absurd (true≢false (sym was ∙ (may_cached (is_cached s.nodes n) (is_looked_at h n) (saw_full s.nodes h n) c (begun_due s h n e may p).2).1))
full_by s h n e l may old false false q p full = any_none (begins n) h e p ∙ old (sym (full_stays s.nodes h e n q) ∙ full)

-- a body whose look was full isn't begun
pub full_unbegun : (s : Run) (h : List Event) (n : ℕ) → IsLegal s h → saw_full s.nodes h n ≡ true → is_begun h n ≡ false
full_unbegun s h n l = legal_holds s (λ k. saw_full s.nodes k n ≡ true → is_begun k n ≡ false) (λ q. refl) (λ k e legal old m. full_by s k n e legal m old (looks n e) (begins n e) refl refl) h l

-- a skip isn't a begin
skip_no_begin : (n : ℕ) (e : Event) → skips n e ≡ true → begins n e ≡ false
skip_no_begin n (event.Skipped m) q = refl
skip_no_begin n _ q = absurd (cc)

-- a node that was skipped isn't begun later
unbegun_at : (s : Run) (h : List Event) (n : ℕ) (e : Event) → May s h e → is_skipped h n ≡ true → (b : Bool) → begins n e ≡ b → begins n e ≡ false
unbegun_at s h n e may k true q = absurd (true≢false (sym k ∙ (inside h n (begun_due s h n e may q).0).not_skipped))
unbegun_at s h n e may k false q = q

-- a skipped node stays unbegun behind one event more
unbegun_by : (s : Run) (h : List Event) (n : ℕ) (e : Event) → IsLegal s h → May s h e → (is_skipped h n ≡ true → is_begun h n ≡ false) → (b : Bool) → skips n e ≡ b → is_skipped (h ++ e ∷ []) n ≡ true → is_begun (h ++ e ∷ []) n ≡ false
unbegun_by s h n e l may old true q k = any_none (begins n) h e (skip_no_begin n e q) ∙ full_unbegun s h n l (skip_due s h n e may q).1
unbegun_by s h n e l may old false q k =
    let was = sym (any_none (skips n) h e q) ∙ k in
    any_none (begins n) h e (unbegun_at s h n e may was (begins n e) refl) ∙ old was

-- a node that was skipped isn't begun
pub skipped_unbegun : (s : Run) (h : List Event) (n : ℕ) → IsLegal s h → is_skipped h n ≡ true → is_begun h n ≡ false
skipped_unbegun s h n l = legal_holds s (λ k. is_skipped k n ≡ true → is_begun k n ≡ false) (λ q. refl) (λ k e legal old m. unbegun_by s k n e legal m old (skips n e) refl) h l

-- a node that was begun isn't skipped
pub begun_unskipped : (s : Run) (h : List Event) (n : ℕ) → IsLegal s h → is_begun h n ≡ true → is_skipped h n ≡ false
begun_unskipped s h n l b = excluded (is_skipped h n) (is_begun h n) (skipped_unbegun s h n l) b

-- a node that an event shows to be over well took a job
over_took_at : (s : Run) (h : List Event) (n : ℕ) (e : Event) → IsLegal s h → May s h e → (b : Bool) → skips n e ≡ b → (b || concludes_well n e) ≡ true → has_taken h n ≡ true
over_took_at s h n e l m true k q = (inside h n (skip_due s h n e m k).0).took
over_took_at s h n e l m false k q = begun_took s h n l (well_due s h n e m q).begun

-- a node that is over well took a job
pub over_took : (s : Run) (h : List Event) (n : ℕ) → IsLegal s h → is_over_well h n ≡ true → has_taken h n ≡ true
over_took s h n l =
    earlier s (λ e. skips n e || concludes_well n e) (takes n) (λ k e legal m q. over_took_at s k n e legal m (skips n e) refl q) h l

-- a node took its job when it was confirmed
pub took_confirmed : (s : Run) (h : List Event) (n : ℕ) → IsLegal s h → has_taken h n ≡ true → is_confirmed s.nodes h n ≡ true
took_confirmed s h n l =
    since s (takes n) (λ k. is_confirmed s.nodes k n ≡ true) (λ k e c. confirmed_kept s.nodes k e n c) (λ k e legal m q. confirmed_kept s.nodes k e n (took_ready s k n e m q).confirmed) h l
