-- That each cached body of a legal history goes by the cache rule.
use Rattle.std.proofs.Common.{◌≡◌, ℕ, ◌<◌, ◌||◌, not, Bool, true, false, true≢false, List, [], ◌∷◌, ◌++◌, length, Option, Some, None, refl, ap, sym, ◌∙◌, subst, append_assoc, append-nil, eqb-true}
use Rattle.std.specs.List.{list_any}
use Rattle.std.proofs.Math.Bool.{Bool-set}
use Rattle.std.proofs.Math.Bridge.{le_prop}
use Rattle.std.proofs.Math.Logic.{∥∥₁_elim}
use Rattle.just_host_record.specs.declared.entry.Look.{Look}
use Rattle.just_host_record.specs.World.{Moment}
use Rattle.just_sched_history.specs.declared.event.Event.{Event}
use Rattle.just_sched_history.specs.declared.event.Event.TheVariants as event
use Rattle.just_sched_history.specs.declared.plan_node.PlanNode.{PlanNode}
use Rattle.just_sched_history.specs.Cached.{looks, is_cached, seen_at, full_in, saw_full, are_one_class, class_is_open}
use Rattle.just_sched_history.specs.CacheRule.{GoesByCacheRule, IsSkippedByLook}
use Rattle.just_sched_history.specs.Legal.{Run, May, LegalFrom, IsLegal, IsComplete}
use Rattle.just_sched_history.specs.Start.{Start, IsKept, run_of}
use Rattle.just_sched_history.specs.State.{takes, gives, skips, concludes_well, has_given, is_begun, is_skipped, is_open}
use Rattle.just_sched_history.proofs.CachedLaws.{seen_kept}
use Rattle.just_sched_history.proofs.ClassLaws.{class_opened, class_sym, same_truth}
use Rattle.just_sched_history.proofs.Counts.{looked_once}
use Rattle.just_sched_history.proofs.Due.{inside, is_opened, looked_due, opened, skip_due, well_due}
use Rattle.just_sched_history.proofs.Finish.{finished_over}
use Rattle.just_sched_history.proofs.Histories.{legal_holds}
use Rattle.just_sched_history.proofs.Order.{full_unbegun, looked_before_begun, since}
use Rattle.just_sched_history.proofs.TableLaws.{any_or}
use Rattle.just_sched_history.proofs.Tests.{any_kept, any_none, excluded, unless}

-- ---- no two open bodies are of one class

-- no two open bodies are of one class
abbrev pub EachApart : Run → List Event → Type 0
EachApart s h = (m n : ℕ) → (m ≡ n → ⊥) → is_open h m ≡ true → is_open h n ≡ true → are_one_class s.nodes m n ≡ false

-- a body that takes a job is the only open one of its class
took_class : (s : Run) (h : List Event) (n : ℕ) (e : Event) → May s h e → takes n e ≡ true → class_is_open s.nodes h n ≡ false
took_class s h n (event.Took m) may q = subst (λ k. class_is_open s.nodes h k ≡ false) (eqb-true m n q) may.3
took_class s h n _ may q = absurd (cc)

-- two nodes that take a job by one event are one
took_one : (m n : ℕ) (e : Event) → takes m e ≡ true → takes n e ≡ true → m ≡ n
took_one m n (event.Took k) p q = sym (eqb-true k m p) ∙ eqb-true k n q
took_one m n _ p q = absurd (cc)

-- a body that is open behind an event by which it took no job was open
was_open : (h : List Event) (e : Event) (n : ℕ) → takes n e ≡ false → is_open (h ++ e ∷ []) n ≡ true → is_open h n ≡ true
was_open h e n q o =
    let c = opened (h ++ e ∷ []) n o in
    is_opened h n (sym (any_none (takes n) h e q) ∙ c.0) (unless (has_given h n) (has_given (h ++ e ∷ []) n) (any_kept (gives n) h e) c.1)

-- a test that may not pass doesn't
refuted : (b : Bool) → (b ≡ true → ⊥) → b ≡ false
refuted true no_way = absurd (no_way refl)
refuted false no_way = refl

-- an event keeps that, by which of two bodies it opens
apart_by : (s : Run) (h : List Event) (e : Event) → May s h e → EachApart s h → (m n : ℕ) → (m ≡ n → ⊥) → is_open (h ++ e ∷ []) m ≡ true → is_open (h ++ e ∷ []) n ≡ true → (a b : Bool) → takes m e ≡ a → takes n e ≡ b → are_one_class s.nodes m n ≡ false
apart_by s h e may old m n ne p q true true t u = absurd (ne (took_one m n e t u))
apart_by s h e may old m n ne p q true false t u =
    refuted (are_one_class s.nodes m n) (λ one. true≢false (sym (class_opened s.nodes h n m (was_open h e n u q) (class_sym s.nodes m n one)) ∙ took_class s h m e may t))
apart_by s h e may old m n ne p q false true t u =
    refuted (are_one_class s.nodes m n) (λ one. true≢false (sym (class_opened s.nodes h m n (was_open h e m t p) one) ∙ took_class s h n e may u))
apart_by s h e may old m n ne p q false false t u = old m n ne (was_open h e m t p) (was_open h e n u q)

-- over a legal history no two open bodies are of one class
pub each_apart : (s : Run) (h : List Event) → IsLegal s h → EachApart s h
each_apart s h l =
    legal_holds s (EachApart s) (λ m n ne p q. absurd (cc p)) (λ k e legal old may m n ne p q. apart_by s k e may old m n ne p q (takes m e) (takes n e) refl refl) h l

-- ---- the cache rule

-- the part of a legal history before an event is legal, and the event may come behind it
legal_part : (s : Run) (first before behind : List Event) (e : Event) → LegalFrom s first (before ++ e ∷ behind) → LegalFrom s first before × May s (first ++ before) e
legal_part s first [] behind e l = (tt, subst (λ k. May s k e) (sym (append-nil first)) l.0)
legal_part s first (x ∷ before) behind e l =
    let r = legal_part s (first ++ x ∷ []) before behind e l.1 in
    ((l.0, r.0), subst (λ k. May s k e) (append_assoc first (x ∷ []) before) r.1)

-- a full look stays full
full_kept_at : (nodes : List PlanNode) (h : List Event) (e : Event) (n : ℕ) (o : Option (List (List ℕ) × Look)) → seen_at h n ≡ o → full_in nodes n o ≡ true → saw_full nodes (h ++ e ∷ []) n ≡ true
full_kept_at nodes h e n None q full = absurd (cc)
full_kept_at nodes h e n (Some x) q full = ap (full_in nodes n) (seen_kept h e n x q) ∙ full

full_kept : (nodes : List PlanNode) (h : List Event) (e : Event) (n : ℕ) → saw_full nodes h n ≡ true → saw_full nodes (h ++ e ∷ []) n ≡ true
full_kept nodes h e n full = full_kept_at nodes h e n (seen_at h n) refl full

-- a body is skipped where its look was full
skipped_full : (s : Run) (h : List Event) (n : ℕ) → IsLegal s h → is_skipped h n ≡ true → saw_full s.nodes h n ≡ true
skipped_full s h n l = since s (skips n) (λ k. saw_full s.nodes k n ≡ true) (λ k e f. full_kept s.nodes k e n f) (λ k e legal may q. full_kept s.nodes k e n (skip_due s k n e may q).1) h l

-- at its look no other open body was of its class
alone_at : (s : Run) (h : List Event) (n : ℕ) → IsLegal s h → (before behind : List Event) (e : Event) → h ≡ before ++ e ∷ behind → looks n e ≡ true → (m : ℕ) → (m ≡ n → ⊥) → is_open before m ≡ true → are_one_class s.nodes m n ≡ false
alone_at s h n l before behind e is q m ne o =
    let part = legal_part s [] before behind e (subst (IsLegal s) is l) in
    each_apart s before part.0 m n ne o (inside before n (looked_due s before n e part.1 q).0).is_open

-- each cached body goes by the cache rule
pub goes_by_rule : (s : Run) (h : List Event) (n : ℕ) → IsLegal s h → is_cached s.nodes n ≡ true → GoesByCacheRule s h n
goes_by_rule s h n l c = record {
  once = looked_once s h n l;
  skipped = skipped_full s h n l;
  begun = λ b. (looked_before_begun s h n l c b, excluded (saw_full s.nodes h n) (is_begun h n) (full_unbegun s h n l) b);
  alone = alone_at s h n l;
}

-- a body that ended well was begun
well_begun : (s : Run) (h : List Event) (n : ℕ) → IsLegal s h → list_any (concludes_well n) h ≡ true → is_begun h n ≡ true
well_begun s h n l =
    since s (concludes_well n) (λ k. is_begun k n ≡ true) (λ k e b. any_kept _ k e b) (λ k e legal may q. any_kept _ k e (well_due s k n e may q).begun) h l

-- one of two tests passes, and so the other where one doesn't
other_passes : (a b : Bool) → (a || b) ≡ true → a ≡ false → b ≡ true
other_passes true b e q = absurd (true≢false q)
other_passes false b e q = e

one_passes : (a b : Bool) → (a || b) ≡ true → (b ≡ true → ⊥) → a ≡ true
one_passes true b e no_way = refl
one_passes false b e no_way = absurd (no_way e)

module _ (s : Run) (h : List Event) (n : ℕ) (l : IsLegal s h) (c : IsComplete s h) (lt : n < length s.nodes) where
  over : (is_skipped h n || list_any (concludes_well n) h) ≡ true
  over = sym (any_or (skips n) (concludes_well n) h) ∙ finished_over s.nodes h n (c.all_finished n lt)

  full_skipped : saw_full s.nodes h n ≡ true → is_skipped h n ≡ true
  full_skipped full = one_passes (is_skipped h n) _ over (λ w. true≢false (sym (well_begun s h n l w) ∙ full_unbegun s h n l full))

  unfull_begun : saw_full s.nodes h n ≡ false → is_begun h n ≡ true
  unfull_begun q = well_begun s h n l (other_passes (is_skipped h n) _ over (unless (is_skipped h n) (saw_full s.nodes h n) (skipped_full s h n l) q))

  begun_is : (b : Bool) → saw_full s.nodes h n ≡ b → is_begun h n ≡ not b
  begun_is true q = full_unbegun s h n l q
  begun_is false q = unfull_begun q

  -- in a complete history a body is skipped exactly where its look was full, and else begun
  pub skipped_by_look : IsSkippedByLook s.nodes h n
  skipped_by_look = (same_truth (is_skipped h n) (saw_full s.nodes h n) (skipped_full s h n l) full_skipped, begun_is (saw_full s.nodes h n) refl)

-- ---- the same of a run that is kept

module _ (s : Start) (h : List Event) (now : Moment) (kept : ∥ IsKept s h now ∥₁) where
  pub kept_apart : EachApart (run_of s) h
  kept_apart m n ne p q = ∥∥₁_elim kept (Bool-set _ _) (λ k. each_apart (run_of s) h k.legal m n ne p q)

  pub kept_rule : (n : ℕ) → is_cached s.plan.nodes n ≡ true → GoesByCacheRule (run_of s) h n
  kept_rule n c = record {
    once = ∥∥₁_elim kept le_prop (λ k. (goes_by_rule (run_of s) h n k.legal c).once);
    skipped = λ q. ∥∥₁_elim kept (Bool-set _ _) (λ k. (goes_by_rule (run_of s) h n k.legal c).skipped q);
    begun = λ q. (∥∥₁_elim kept (Bool-set _ _) (λ k. ((goes_by_rule (run_of s) h n k.legal c).begun q).0), ∥∥₁_elim kept (Bool-set _ _) (λ k. ((goes_by_rule (run_of s) h n k.legal c).begun q).1));
    alone = λ before behind e is q m ne o. ∥∥₁_elim kept (Bool-set _ _) (λ k. (goes_by_rule (run_of s) h n k.legal c).alone before behind e is q m ne o);
  }

  pub kept_skipped : IsComplete (run_of s) h → (n : ℕ) → n < length s.plan.nodes → IsSkippedByLook s.plan.nodes h n
  kept_skipped complete n lt =
      (∥∥₁_elim kept (Bool-set _ _) (λ k. (skipped_by_look (run_of s) h n k.legal complete lt).0), ∥∥₁_elim kept (Bool-set _ _) (λ k. (skipped_by_look (run_of s) h n k.legal complete lt).1))
