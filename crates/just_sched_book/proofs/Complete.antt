-- When a closed history is complete.
use Rattle.std.proofs.Common.{◌≡◌, ℕ, zero, suc, ◌+◌, ◌<◌, ◌≤◌, ◌⊎◌, inl, inr, ◌&&◌, ◌||◌, not, Bool, true, false, List, length, map, slice_get, slice_index, Contains, Option, Some, None, is_some, is_none, option_map, refl, ap, sym, ◌∙◌, subst, arith}
use Rattle.std.proofs.Math.Bool.{Bool-set}
use Rattle.std.specs.List.{list_any}
use Rattle.std.proofs.lemmas.Grind.{get_or_default_zero}
use Rattle.std.proofs.lemmas.Option.{slice_get_within, slice_get-map}
use Rattle.just_lang_types.specs.declared.node.Node.{Node}
use Rattle.just_eval_closure.specs.WellFormed.{IsUsed, invoked as used_invoked, prior as used_prior, subsequent as used_subsequent}
use Rattle.just_sched_history.specs.declared.event.Event.{Event}
use Rattle.just_sched_history.specs.declared.event.Idle.TheVariants as idle
use Rattle.just_sched_history.specs.declared.plan_node.PlanNode.{PlanNode}
use Rattle.just_sched_history.specs.Nodes.{prompt_at, priors_in, priors_at, subsequents_in, subsequents_at}
use Rattle.just_sched_history.specs.State.{answers, skips, concludes_well, is_skipped, has_taken, has_given, is_done, is_asked, is_over_well, is_confirmed, reason_of, has_caught, IsFinished, finished, IsWanted, invoked, prior, subsequent}
use Rattle.just_sched_history.specs.Legal.{Run, IsLegal, IsClosed, IsComplete, open_bodies}
use Rattle.just_sched_history.specs.Idle.{HasWork, IsIdle}
use Rattle.just_sched_history.proofs.Bodies.{item_there}
use Rattle.just_sched_history.proofs.Finish.{asked_answer, done_well, finished_behind, finished_over, took_priors}
use Rattle.just_sched_book.proofs.OpenBodies.{closed_zero}
use Rattle.just_sched_history.proofs.Order.{gave_over, over_took, took_confirmed}
use Rattle.just_sched_history.proofs.PlanShape.{IsFormed, IsPrior, IsSubsequent, invocation_is, node_at, prior_is, round_in, round_of, subsequent_is}
use Rattle.just_sched_history.proofs.Range.{any_weaker}
use Rattle.just_sched_history.proofs.Tests.{or_true}

-- ---- lists of which each item leads to the next

-- each item before a place holds
in_turn_below : (F : ℕ → Type 0) (xs : List ℕ) → ((k : ℕ) → k < length xs → ((j : ℕ) → j < k → F (slice_index xs j)) → F (slice_index xs k)) → (n : ℕ) → n ≤ length xs → (j : ℕ) → j < n → F (slice_index xs j)
in_turn_below F xs next zero le j less = absurd (omega (arith, less))
in_turn_below F xs next (suc n) le j less = next j (omega (arith, le, less)) (λ i lt. in_turn_below F xs next n (omega (arith, le)) i (omega (arith, lt, less)))

-- what follows for each item from the items before it holds of each
pub in_turn : (F : ℕ → Type 0) (xs : List ℕ) → ((k : ℕ) → k < length xs → ((j : ℕ) → j < k → F (slice_index xs j)) → F (slice_index xs k)) → (k : ℕ) → k < length xs → F (slice_index xs k)
in_turn F xs next k lt = next k lt (λ j less. in_turn_below F xs next k (omega (arith, lt)) j less)

-- what holds of each item holds of what the list contains
pub of_contained : (F : ℕ → Type 0) (xs : List ℕ) → ((k : ℕ) → k < length xs → F (slice_index xs k)) → (q : ℕ) → Contains xs q → F q
of_contained F xs each q c = subst F (sym (get_or_default_zero xs c.0 q c.1) ∙ c.2) (each c.0 c.1)

-- ---- rounds and places

-- how deep a round lies
abbrev rank : Option ℕ → ℕ
rank (Some m) = m + 1
rank None = 0

-- a round lies no deeper than its node, where the node is there
rank_in : (s : Run) → IsFormed s → (n : ℕ) (x : PlanNode) (r : Option ℕ) → slice_get s.nodes n ≡ Some x → x.node.round ≡ r → rank r ≤ n
rank_in s f n x None q e = omega arith
rank_in s f n x (Some m) q e = omega (arith, f.rounds_are n m x.node (node_at s.nodes n x q) e)

-- the same, by the node that may be there
rank_at : (s : Run) → IsFormed s → (n : ℕ) (o : Option PlanNode) → slice_get s.nodes n ≡ o → rank (round_in o) ≤ n
rank_at s f n None q = omega arith
rank_at s f n (Some x) q = rank_in s f n x x.node.round q refl

-- a round lies no deeper than its node
rank_below : (s : Run) → IsFormed s → (n : ℕ) → rank (round_of s n) ≤ n
rank_below s f n = rank_at s f n (slice_get s.nodes n) refl

-- a shape that is there is that of a node
node_there_at : (nodes : List PlanNode) (m : ℕ) (x : Node) (o : Option PlanNode) → slice_get nodes m ≡ o → option_map (λ y. y.node) o ≡ Some x → (m < length nodes) × (x.priors ≡ priors_at nodes m) × (x.subsequents ≡ subsequents_at nodes m)
node_there_at nodes m x None q e = absurd (cc)
node_there_at nodes m x (Some y) q e =
    let same : x ≡ y.node = cc in
    (slice_get_within nodes m y q, ap (λ z. z.priors) same ∙ ap priors_in (sym q), ap (λ z. z.subsequents) same ∙ ap subsequents_in (sym q))

-- a node of the shapes is one of the plan, with its priors and subsequents
node_there : (nodes : List PlanNode) (m : ℕ) (x : Node) → slice_get (map (λ y. y.node) nodes) m ≡ Some x → (m < length nodes) × (x.priors ≡ priors_at nodes m) × (x.subsequents ≡ subsequents_at nodes m)
node_there nodes m x e = node_there_at nodes m x (slice_get nodes m) refl (sym (slice_get-map (λ y. y.node) nodes m) ∙ e)

-- ---- the end of a run

-- a closed history in which no node failed, with nothing left to do
pub record HasNothingLeft (s : Run) (h : List Event) : Type 0 where
  pub formed : IsFormed s
  pub legal : IsLegal s h
  pub closed : IsClosed s h
  pub no_reason : (n : ℕ) → n < length s.nodes → reason_of h n ≡ None
  pub answered : (n : ℕ) → list_any (answers false n) h ≡ true → is_done h n ≡ true
  pub no_work : HasWork s h → ⊥

module _ (s : Run) (h : List Event) (e : HasNothingLeft s h) where
  -- a node that is done is over well
  done_over : (n : ℕ) → n < length s.nodes → is_done h n ≡ true → is_over_well h n ≡ true
  done_over n lt d = done_well h n d (e.no_reason n lt)

  -- and it was confirmed
  done_confirmed : (n : ℕ) → n < length s.nodes → is_done h n ≡ true → is_confirmed s.nodes h n ≡ true
  done_confirmed n lt d = took_confirmed s h n e.legal (over_took s h n e.legal (done_over n lt d))

  -- an answer confirms, or its node is done
  confirmed_by : (n : ℕ) → n < length s.nodes → (o : Option (List ℕ)) → prompt_at s.nodes n ≡ o → (list_any (answers true n) h ≡ true) ⊎ (list_any (answers false n) h ≡ true) → is_confirmed s.nodes h n ≡ true
  confirmed_by n lt o q (inl said) = ap (λ b. is_none (prompt_at s.nodes n) || b) said ∙ or_true (is_none (prompt_at s.nodes n))
  confirmed_by n lt o q (inr said) = done_confirmed n lt (e.answered n said)

  -- a wanted node is confirmed, by what was asked and done
  confirmed_at : (n : ℕ) → n < length s.nodes → IsWanted s.nodes s.invocations h n → (o : Option (List ℕ)) → prompt_at s.nodes n ≡ o → (a d : Bool) → is_asked h n ≡ a → is_done h n ≡ d → is_confirmed s.nodes h n ≡ true
  confirmed_at n lt w o q a true qa qd = done_confirmed n lt qd
  confirmed_at n lt w None q a false qa qd = ap (λ p. is_none p || list_any (answers true n) h) q
  confirmed_at n lt w (Some p) q true false qa qd = confirmed_by n lt (Some p) q (asked_answer h n qa)
  confirmed_at n lt w (Some p) q false false qa qd = absurd (e.no_work (n, inr (record { wanted = w; prompted = ap is_some q; not_asked = qa; not_done = qd })))

  -- a wanted node is confirmed
  wanted_confirmed : (n : ℕ) → n < length s.nodes → IsWanted s.nodes s.invocations h n → is_confirmed s.nodes h n ≡ true
  wanted_confirmed n lt w = confirmed_at n lt w (prompt_at s.nodes n) refl (is_asked h n) (is_done h n) refl refl

  -- a node that isn't open gave its job back
  given : (b : Bool) → (true && not b) ≡ false → b ≡ true
  given true q = refl
  given false q = absurd (cc)

  -- a body that is over is over well
  over_by : (n : ℕ) → n < length s.nodes → (b : Bool) → is_skipped h n ≡ b → (b || is_done h n) ≡ true → is_over_well h n ≡ true
  over_by n lt true k v = any_weaker (skips n) (λ x. skips n x || concludes_well n x) (λ x q. ap (λ c. c || concludes_well n x) q) h k
  over_by n lt false k v = done_over n lt v

  -- a node that took a job is over well
  took_over : (n : ℕ) → n < length s.nodes → has_taken h n ≡ true → is_over_well h n ≡ true
  took_over n lt t = over_by n lt (is_skipped h n) refl (gave_over s h n e.legal (given (has_given h n) (subst (λ b. (b && not (has_given h n)) ≡ false) t (e.closed n lt))))

  -- a wanted node is over well, by what was taken and done
  over_at : (n : ℕ) → n < length s.nodes → IsWanted s.nodes s.invocations h n → ((q : ℕ) → Contains (priors_at s.nodes n) q → IsFinished s.nodes h q) → (t d : Bool) → has_taken h n ≡ t → is_done h n ≡ d → is_over_well h n ≡ true
  over_at n lt w priors t true qt qd = done_over n lt qd
  over_at n lt w priors true false qt qd = took_over n lt qt
  over_at n lt w priors false false qt qd = absurd (e.no_work (n, inl (record { wanted = w; confirmed = wanted_confirmed n lt w; priors = priors; not_taken = qt; not_done = qd })))

  -- a wanted node whose priors are finished is over well
  wanted_over : (n : ℕ) → n < length s.nodes → IsWanted s.nodes s.invocations h n → ((q : ℕ) → Contains (priors_at s.nodes n) q → IsFinished s.nodes h q) → is_over_well h n ≡ true
  wanted_over n lt w priors = over_at n lt w priors (has_taken h n) (is_done h n) refl refl

  -- a wanted node is finished, where so many rounds can lie below its own
  finish_in : (a : ℕ) → ((q : ℕ) → q < length s.nodes → length s.nodes < rank (round_of s q) + a → IsWanted s.nodes s.invocations h q → IsFinished s.nodes h q) → (b n : ℕ) → n < b → n < length s.nodes → length s.nodes < rank (round_of s n) + suc a → IsWanted s.nodes s.invocations h n → IsFinished s.nodes h n
  finish_in a outer zero n less lt deep w = absurd (omega (arith, less))
  finish_in a outer (suc b) n less lt deep w =
      let priors = in_turn (IsFinished s.nodes h) (priors_at s.nodes n) (λ k at before.
      let p = prior_is s e.formed n k at in
      finish_in a outer b (slice_index (priors_at s.nodes n) k) (omega (arith, p.below, less)) p.there (subst (λ r. length s.nodes < rank r + suc a) (sym p.round) deep) (prior n (slice_index (priors_at s.nodes n) k) w (wanted_confirmed n lt w) (k, at, refl, inr before))) in
      let over = wanted_over n lt w (of_contained (IsFinished s.nodes h) (priors_at s.nodes n) priors) in
      finished n over (of_contained (IsFinished s.nodes h) (subsequents_at s.nodes n) (in_turn (IsFinished s.nodes h) (subsequents_at s.nodes n) (λ k at before.
      let p = subsequent_is s e.formed n k at in
      outer (slice_index (subsequents_at s.nodes n) k) p.there (omega (arith, ap rank p.round, rank_below s e.formed n, deep)) (subsequent n (slice_index (subsequents_at s.nodes n) k) over (k, at, refl, inr before)))))

  -- a wanted node is finished, by how many rounds lie below it
  finish : (a n : ℕ) → n < length s.nodes → length s.nodes < rank (round_of s n) + a → IsWanted s.nodes s.invocations h n → IsFinished s.nodes h n
  finish zero n lt deep w = absurd (omega (arith, lt, deep, rank_below s e.formed n))
  finish (suc a) n lt deep w = finish_in a (λ q lt_q deep_q w_q. finish a q lt_q deep_q w_q) (suc n) n (omega arith) lt deep w

  pub wanted_finished : (n : ℕ) → n < length s.nodes → IsWanted s.nodes s.invocations h n → IsFinished s.nodes h n
  wanted_finished n lt w = finish (suc (length s.nodes)) n lt (omega arith) w

  pub invocations_finished : (k : ℕ) → k < length s.invocations → IsFinished s.nodes h (slice_index s.invocations k)
  invocations_finished k lt =
      in_turn (IsFinished s.nodes h) s.invocations (λ j at before. wanted_finished (slice_index s.invocations j) (invocation_is s e.formed j at).there (invoked (slice_index s.invocations j) (j, at, refl, inr before))) k lt

  -- the priors of a finished node are finished
  prior_finished : (m n : ℕ) → IsFinished s.nodes h m → Contains (priors_at s.nodes m) n → IsFinished s.nodes h n
  prior_finished m n f c = took_priors s h m e.legal (over_took s h m e.legal (finished_over s.nodes h m f)) n c

  -- a node that a plan uses is finished
  used_done : (a : ℕ) → ((q : ℕ) → q < length s.nodes → rank (round_of s q) < a → IsFinished s.nodes h q) → (n : ℕ) → rank (round_of s n) < suc a → ((m : ℕ) → n < m → m < length s.nodes → round_of s n ≡ round_of s m → IsFinished s.nodes h m) → IsUsed (map (λ x. x.node) s.nodes) s.invocations n → IsFinished s.nodes h n
  used_done a outer n low later (used_invoked c) = of_contained (IsFinished s.nodes h) s.invocations invocations_finished n c
  used_done a outer n low later (used_prior m x q c) =
      let there = node_there s.nodes m x q in
      let in_priors = subst (λ xs. Contains xs n) there.1 c in
      let p = of_contained (λ k. IsPrior s m k) (priors_at s.nodes m) (prior_is s e.formed m) n in_priors in
      prior_finished m n (later m p.below there.0 p.round) in_priors
  used_done a outer n low later (used_subsequent m x q c) =
      let there = node_there s.nodes m x q in
      let in_subsequents = subst (λ xs. Contains xs n) there.2 c in
      let p = of_contained (λ k. IsSubsequent s m k) (subsequents_at s.nodes m) (subsequent_is s e.formed m) n in_subsequents in
      finished_behind s.nodes h m n (outer m there.0 (omega (arith, ap rank p.round, rank_below s e.formed m, low))) in_subsequents

  -- each node of a round is finished
  all_in : (a : ℕ) → ((q : ℕ) → q < length s.nodes → rank (round_of s q) < a → IsFinished s.nodes h q) → (b n : ℕ) → length s.nodes ≤ n + b → n < length s.nodes → rank (round_of s n) < suc a → IsFinished s.nodes h n
  all_in a outer zero n high lt low = absurd (omega (arith, high, lt))
  all_in a outer (suc b) n high lt low =
      let x = item_there s.nodes n lt in
      used_done a outer n low (λ m less lt_m round. all_in a outer b m (omega (arith, high, less)) lt_m (subst (λ r. rank r < suc a) round low)) (e.formed.used n x.0.node (node_at s.nodes n x.0 x.1))

  -- each node of the plan is finished
  all : (a n : ℕ) → n < length s.nodes → rank (round_of s n) < a → IsFinished s.nodes h n
  all zero n lt low = absurd (omega (arith, low))
  all (suc a) n lt low = all_in a (λ q lt_q low_q. all a q lt_q low_q) (length s.nodes) n (omega arith) lt low

  pub at_end_complete : IsComplete s h
  at_end_complete = record { closed = e.closed; all_finished = λ n lt. all (suc n) n lt (omega (arith, rank_below s e.formed n)) }

-- a closed history in which no node failed and each no was answered to, with nothing left to do, is complete
pub complete : (s : Run) (h : List Event) → IsFormed s → IsLegal s h → IsClosed s h → ((n : ℕ) → n < length s.nodes → reason_of h n ≡ None) → ((n : ℕ) → list_any (answers false n) h ≡ true → is_done h n ≡ true) → has_caught h ≡ false → (HasWork s h → ⊥) → IsComplete s h
complete s h f l c r a _ w = at_end_complete s h (record { formed = f; legal = l; closed = c; no_reason = r; answered = a; no_work = w })

-- with nothing open, a limit of one job or more is not reached
pub jobs_absurd : (s : Run) (h : List Event) (j : ℕ) → IsClosed s h → s.jobs ≡ Some j → 0 < j → IsIdle s h idle.Jobs → ⊥
jobs_absurd s h j c q some i = let same : j ≡ open_bodies s h = cc (sym q ∙ i.3) in omega (arith, same, closed_zero s h c, some)

-- there is one way to be finished
pub finished_prop : (nodes : List PlanNode) (h : List Event) (n : ℕ) → IsProp (IsFinished nodes h n)
finished_prop nodes h n (finished k p f) (finished _ q g) = λ i. finished k (Bool-set _ _ p q i) (λ m c. finished_prop nodes h m (f m c) (g m c) i)

-- so a complete history can be had from a plan whose being well formed is truncated
pub complete_prop : (s : Run) (h : List Event) → IsProp (IsComplete s h)
complete_prop s h = λ x y i. record { closed = λ n lt. Bool-set _ _ (x.closed n lt) (y.closed n lt) i; all_finished = λ n lt. finished_prop s.nodes h n (x.all_finished n lt) (y.all_finished n lt) i }
