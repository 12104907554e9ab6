-- Why there is no move, and that there is one.
use Rattle.std.proofs.Common.{◌≡◌, ℕ, ◌<◌, ◌||◌, inl, inr, true, false, true≢false, List, length, Option, Some, None, MatchOption, sym, ◌∙◌, subst, arith}
use Rattle.std.proofs.Math.Bool.{Bool-set}
use Rattle.std.proofs.Math.Logic.{∥∥₁_elim}
use Rattle.just_host_record.specs.declared.outside.Host
use Rattle.just_path.specs.declared.host.PathHost
use Rattle.just_sched_history.specs.declared.event.Event.{Event}
use Rattle.just_sched_history.specs.declared.event.Idle.{Idle}
use Rattle.just_sched_book.specs.declared.token.Next.{Next}
use Rattle.just_sched_book.specs.declared.token.Next.TheVariants as next
use Rattle.just_sched_history.specs.Idle.{HasWork, NoneToAsk, EachWaits, MayTake, CanMove}
use Rattle.just_sched_history.specs.Legal.{open_bodies}
use Rattle.just_sched_history.specs.Moves.{GrowsBy, IsMove, RunsWith, Rests}
use Rattle.just_sched_book.specs.MoveAnswers.{MatchNext}
use Rattle.just_sched_history.specs.Start.{Start, run_of}
use Rattle.just_sched_history.specs.Turns.{IsFree, OnlyWaits}
use Rattle.just_sched_history.specs.State.{has_taken, has_caught, is_asked, is_done, IsToAsk, IsDueNext}
use Rattle.just_sched_history.proofs.Grows.{grows_two, or_caught}
use Rattle.just_sched_history.proofs.OneMore.{taken_on}
use Rattle.just_sched_history.proofs.Range.{ready_there, to_ask_there}

-- ---- answers of a move

-- what follows for each answer of a move follows for the move
pub match_next : {X C D : Type 0} {g : Host.Ghosts X C D} {p : PathHost.Ghosts X} (r : Next X C D g p) (A A' : Type 0) (B B' : ℕ → ℕ → Type 0) (K K' : Idle → Type 0) → (A → A') → ((n c : ℕ) → B n c → B' n c) → ((i : Idle) → K i → K' i) → MatchNext r A B K → MatchNext r A' B' K'
match_next next.Moved A A' B B' K K' a b k m = a m
match_next (next.Body body) A A' B B' K K' a b k m = b body.node body.child m
match_next (next.Idle i) A A' B B' K K' a b k m = k i m

-- where no node of the plan is ready or to be asked, there is no work
pub nothing_due : (s : Start) (h : List Event) → ((n : ℕ) → n < length s.plan.nodes → IsDueNext s.plan.nodes s.plan.invocations h n → ⊥) → HasWork (run_of s) h → ⊥
nothing_due s h none (n, inl ready) = ∥∥₁_elim s.plan.well (λ x. absurd x) (λ f. none n (ready_there (run_of s) h n f ready) (inl ready))
nothing_due s h none (n, inr to_ask) = ∥∥₁_elim s.plan.well (λ x. absurd x) (λ f. none n (to_ask_there (run_of s) h n f to_ask) (inr to_ask))

-- where no node of the plan is to be asked, none is
pub none_to_ask : (s : Start) (h : List Event) → ((n : ℕ) → n < length s.plan.nodes → IsToAsk s.plan.nodes s.plan.invocations h n → ⊥) → NoneToAsk (run_of s) h
none_to_ask s h none n to_ask = ∥∥₁_elim s.plan.well (λ x. absurd x) (λ f. none n (to_ask_there (run_of s) h n f to_ask) to_ask)

-- where each ready node of the plan waits, each ready node does
pub each_waits : (s : Start) (h : List Event) → ((n : ℕ) → n < length s.plan.nodes → OnlyWaits s.plan.nodes s.plan.invocations h n) → EachWaits (run_of s) h
each_waits s h each n ready = ∥∥₁_elim s.plan.well (Bool-set _ _) (λ f. (each n (ready_there (run_of s) h n f ready)).waits ready)

-- a free job isn't a full limit
pub not_full : (jobs : Option ℕ) (count : ℕ) → MatchOption jobs (Unit {0}) (λ j. count < j) → jobs ≡ Some count → ⊥
not_full None count free e = absurd (cc)
not_full (Some j) count free e = let same : j ≡ count = cc in omega arith

-- a free node may take a job where there is one
pub may_take : (s : Start) (h : List Event) (n : ℕ) → IsFree s.plan.nodes s.plan.invocations h n → MatchOption s.jobs (Unit {0}) (λ j. open_bodies (run_of s) h < j) → MayTake (run_of s) h n
may_take s h n free job = record { ready = free.ready; job = not_full s.jobs (open_bodies (run_of s) h) job; apart = free.apart }

-- so there is a move
pub can_move : (s : Start) (h : List Event) (n : ℕ) → has_caught h ≡ false → MayTake (run_of s) h n → CanMove (run_of s) h
can_move s h n calm may = (calm, (n, inr may))

-- and where a node is to be asked, whatever jobs are free
pub can_ask : (s : Start) (h : List Event) (n : ℕ) → has_caught h ≡ false → IsToAsk s.plan.nodes s.plan.invocations h n → CanMove (run_of s) h
can_ask s h n calm to_ask = (calm, (n, inl to_ask))

-- a node that only waits can't take a job
pub none_takes : (s : Start) (h : List Event) (m : ℕ) → OnlyWaits s.plan.nodes s.plan.invocations h m → MayTake (run_of s) h m → ⊥
none_takes s h m only may = true≢false (sym (only.waits may.ready) ∙ may.apart)

-- the move by which the node of least number was asked
pub asked_move : (s : Start) (old first new : List Event) (n : ℕ) → first ≡ old → IsToAsk s.plan.nodes s.plan.invocations old n → has_taken old n ≡ false
    → ((m : ℕ) → m < n → IsToAsk s.plan.nodes s.plan.invocations old m → ⊥)
    → ((m : ℕ) → m < n → MayTake (run_of s) old m → ⊥)
    → GrowsBy first new n → (is_asked new n || is_done new n) ≡ true → IsMove (run_of s) old new n
asked_move s old first new n same to_ask free least none grown asked = record {
  moved = inr (to_ask, asked);
  not_taken = free;
  least_to_ask = least;
  least_to_take = none;
  grows = or_caught old new n (subst (λ h. GrowsBy h new n) same grown);
}

-- what became of a move, where the free node of least number took a job and was then gone on with
pub did_next : {X C D : Type 0} {g : Host.Ghosts X C D} {p : PathHost.Ghosts X} (r : Next X C D g p) (s : Start) (old first mid new : List Event) (node : ℕ) (K : Idle → Type 0)
    → first ≡ old → MayTake (run_of s) old node → ((m : ℕ) → m < node → OnlyWaits s.plan.nodes s.plan.invocations old m)
    → GrowsBy first mid node → has_taken mid node ≡ true → GrowsBy mid new node → MatchNext r (Rests new node) (λ n c. (n ≡ node) × RunsWith new n c) (λ i. ⊥)
    → MatchNext r ((n : ℕ) × IsMove (run_of s) old new n × Rests new n) (λ n c. IsMove (run_of s) old new n × RunsWith new n c) K
did_next r s old first mid new node K same may least took taken went did =
    let move : IsMove (run_of s) old new node = record {
      moved = inl (may, taken_on mid new went.more node went.grew taken);
      not_taken = may.ready.not_taken;
      least_to_ask = λ m lt to_ask. (least m lt).not_to_ask to_ask;
      least_to_take = λ m lt other. none_takes s old m (least m lt) other;
      grows = or_caught old new node (grows_two old mid new node (subst (λ h. GrowsBy h mid node) same took) went);
    } in
    match_next r (Rests new node) ((n : ℕ) × IsMove (run_of s) old new n × Rests new n) (λ n c. (n ≡ node) × RunsWith new n c) (λ n c. IsMove (run_of s) old new n × RunsWith new n c) (λ i. ⊥) K
    (λ rests. (node, move, rests))
    (λ n c m. (subst (λ k. IsMove (run_of s) old new k) (sym m.0) move, m.1))
    (λ i x. absurd x)
    did
