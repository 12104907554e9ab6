-- What became of a move, by cases.
use Rattle.std.specs.Prelude.{ℕ}
use Rattle.just_host_record.specs.declared.outside.Host
use Rattle.just_path.specs.declared.host.PathHost
use Rattle.just_sched_history.specs.declared.event.Idle.{Idle}
use Rattle.just_sched_book.specs.declared.token.Next.{Next}
use Rattle.just_sched_book.specs.declared.token.Next.TheVariants as next

-- a fact for each answer of a move: of the node and the child of a body, and of why there was no move
abbrev pub MatchNext : {X C D : Type 0} {g : Host.Ghosts X C D} {p : PathHost.Ghosts X} → Next X C D g p → Type 0 → (ℕ → ℕ → Type 0) → (Idle → Type 0) → Type 0
MatchNext next.Moved moved runs idle = moved
MatchNext (next.Body body) moved runs idle = runs body.node body.child
MatchNext (next.Idle i) moved runs idle = idle i
