-- The status is that of the run of the words behind the first argument.
use Rattle.std.proofs.Common.{[], None, List, ℕ, map, refl, ap, ◌∙◌, subst}
use denote.Ref.{Bor}
use Rattle.just_host.specs.Real.{record_of}
use Rattle.just_cli.specs.Exit.{of_run}
use Rattle.just_cli.specs.Run.{IsEnded}
use Rattle.just_cli.specs.Words.{told_with}
use Rattle.just_cli.proofs.program.run_arguments.Goals as goal

pub returns-in-Ok-run : goal.returns-in-Ok-run
returns-in-Ok-run g c =
    let words = ap (λ (ws : List (Bor (List ℕ))). map (λ w. w.now) ws) c.as_slice.ensures.value ∙ c.in-Ok.ensures in
    of_run c.in-Ok-run.field-0.result (record_of c.in-Ok-run.field-0.host) refl
    (subst (λ ws. IsEnded ws (told_with None []) (told_with None (record_of c.in-Ok-run.field-0.host)) c.in-Ok-run.field-0.result) words c.in-Ok-run.ensures)
    c.exit_status-status.ensures
