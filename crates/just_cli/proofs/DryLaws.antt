-- A plan is told, and a child is run alone, from what the calls answered.
use Rattle.std.proofs.Common.{◌≡◌, ◌++◌, Bool, List, [], None, Result, Ok, Err, refl, sym, subst}
use Rattle.just_host_record.specs.World.{Moment}
use Rattle.just_host_record.specs.declared.entry.Entry.{Entry}
use Rattle.just_sched_history.specs.declared.event.Event.{Event}
use Rattle.just_sched_history.specs.declared.plan.Plan.{Plan}
use Rattle.just_exec.specs.Codes.{exit_code}
use Rattle.just_exec.specs.declared.error.Error.{Error}
use Rattle.just_cli_children.specs.declared.child.Child.{Child}
use Rattle.just_cli_children.specs.Children.{RunsAlone}
use Rattle.just_cli_children.specs.DryRuns.{told_of_all, Tells}
use Rattle.just_cli.specs.declared.ended.Failure.{Failure}
use Rattle.just_cli.specs.declared.ended.Report.{Report}
use Rattle.just_cli.specs.Dry.{IsPlanTold}
use Rattle.just_cli.specs.Invoked.{IsInvoked}
use Rattle.just_cli.specs.Printing.{IsIdle}
use Rattle.just_cli.specs.Record.{IsTold}
use Rattle.just_host_record.proofs.Moments.{moment_by}

-- the end of what isn't done
abbrev Fails : Error → List Event → Failure
Fails e h = record { error = e; plan = None; history = h; code = exit_code e }

-- ---- plans

module _ (plan : Plan) (quiet : Bool) (before between : Moment) where
  pub plan_told : Tells (told_of_all plan.nodes) before between (Ok tt) → (h : List Event) → h ≡ [] → IsPlanTold plan quiet before between (Ok (record { plan = plan; history = h }))
  plan_told tells h none = record { told = (refl, none, tells); untold = tt }

  pub plan_untold : (after : Moment) (r : Result Report Failure) (e : Error) (h : List Event) → r ≡ Err (Fails e h) → h ≡ [] → Tells (told_of_all plan.nodes) before between (Err e)
      → (es : List Entry) × (after.entries ≡ between.entries ++ es) × IsTold quiet e es → after.world ≡ between.world → IsPlanTold plan quiet before after r
  plan_untold after r e h is none tells told world = subst (λ x. IsPlanTold plan quiet before after x) (sym is) (record { told = tt; untold = ((refl, none, refl), (between, tells, told, world)) })

-- ---- children

module _ (c : Child) (quiet : Bool) (before between after : Moment) where
  -- nothing more is done behind one that ended well
  pub invoked_well : (r : Result Report Failure) → RunsAlone c before between (Ok tt) → IsIdle between after r → IsInvoked c quiet before after r
  invoked_well (Ok x) runs idle = record { well = (idle.well, subst (λ (m : Moment). RunsAlone c before m (Ok tt)) (sym (moment_by after between idle.entries idle.world)) runs); unwell = tt }
  invoked_well (Err f) runs idle = absurd idle.never

  pub invoked_ill : (r : Result Report Failure) (e : Error) (h : List Event) → r ≡ Err (Fails e h) → h ≡ [] → RunsAlone c before between (Err e) → (es : List Entry) × (after.entries ≡ between.entries ++ es) × IsTold quiet e es → after.world ≡ between.world
      → IsInvoked c quiet before after r
  invoked_ill r e h is none runs told world = subst (λ x. IsInvoked c quiet before after x) (sym is) (record { well = tt; unwell = ((refl, none, refl), (between, runs, told, world)) })
