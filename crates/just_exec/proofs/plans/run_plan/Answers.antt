-- A refusal of the body's work, or of its cache, is one of the plan; and the cache has as many paths as inputs.
use Rattle.std.proofs.Common.{◌≡◌, sym, subst}
use Rattle.just_path.specs.Path.{text_of}
use Rattle.just_exec_work.specs.Works.{run_of}
use Rattle.just_eval_closure.specs.Entries.{located_of}
use Rattle.just_exec.specs.declared.node_plan.NodePlan.{NodePlan}
use Rattle.just_exec.specs.declared.plan_error.PlanError.TheVariants as error
use Rattle.just_exec.specs.Caches.{IsPaired}
use Rattle.just_exec.proofs.Paired.{paired_cache}
use Rattle.just_exec.proofs.RunPlans.{work_refused_from}
use Rattle.just_exec.proofs.plans.run_plan.Goals as goal

pub returns-in_err-work-clause-plan : goal.returns-in_err-work-clause-plan
returns-in_err-work-clause-plan c =
    let e = c.in_err-work.field-0.0 in
    work_refused_from c.args.scopes.now (located_of c.args.from.now) (run_of c.args.run.now) (text_of c.args.folder) c.args.lines.now e c.from_residual.result _ (λ p is. let same : p ≡ error.Command e = cc in same)
    c.in_err-work.ensures.refused c.from_residual.ensures.1

pub returns-clause-paired : goal.returns-clause-paired
returns-clause-paired c =
    subst (λ (p : NodePlan). IsPaired p.cache) (sym c.node_plan.ensures)
    (paired_cache c.args.scopes.now (located_of c.args.from.now) (run_of c.args.run.now) (text_of c.args.folder) c.args.lines.now c.in_ok-work.work c.in_ok-cache.cache c.in_ok-cache.ensures)
