-- The work at the beginning.
use Rattle.std.proofs.Common.{rules, ◌≢◌, [], None, Ok, Err}
use Rattle.just_lang_types.specs.declared.project.LangError.TheVariants.{NoMemory}
use Rattle.just_eval_closure.specs.Ran.{places_of}
use Rattle.just_eval_closure.specs.Visits.{Visits}
use Rattle.just_eval_closure.proofs.Tasks.{right_start, refused_start}
use Rattle.just_eval_closure.proofs.walk.walk.Goals as goal

pub run-requires-clause-right : goal.run-requires-clause-right
run-requires-clause-right g c =
    right_start (g.S.Surroundings.around c.args.surroundings.now) (g.S.Surroundings.rank c.args.surroundings.now) (places_of c.new-ran.result) c.new-pending.result.items c.push_visits.new.pending.items c.args.keys c.new-ran.ensures c.new-pending.ensures.items c.in_ok-push_visits.ensures

pub returns-in_err-run-clause-refused : goal.returns-in_err-run-clause-refused
returns-in_err-run-clause-refused g c =
    let refused : c.in_err-run.field-0.0 ≢ NoMemory → Visits (g.S.Surroundings.around c.args.surroundings.now) (Ok []) None c.args.keys (Err c.in_err-run.field-0.0) =
    λ h. refused_start (g.S.Surroundings.around c.args.surroundings.now) (places_of c.new-ran.result) c.new-pending.result.items c.push_visits.new.pending.items c.args.keys c.in_err-run.field-0.0 c.new-ran.ensures c.new-pending.ensures.items c.in_ok-push_visits.ensures (c.in_err-run.ensures.refused h) in
    search (rules, refused)
