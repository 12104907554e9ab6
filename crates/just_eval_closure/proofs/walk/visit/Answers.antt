-- A visit of a new key.
use Rattle.std.proofs.Common.{rules, ◌≡◌, false, is_some}
use Rattle.just_eval_closure.specs.Numbers.{number_in}
use Rattle.just_eval_closure.specs.Ran.{places_of}
use Rattle.just_eval_closure.proofs.Numbered.{absent_unlisted}
use Rattle.just_eval_closure.proofs.Tasks.{opened}
use Rattle.just_eval_closure.proofs.walk.visit.Goals as goal

pub returns-clause-proceeds : goal.returns-clause-proceeds
returns-clause-proceeds g c =
    let none : is_some (number_in (places_of c.args.ran.now) c.args.place.round c.args.place.key) ≡ false = search rules in
    opened (g.S.Surroundings.around c.args.surroundings.now) (g.S.Surroundings.rank c.args.surroundings.now) c.args.pending.now.items c.open.new.pending.items (places_of c.args.ran.now) c.args.place c.in_ok-priors.priors c.in_ok-priors.subsequents c.in_ok-open.ensures c.requires.ranked c.in_ok-priors.ensures.keys (absent_unlisted (places_of c.args.ran.now) c.args.place.round c.args.place.key none) c.requires.right
