-- The law of this crate.
use Rattle.std.proofs.Common.{Some, [], refl}
use Rattle.just_cli.specs.Whole.{FirstAnswers}
use Rattle.just_cli.specs.Words.{ConfigRequest}
use Rattle.just_cli.proofs.Climbing.{climb_of_first}
use Rattle.just_cli.proofs.OneTried.{own_answer}
use Rattle.just_cli.proofs.WholeList.{whole}

pub first_answers : FirstAnswers
first_answers w q items r tried found (x, from, is) own =
    let c : ConfigRequest = record { config = q.config; environ = q.environ } in
    (x, whole w c (Some w) [] (Some w) q.location x (climb_of_first c (Some w) [] (Some w) q.location x from) q.location items tried refl refl refl (own_answer q.config x r is own) found, is)
