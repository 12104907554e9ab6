-- What is told of the history is what is told of so many bodies.
use Rattle.std.proofs.Common.{ap, ◌∙◌}
use Rattle.std.proofs.lemmas.Result.{IfOk-weaker}
use Rattle.just_cli_vectors.specs.Vectors.{report_of}
use Rattle.just_cli_vectors.proofs.Reported.{reported}
use Rattle.just_cli_vectors.proofs.telling.report.Goals as goal

pub returns : goal.returns
returns c = IfOk-weaker c.told.result _ _ (λ t same. same ∙ (ap report_of c.requires ∙ reported c.args.count)) c.told.ensures
