-- The set has one more name.
use Rattle.just_lang_names.proofs.Sets.{parameter_more}
use Rattle.just_lang_names.proofs.parameters.Parameters.add.Goals as goal

pub returns : goal.returns
returns c = λ ps h q. parameter_more ps c.args.parameter.now c.as_str.result c.args.self.now.names c.insert.new.self q c.as_str.ensures c.in_ok-insert.ensures.updates (h q)
