-- The components of what was pushed.
use Rattle.std.proofs.Common.{◌∙◌, ap}
use Rattle.just_path.specs.Path.{text_of}
use Rattle.just_path.specs.Comps.{comps}
use Rattle.just_path.proofs.Pushes.{comps_of_join}
use Rattle.just_path.proofs.path.Utf8Path.join.Goals as goal

pub returns-clause-comps : goal.returns-clause-comps
returns-clause-comps c = ap comps c.in_ok-path.ensures ∙ comps_of_join (text_of c.args.self.now) (text_of c.args.path)
