-- Any mixture of moves over the components.
use Rattle.std.proofs.Common.{◌∙◌, ap}
use Rattle.just_path.specs.Path.{text_of}
use Rattle.just_path.specs.Comps.{comps}
use Rattle.just_path.specs.Parts.{slice}
use Rattle.just_path.specs.Walk.{comps_left, slice_left}
use Rattle.just_path.proofs.Mixtures.{walk_of}
use Rattle.just_path.proofs.Parents.{no_prefix}
use Rattle.just_path.proofs.path.Utf8Path.components.Goals as goal

pub returns-clause-walk : goal.returns-clause-walk
returns-clause-walk c = walk_of comps_left slice_left c.new.result (comps (text_of c.args.self.now)) (λ n k. slice n k (text_of c.args.self.now)) (c.new.ensures.left ∙ ap comps c.as_str.ensures) (λ n k. c.new.ensures.slice n k ∙ ap (λ t. slice n k t) c.as_str.ensures)

pub returns-clause-unix : goal.returns-clause-unix
returns-clause-unix c = no_prefix (text_of c.args.self.now)
