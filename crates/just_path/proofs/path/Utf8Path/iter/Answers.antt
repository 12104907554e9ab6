-- Any mixture of moves over the components' texts.
use Rattle.std.proofs.Common.{◌∙◌, ap, map}
use Rattle.just_path.specs.Path.{text_of}
use Rattle.just_path.specs.Comps.{comp_text, comps}
use Rattle.just_path.specs.Parts.{slice}
use Rattle.just_path.specs.Walk.{texts_left, texts_slice_left}
use Rattle.just_path.proofs.Mixtures.{walk_of}
use Rattle.just_path.proofs.path.Utf8Path.iter.Goals as goal

pub returns-clause-walk : goal.returns-clause-walk
returns-clause-walk c = walk_of texts_left texts_slice_left c.new.result (map comp_text (comps (text_of c.args.self.now))) (λ n k. slice n k (text_of c.args.self.now)) (c.new.ensures.left ∙ ap (map comp_text) c.components.ensures.left) (λ n k. c.new.ensures.slice n k ∙ c.components.ensures.slice n k)
