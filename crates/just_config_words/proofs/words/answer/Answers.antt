-- The words are read, and what they come to is what they mean.
use Rattle.std.proofs.Common.{◌∙◌, ℕ, List, subst}
use Rattle.just_config_words.specs.Steps.{IsFront}
use Rattle.just_config_words.proofs.words.answer.Goals as goal

pub returns : goal.returns
returns c = c.in_ok-answer.ensures _ (subst (λ (t : List (List ℕ)). IsFront t c.in_ok-front.front) (c.as_slice.ensures.value ∙ c.in_ok-texts.ensures) c.in_ok-front.ensures)
