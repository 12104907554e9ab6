-- The lines are those of the modules in turn.
use Rattle.std.proofs.Common.{map}
use Rattle.just_cli_texts.proofs.choices.choices.Goals as goal

pub returns : goal.returns
returns c = (map (λ m. m.now) c.in_ok-all.all.items, c.in_ok-all.ensures, rw c.as_slice.ensures.value at c.in_ok-lines.ensures)
