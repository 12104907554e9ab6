-- A new justfile is asked for, or what reads nothing of the host.
use Rattle.just_cli_texts.specs.declared.kind.Kind.TheVariants as kind
use Rattle.just_cli.proofs.Commanding.{new_then, all_alone_as, all_unasked_as}
use Rattle.just_cli.proofs.Prepared.{left_nothing}
use Rattle.just_cli.proofs.prepare.asked_alone.Goals as goal

pub returns-then-is_new-clause-asked : goal.returns-then-is_new-clause-asked
returns-then-is_new-clause-asked g c = all_alone_as _ kind.New (new_then _ (rw (c.is_new.ensures, c.kind_of.ensures) at c.if-is_new.true)) _ _ _ c.new_alone.ensures.asked

pub returns-then-is_new-clause-refused : goal.returns-then-is_new-clause-refused
returns-then-is_new-clause-refused g c = all_unasked_as _ kind.New (new_then _ (rw (c.is_new.ensures, c.kind_of.ensures) at c.if-is_new.true)) _ _ _ c.new_alone.ensures.refused

pub answer_alone-requires-clause-old : goal.answer_alone-requires-clause-old
answer_alone-requires-clause-old g c = rw (c.is_new.ensures, c.kind_of.ensures) at c.if-is_new.false

pub returns-in-Ok-clause-asked : goal.returns-in-Ok-clause-asked
returns-in-Ok-clause-asked g c = c.in-Ok.ensures.asked _

pub returns-in-Err-clause-refused : goal.returns-in-Err-clause-refused
returns-in-Err-clause-refused g c = c.in-Err.ensures.refused _

pub returns-in-Err-clause-grew : goal.returns-in-Err-clause-grew
returns-in-Err-clause-grew g c = left_nothing _ _ c.in-Err.ensures.silent
