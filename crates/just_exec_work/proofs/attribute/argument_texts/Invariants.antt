-- The texts so far and those of what is left are those of all.
use Rattle.std.proofs.Common.{◌≡◌, ◌++◌, drop, map}
use Rattle.just_exec_work.specs.Attributes.{argument_text}
use Rattle.just_exec_work.proofs.attribute.argument_texts.Given as goal

abbrev pub invariant-arguments : goal.invariant-arguments
invariant-arguments l = l.texts.items ++ map argument_text (drop l.argument-index l.arguments) ≡ map argument_text l.arguments
