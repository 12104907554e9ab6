-- The files so far are those that the items so far name.
use Rattle.std.proofs.Common.{◌≡◌, ◌++◌, drop}
use Rattle.just_lang_types.specs.References.{references_of}
use Rattle.just_lang_types.proofs.reference.references.Given as goal

abbrev pub invariant-loop-item : goal.invariant-loop-item
invariant-loop-item l = l.found.items ++ references_of (drop l.item-index l.ast.items) ≡ references_of l.ast.items
