-- No white space so far.
use Rattle.std.specs.Str.Iter.{chars_rest}
use Rattle.just_config.proofs.Pieces.{Told}
use Rattle.just_config.proofs.module_path.has_blank.Given as goal

abbrev pub invariant-characters : goal.invariant-characters
invariant-characters l = Told l.text (chars_rest l.character-iterator)
