-- Characters that are collected in order are those of the text.
use Rattle.std.proofs.Common.{rules}
use Rattle.std.proofs.lemmas.Str.{chars_from_encodes}
use Rattle.just_print.proofs.body.characters.Goals as goal

pub returns : goal.returns
returns c = search (rules, chars_from_encodes)
