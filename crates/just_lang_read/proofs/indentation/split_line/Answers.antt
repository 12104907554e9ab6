-- A line is cut behind its line feed.
use Rattle.std.proofs.Common.{◌≡◌, [], rules}
use Rattle.just_lang_read.proofs.SharedBlanks.{split_is}
use Rattle.just_lang_read.proofs.indentation.split_line.Goals as goal

pub returns : goal.returns
returns c =
    let some : c.args.text.now ≡ [] → ⊥ = search rules in
    split_is c.args.text.now c.line_length-count.result some c.line_length-count.ensures.exact
