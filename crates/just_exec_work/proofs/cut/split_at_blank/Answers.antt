-- A blank is one byte, so a text may be cut behind it.
use Rattle.std.proofs.Common.{rules, ◌≡◌, ◌<◌, true, length, get_or}
use Rattle.std.proofs.lemmas.Str.{IsCharBoundary-after_ascii}
use Rattle.just_exec_work.specs.Cuts.{is_blank}
use Rattle.just_exec_work.proofs.CutTexts.{blank_ascii}
use Rattle.just_exec_work.proofs.cut.split_at_blank.Goals as goal

pub range_from-requires : goal.range_from-requires
range_from-requires c = λ h.
    let t = c.args.text.now in
    let n = c.bytes.at in
    let lt : n < length t = search rules in
    let blank : is_blank (get_or t n 0) ≡ true = search rules in
    IsCharBoundary-after_ascii t n c.utf8.text lt (blank_ascii (get_or t n 0) blank)
