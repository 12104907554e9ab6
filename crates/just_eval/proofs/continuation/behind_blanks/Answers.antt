-- A blank is one byte, so a text may be cut before and behind it.
use Rattle.std.proofs.Common.{rules, ◌≡◌, ◌<◌, true, length, get_or, refl, ◌∙◌}
use Rattle.std.proofs.lemmas.Str.{IsCharBoundary-start, IsCharBoundary-after_ascii}
use Rattle.just_eval.specs.Bodies.{is_blank}
use Rattle.just_eval.proofs.Marks.{blank_more, blank_ascii}
use Rattle.just_eval.proofs.continuation.behind_blanks.Goals as goal

pub bytes-init : goal.bytes-init
bytes-init c = record { same = refl; boundary = IsCharBoundary-start c.args.text.now c.utf8.text }

pub bytes-preserved : goal.bytes-preserved
bytes-preserved c =
    let t = c.args.text.now in
    let n = c.bytes.at in
    let lt : n < length t = search rules in
    let blank : is_blank (get_or t n 0) ≡ true = search rules in
    record {
      same = blank_more t n lt blank ∙ c.bytes.invariant.same;
      boundary = IsCharBoundary-after_ascii t n c.utf8.text lt (blank_ascii (get_or t n 0) blank);
    }

pub range_from-requires : goal.range_from-requires
range_from-requires c = λ h. c.bytes.invariant.boundary
