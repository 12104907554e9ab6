-- A sigil is one byte, so a text may be cut before and behind it.
use Rattle.std.proofs.Common.{rules, ◌≡◌, ◌<◌, Some, length, get_or, refl, ◌∙◌}
use Rattle.std.proofs.lemmas.Str.{IsCharBoundary-start, IsCharBoundary-after_ascii}
use Rattle.just_eval.specs.Bodies.{with_sigil}
use Rattle.just_eval.proofs.Signs.{sign_more, sign_ascii}
use Rattle.just_eval.proofs.sigils.split_sigils.Goals as goal

pub bytes-init : goal.bytes-init
bytes-init c = record { same = refl; boundary = IsCharBoundary-start c.args.text.now c.utf8.text }

pub bytes-preserved : goal.bytes-preserved
bytes-preserved c =
    let t = c.args.text.now in
    let n = c.bytes.at in
    let lt : n < length t = search rules in
    let more : with_sigil c.args.guards c.bytes.read (get_or t n 0) ≡ Some c.in-Some.more = search rules in
    record {
      same = sign_more c.args.guards c.bytes.read t n c.in-Some.more lt more ∙ c.bytes.invariant.same;
      boundary = IsCharBoundary-after_ascii t n c.utf8.text lt (sign_ascii c.args.guards c.bytes.read c.in-Some.more (get_or t n 0) more);
    }

pub range_from-requires : goal.range_from-requires
range_from-requires c = λ h. c.bytes.invariant.boundary
