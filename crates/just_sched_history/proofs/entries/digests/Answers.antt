-- One name more has its digest.
use Rattle.std.proofs.Common.{refl, ◌∙◌, ap, map, arith}
use Rattle.std.proofs.lemmas.List.{length-map}
use Rattle.hex.specs.Hex.{encode_lower}
use Rattle.just_sched_history.proofs.Digests.{paired_read, paired_past, paired_all}
use Rattle.just_sched_history.proofs.entries.digests.Goals.{then-at-sums+in_ok-with_digits+in_ok-push, else-at-sums}
use Rattle.just_sched_history.proofs.entries.digests.Goals as goal

pub names-preserved : goal.names-preserved
names-preserved c =
    elim c.if-at-sums.branch [
      | then-at-sums+in_ok-with_digits+in_ok-push w ↦ ap (λ v. v.items) w.pairs-is ∙ paired_read c.args.names.now c.args.sums.now c.names.at c.names.pairs.items w.push.new.self.items w.index-names-at.result w.in_ok-with_digits.field-0 _ c.names-test.true w.if-at-sums.true w.index-names-at.is refl w.in_ok-with_digits.ensures c.names.invariant w.in_ok-push.ensures.items
      | else-at-sums w ↦ ap (λ v. v.items) w.pairs-is ∙ paired_past c.args.names.now (map encode_lower c.args.sums.now) c.names.at c.names.pairs.items (omega (arith, w.if-at-sums.false, length-map c.args.sums.now encode_lower)) c.names.invariant
    ]

pub returns : goal.returns
returns c = c.from.ensures ∙ paired_all c.args.names.now (map encode_lower c.args.sums.now) c.names.at c.names.pairs.items c.names-test.false c.names.invariant
