-- Items from the end on are passed until one has a lesser name.
use Rattle.std.proofs.Common.{◌-◌, ◌<◌, length, sym, ◌∙◌, arith}
use Rattle.just_host_files.proofs.Places.{place_found, place_passed}
use Rattle.just_host_files.proofs.items.place_of.Goals as goal

pub returns-then-is_behind : goal.returns-then-is_behind
returns-then-is_behind c =
    let inside : c.loop-at.at - 1 < length c.args.items.now = omega (arith, c.loop-at-test.true, c.loop-at.invariant.0) in
    place_found c.args.items.now c.args.name.now (c.loop-at.at - 1) c.index-items-at.result c.requires inside c.index-items-at.is (sym c.is_behind.ensures ∙ c.if-is_behind.true)
    (λ k d low high. c.loop-at.invariant.1 k d (omega (arith, c.loop-at-test.true)) high)

pub loop-at-preserved : goal.loop-at-preserved
loop-at-preserved c =
    let inside : c.loop-at.at - 1 < length c.args.items.now = omega (arith, c.loop-at-test.true, c.loop-at.invariant.0) in (
      omega (arith, c.loop-at.invariant.0),
      place_passed c.args.items.now c.args.name.now (c.loop-at.at - 1) c.index-items-at.result inside c.index-items-at.is (sym c.is_behind.ensures ∙ c.if-is_behind.false)
          (λ k d low high. c.loop-at.invariant.1 k d (omega (arith, c.loop-at-test.true)) high),
    )
