-- No number of a block of blocks is a member whose flag is down.
use Rattle.std.proofs.Common.{rules, ◌≡◌, ◌/◌, false, arith}
use Rattle.just_sched_history.specs.Members.{is_member}
use Rattle.just_sched_history.proofs.Blocks.{passed_over}
use Rattle.just_sched_history.proofs.number_set.NumberSet.next_place.Goals as goal

pub returns-then-not-index-clause-passed : goal.returns-then-not-index-clause-passed
returns-then-not-index-clause-passed c = λ m low high.
    let s = c.args.self.now in
    let down : is_member s.tops.items (c.args.at / 4096) ≡ false = search rules in
    passed_over s.flags.items s.blocks.items s.tops.items s.noted s.topped (c.args.at / 4096) m (omega (arith, low)) (omega (arith, high, c.end_of.ensures.end)) down
