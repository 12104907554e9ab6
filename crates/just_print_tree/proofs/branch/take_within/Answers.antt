-- One more is taken, as long as there are some.
use Rattle.std.proofs.Common.{◌≡◌, ◌-◌, ◌++◌, ◌∷◌, [], ◌<◌, reverse, rules, arith}
use Rattle.just_print_tree.specs.Kept.{branches}
use Rattle.just_print_tree.proofs.Branching.{taken_start, taken_next, taken_end, some_left}
use Rattle.just_print_tree.proofs.branch.take_within.Goals as goal

pub left-init : goal.left-init
left-init c = record {
  taken = taken_start c.args.files.now (reverse (branches c.args.outer.now.items)) c.args.count c.new.result.items c.new-2.result.items c.new.ensures.items c.new-2.ensures.items;
  within = omega arith;
}

pub left-preserved : goal.left-preserved
left-preserved c =
    let popped : c.left.outer.items ≡ c.pop.new.self.items ++ c.in-Some.one ∷ [] = search rules in
    let some : 0 < c.left.left = omega arith in
    record {
      taken = taken_next c.args.files.now c.args.count c.left.left (reverse (branches c.args.outer.now.items)) c.left.outer.items c.pop.new.self.items c.in-Some.one c.left.within.trees.items c.add_branch.new.within.trees.items
          c.left.within.spots.items c.add_branch.new.within.spots.items c.left.invariant.taken some c.left.invariant.within popped c.in_ok-add_branch-in-Some.ensures.trees c.in_ok-add_branch-in-Some.ensures.spots;
      within = omega arith;
    }

pub unreachable-requires : goal.unreachable-requires
unreachable-requires c =
    let none : c.left.outer.items ≡ [] = search rules in
    let some : 0 < c.left.left = omega arith in
    let fewer : c.args.count - c.left.left < c.args.count = omega (arith, some, c.left.invariant.within) in
    some_left c.args.files.now (c.args.count - c.left.left) c.args.count c.args.outer.now.items c.left.outer.items c.left.within.trees.items c.left.within.spots.items c.left.invariant.taken fewer c.requires none

pub returns : goal.returns
returns c =
    let none : c.left.left ≡ 0 = omega arith in
    taken_end c.args.files.now c.args.count c.left.left (reverse (branches c.args.outer.now.items)) (reverse (branches c.left.outer.items)) c.left.within.trees.items c.left.within.spots.items none c.left.invariant.taken
