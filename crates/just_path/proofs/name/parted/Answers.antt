-- A dot is one byte, so a name may be cut before and behind it.
use Rattle.std.proofs.Common.{◌≡◌, arith, sym, take, drop, ◌+◌}
use Rattle.std.proofs.lemmas.Str.{IsCharBoundary-after_ascii}
use Rattle.std.proofs.lemmas.Slice.{between_to_end, between_from_start}
use Rattle.std.proofs.lemmas.Grind.{common_steps}
use Rattle.just_path.proofs.NameParts.{name_parts_at, name_parts_none}
use Rattle.just_path.proofs.name.parted.Goals as goal

pub range_from-requires : goal.range_from-requires
range_from-requires c = λ h. IsCharBoundary-after_ascii c.args.name.now c.in-Some.at c.utf8.name c.in-Some.ensures.1 (let e = c.in-Some.ensures.2 in omega arith)

pub returns-in-Some : goal.returns-in-Some
returns-in-Some c =
    let l = name_parts_at c.args.name.now c.in-Some.at c.in-Some.ensures.0 c.in-Some.ensures.1 c.in-Some.ensures.2 c.in-Some.ensures.3 in
    let a : c.range.result.now ≡ take c.in-Some.at c.args.name.now = grind (arith, common_steps, between_from_start) in
    let b : c.range_from.result.now ≡ drop (c.in-Some.at + 1) c.args.name.now = grind (arith, common_steps, between_to_end) in
    rw (a, b) (sym l)

pub returns-in-None : goal.returns-in-None
returns-in-None c = sym (name_parts_none c.args.name.now c.in-None.ensures)
