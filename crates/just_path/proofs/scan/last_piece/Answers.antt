-- A slash is one byte, so a text may be cut before and behind it.
use Rattle.std.proofs.Common.{◌≡◌, arith, sym, subst, take, drop, ◌+◌, List, ℕ}
use Rattle.std.proofs.lemmas.Str.{IsCharBoundary-after_ascii, IsUtf8-take}
use Rattle.std.specs.Str.{IsUtf8}
use Rattle.std.proofs.lemmas.Slice.{between_to_end, between_from_start}
use Rattle.just_path.specs.Scan.{IsLastPiece}
use Rattle.std.proofs.lemmas.Grind.{common_steps}
use Rattle.just_path.proofs.Scans.{last_at, last_none}
use Rattle.just_path.proofs.Leads.{boundary}
use Rattle.just_path.proofs.scan.last_piece.Goals as goal

pub range_from-requires : goal.range_from-requires
range_from-requires c = λ h. IsCharBoundary-after_ascii c.args.text.now c.in-Some.at c.utf8.text c.in-Some.ensures.1 (let e = c.in-Some.ensures.2 in omega arith)

pub split_at-requires : goal.split_at-requires
split_at-requires c = boundary c.args.text.now c.args.low c.utf8.text c.requires.low

pub returns-in-Some : goal.returns-in-Some
returns-in-Some c =
    let l = last_at c.args.text.now c.in-Some.at c.args.low c.requires.low c.in-Some.ensures.0 c.in-Some.ensures.1 c.in-Some.ensures.2 c.in-Some.ensures.3 in
    let a : c.range.result.now ≡ take c.in-Some.at c.args.text.now = grind (arith, common_steps, between_from_start) in
    let b : c.range_from.result.now ≡ drop (c.in-Some.at + 1) c.args.text.now = grind (arith, common_steps, between_to_end) in
    record { piece = subst (λ (x : List ℕ). IsLastPiece c.args.low c.args.text.now x c.range_from.result.now) (sym a) (subst (λ (x : List ℕ). IsLastPiece c.args.low c.args.text.now (take c.in-Some.at c.args.text.now) x) (sym b) l); utf8 = c.range.utf8 }

pub returns-in-None : goal.returns-in-None
returns-in-None c =
    let l = last_none c.args.text.now c.args.low c.requires.low c.requires.behind c.in-None.ensures in
    record { piece = subst (λ (x : List ℕ). IsLastPiece c.args.low c.args.text.now x c.split_at.result.1.now) (sym c.split_at.ensures.front) (subst (λ (x : List ℕ). IsLastPiece c.args.low c.args.text.now (take c.args.low c.args.text.now) x) (sym c.split_at.ensures.back) l); utf8 = subst (λ (x : List ℕ). IsUtf8 x) (sym c.split_at.ensures.front) (IsUtf8-take c.args.text.now c.args.low c.utf8.text (boundary c.args.text.now c.args.low c.utf8.text c.requires.low)) }
