-- A slash is one byte, so a text may be cut before and behind it.
use Rattle.std.proofs.Common.{◌≡◌, arith, sym, subst, take, drop, ◌+◌, List, ℕ}
use Rattle.std.proofs.lemmas.Str.{IsCharBoundary-after_ascii, IsUtf8-nil}
use Rattle.std.proofs.lemmas.Slice.{between_to_end, between_from_start}
use Rattle.std.proofs.lemmas.Grind.{common_steps}
use Rattle.just_path.specs.Scan.{IsFirstPiece}
use Rattle.just_path.proofs.Scans.{first_at, first_none}
use Rattle.just_path.proofs.scan.first_piece.Goals as goal

pub range_from-requires : goal.range_from-requires
range_from-requires c = λ h. IsCharBoundary-after_ascii c.args.text.now c.in-Some.at c.utf8.text c.in-Some.ensures.0 (let e = c.in-Some.ensures.1 in omega arith)

pub returns-in-Some : goal.returns-in-Some
returns-in-Some c =
    let l = first_at c.args.text.now c.in-Some.at c.in-Some.ensures.0 c.in-Some.ensures.1 c.in-Some.ensures.2 in
    let a : c.range.result.now ≡ take c.in-Some.at c.args.text.now = grind (arith, common_steps, between_from_start) in
    let b : c.range_from.result.now ≡ drop (c.in-Some.at + 1) c.args.text.now = grind (arith, common_steps, between_to_end) in
    record { piece = subst (λ (x : List ℕ). IsFirstPiece c.args.text.now x c.range_from.result.now) (sym a) (subst (λ (x : List ℕ). IsFirstPiece c.args.text.now (take c.in-Some.at c.args.text.now) x) (sym b) l); utf8 = c.range_from.utf8 }

pub returns-in-None : goal.returns-in-None
returns-in-None c = record { piece = first_none c.args.text.now c.in-None.ensures; utf8 = IsUtf8-nil }
