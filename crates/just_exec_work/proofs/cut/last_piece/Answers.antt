-- A separator is one byte, so a text may be cut behind it.
use Rattle.std.proofs.Common.{rules, ◌≡◌, ◌<◌, ◌+◌, true, false, length, get_or, sym, ap, subst, ◌∙◌}
use Rattle.std.specs.Str.{IsCharBoundary}
use Rattle.std.proofs.lemmas.Str.{IsCharBoundary-start, IsCharBoundary-after_ascii}
use Rattle.just_exec_work.specs.Cuts.{is_separator}
use Rattle.just_exec_work.proofs.CutTexts.{separator_ascii}
use Rattle.just_exec_work.proofs.LastPieces.{piece_of, piece_begins, piece_after, piece_more}
use Rattle.just_exec_work.proofs.cut.last_piece.Goals as goal
use Rattle.just_exec_work.proofs.cut.last_piece.Goals.{then-is_separator, else-is_separator}

pub bytes-init : goal.bytes-init
bytes-init c = record { piece = piece_begins is_separator c.args.text.now; boundary = IsCharBoundary-start c.args.text.now c.utf8.text }

pub bytes-preserved : goal.bytes-preserved
bytes-preserved c =
    let t = c.args.text.now in
    let n = c.bytes.at in
    let lt : n < length t = search rules in
    elim c.if-is_separator.branch [
      | then-is_separator w ↦
          let found : is_separator (get_or t n 0) ≡ true = search rules in
          record {
            piece = ap (λ k. piece_of is_separator k (n + 1) t) w.from-is ∙ piece_after is_separator t c.bytes.from n lt found ∙ c.bytes.invariant.piece;
            boundary = subst (IsCharBoundary t) (sym w.from-is) (IsCharBoundary-after_ascii t n c.utf8.text lt (separator_ascii (get_or t n 0) found));
          }
      | else-is_separator w ↦
          let other : is_separator (get_or t n 0) ≡ false = search rules in
          record {
            piece = ap (λ k. piece_of is_separator k (n + 1) t) w.from-is ∙ piece_more is_separator t c.bytes.from n lt other ∙ c.bytes.invariant.piece;
            boundary = subst (IsCharBoundary t) (sym w.from-is) c.bytes.invariant.boundary;
          }
    ]
