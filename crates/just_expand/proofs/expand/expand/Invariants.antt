-- The pieces in front of the rest became what is put out; where no `${` may close, the rest has no `}`.
use Rattle.std.proofs.Common.{◌≡◌, length, false, string_bytes}
use denote.Text.{Utf8}
use denote.Shadow.{shadow}
use Rattle.just_expand.specs.Bytes.{close_brace}
use Rattle.just_expand.specs.Pieces.{Lacks}
use Rattle.just_expand.specs.Expansion.{Reaches}
use Rattle.just_expand.specs.Code.{AnswersWithMemory}
use Rattle.just_expand.proofs.expand.expand.Given as goal

abbrev pub invariant-loop-piece : goal.invariant-loop-piece
invariant-loop-piece g l = record {
  reached : Reaches (AnswersWithMemory g.C.FnMut) l.fn.context l.fn.input l.rest (string_bytes l.out) l.context;
  closing : l.may_close ≡ false → Lacks close_brace l.rest;
  text : shadow (Utf8 l.rest);
}

abbrev pub decreases-loop-piece : goal.decreases-loop-piece
decreases-loop-piece g l = length l.rest
