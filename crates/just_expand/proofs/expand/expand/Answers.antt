-- Each turn puts out one more piece; where no piece is left the whole is put out, and an error is the cause of the refusal.
use Rattle.std.proofs.Common.{List, ℕ, rules, string_bytes, subst}
use Rattle.just_expand.specs.Expansion.{Reaches}
use Rattle.just_expand.specs.Code.{AnswersWithMemory}
use Rattle.just_expand.proofs.NextPiece.{reaches_more, lacks_behind, lacks_closing, cause_of, shorter_behind}
use Rattle.just_expand.proofs.expand.expand.Goals as goal

pub put_piece-requires : goal.put_piece-requires
put_piece-requires g c = λ n q. c.requires _ _ _ _ _ n c.loop-piece.invariant.reached c.in-Some.ensures q

pub loop-piece-preserved-then-may_close : goal.loop-piece-preserved-then-may_close
loop-piece-preserved-then-may_close g c = record {
  reached = reaches_more (AnswersWithMemory g.C.FnMut) _ _ _ _ _ _ _ _ _ c.loop-piece.invariant.reached c.in-Some.ensures c.in-Ok.ensures;
  closing = λ e. lacks_closing _ _ _ _ c.in-Some.ensures c.is_unclosed.ensures e;
  text = search rules;
}

pub loop-piece-preserved : goal.loop-piece-preserved
loop-piece-preserved g c = record {
  reached = reaches_more (AnswersWithMemory g.C.FnMut) _ _ _ _ _ _ _ _ _ c.loop-piece.invariant.reached c.in-Some.ensures c.in-Ok.ensures;
  closing = λ e. lacks_behind 125 _ _ _ c.in-Some.ensures (c.loop-piece.invariant.closing c.if-may_close.false);
  text = search rules;
}

pub loop-piece-smaller-then-may_close : goal.loop-piece-smaller-then-may_close
loop-piece-smaller-then-may_close g c = shorter_behind _ _ _ c.in-Some.ensures

pub loop-piece-smaller : goal.loop-piece-smaller
loop-piece-smaller g c = shorter_behind _ _ _ c.in-Some.ensures

pub returns-in-Err : goal.returns-in-Err
returns-in-Err g c = cause_of (AnswersWithMemory g.C.FnMut) _ _ _ _ _ _ _ c.put_piece.new.context (string_bytes c.put_piece.new.out) c.in-Err.error c.loop-piece.invariant.reached c.in-Some.ensures c.in-Err.ensures

pub returns : goal.returns
returns g c = (c.loop-piece.context, subst (λ (r : List ℕ). Reaches (AnswersWithMemory g.C.FnMut) c.args.context c.args.input.now r (string_bytes c.loop-piece.out) c.loop-piece.context) c.in_default.ensures c.loop-piece.invariant.reached)
