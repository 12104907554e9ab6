-- A piece is put out by its own text, or by the answer to its question.
use Rattle.std.proofs.Common.{◌∙◌, refl, sym, ap}
use Rattle.std.specs.Option.{option_copied}
use Rattle.just_expand.specs.Code.{AnswersWithMemory}
use Rattle.just_expand.proofs.NextPiece.{puts_own_text, puts_piece}
use Rattle.just_expand.proofs.expand.put_piece.Goals as goal

pub ask-requires : goal.ask-requires
ask-requires g c = c.requires _ (sym c.question.ensures ∙ ap option_copied c.in-Some.is)

pub returns-in_ok-put_own_text-in-None : goal.returns-in_ok-put_own_text-in-None
returns-in_ok-put_own_text-in-None g c = puts_own_text (AnswersWithMemory g.C.FnMut) _ _ _ _ _ (sym c.question.ensures ∙ ap option_copied c.in-None.is) refl c.in_ok-put_own_text-in-None.ensures

pub returns-in_ok-reply-in-Some : goal.returns-in_ok-reply-in-Some
returns-in_ok-reply-in-Some g c = puts_piece g.C.FnMut _ _ c.in_ok-reply-in-Some.reply _ _ _ _ _ c.put_outcome.result (sym c.question.ensures ∙ ap option_copied c.in-Some.is) c.ask.ensures c.in_ok-reply-in-Some.was c.put_outcome.ensures
