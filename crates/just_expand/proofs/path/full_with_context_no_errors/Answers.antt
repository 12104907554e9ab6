-- What `full_with_context_no_errors` says of a text it says of the path of that text.
use Rattle.std.proofs.Common.{sym, subst}
use Rattle.std.specs.Fn.{TakesAt}
use Rattle.just_path.specs.Path.{text_of}
use Rattle.just_expand.specs.Bytes.{dollar_sign, tilde_sign}
use Rattle.just_expand.specs.Pieces.{Lacks, BeginsWithout}
use Rattle.just_expand.specs.Expansion.{MayAsk, ExpandsTo}
use Rattle.just_expand.specs.Tilde.{MayAskHome, FullyExpandsTo}
use Rattle.just_expand.specs.Contexts.{AnswersWithoutError, GivesHome, MayCall}
use Rattle.just_expand.proofs.OverPaths.{sure_over_path, same_path_over_path, borrowed_without_dollar}
use Rattle.just_expand.proofs.OneCut.{one_cut}
use Rattle.just_expand.proofs.WithoutDollar.{asks_nothing}
use Rattle.just_expand.proofs.path.full_with_context_no_errors.Goals as goal

pub full_with_context_no_errors-requires-clause-asked : goal.full_with_context_no_errors-requires-clause-asked
full_with_context_no_errors-requires-clause-asked g c = subst (λ t. MayAsk (AnswersWithoutError g.C.FnMut) (TakesAt g.C.FnMut) c.args.context t) (sym c.as_str.ensures) c.requires.asked

pub full_with_context_no_errors-requires-clause-home : goal.full_with_context_no_errors-requires-clause-home
full_with_context_no_errors-requires-clause-home g c = subst (λ t. MayAskHome (AnswersWithoutError g.C.FnMut) (MayCall g.H.FnOnce c.args.home_dir) c.args.context t) (sym c.as_str.ensures) c.requires.home

pub returns-clause-expanded : goal.returns-clause-expanded
returns-clause-expanded g c = sure_over_path (FullyExpandsTo (AnswersWithoutError g.C.FnMut) (GivesHome g.H.FnOnce c.args.home_dir) c.args.context) c.as_str.result.now (text_of c.args.input) _ _ c.as_str.ensures c.as_path.ensures c.full_with_context_no_errors.ensures.expanded

pub returns-clause-borrowed : goal.returns-clause-borrowed
returns-clause-borrowed g c = λ h0 h1. same_path_over_path c.as_str.result (text_of c.args.input) _ _ (c.full_with_context_no_errors.ensures.borrowed (subst (Lacks dollar_sign) (sym c.as_str.ensures) h0) (subst (BeginsWithout tilde_sign) (sym c.as_str.ensures) h1)) c.as_path.ensures c.as_str.ensures

pub returns-clause-brought : goal.returns-clause-brought
returns-clause-brought g c = λ h0. sure_over_path (ExpandsTo (AnswersWithoutError g.C.FnMut) c.args.context) c.as_str.result.now (text_of c.args.input) _ _ c.as_str.ensures c.as_path.ensures (c.full_with_context_no_errors.ensures.brought (subst (BeginsWithout tilde_sign) (sym c.as_str.ensures) h0))

pub returns-clause-owned : goal.returns-clause-owned
returns-clause-owned g c = borrowed_without_dollar c.as_str.result.now (text_of c.args.input) _ _ c.as_str.ensures c.as_path.ensures c.full_with_context_no_errors.ensures.owned

pub returns-clause-one_cut : goal.returns-clause-one_cut
returns-clause-one_cut g c = one_cut (text_of c.args.input)

pub returns-clause-unasked : goal.returns-clause-unasked
returns-clause-unasked g c = λ lacks. asks_nothing (AnswersWithoutError g.C.FnMut) c.args.context (text_of c.args.input) lacks
