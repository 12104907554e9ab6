-- What `full` says of a text it says of the path of that text.
use Rattle.std.proofs.Common.{sym, subst}
use Rattle.just_path.specs.Path.{text_of}
use Rattle.just_expand.specs.Bytes.{dollar_sign, tilde_sign}
use Rattle.just_expand.specs.Pieces.{Lacks, BeginsWithout}
use Rattle.just_expand.specs.Expansion.{ExpandsTo}
use Rattle.just_expand.specs.Contexts.{EnvironAnswers, IsHome}
use Rattle.just_path_text.specs.Environ.{home_of}
use Rattle.just_expand.proofs.OverPaths.{sure_over_path, full_expansion_over_path, same_path_over_path, borrowed_without_dollar}
use Rattle.just_expand.proofs.OneCut.{one_cut}
use Rattle.just_expand.proofs.WithoutDollar.{asks_nothing}
use Rattle.just_expand.proofs.path.full.Goals as goal

pub returns-clause-expanded : goal.returns-clause-expanded
returns-clause-expanded c = full_expansion_over_path EnvironAnswers c.args.environ.now.pairs (IsHome (home_of c.args.environ.now.pairs)) c.as_str.result.now (text_of c.args.input) _ _ c.as_str.ensures c.as_path.ensures c.full.ensures.expanded

pub returns-clause-borrowed : goal.returns-clause-borrowed
returns-clause-borrowed c = λ h0 h1. same_path_over_path c.as_str.result (text_of c.args.input) _ _ (c.full.ensures.borrowed (subst (Lacks dollar_sign) (sym c.as_str.ensures) h0) (subst (BeginsWithout tilde_sign) (sym c.as_str.ensures) h1)) c.as_path.ensures c.as_str.ensures

pub returns-clause-brought : goal.returns-clause-brought
returns-clause-brought c = λ h0. sure_over_path (ExpandsTo EnvironAnswers c.args.environ.now.pairs) c.as_str.result.now (text_of c.args.input) _ _ c.as_str.ensures c.as_path.ensures (c.full.ensures.brought (subst (BeginsWithout tilde_sign) (sym c.as_str.ensures) h0))

pub returns-clause-owned : goal.returns-clause-owned
returns-clause-owned c = borrowed_without_dollar c.as_str.result.now (text_of c.args.input) _ _ c.as_str.ensures c.as_path.ensures c.full.ensures.owned

pub returns-clause-one_cut : goal.returns-clause-one_cut
returns-clause-one_cut c = one_cut (text_of c.args.input)

pub returns-clause-unasked : goal.returns-clause-unasked
returns-clause-unasked c = λ lacks. asks_nothing EnvironAnswers c.args.environ.now.pairs (text_of c.args.input) lacks
