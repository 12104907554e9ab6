-- What `env_with_context` says of a text it says of the path of that text.
use Rattle.std.proofs.Common.{sym, subst}
use Rattle.std.specs.Fn.{TakesAt}
use Rattle.just_path.specs.Path.{text_of}
use Rattle.just_expand.specs.Bytes.{dollar_sign}
use Rattle.just_expand.specs.Pieces.{Lacks}
use Rattle.just_expand.specs.Expansion.{MayAsk}
use Rattle.just_expand.specs.Contexts.{Answers}
use Rattle.just_expand.proofs.OverPaths.{expansion_over_path, same_path_over_path, borrowed_without_dollar}
use Rattle.just_expand.proofs.OneCut.{one_cut}
use Rattle.just_expand.proofs.WithoutDollar.{asks_nothing}
use Rattle.just_expand.proofs.path.env_with_context.Goals as goal

pub env_with_context-requires : goal.env_with_context-requires
env_with_context-requires g c = subst (λ t. MayAsk (Answers g.C.FnMut) (TakesAt g.C.FnMut) c.args.context t) (sym c.as_str.ensures) c.requires

pub returns-clause-expanded : goal.returns-clause-expanded
returns-clause-expanded g c = expansion_over_path (Answers g.C.FnMut) c.args.context c.as_str.result.now (text_of c.args.input) _ _ c.as_str.ensures c.as_path.ensures c.env_with_context.ensures.expanded

pub returns-clause-borrowed : goal.returns-clause-borrowed
returns-clause-borrowed g c = λ h0. same_path_over_path c.as_str.result (text_of c.args.input) _ _ (c.env_with_context.ensures.borrowed (subst (Lacks dollar_sign) (sym c.as_str.ensures) h0)) c.as_path.ensures c.as_str.ensures

pub returns-clause-owned : goal.returns-clause-owned
returns-clause-owned g c = borrowed_without_dollar c.as_str.result.now (text_of c.args.input) _ _ c.as_str.ensures c.as_path.ensures c.env_with_context.ensures.owned

pub returns-clause-one_cut : goal.returns-clause-one_cut
returns-clause-one_cut g c = one_cut (text_of c.args.input)

pub returns-clause-unasked : goal.returns-clause-unasked
returns-clause-unasked g c = λ lacks. asks_nothing (Answers g.C.FnMut) c.args.context (text_of c.args.input) lacks
