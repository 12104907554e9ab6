-- What `tilde_with_context` says of a text it says of the path of that text.
use Rattle.std.proofs.Common.{sym, subst}
use Rattle.just_path.specs.Path.{text_of}
use Rattle.just_expand.specs.Tilde.{CallsForHome, NeedsNoHome, TildeExpandsTo}
use Rattle.just_expand.specs.Contexts.{GivesHome}
use Rattle.just_expand.proofs.OverPaths.{sure_over_path, same_path_over_path}
use Rattle.just_expand.proofs.path.tilde_with_context.Goals as goal

pub tilde_with_context-requires : goal.tilde_with_context-requires
tilde_with_context-requires g c = λ rest h. c.requires rest (subst (λ t. CallsForHome t rest) c.as_str.ensures h)

pub returns-clause-expanded : goal.returns-clause-expanded
returns-clause-expanded g c = sure_over_path (TildeExpandsTo (GivesHome g.H.FnOnce c.args.home_dir)) c.as_str.result.now (text_of c.args.input) _ _ c.as_str.ensures c.as_path.ensures c.tilde_with_context.ensures.expanded

pub returns-clause-borrowed : goal.returns-clause-borrowed
returns-clause-borrowed g c = λ h0. same_path_over_path c.as_str.result (text_of c.args.input) _ _ (c.tilde_with_context.ensures.borrowed (subst (NeedsNoHome) (sym c.as_str.ensures) h0)) c.as_path.ensures c.as_str.ensures
