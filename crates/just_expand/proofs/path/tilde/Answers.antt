-- What `tilde` says of a text it says of the path of that text.
use Rattle.std.proofs.Common.{sym, subst}
use Rattle.just_path.specs.Path.{text_of}
use Rattle.just_expand.specs.Tilde.{NeedsNoHome, TildeExpandsTo}
use Rattle.just_expand.specs.Contexts.{IsHome}
use Rattle.just_path_text.specs.Environ.{home_of}
use Rattle.just_expand.proofs.OverPaths.{sure_over_path, same_path_over_path}
use Rattle.just_expand.proofs.path.tilde.Goals as goal

pub returns-clause-expanded : goal.returns-clause-expanded
returns-clause-expanded c = sure_over_path (TildeExpandsTo (IsHome (home_of c.args.environ.now.pairs))) c.as_str.result.now (text_of c.args.input) _ _ c.as_str.ensures c.as_path.ensures c.tilde.ensures.expanded

pub returns-clause-borrowed : goal.returns-clause-borrowed
returns-clause-borrowed c = λ h0. same_path_over_path c.as_str.result (text_of c.args.input) _ _ (c.tilde.ensures.borrowed (subst (NeedsNoHome) (sym c.as_str.ensures) h0)) c.as_path.ensures c.as_str.ensures
