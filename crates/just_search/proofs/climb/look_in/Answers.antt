-- A folder that can't be listed; and one with its names.
use Rattle.std.proofs.Common.{ℕ, List, ap, ◌∙◌}
use Rattle.just_path.specs.Path.{text_of}
use Rattle.just_search.specs.Climb.{candidates}
use Rattle.just_search.proofs.Deciding.{looks_unlisted, looks_listed}
use Rattle.just_search.proofs.climb.look_in.Goals as goal

pub returns-in-Err-clause-looks : goal.returns-in-Err-clause-looks
returns-in-Err-clause-looks g c = looks_unlisted (g.H.Host.told c.args.host.now).world c.args.wanted.now (text_of c.args.folder) c.in-Err.error c.in-Err.ensures.names

pub returns-clause-looks : goal.returns-clause-looks
returns-clause-looks g c =
    looks_listed (g.H.Host.told c.args.host.now).world c.args.wanted.now (text_of c.args.folder) c.in-Ok.names c.in_ok-found.found c.chosen.result c.in-Ok.ensures.names (c.in_ok-found.ensures ∙ ap (λ (ns : List (List ℕ)). candidates c.args.wanted.now ns) c.as_slice.ensures) c.chosen.ensures.chosen
