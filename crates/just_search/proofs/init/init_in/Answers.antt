-- In the root of a project; and without one.
use Rattle.std.proofs.Common.{◌≡◌, ap, ap₂, ◌∙◌}
use Rattle.just_path.specs.Path.{text_of, pushed}
use Rattle.just_search.specs.Inits.{first_name, search_at}
use Rattle.just_search.proofs.Writing.{init_rooted, init_unrooted}
use Rattle.just_search.proofs.init.init_in.Goals as goal

pub returns-in_ok-join-in-Ok-clause-found : goal.returns-in_ok-join-in-Ok-clause-found
returns-in_ok-join-in-Ok-clause-found g c =
    let root = c.in-Ok.root in
    let file : c.in_ok-join-in-Ok.field-0 ≡ pushed root (first_name c.args.config.now.justfile_name) =
    c.in_ok-join-in-Ok.ensures.path ∙ ap₂ pushed c.as_path.ensures (c.new-name.ensures ∙ c.first_name.ensures ∙ ap first_name c.as_slice.ensures) in
    init_rooted (g.H.Host.told c.args.host.now).world c.args.config.now (text_of c.args.start) root c.search_at.result c.in-Ok.ensures.root (c.search_at.ensures ∙ ap (λ f. search_at f root) file)

pub returns-in-Err-clause-found : goal.returns-in-Err-clause-found
returns-in-Err-clause-found g c = init_unrooted (g.H.Host.told c.args.host.now).world c.args.config.now (text_of c.args.start) c.in-Err.error c.in-Err.ensures.root
