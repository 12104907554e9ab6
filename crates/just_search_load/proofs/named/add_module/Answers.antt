-- A module without a string names what stands beside the file.
use Rattle.std.proofs.Common.{rules, ◌≡◌}
use Rattle.just_lang_layout.specs.Targets.{module_base}
use Rattle.just_search_load.proofs.Naming.{adds_beside}
use Rattle.just_search_load.proofs.named.add_module.Goals as goal

pub returns-in_ok-base-in-None-clause-added : goal.returns-in_ok-base-in-None-clause-added
returns-in_ok-base-in-None-clause-added g c =
    let so : c.in_ok-base-in-None.base ≡ module_base c.args.root.now c.args.name.now = first_of (cc, search rules) in
    adds_beside (g.H.Host.told c.args.host.now).world c.args.environ.now.pairs c.args.root.now c.args.name.now c.in_ok-base-in-None.base c.args.string.now c.args.found.now.items c.add_module_files.new.found.items c.add_module_files.result c.in-None.is so c.add_module_files.ensures.added
