-- A string that means no path names no file.
use Rattle.std.proofs.Common.{rules, ◌≡◌, None}
use Rattle.just_path_text.specs.Environ.{home_of}
use Rattle.just_lang_layout.specs.Paths.{path_under}
use Rattle.just_search_load.proofs.Naming.{adds_no_path}
use Rattle.just_search_load.proofs.named.add_named.Goals as goal

pub returns-clause-added : goal.returns-clause-added
returns-clause-added g c =
    let means = rw c.in-Some.is at c.in_ok-text.ensures.means in
    let none : path_under (home_of c.args.environ.now.pairs) c.args.root.now c.in-Some.text ≡ None = first_of (cc, search rules) in
    adds_no_path (g.H.Host.told c.args.host.now).world c.args.environ.now.pairs c.args.root.now c.args.string.now c.in-Some.text c.args.found.now.items means none
