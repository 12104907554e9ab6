-- Nothing is left, and the folder is removed, or can't be.
use Rattle.std.proofs.Common.{◌≤◌, length, arith}
use Rattle.just_path.specs.Path.{text_of}
use Rattle.just_cache_clean.specs.Kept.{given}
use Rattle.just_cache_clean.proofs.Cleaning.{closed_well, closed_badly}
use Rattle.just_cache_clean.proofs.clean.clean_listed.Goals as goal

pub returns-in-Ok-remove-clause-cleans : goal.returns-in-Ok-remove-clause-cleans
returns-in-Ok-remove-clause-cleans g c =
    let all : length c.args.names.now ≤ c.in-Ok.count = omega arith in
    closed_well (text_of c.args.wanted.folder) (given c.args.wanted.prefix) c.args.names.now (g.H.Host.told c.args.host.now) (g.H.Host.told c.sweep.new.host) (g.H.Host.told c.remove.new.host) c.in-Ok.count c.in-Ok.ensures.swept all
    c.in-Ok-remove.ensures.removed

pub returns-in-Err-remove-clause-cleans : goal.returns-in-Err-remove-clause-cleans
returns-in-Err-remove-clause-cleans g c =
    let all : length c.args.names.now ≤ c.in-Ok.count = omega arith in
    closed_badly (text_of c.args.wanted.folder) (given c.args.wanted.prefix) c.args.names.now (g.H.Host.told c.args.host.now) (g.H.Host.told c.sweep.new.host) (g.H.Host.told c.remove.new.host) c.in-Ok.count c.in-Err-remove.refused c.in-Ok.ensures.swept all
    c.in-Err-remove.ensures.removed
