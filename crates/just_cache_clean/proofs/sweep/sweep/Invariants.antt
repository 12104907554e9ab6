-- So many were removed so far.
use Rattle.std.proofs.Common.{◌≡◌, ◌≤◌, take}
use Rattle.std.specs.Prelude.{Ok}
use Rattle.just_path.specs.Path.{text_of}
use Rattle.just_cache_clean.specs.Kept.{given}
use Rattle.just_cache_clean.specs.Sweeps.{Sweeps}
use Rattle.just_cache_clean.proofs.sweep.sweep.Given as goal

abbrev pub invariant-names : goal.invariant-names
invariant-names g l =
    record {
      swept :
          Sweeps (text_of l.wanted.folder) (given l.wanted.prefix) (take l.name-index l.names) (g.H.Host.told l.fn.host) (g.H.Host.told l.host) (Ok l.count);
      few : l.count ≤ l.name-index;
      spare : g.H.Host.spare l.host ≡ g.H.Host.spare l.fn.host;
    }
