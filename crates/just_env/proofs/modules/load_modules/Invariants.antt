-- Children were run for what is loaded, whatever the modules on the stack come to.
use Rattle.just_lang_types.proofs.Nesting.{weights}
use Rattle.just_env.specs.Turns.{seen}
use Rattle.just_env.proofs.Turning.{LoadedOn, modules_in}
use Rattle.just_env.proofs.Ends.{AreWithin}
use Rattle.just_env.proofs.modules.load_modules.Given as goal

abbrev pub invariant-modules : goal.invariant-modules
invariant-modules g l = record {
  ran : LoadedOn l.ask l.flags l.environ.pairs (g.H.Host.told l.fn.host) l.justfile (g.H.Host.told l.host) (seen l.pending.items) l.loaded.items;
  within : AreWithin l.justfile (seen l.pending.items);
}

abbrev pub decreases-modules : goal.decreases-modules
decreases-modules g l = weights (modules_in (seen l.pending.items))
