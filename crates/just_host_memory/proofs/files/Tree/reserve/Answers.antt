-- All things of a tree stand at clean places.
use Rattle.just_host_memory.proofs.Lookups.{clean_things}
use Rattle.just_host_memory.proofs.files.Tree.reserve.Goals as goal

pub invariant_of-self : goal.invariant_of-self
invariant_of-self c = record { clean = clean_things c.reserve.new.self.items }
