-- All things of a tree stand at clean places.
use Rattle.just_host_memory.proofs.Lookups.{clean_things}
use Rattle.just_host_memory.proofs.files.Tree.new.Goals as goal

pub invariant_of-result : goal.invariant_of-result
invariant_of-result c = record { clean = clean_things c.new.result.items }
