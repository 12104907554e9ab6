-- The names that are left, before the stack, are all of them before the stack as it was.
use Rattle.std.proofs.Common.{◌≡◌, ◌++◌, vec_len}
use Rattle.just_search_load.specs.Loads.{to_load}
use Rattle.just_search_load.proofs.loading.stack_names.Given as goal

abbrev pub invariant-names : goal.invariant-names
invariant-names l = l.names.items ++ to_load l.pending.items ≡ l.fn.names.items ++ to_load l.fn.pending.items

abbrev pub decreases-names : goal.decreases-names
decreases-names l = vec_len l.names
