-- No slash that was passed ends the place of a file.
use Rattle.std.proofs.Common.{◌≡◌, ◌==◌, ◌&&◌, ◌<◌, ℕ, false, take, slice_index}
use Rattle.just_path.specs.View.{meta_seen, sees_file}
use Rattle.just_host_record.specs.Sights.{seen}
use Rattle.just_host_memory.specs.Trees.{files_of}
use Rattle.just_host_memory.proofs.files.Tree.goes_through_file.Given as goal

abbrev pub invariant-loop-k : goal.invariant-loop-k
invariant-loop-k l = (j : ℕ) → j < l.k → ((slice_index l.place j == 47) && sees_file (meta_seen (take j l.place) (seen (files_of l.self)))) ≡ false
