-- What stands where the path leads is what stands at the place that is told.
use Rattle.std.proofs.Common.{sym, subst}
use Rattle.just_path.specs.View.{meta_at}
use Rattle.just_host_record.specs.Sights.{seen}
use Rattle.just_host_memory.specs.Trees.{files_of, Shows}
use Rattle.just_host_memory.proofs.files.Tree.meta.Goals as goal

pub returns : goal.returns
returns c = subst (λ told. Shows (λ m. m) (meta_at (seen (files_of c.args.self.now)) told) c.meta_of_place.result) (sym c.in_ok-place.ensures) c.meta_of_place.ensures
