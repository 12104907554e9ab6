-- What was found is sorted, and put in by its names.
use Rattle.just_path.specs.View.{named}
use Rattle.just_host_files.proofs.Found.{found_all}
use Rattle.just_host_files.proofs.system.sorted.Goals as goal

pub returns-in-Ok-clause-all : goal.returns-in-Ok-clause-all
returns-in-Ok-clause-all c = found_all c.args.found.items c.sort_by.new.self.items (named c.in-Ok.items.items) c.sort_by.ensures.permutation c.in-Ok.ensures.items
