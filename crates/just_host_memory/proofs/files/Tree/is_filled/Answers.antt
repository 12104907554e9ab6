-- A folder is filled where something stands below it.
use Rattle.std.proofs.Common.{◌≡◌, true, false}
use Rattle.just_path.specs.View.{meta_seen, sees_folder}
use Rattle.just_host_record.specs.Sights.{seen}
use Rattle.just_host_memory.specs.Trees.{files_of}
use Rattle.just_host_memory.proofs.Below.{filled_folder, unfilled}
use Rattle.just_host_memory.proofs.files.Tree.is_filled.Goals as goal

pub returns-then-is_folder : goal.returns-then-is_folder
returns-then-is_folder c =
    let sees : sees_folder (meta_seen c.args.place.now.path (seen (files_of c.args.self.now))) ≡ true = cc in
    filled_folder (files_of c.args.self.now) c.args.place.now.path c.in_ok-held.held sees c.in_ok-held.ensures

pub returns : goal.returns
returns c =
    let sees : sees_folder (meta_seen c.args.place.now.path (seen (files_of c.args.self.now))) ≡ false = cc in
    unfilled (files_of c.args.self.now) c.args.place.now.path sees
