-- Where a call of a tree answers, the laws of what writing leaves behind hold of it.
use Rattle.std.proofs.Common.{ℕ, List, Result, Ok, Err, OnOk}
use Rattle.just_host_record.specs.Sights.{Tree}
use Rattle.just_host_record.specs.World.{World}
use Rattle.just_host_record.specs.Changes.{written, with_cache_entry}
use Rattle.just_host_record.specs.NewFolders.{with_folder}
use Rattle.just_host_record.specs.Effects.{IsPutSomewhere, HasEntry, MakesFolder}
use Rattle.just_host_record.proofs.Effects.{written_puts, entry_has}
use Rattle.just_host_record.proofs.MadeFolders.{folder_makes}
use Rattle.just_host_memory.specs.declared.sights.TreeFault.{TreeFault}
use Rattle.just_host_memory.specs.Trees.{ShowsTree}

pub shown_puts : {A : Type 0} (w : World) (path bytes : List ℕ) (new : Tree) (r : Result A TreeFault) → ShowsTree (written w path bytes) new r → OnOk r (IsPutSomewhere w path bytes new)
shown_puts w path bytes new (Ok x) e = written_puts w path bytes new e
shown_puts w path bytes new (Err f) e = tt

pub shown_has : {A : Type 0} (w : World) (path : List ℕ) (new : Tree) (r : Result A TreeFault) → ShowsTree (with_cache_entry w path) new r → OnOk r (HasEntry w path new)
shown_has w path new (Ok x) e = entry_has w path new e
shown_has w path new (Err f) e = tt

pub shown_makes : {A : Type 0} (w : World) (path : List ℕ) (new : Tree) (r : Result A TreeFault) → ShowsTree (with_folder w path) new r → OnOk r (MakesFolder w path new)
shown_makes w path new (Ok x) e = folder_makes w path new e
shown_makes w path new (Err f) e = tt
