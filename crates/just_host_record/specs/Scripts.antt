-- What the start of a child tells of a world: why the file of its script can't be written.
use Rattle.std.specs.Prelude.{ℕ, ◌≡◌, ◌⊎◌, List, [], ◌++◌, Option, Some, None, Result, Ok, Err}
use Rattle.std.specs.FinMap as map
use Rattle.just_path.specs.Path.{pushed}
use Rattle.just_path.specs.declared.host.Miss.{Miss}
use Rattle.just_host_record.specs.declared.entry.HostFault.{HostFault}
use Rattle.just_host_record.specs.declared.entry.HostFault.TheVariants as fault
use Rattle.just_host_record.specs.declared.entry.Script.{Script}
use Rattle.just_host_record.specs.declared.entry.Spec.{Spec}
use Rattle.just_host_record.specs.declared.tree.Thing.TheVariants as thing
use Rattle.just_host_record.specs.World.{World}
use Rattle.just_host_record.specs.Changes.{with_tree, written}
use Rattle.just_host_record.specs.Folders.{IsParent, IsFresh, ParentMiss}

-- a world with one folder more
abbrev pub with_fresh : World → List ℕ → World
with_fresh w place = with_tree w (map.insert w.tree place thing.Folder)

-- a script's file can't be written under its name in a fresh folder
abbrev pub FileMiss : World → Script → Miss → Type 0
FileMiss w s m =
    (folder : List ℕ) × (prefix : List ℕ) × (place : List ℕ) × IsParent w s.folder folder × IsFresh w folder prefix place
    × (written (with_fresh w place) (pushed place [] ++ s.name) s.text ≡ Err m)

abbrev pub ScriptMiss : World → Option Script → Miss → Type 0
ScriptMiss w None m = ⊥
ScriptMiss w (Some s) m = ParentMiss w s.folder m ⊎ FileMiss w s m

abbrev pub StartShows : World → Spec → HostFault → Type 0
StartShows w spec (fault.Missed m) = ScriptMiss w spec.script m
StartShows w spec (fault.Failed c) = Unit {0}
StartShows w spec fault.NoMemory = Unit {0}

-- over a told world a miss of a start is one that the world shows: that of the folder that its script asks for, or of the script's file
abbrev pub StartTells : {A : Type 0} → Option World → Spec → Result A HostFault → Type 0
StartTells None spec result = Unit {0}
StartTells (Some w) spec (Ok x) = Unit {0}
StartTells (Some w) spec (Err e) = StartShows w spec e
