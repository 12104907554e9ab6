-- The entries of a listed folder.
use Rattle.std.specs.Prelude.{ℕ, List, Option, Some, None, map, reverse, Ok, ◌≡◌}
use Rattle.just_path.specs.Path.{pushed}
use Rattle.just_path.specs.View.{View, AreInOrder, AreItemsOf, ToldFault, folder_told}
use Rattle.just_path.specs.declared.directory.ReadDirUtf8.{ReadDirUtf8}
use Rattle.just_path.specs.declared.directory.Utf8DirEntry.{Utf8DirEntry}
use Rattle.just_path.specs.declared.host.PathFault.{PathFault}
use Rattle.just_path.specs.declared.meta.Item.{Item}

-- the entry of an item: its path is the folder's, with the name pushed
abbrev pub entry_of : List ℕ → Item → Utf8DirEntry
entry_of folder i = record { path = pushed folder i.name; name = i.name; kind = i.kind }

-- the entries that are still to come
abbrev pub entries_left : ReadDirUtf8 → List Utf8DirEntry
entries_left d = reverse d.rest.items

-- the entries are those of the items that the host listed, which are those that a told view shows
abbrev pub TellsEntries : Option View → List ℕ → List Item → Type 0
TellsEntries None path items = Unit {0}
TellsEntries (Some v) path items = (folder : List ℕ) × (folder_told path v ≡ Ok folder) × AreItemsOf folder v.tree items

pub record Lists (view : Option View) (path : List ℕ) (d : ReadDirUtf8) : Type 0 where
  pub items : List Item
  pub entries : entries_left d ≡ map (entry_of path) items
  pub order : AreInOrder items
  pub told : TellsEntries view path items

-- a miss is the one that a told view shows
abbrev pub TellsNoFolder : Option View → List ℕ → PathFault → Type 0
TellsNoFolder None path f = Unit {0}
TellsNoFolder (Some v) path f = ToldFault (folder_told path v) f
