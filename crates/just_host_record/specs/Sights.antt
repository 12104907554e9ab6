-- A tree of files, and what its places show.
use Rattle.std.specs.Prelude.{length, map, false}
use Rattle.std.specs.Ordering.{nat_cmp}
use Rattle.std.specs.Cmp.Lexicographic.{slice_cmp}
use Rattle.std.specs.FinMap.{FinMap, from_entries, entries}
use Rattle.just_path.specs.View.{Sight, thing, link, Sights}
use Rattle.just_path.specs.declared.meta.Kind.TheVariants as kind
use Rattle.just_host_record.specs.declared.tree.Thing.{Thing}
use Rattle.just_host_record.specs.declared.tree.Thing.TheVariants as things

-- files, folders and links by their places
abbrev pub Tree : Type 0
Tree = FinMap (slice_cmp nat_cmp) Thing

-- what a thing looks like at its place. A folder has no length
abbrev pub sight_of : Thing → Sight
sight_of (things.File bytes executable) = thing (record { kind = kind.File; len = length bytes; executable = executable })
sight_of things.Folder = thing (record { kind = kind.Folder; len = 0; executable = false })
sight_of (things.Link target) = link (record { kind = kind.Link; len = length target; executable = false }) target

-- each thing of a tree as it looks
unfoldable pub seen : Tree → Sights
seen tree = from_entries (map (λ e. (e.0, sight_of e.1)) (entries tree))
