-- What was found so far, and what is still to come.
use Rattle.std.proofs.Common.{◌≡◌, ◌++◌, drop}
use Rattle.std.specs.List.{flat_map}
use Rattle.just_lang_spots.specs.Entries.{entries}
use Rattle.just_print_tree.specs.Groups.{groups_where, each_once, groups_among}
use Rattle.just_print_tree.proofs.groups.groups_among.Given as goal

abbrev pub invariant-items : goal.invariant-items
invariant-items g l =
    l.found.items ++ each_once l.found.items (flat_map (groups_where (g.T.Texts.text_of l.texts) l.spots) (entries (drop l.one-index l.items)))
    ≡ groups_among (g.T.Texts.text_of l.texts) l.spots (entries l.items)
