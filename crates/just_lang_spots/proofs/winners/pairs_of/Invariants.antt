-- The set has the names of the items so far.
use Rattle.std.proofs.Common.{◌≡◌, ◌&&◌, ℕ, List, take}
use Rattle.std.specs.Prelude.{nat_eq}
use Rattle.std.specs.List.{list_any}
use Rattle.std.specs.Ordering.{nat_cmp, ordering_then}
use Rattle.std.specs.Cmp.Lexicographic.{slice_cmp}
use Rattle.std.specs.BTreeSet.{contains_by}
use Rattle.just_lang_spots.specs.Entries.{entries}
use Rattle.just_lang_spots.specs.Items.{item_name}
use Rattle.just_lang_spots.specs.Standing.{has_name}
use Rattle.just_lang_spots.proofs.winners.pairs_of.Given as goal

abbrev pub invariant-items : goal.invariant-items
invariant-items l =
    (file : ℕ) (name : List ℕ) → contains_by (λ k. ordering_then (nat_cmp file k.0) (slice_cmp nat_cmp name k.1.now)) l.set
    ≡ list_any (λ x. nat_eq x.0 file && has_name item_name name x) (entries (take l.one-index l.items))
