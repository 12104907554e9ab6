-- For each file those that import it, and the names that files give.
use Rattle.std.specs.Prelude.{◌≡◌, ℕ, nat_eq, ◌&&◌, Bool, List, [], slice_get, is_some, unwrap_or}
use Rattle.std.specs.List.{list_any}
use Rattle.std.specs.Ordering.{nat_cmp, ordering_then}
use Rattle.std.specs.Cmp.Lexicographic.{slice_cmp}
use Rattle.std.specs.BTreeSet.{contains_by}
use Rattle.just_lang_syntax.specs.declared.ast.AstItem.{AstItem}
use Rattle.just_lang_spots.specs.declared.winners.Pairs.{Pairs}
use Rattle.just_lang_spots.specs.Standing.{Wins, has_name}
use Rattle.just_lang_spots.specs.Items.{item_name}

-- the files that import this one
abbrev pub importers : List (List ℕ) → ℕ → List ℕ
importers winners file = unwrap_or (slice_get winners file) []

-- whether some files import another one
abbrev pub is_imported : List ℕ → Bool
is_imported files = is_some (slice_get files 0)

-- whether the one file is among those that import the other
abbrev pub wins_in : List (List ℕ) → Wins
wins_in winners f g = list_any (nat_eq f) (importers winners g)

-- whether a pair of a file and a name is in the set
abbrev pub has_pair : Pairs → ℕ → List ℕ → Bool
has_pair pairs file name = contains_by (λ k. ordering_then (nat_cmp file k.0) (slice_cmp nat_cmp name k.1.now)) pairs.set

-- the set has the file and the name of each item, and no other pair
abbrev pub ArePairs : List (ℕ × AstItem) → Pairs → Type 0
ArePairs xs pairs = (file : ℕ) (name : List ℕ) → has_pair pairs file name ≡ list_any (λ x. nat_eq x.0 file && has_name item_name name x) xs

-- whether the set has the item's name in one of the files that import its file
abbrev pub is_beaten_by : List (List ℕ) → Pairs → ℕ × AstItem → Bool
is_beaten_by winners pairs x = list_any (λ f. has_pair pairs f (item_name x.1)) (importers winners x.0)
