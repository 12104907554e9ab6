-- How a child over a host in memory is played: its word, its ending, and what its effects make of the files.
use Rattle.std.specs.Prelude.{ℕ, ◌+◌, ◌≡◌, ◌++◌, nat_lt, Bool, true, false, not, ◌||◌, if◌then◌else◌, List, [], ◌∷◌, map, Option, Some, None, pos}
use Rattle.std.specs.List.{find, flat_map, list_all, remove, position_or_len}
use Rattle.std.specs.FinMap as maps
use Rattle.std.specs.Str.{bytes_eq}
use Rattle.just_host_record.specs.declared.entry.Script.{Script}
use Rattle.just_host_record.specs.declared.entry.Spec.{Spec}
use Rattle.just_host_record.specs.declared.entry.Status.{Status}
use Rattle.just_host_record.specs.declared.entry.Status.TheVariants.{Code}
use Rattle.just_host_memory.specs.declared.plot.Ending.{Ending}
use Rattle.just_host_record.specs.declared.tree.Thing.{Thing}
use Rattle.just_path.specs.View.{place_under}
use Rattle.just_host_record.specs.Sights.{Tree}
use Rattle.just_host_memory.specs.declared.place.Place.{Place}

-- the texts, with one blank between two of them
abbrev pub joined : List (List ℕ) → List ℕ
joined [] = []
joined (t ∷ ts) = t ++ flat_map (λ u. 32 ∷ u) ts

abbrev pub word_or : List (List ℕ) → Option Script → List ℕ
word_or arguments (Some s) = s.text
word_or arguments None = joined arguments

-- the word by which a child is looked up: the text of its script, else its arguments joined with one blank
abbrev pub word_of : Spec → List ℕ
word_of spec = word_or spec.arguments spec.script

-- the first ending of a word
abbrev pub ending_of : List ℕ → List Ending → Option Ending
ending_of word endings = find (λ e. bytes_eq e.word word) endings

abbrev pub are_none : List (List ℕ × Option Thing) → Bool
are_none [] = true
are_none (e ∷ es) = false

-- whether an ending is of another word, or has no effects
abbrev pub does_nothing : List ℕ → Ending → Bool
does_nothing word e = not (bytes_eq e.word word) || are_none e.effects.items

-- whether no child of a word has effects, whichever of the endings it has
abbrev pub leave_alone : List Ending → List ℕ → Bool
leave_alone endings word = list_all (does_nothing word) endings

-- the endings but for that one
abbrev pub others : List ℕ → List Ending → List Ending
others word endings = remove endings (position_or_len (λ e. bytes_eq e.word word) endings)

abbrev pub status_of : Option Ending → Status
status_of (Some e) = e.status
status_of None = Code (pos 0)

-- what the child prints
abbrev pub output_of : Option Ending → List ℕ
output_of (Some e) = e.output
output_of None = []

abbrev pub changed : Tree → List ℕ → Option Thing → Tree
changed tree place (Some thing) = maps.insert tree place thing
changed tree place None = maps.remove tree place

-- a tree after these effects, one after the other, at the places of their paths under a folder
abbrev pub after_effects : List ℕ → Tree → List (List ℕ × Option Thing) → Tree
after_effects folder tree [] = tree
after_effects folder tree (e ∷ es) = after_effects folder (changed tree (place_under folder e.0) e.1) es

abbrev pub tree_after : List ℕ → Tree → Option Ending → Tree
tree_after folder tree (Some e) = after_effects folder tree e.effects.items
tree_after folder tree None = tree

-- the places are those of the effects' paths under a folder
abbrev pub ArePlacesOf : List ℕ → List Place → List (List ℕ × Option Thing) → Type 0
ArePlacesOf folder places effects = map (λ p. p.path) places ≡ map (λ e. place_under folder e.0) effects

-- a tree after these effects at these places
abbrev pub after_changes : Tree → List Place → List (List ℕ × Option Thing) → Tree
after_changes tree [] effects = tree
after_changes tree (p ∷ ps) [] = tree
after_changes tree (p ∷ ps) (e ∷ es) = after_changes (changed tree p.path e.1) ps es

-- the number of the call behind that one; counting ends at the greatest number
abbrev pub next_call : ℕ → ℕ
next_call k = if nat_lt k 4294967295 then k + 1 else k
