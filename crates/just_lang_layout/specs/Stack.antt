-- What is left of a walk: a stack of the files on the way, the last one on top.
use Rattle.std.specs.Prelude.{◌≡◌, ℕ, ◌==◌, ◌-◌, Bool, false, not, ◌&&◌, nat_lt, if◌then◌else◌, List, [], ◌∷◌, ◌++◌, drop, length, slice_get, Option, Some, None}
use Rattle.std.specs.List.{list_any}
use Rattle.just_lang_layout.specs.declared.target.Target.{Target}
use Rattle.just_lang_layout.specs.declared.visit.Visit.{Visit}
use Rattle.just_lang_layout.specs.declared.visit.Frame.{Frame}
use Rattle.just_lang_layout.specs.Walk.{targets_of, visits, visits_from}

-- the visits that a stack of files is still to come to, its last first
abbrev pub visits_left : Bool → List (List Target) → ℕ → List ℕ → List Frame → List Visit
visits_left modules table depth chain [] = []
visits_left modules table depth chain (f ∷ fs) =
    visits_left modules table (depth - 1) (f.file ∷ chain) fs
    ++ visits_from modules (visits modules table (depth - 1)) (f.file ∷ chain) f.file f.next (drop f.next (targets_of table f.file))

-- whether a file is on a stack
abbrev pub is_among : List Frame → Option ℕ → Bool
is_among stack None = false
is_among stack (Some n) = list_any (λ f. f.file == n) stack

-- what is left begins with that visit, if there is one
abbrev pub Gives : List Visit → Option Visit → List Visit → Type 0
Gives old None new = old ≡ []
Gives old (Some v) new = old ≡ v ∷ new

-- all visits left are those from the next item of a file on, which was taken from the stack, and those of the stack left
abbrev pub Tops : Bool → List (List Target) → List Frame → Option (Frame × Target) → List Frame → Type 0
Tops modules table old None new = visits_left modules table (length table) [] old ≡ []
Tops modules table old (Some x) new =
    (slice_get (targets_of table x.0.file) x.0.next ≡ Some x.1)
    × (visits_left modules table (length table) [] old ≡ visits_left modules table (length table) [] (new ++ x.0 ∷ []))

abbrev pub frame_at : ℕ → ℕ → Frame
frame_at file next = record { file = file; next = next }

-- a stack with the file that an item leads to on top, unless that is there or the stack has as many files as there are
abbrev pub entered : ℕ → List Frame → Option ℕ → List Frame
entered count stack None = stack
entered count stack (Some n) = if (not (is_among stack (Some n)) && nat_lt (length stack) count) then stack ++ frame_at n 0 ∷ [] else stack
