-- A justfile of so many recipes, the history of its run, and what is told of that run.
use Rattle.std.specs.Prelude.{ℕ, ◌+◌, ◌*◌, ◌-◌, ◌^◌, ◌++◌, ◌==◌, ◌&&◌, Bool, true, false, nat_lt, if◌then◌else◌, min, List, [], ◌∷◌, Option, Some, None, codes, count_by, decimal, flat_map, pos}
use Rattle.std.specs.FinMap as map
use Rattle.std.specs.List.{range_with_len}
use Rattle.just_lang_read.specs.Decimal.{decimal as number_of}
use Rattle.just_path.specs.Comps.{slash}
use Rattle.just_path.specs.View.{place_under}
use Rattle.just_cache.specs.Digests.{digest}
use Rattle.just_exec_work.specs.Steps.{is_code}
use Rattle.just_host_record.specs.declared.entry.Status.TheVariants as status
use Rattle.just_host_record.specs.declared.tree.Thing.TheVariants as thing
use Rattle.just_host_record.specs.Sights.{Tree}
use Rattle.just_sched_history.specs.declared.event.Event.{Event}
use Rattle.just_sched_history.specs.declared.event.Event.TheVariants as event
use Rattle.just_sched_history.specs.declared.event.Outcome.TheVariants as outcome
use Rattle.just_sched_history.specs.State.{takes, begins, concludes_well, gives}
use Rattle.just_sched_lines.specs.Lines.{history_text}

-- ---- the justfile

-- a prior, where there is a recipe of that number
abbrev pub prior_text : ℕ → ℕ → List ℕ
prior_text count n = if nat_lt n count then codes " r" ++ decimal n else []

-- recipe n stands in front of its priors 2 n + 1 and 2 n + 2, where they are there; its line tells its number
abbrev pub recipe_text : ℕ → ℕ → List ℕ
recipe_text count n =
    codes "r" ++ (decimal n ++ (codes ":" ++ (prior_text count (2 * n + 1) ++ (prior_text count (2 * n + 2) ++ (codes "\n\techo " ++ (decimal n ++ codes "\n"))))))

abbrev pub justfile_text : ℕ → List ℕ
justfile_text count = flat_map (recipe_text count) (range_with_len 0 count)

-- it is the one file there is, in the root
abbrev pub justfile_tree : ℕ → Tree
justfile_tree count =
    map.insert (map.insert map.empty (place_under slash (codes "/")) thing.Folder) (place_under slash (codes "/justfile")) (thing.File (justfile_text count) false)

-- ---- the run

-- the events of a node whose one command is the child of the same number, and ends well
abbrev pub body_events : ℕ → List Event
body_events n =
    event.Took n ∷ event.Begun n ∷ event.Started n 0 n ∷ event.Ended n 0 n (status.Code (pos 0)) ∷ event.Done n outcome.Well ∷ event.Gave n ∷ []

-- the bodies of so many nodes, one behind the other
abbrev pub run_events : ℕ → List Event
run_events count = flat_map body_events (range_with_len 0 count)

-- the first command of a node is started, as the child of the same number
abbrev pub starts_as : ℕ → Event → Bool
starts_as n (event.Started m i c) = (m == n) && (i == 0) && (c == n)
starts_as n (event.Asked m y) = false
starts_as n (event.Took m) = false
starts_as n (event.Looked m sums seen) = false
starts_as n (event.Skipped m) = false
starts_as n (event.Begun m) = false
starts_as n (event.Ended m i c s) = false
starts_as n (event.Saved m) = false
starts_as n (event.Done m o) = false
starts_as n (event.Gave m) = false
starts_as n (event.Caught s) = false

-- that child ends well
abbrev pub ends_as : ℕ → Event → Bool
ends_as n (event.Ended m i c s) = (m == n) && (i == 0) && (c == n) && is_code (pos 0) s
ends_as n (event.Asked m y) = false
ends_as n (event.Took m) = false
ends_as n (event.Looked m sums seen) = false
ends_as n (event.Skipped m) = false
ends_as n (event.Begun m) = false
ends_as n (event.Started m i c) = false
ends_as n (event.Saved m) = false
ends_as n (event.Done m o) = false
ends_as n (event.Gave m) = false
ends_as n (event.Caught s) = false

-- whether events are those of the body of a node
abbrev pub are_of_body : ℕ → Event → Event → Event → Event → Event → Event → Bool
are_of_body n took begun started ended done gave =
    takes n took && begins n begun && starts_as n started && ends_as n ended && concludes_well n done && gives n gave

-- ---- what is told of it

abbrev pub is_begin : Event → Bool
is_begin (event.Begun n) = true
is_begin (event.Asked n y) = false
is_begin (event.Took n) = false
is_begin (event.Looked n sums seen) = false
is_begin (event.Skipped n) = false
is_begin (event.Started n i c) = false
is_begin (event.Ended n i c s) = false
is_begin (event.Saved n) = false
is_begin (event.Done n o) = false
is_begin (event.Gave n) = false
is_begin (event.Caught s) = false

abbrev pub is_start : Event → Bool
is_start (event.Started n i c) = true
is_start (event.Asked n y) = false
is_start (event.Took n) = false
is_start (event.Looked n sums seen) = false
is_start (event.Skipped n) = false
is_start (event.Begun n) = false
is_start (event.Ended n i c s) = false
is_start (event.Saved n) = false
is_start (event.Done n o) = false
is_start (event.Gave n) = false
is_start (event.Caught s) = false

-- so many bodies, so many children, and a digest, a line each
abbrev pub lines_of : ℕ → ℕ → List ℕ → List ℕ
lines_of bodies children digits =
    codes "bodies " ++ (decimal bodies ++ (codes "\nchildren " ++ (decimal children ++ (codes "\nhistory " ++ (digits ++ codes "\n")))))

abbrev pub report_text : ℕ → ℕ → List ℕ → List ℕ
report_text bodies children text = lines_of bodies children (digest text)

-- what is told of a history: its bodies that were begun, its children, and the digest of its text
abbrev pub report_of : List Event → List ℕ
report_of h = report_text (count_by is_begin h) (count_by is_start h) (history_text h)

-- what is told of the run of so many recipes: there are as many bodies and as many children
abbrev pub vectors_text : ℕ → List ℕ
vectors_text count = report_text count count (history_text (run_events count))

-- ---- the words

abbrev pub number_or_zero : Option ℕ → ℕ
number_or_zero None = 0
number_or_zero (Some n) = n

-- the number that the words give: of the first of them, up to the greatest of 32 bits; 0 where it is none
abbrev pub count_of : List (List ℕ) → ℕ
count_of [] = 0
count_of (word ∷ others) = min (2 ^ 32 - 1) (number_or_zero (number_of word))
