-- The tables of a book tell what plan and history say.
use Rattle.std.proofs.Common.{◌≡◌, ℕ, ◌+◌, ◌<◌, ◌==◌, ◌&&◌, ◌⊎◌, inl, inr, not, zero, suc, Bool, true, false, true≢false, if◌then◌else◌, List, [], ◌∷◌, length, refl, sym, ◌∙◌, arith, eqb-true, eq-eqb}
use Rattle.std.proofs.Math.Logic.{∥∥₁_map}
use Rattle.std.specs.Prelude.{slice_index, slice_index_or, Contains}
use Rattle.just_eval_closure.specs.WellFormed.{IsWellFormed}
use Rattle.just_sched_history.specs.declared.event.Event.{Event}
use Rattle.just_sched_history.specs.declared.plan_node.PlanNode.{PlanNode}
use Rattle.just_sched_history.specs.declared.row.Row.{Row}
use Rattle.just_sched_history.specs.declared.tables.Tables.{Tables}
use Rattle.just_sched_history.specs.Nodes.{priors_at, subsequents_at, work_at}
use Rattle.just_sched_history.specs.Rows.{IsNoted}
use Rattle.just_sched_history.specs.Running.{EachNoIsDone}
use Rattle.just_sched_history.specs.State.{has_taken, is_done, is_confirmed, statuses, IsFinished, IsWanted, IsDueNext}
use Rattle.just_sched_book.specs.Tabled.{IsLacking, none, holds, lacks, down_among, priors_left, goes_on, is_due, TablesTell}
use Rattle.just_sched_history.specs.Tables.{flag, FlagsMean, InRange}
use Rattle.just_sched_history.proofs.AfterLaws.{judged_is}
use Rattle.just_sched_history.proofs.Asking.{to_ask_by, to_ask_unsure}
use Rattle.just_sched_history.proofs.Deciding.{of_contained, wanted_inside}
use Rattle.just_sched_history.proofs.Led.{flag_within}
use Rattle.just_sched_history.proofs.NotDue.{not_due}
use Rattle.just_sched_history.proofs.PlanLaws.{shapes, contains_at}
use Rattle.just_sched_history.proofs.RowLaws.{taken_in_row, done_in_row}
use Rattle.just_sched_history.proofs.TablesLaws.{rows_of, finished_of, wanted_of, confirmed_of}
use Rattle.just_sched_history.proofs.WantedLaws.{priors_within, subsequents_within}

-- ---- how many members of a list aren't flagged

-- the count of one member more, by its flag
lacking_first : (P : ℕ → Type 0) (b : Bool) (n : ℕ) (xs : List ℕ) (count : ℕ) → (b ≡ true → P n) × (b ≡ false → P n → ⊥) → IsLacking P xs count → IsLacking P (n ∷ xs) (if b then count else 1 + count)
lacking_first P true n xs count means rest = holds n xs count (means.0 refl) rest
lacking_first P false n xs count means rest = lacks n xs count (means.1 refl) rest

-- flags that mean something count those of which it doesn't hold
lacking : (P : ℕ → Type 0) (flags : List Bool) → FlagsMean flags P → (xs : List ℕ) → InRange xs flags → IsLacking P xs (down_among flags xs)
lacking P flags means [] within = none
lacking P flags means (n ∷ xs) within =
    lacking_first P (flag flags n) n xs (down_among flags xs) (means n (within 0 (omega arith)))
    (lacking P flags means xs (λ j lt. within (suc j) (omega (arith, lt))))

-- a member is flagged, and so are the others, where none is left
first_up : (b : Bool) (count : ℕ) → (if b then count else 1 + count) ≡ 0 → b ≡ true
first_up true count q = refl
first_up false count q = absurd (omega (arith, q))

others_none : (b : Bool) (count : ℕ) → (if b then count else 1 + count) ≡ 0 → count ≡ 0
others_none true count q = q
others_none false count q = absurd (omega (arith, q))

all_up : (flags : List Bool) (xs : List ℕ) → down_among flags xs ≡ 0 → (j : ℕ) → j < length xs → flag flags (slice_index xs j) ≡ true
all_up flags [] q j lt = absurd (omega (arith, lt))
all_up flags (n ∷ xs) q zero lt = first_up (flag flags n) (down_among flags xs) q
all_up flags (n ∷ xs) q (suc j) lt = all_up flags xs (others_none (flag flags n) (down_among flags xs) q) j (omega (arith, lt))

-- none is left where each member is flagged
none_first : (b : Bool) (count : ℕ) → b ≡ true → count ≡ 0 → (if b then count else 1 + count) ≡ 0
none_first true count up q = q
none_first false count up q = absurd (true≢false (sym up))

none_left : (flags : List Bool) (xs : List ℕ) → ((j : ℕ) → j < length xs → flag flags (slice_index xs j) ≡ true) → down_among flags xs ≡ 0
none_left flags [] each = refl
none_left flags (n ∷ xs) each =
    none_first (flag flags n) (down_among flags xs) (each 0 (omega arith)) (none_left flags xs (λ j lt. each (suc j) (omega (arith, lt))))

-- ---- who goes on

-- the ways to go on, by what is flagged: confirmed or not, took a job or not, how many priors are left
abbrev Ways : Bool → Bool → ℕ → Type 0
Ways sure taken left = (sure ≡ false) ⊎ ((sure ≡ true) × (taken ≡ false) × (left ≡ 0))

-- what isn't false is true
not_down : (b : Bool) → (b ≡ false → ⊥) → b ≡ true
not_down true never = refl
not_down false never = absurd (never refl)

both_parts : (a b : Bool) → (a && b) ≡ true → (a ≡ true) × (b ≡ true)
both_parts true b q = (refl, q)
both_parts false b q = absurd (true≢false (sym q))

both_true : (a b : Bool) → a ≡ true → b ≡ true → (a && b) ≡ true
both_true true b up q = q
both_true false b up q = absurd (true≢false (sym up))

goes_by : (wanted done sure taken : Bool) (left : ℕ) → (wanted && (not done && (if sure then not taken && (left == 0) else true))) ≡ true → (wanted ≡ true) × (done ≡ false) × Ways sure taken left
goes_by true false true false left q = (refl, refl, inr (refl, refl, eqb-true left 0 q))
goes_by true false true true left q = absurd (true≢false (sym q))
goes_by true false false taken left q = (refl, refl, inl refl)
goes_by true true sure taken left q = absurd (true≢false (sym q))
goes_by false done sure taken left q = absurd (true≢false (sym q))

goes_so : (wanted done sure taken : Bool) (left : ℕ) → wanted ≡ true → done ≡ false → Ways sure taken left → (wanted && (not done && (if sure then not taken && (left == 0) else true))) ≡ true
goes_so true false false taken left up fresh way = refl
goes_so true false true taken left up fresh (inl unsure) = absurd (true≢false unsure)
goes_so true false true true left up fresh (inr ready) = absurd (true≢false ready.1)
goes_so true false true false left up fresh (inr ready) = eq-eqb left 0 ready.2
goes_so true true sure taken left up fresh way = absurd (true≢false fresh)
goes_so false done sure taken left up fresh way = absurd (true≢false (sym up))

module _ (nodes : List PlanNode) (invocations : List ℕ) (h : List Event) (t : Tables) (well : ∥ IsWellFormed (shapes nodes) invocations ∥₁) (noted : ∥ IsNoted nodes invocations h t ∥₁) (sized : t.size ≡ length nodes)
    (each : EachNoIsDone h) (took : (n : ℕ) → has_taken h n ≡ true → is_confirmed nodes h n ≡ true) where
  -- the flags and the row of a node
  row_there : (n : ℕ) → n < length nodes → n < length t.rows.items
  row_there n lt = omega (arith, lt, t.rows_sized, sized)

  is_sure : (n : ℕ) → n < length nodes → flag t.progress.confirmed.items n ≡ is_confirmed nodes h n
  is_sure n lt = confirmed_of nodes invocations h t well noted sized n (omega (arith, lt, t.progress.confirmed_sized, t.progress_sized, sized))

  finished_sized : length t.progress.finished.items ≡ length nodes
  finished_sized = omega (arith, t.progress.finished_sized, t.progress_sized, sized)

  wanted_sized : length t.progress.wanted.items ≡ length nodes
  wanted_sized = omega (arith, t.progress.wanted_sized, t.progress_sized, sized)

  -- who is ready or to be asked is wanted
  due_wanted : (n : ℕ) → IsDueNext nodes invocations h n → IsWanted nodes invocations h n
  due_wanted n (inl ready) = ready.wanted
  due_wanted n (inr to_ask) = to_ask.wanted

  -- a node's priors are finished of which none is left
  priors_finished : (n : ℕ) → priors_left nodes t n ≡ 0 → (q : ℕ) → Contains (priors_at nodes n) q → IsFinished nodes h q
  priors_finished n q =
      of_contained (IsFinished nodes h) (priors_at nodes n)
      (λ j lt. (finished_of nodes invocations h t well noted sized (slice_index (priors_at nodes n) j) (priors_within nodes invocations well t.progress.finished.items n finished_sized j lt)).0
      (all_up t.progress.finished.items (priors_at nodes n) q j lt))

  -- and the other way round
  priors_none : (n : ℕ) → ((q : ℕ) → Contains (priors_at nodes n) q → IsFinished nodes h q) → priors_left nodes t n ≡ 0
  priors_none n finished =
      none_left t.progress.finished.items (priors_at nodes n)
      (λ j lt. not_down (flag t.progress.finished.items (slice_index (priors_at nodes n) j))
      (λ down. (finished_of nodes invocations h t well noted sized (slice_index (priors_at nodes n) j) (priors_within nodes invocations well t.progress.finished.items n finished_sized j lt)).1 down
      (finished (slice_index (priors_at nodes n) j) (contains_at (priors_at nodes n) j lt))))

  -- who goes on is ready or to be asked
  due_by : (n : ℕ) (d : Row) → n < length nodes → flag t.progress.wanted.items n ≡ true → (slice_index_or t.rows.items n d).done ≡ false
      → Ways (flag t.progress.confirmed.items n) (slice_index_or t.rows.items n d).taken (priors_left nodes t n) → IsDueNext nodes invocations h n
  due_by n d lt up fresh (inl unsure) =
      inr (to_ask_by nodes invocations h n each ((wanted_of nodes invocations h t well noted sized n (omega (arith, lt, wanted_sized))).0 up)
      (sym (is_sure n lt) ∙ unsure) (sym (done_in_row h t.rows.items (rows_of noted) n d (row_there n lt)) ∙ fresh))
  due_by n d lt up fresh (inr ready) =
      inl (record {
        wanted = (wanted_of nodes invocations h t well noted sized n (omega (arith, lt, wanted_sized))).0 up;
        confirmed = sym (is_sure n lt) ∙ ready.0;
        priors = priors_finished n ready.2;
        not_taken = sym (taken_in_row h t.rows.items (rows_of noted) n d (row_there n lt)) ∙ ready.1;
        not_done = sym (done_in_row h t.rows.items (rows_of noted) n d (row_there n lt)) ∙ fresh;
      })

  due_is : (n : ℕ) (d : Row) → is_due nodes t n (slice_index_or t.rows.items n d) ≡ true → IsDueNext nodes invocations h n
  due_is n d q =
      let r = slice_index_or t.rows.items n d in
      let goes = goes_by (flag t.progress.wanted.items n) r.done (flag t.progress.confirmed.items n) r.taken (priors_left nodes t n)
      (both_parts (flag t.due.flags.items n) (goes_on nodes t n r) q).1 in
      let inside : n < length t.progress.wanted.items = flag_within t.progress.wanted.items n goes.0 in
      due_by n d (omega (arith, inside, wanted_sized)) goes.0 goes.1 goes.2

  -- and who is ready or to be asked goes on
  way_of : (n : ℕ) (d : Row) → n < length nodes → IsDueNext nodes invocations h n → Ways (flag t.progress.confirmed.items n) (slice_index_or t.rows.items n d).taken (priors_left nodes t n)
  way_of n d lt (inl ready) =
      inr (is_sure n lt ∙ ready.confirmed, taken_in_row h t.rows.items (rows_of noted) n d (row_there n lt) ∙ ready.not_taken, priors_none n ready.priors)
  way_of n d lt (inr to_ask) = inl (is_sure n lt ∙ to_ask_unsure nodes invocations h n to_ask)

  fresh_of : (n : ℕ) → IsDueNext nodes invocations h n → is_done h n ≡ false
  fresh_of n (inl ready) = ready.not_done
  fresh_of n (inr to_ask) = to_ask.not_done

  due_so : (n : ℕ) (d : Row) → IsDueNext nodes invocations h n → is_due nodes t n (slice_index_or t.rows.items n d) ≡ true
  due_so n d due =
      let r = slice_index_or t.rows.items n d in
      let lt : n < length nodes = wanted_inside nodes invocations well h n (due_wanted n due) in
      both_true (flag t.due.flags.items n) (goes_on nodes t n r)
      (not_down (flag t.due.flags.items n) (λ down. not_due nodes invocations h t well noted sized took n down due))
      (goes_so (flag t.progress.wanted.items n) r.done (flag t.progress.confirmed.items n) r.taken (priors_left nodes t n)
      (not_down (flag t.progress.wanted.items n) (λ down. (wanted_of nodes invocations h t well noted sized n (omega (arith, lt, wanted_sized))).1 down (due_wanted n due)))
      (done_in_row h t.rows.items (rows_of noted) n d (row_there n lt) ∙ fresh_of n due)
      (way_of n d lt due))

  -- the tables tell it
  pub tells : ∥ TablesTell nodes invocations h t ∥₁
  tells =
      ∥∥₁_map noted (λ n. record {
        size = sized;
        rows = n.rows;
        next = λ k d lt. judged_is (work_at nodes k) (statuses h k) (slice_index_or t.rows.items k d).ended (slice_index_or t.rows.items k d).last (n.rows k d (row_there k lt)).ended (n.rows k d (row_there k lt)).last;
        over = n.told.over;
        confirmed = confirmed_of nodes invocations h t well noted sized;
        finished = finished_of nodes invocations h t well noted sized;
        wanted = wanted_of nodes invocations h t well noted sized;
        due = due_is;
        due_alone = λ k d down due. true≢false (sym (due_so k d due) ∙ down);
        priors = λ k.
            lacking (IsFinished nodes h) t.progress.finished.items (finished_of nodes invocations h t well noted sized) (priors_at nodes k)
            (priors_within nodes invocations well t.progress.finished.items k finished_sized);
        subsequents = λ k.
            lacking (IsFinished nodes h) t.progress.finished.items (finished_of nodes invocations h t well noted sized) (subsequents_at nodes k)
            (subsequents_within nodes invocations well t.progress.finished.items k finished_sized);
        classes = n.classes;
        opened = n.opened;
      })
