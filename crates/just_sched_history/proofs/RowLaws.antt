-- Laws of the rows of nodes.
use Rattle.std.proofs.Common.{Bool, true, ◌≡◌, ◌==◌, ◌&&◌, not, nat_lt, if◌then◌else◌, ℕ, ◌+◌, ◌<◌, ◌≤◌, ◌⊎◌, inl, inr, ⊎_elim, ◌||◌, false, cond, List, [], ◌∷◌, ◌++◌, length, set, get_or, get_or-set_same, get_or-set_other, length-append, refl, subst, sym, ap, ap₂, ◌∙◌, arith}
use Rattle.std.proofs.Math.ListN.{length-set, replicate, length-replicate}
use Rattle.std.proofs.lemmas.List.{get_or-replicate}
use Rattle.std.proofs.lemmas.List.Recursion.{is_count_by}
use Rattle.std.proofs.lemmas.List.Sums.{count_by-le-length}
use Rattle.std.proofs.Math.Bool.{Bool-set}
use Rattle.std.proofs.Math.Bridge.{le_prop}
use Rattle.std.proofs.Math.Decide.{dec_lt}
use Rattle.std.proofs.Math.Logic.{∥∥₁_elim}
use Rattle.std.proofs.Math.Nat.{ℕ_set}
use Rattle.std.specs.Coded.{coded_ℕ, coded_option, coded×, Coded-set}
use Rattle.just_host_record.specs.contracts.entry.Status as status_contract
use Rattle.just_host_record.specs.declared.entry.Status.{Status}
use Rattle.just_sched_history.specs.contracts.event.Reason as reason_contract
use Rattle.just_sched_history.specs.declared.event.Reason.{Reason}
use Rattle.std.specs.Prelude.{Option, Some, None, is_some, filter_map}
use Rattle.std.specs.List.{last_or, cons_option}
use Rattle.just_sched_history.specs.declared.event.Event.{Event}
use Rattle.just_sched_history.specs.declared.event.Event.TheVariants as event
use Rattle.just_sched_history.specs.declared.row.Row.{Row}
use Rattle.just_sched_history.specs.Cached.{saves}
use Rattle.just_sched_history.specs.Rows.{IsRow, IsLookRow, IsTable, IsTurned}
use Rattle.just_sched_history.specs.State.{is_of, takes, gives, begins, skips, starts, ends, start_count, end_count, is_running, concludes, concludes_well, status_of, start_of, reason_in, has_taken, is_begun, is_done, is_over, is_over_well, statuses, last_start, reason_of}
use Rattle.just_sched_history.specs.Tables.{or_first}
use Rattle.just_sched_history.proofs.CachedLaws.{saved_of, saved_stays}
use Rattle.just_sched_history.proofs.LookRows.{look_stays, look_turned}
use Rattle.just_sched_history.proofs.OneMore.{took_more, gave_more, done_more}
use Rattle.just_sched_history.proofs.Others.{others_stay}
use Rattle.just_sched_history.proofs.TableLaws.{first_push}
use Rattle.just_sched_history.proofs.Tests.{any_more, count_more, list_more}

-- an item or none counts as many
count_option : {A : Type 0} (o : Option A) → length (cons_option o []) ≡ cond (is_some o) 1 0
count_option None = refl
count_option (Some x) = refl

-- the last of a list and of one item or none behind it
last_option : {A : Type 0} (d : Option A) (xs : List A) (o : Option A) → last_or d (xs ++ cons_option o []) ≡ or_first o (last_or d xs)
last_option d [] None = refl
last_option d [] (Some x) = refl
last_option d (x ∷ xs) o = last_option (Some x) xs o

-- the last of what the items give, with one item more
pub last_more : {A B : Type 0} (f : A → Option B) (xs : List A) (x : A) → last_or None (filter_map f (xs ++ x ∷ [])) ≡ or_first (f x) (last_or None (filter_map f xs))
last_more f xs x = ap (λ ys. last_or None ys) (list_more f xs x) ∙ last_option None (filter_map f xs) (f x)

-- an end of a node is one status of it
end_status : (b : Bool) (t : Status) (xs : List Status) → length (cons_option (if b then Some t else None) xs) ≡ cond b (1 + length xs) (length xs)
end_status true t xs = omega arith
end_status false t xs = refl

one_end : (n : ℕ) (e : Event) (h : List Event) → length (statuses (e ∷ h) n) ≡ cond (ends n e) (1 + length (statuses h n)) (length (statuses h n))
one_end n (event.Ended m i c t) h = end_status (m == n) t (statuses h n)
one_end n _ h = refl

-- a node has a status for each of its ends
pub ends_statuses : (h : List Event) (n : ℕ) → length (statuses h n) ≡ end_count h n
ends_statuses h n = is_count_by (λ k. length (statuses k n)) (ends n) refl (one_end n) h

-- how many the items give, with one item more
pub length_more : {A B : Type 0} (f : A → Option B) (xs : List A) (x : A) → length (filter_map f (xs ++ x ∷ [])) ≡ length (filter_map f xs) + cond (is_some (f x)) 1 0
length_more f xs x = ap length (list_more f xs x) ∙ length-append (filter_map f xs) (filter_map f (x ∷ [])) ∙ ap (λ n. length (filter_map f xs) + n) (count_option (f x))

-- the row of a node behind an event of it
pub row_turned : (h : List Event) (n : ℕ) (e : Event) (r s : Row) → IsRow h n r → IsTurned n (length h) e r s → IsRow (h ++ e ∷ []) n s
row_turned h n e r s is t = record {
  taken = t.taken ∙ ap (λ b. b || takes n e) is.taken ∙ sym (took_more h e n);
  given = t.given ∙ ap (λ b. b || gives n e) is.given ∙ sym (gave_more h e n);
  begun = t.begun ∙ ap (λ b. b || begins n e) is.begun ∙ sym (any_more (begins n) h e);
  skipped = t.skipped ∙ ap (λ b. b || skips n e) is.skipped ∙ sym (any_more (skips n) h e);
  done = t.done ∙ ap (λ b. b || concludes n e) is.done ∙ sym (done_more h e n);
  well = t.well ∙ ap (λ b. b || (skips n e || concludes_well n e)) is.well ∙ sym (any_more (λ x. skips n x || concludes_well n x) h e);
  starts = t.starts ∙ ap (λ k. k + cond (starts n e) 1 0) is.starts ∙ sym (count_more (starts n) h e);
  started = t.started ∙ ap (or_first (start_of n e)) is.started ∙ sym (last_more (start_of n) h e);
  ended = t.ended ∙ ap (λ k. k + cond (is_some (status_of n e)) 1 0) is.ended ∙ sym (length_more (status_of n) h e);
  last = t.last ∙ ap (or_first (status_of n e)) is.last ∙ sym (last_more (status_of n) h e);
  reason = t.reason ∙ ap (λ o. or_first o (reason_in n e)) is.reason ∙ sym (first_push (reason_in n) h e);
  look = subst (λ o. IsLookRow (h ++ e ∷ []) n o) (sym t.look) (look_turned h n e r.look is.look);
  saved = t.saved ∙ ap (λ b. b || saves n e) is.saved ∙ sym (any_more (saves n) h e);
}

-- the row of a node behind an event of another
pub row_stays : (h : List Event) (n : ℕ) (e : Event) (r : Row) → IsRow h n r → is_of n e ≡ false → IsRow (h ++ e ∷ []) n r
row_stays h n e r is other =
    let same = others_stay h e n other in
    record {
      taken = is.taken ∙ sym same.took;
      given = is.given ∙ sym same.gave;
      begun = is.begun ∙ sym same.begun;
      skipped = is.skipped ∙ sym same.skipped;
      done = is.done ∙ sym same.done;
      well = is.well ∙ sym same.over_well;
      starts = is.starts ∙ sym same.starts;
      started = is.started ∙ sym same.last_start;
      ended = is.ended ∙ ap length (sym same.statuses);
      last = is.last ∙ ap (λ ts. last_or None ts) (sym same.statuses);
      reason = is.reason ∙ sym same.reason_of;
      look = look_stays h n e r.look other is.look;
      saved = is.saved ∙ sym (saved_stays h e n (saved_of n e other));
    }

-- two numbers are one, or not
pub same_or : (m n : ℕ) → (m ≡ n) ⊎ (m ≡ n → ⊥)
same_or m n =
    elim (dec_lt m n) [
      | yes less ↦ inr (λ e. omega (arith, less, e))
      | no not_less ↦ elim (dec_lt n m) [
        | yes more ↦ inr (λ e. omega (arith, more, e))
        | no not_more ↦ inl (omega arith)
      ]
    ]

-- a table behind an event of a node that has a row in it
pub table_turned : (h : List Event) (e : Event) (rows : List Row) (at : ℕ) (d s : Row) → IsTable h rows → at < length rows → ((n : ℕ) → (n ≡ at → ⊥) → is_of n e ≡ false) → IsTurned at (length h) e (get_or rows at d) s → IsTable (h ++ e ∷ []) (set rows at s)
table_turned h e rows at d s is lt own turn n o within =
    ⊎_elim (λ (same : n ≡ at). rw same (rw get_or-set_same (row_turned h at e (get_or rows at d) s (is at d lt) turn)))
    (λ (other : n ≡ at → ⊥). rw get_or-set_other (row_stays h n e (get_or rows n o) (is n o (omega (arith, length-set {A = Row}, within))) (own n other)))
    (same_or n at)

-- a table behind an event of no node that has a row in it
pub table_stays : (h : List Event) (e : Event) (rows : List Row) → IsTable h rows → ((n : ℕ) → n < length rows → is_of n e ≡ false) → IsTable (h ++ e ∷ []) rows
table_stays h e rows is others n d lt = row_stays h n e (get_or rows n d) (is n d lt) (others n lt)

-- the row of a node of which no event speaks
abbrev pub blank : Row
blank = record { taken = false; given = false; begun = false; skipped = false; done = false; well = false; starts = 0; started = None; ended = 0; last = None; reason = None; look = None; saved = false }

-- a list has no more items than it is made of
few_option : {A : Type 0} (o : Option A) (xs : List A) → length (cons_option o xs) ≤ length xs + 1
few_option None xs = omega arith
few_option (Some x) xs = omega arith

few_items : {A B : Type 0} (f : A → Option B) (xs : List A) → length (filter_map f xs) ≤ length xs
few_items f [] = omega arith
few_items f (x ∷ xs) = omega (arith, few_option (f x) (filter_map f xs), few_items f xs)

-- two proofs that two such values are equal are one
statuses_set : IsSet (Option Status)
statuses_set = Coded-set (coded_option status_contract.the_row.coded)

starts_set : IsSet (Option (ℕ × ℕ))
starts_set = Coded-set (coded_option (coded× coded_ℕ coded_ℕ))

reasons_set : IsSet (Option Reason)
reasons_set = Coded-set (coded_option reason_contract.the_row.coded)

-- a table of blank rows says that nothing happened
pub table_blank : (rows : List Row) (n : ℕ) → rows ≡ replicate n blank → IsTable [] rows
table_blank rows n are k d lt =
    let at : get_or rows k d ≡ blank = ap (λ xs. get_or xs k d) are ∙ get_or-replicate n k blank d (omega (arith, ap length are, length-replicate n blank, lt)) in
    rw at (record { taken = refl; given = refl; begun = refl; skipped = refl; done = refl; well = refl; starts = refl; started = refl; ended = refl; last = refl; reason = refl; look = refl; saved = refl })

-- ---- what a table gives of a node that has a row in it

module _ (h : List Event) (rows : List Row) (table : ∥ IsTable h rows ∥₁) (n : ℕ) (r : Row) (is : r ≡ get_or rows n r) (lt : n < length rows) where
  -- it was begun
  pub begun_in : r.begun ≡ is_begun h n
  begun_in = ap (λ x. x.begun) is ∙ ∥∥₁_elim table (Bool-set _ _) (λ t. (t n r lt).begun)

  -- its body was skipped or is done
  pub over_in : (r.skipped || r.done) ≡ is_over h n
  over_in = ap (λ x. x.skipped || x.done) is ∙ ∥∥₁_elim table (Bool-set _ _) (λ t. ap₂ (λ a b. a || b) (t n r lt).skipped (t n r lt).done)

  -- it runs a child
  pub running_in : (nat_lt r.ended r.starts && not r.done) ≡ is_running h n
  running_in =
      ap (λ x. nat_lt x.ended x.starts && not x.done) is
      ∙ ∥∥₁_elim table (Bool-set _ _) (λ t. ap₂ (λ a b. nat_lt a b && not (get_or rows n r).done) ((t n r lt).ended ∙ ends_statuses h n) (t n r lt).starts ∙ ap (λ c. nat_lt (end_count h n) (start_count h n) && not c) (t n r lt).done)

  -- the command that it started last, and that command's child
  pub started_in : r.started ≡ last_start h n
  started_in = ap (λ x. x.started) is ∙ ∥∥₁_elim table (starts_set _ _) (λ t. (t n r lt).started)

  -- how many of its commands have ended
  pub ended_in : r.ended ≡ length (statuses h n)
  ended_in = ap (λ x. x.ended) is ∙ ∥∥₁_elim table (ℕ_set _ _) (λ t. (t n r lt).ended)

  -- how the last of them has
  pub last_in : r.last ≡ last_or None (statuses h n)
  last_in = ap (λ x. x.last) is ∙ ∥∥₁_elim table (statuses_set _ _) (λ t. (t n r lt).last)

  -- the place of the command that it started last
  pub place_in : (i c : ℕ) → last_start h n ≡ Some (i, c) → r.started ≡ Some (i, c)
  place_in i c e = ap (λ x. x.started) is ∙ ∥∥₁_elim table (starts_set _ _) (λ t. (t n r lt).started) ∙ e

-- why a node failed
pub reason_in_row : (h : List Event) (rows : List Row) → ∥ IsTable h rows ∥₁ → (n : ℕ) (d : Row) → n < length rows → (get_or rows n d).reason ≡ reason_of h n
reason_in_row h rows table n d lt = ∥∥₁_elim table (reasons_set _ _) (λ t. (t n d lt).reason)

-- a node has no more ends than there are events
pub few_ended : (h : List Event) (rows : List Row) → ∥ IsTable h rows ∥₁ → (n : ℕ) (d : Row) → n < length rows → (get_or rows n d).ended ≤ length h
few_ended h rows table n d lt = ∥∥₁_elim table le_prop (λ t. omega (arith, (t n d lt).ended, few_items (status_of n) h))

-- nor more starts
pub few_starts : (h : List Event) (rows : List Row) → ∥ IsTable h rows ∥₁ → (n : ℕ) (d : Row) → n < length rows → (get_or rows n d).starts ≤ length h
few_starts h rows table n d lt = ∥∥₁_elim table le_prop (λ t. omega (arith, (t n d lt).starts, count_by-le-length (starts n) h))

-- whether a node took a job
pub taken_in_row : (h : List Event) (rows : List Row) → ∥ IsTable h rows ∥₁ → (n : ℕ) (d : Row) → n < length rows → (get_or rows n d).taken ≡ has_taken h n
taken_in_row h rows table n d lt = ∥∥₁_elim table (Bool-set _ _) (λ t. (t n d lt).taken)

-- whether its body is done
pub done_in_row : (h : List Event) (rows : List Row) → ∥ IsTable h rows ∥₁ → (n : ℕ) (d : Row) → n < length rows → (get_or rows n d).done ≡ is_done h n
done_in_row h rows table n d lt = ∥∥₁_elim table (Bool-set _ _) (λ t. (t n d lt).done)

-- whether it is over well
pub well_in_row : (h : List Event) (rows : List Row) → ∥ IsTable h rows ∥₁ → (n : ℕ) (d : Row) → n < length rows → (get_or rows n d).well ≡ is_over_well h n
well_in_row h rows table n d lt = ∥∥₁_elim table (Bool-set _ _) (λ t. (t n d lt).well)

-- flags say it of one node more
pub flag_more : (f : ℕ → Bool) (flags : List Bool) (at : ℕ) (b : Bool) → at < length flags → ((k : ℕ) → k < at → get_or flags k false ≡ f k) → b ≡ f at → (k : ℕ) → k < at + 1 → get_or (set flags at b) k false ≡ f k
flag_more f flags at b within so_far here k lt =
    ⊎_elim (λ (same : k ≡ at). rw same (get_or-set_same flags at b false within ∙ here))
    (λ (other : k ≡ at → ⊥). rw get_or-set_other (so_far k (omega (arith, other, lt))))
    (same_or k at)

-- whether it took a job or is done
pub taken_or_done : (h : List Event) (rows : List Row) → ∥ IsTable h rows ∥₁ → (n : ℕ) (d : Row) → n < length rows → ((get_or rows n d).taken || (get_or rows n d).done) ≡ (has_taken h n || is_done h n)
taken_or_done h rows table n d lt = ap₂ (λ a b. a || b) (taken_in_row h rows table n d lt) (done_in_row h rows table n d lt)

-- the first of two truth values, where it is true
pub or_left : (a b c : Bool) → (a || b) ≡ c → a ≡ true → a ≡ c
or_left a b c e up = up ∙ ap (λ x. x || b) (sym up) ∙ e

-- the second, where the first is false
pub or_right : (a b c : Bool) → (a || b) ≡ c → a ≡ false → b ≡ c
or_right a b c e down = ap (λ x. x || b) (sym down) ∙ e
