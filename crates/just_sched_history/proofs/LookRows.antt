-- What the row of a node says of its look.
use Rattle.std.proofs.Common.{◌≡◌, ℕ, suc, zero, ◌<◌, true, false, List, [], ◌∷◌, ◌++◌, length, slice_get, get_or, Option, Some, None, is_some, option_map, true≢false, nat_lt, lt-ltb, ap, refl, sym, ◌∙◌, subst}
use Rattle.std.specs.Coded.{coded_ℕ, coded_list, Coded-set}
use Rattle.std.proofs.Math.Bool.{Bool-set}
use Rattle.std.proofs.Math.Bridge.{le_prop}
use Rattle.std.proofs.lemmas.Option.{slice_get_read, slice_get_within}
use Rattle.std.proofs.Math.Logic.{∥∥₁_elim}
use Rattle.just_host_record.specs.declared.entry.Look.{Look}
use Rattle.just_sched_history.specs.declared.event.Event.{Event}
use Rattle.just_sched_history.specs.declared.event.Event.TheVariants as event
use Rattle.just_sched_history.specs.declared.plan_node.PlanNode.{PlanNode}
use Rattle.just_sched_history.specs.declared.row.Row.{Row}
use Rattle.just_sched_history.specs.Cached.{look_of, look_in, is_looked_at, is_saved, seen_at, full_in, saw_full, sums_in}
use Rattle.just_sched_history.specs.Rows.{IsLookRow, IsTable}
use Rattle.just_sched_history.specs.State.{is_of}
use Rattle.just_sched_history.specs.Tables.{or_first}
use Rattle.just_sched_history.proofs.CachedLaws.{look_is, looked_of, looked_seen, seen_kept, seen_new, seen_stays, unseen}

-- an item stays where it is behind one more
get_kept : {A : Type 0} (xs : List A) (y : A) (i : ℕ) (x : A) → slice_get xs i ≡ Some x → slice_get (xs ++ y ∷ []) i ≡ Some x
get_kept [] y i x q = absurd (cc)
get_kept (z ∷ xs) y zero x q = q
get_kept (z ∷ xs) y (suc i) x q = get_kept xs y i x q

-- the last item stands behind the others
get_last : {A : Type 0} (xs : List A) (y : A) → slice_get (xs ++ y ∷ []) (length xs) ≡ Some y
get_last [] y = refl
get_last (x ∷ xs) y = get_last xs y

-- a row without a look, by what the event saw
look_new : (h : List Event) (n : ℕ) (e : Event) (o : Option (List (List ℕ) × Look)) → look_of n e ≡ o → seen_at h n ≡ None → IsLookRow (h ++ e ∷ []) n (option_map (λ seen. length h) o)
look_new h n e None q none = seen_new h e n none ∙ q
look_new h n e (Some x) q none = (x, seen_new h e n none ∙ q, get_last h e ∙ ap (λ k. Some k) (look_is n e x q))

-- what a row says of a look, behind an event of its node
pub look_turned : (h : List Event) (n : ℕ) (e : Event) (o : Option ℕ) → IsLookRow h n o → IsLookRow (h ++ e ∷ []) n (or_first o (option_map (λ seen. length h) (look_of n e)))
look_turned h n e (Some place) is = (is.0, seen_kept h e n is.0 is.1, get_kept h e place (event.Looked n is.0.0 is.0.1) is.2)
look_turned h n e None is = look_new h n e (look_of n e) refl is

-- and behind an event of another
pub look_stays : (h : List Event) (n : ℕ) (e : Event) (o : Option ℕ) → is_of n e ≡ false → IsLookRow h n o → IsLookRow (h ++ e ∷ []) n o
look_stays h n e (Some place) other is = (is.0, seen_kept h e n is.0 is.1, get_kept h e place (event.Looked n is.0.0 is.0.1) is.2)
look_stays h n e None other is = seen_stays h e n (unseen n e (looked_of n e other)) ∙ is

-- ---- what it gives

looked_by : (h : List Event) (n : ℕ) (o : Option ℕ) → IsLookRow h n o → is_some o ≡ is_looked_at h n
looked_by h n None is = ap is_some (sym is) ∙ looked_seen h n
looked_by h n (Some place) is = ap is_some (sym is.1) ∙ looked_seen h n

sums_set : IsSet (List (List ℕ))
sums_set = Coded-set (coded_list (coded_list coded_ℕ))

-- what an event that may be there saw
abbrev seen_in : Option Event → Option (List (List ℕ) × Look)
seen_in (Some e) = look_in e
seen_in None = None

-- the event at the place of a node's look tells what was seen
look_told : (h : List Event) (n place : ℕ) (e : Event) → IsLookRow h n (Some place) → slice_get h place ≡ Some e → look_in e ≡ seen_at h n
look_told h n place e is at = ap seen_in (sym at ∙ is.2) ∙ sym is.1

module _ (h : List Event) (rows : List Row) (table : ∥ IsTable h rows ∥₁) (n : ℕ) (r : Row) (is : r ≡ get_or rows n r) (lt : n < length rows) where
  -- it was looked at
  pub looked_in : is_some r.look ≡ is_looked_at h n
  looked_in = ap (λ x. is_some x.look) is ∙ ∥∥₁_elim table (Bool-set _ _) (λ t. looked_by h n _ (t n r lt).look)

  -- its entry was saved
  pub saved_in : r.saved ≡ is_saved h n
  saved_in = ap (λ x. x.saved) is ∙ ∥∥₁_elim table (Bool-set _ _) (λ t. (t n r lt).saved)

  -- a node that was looked at has a place of its look
  pub none_placed : is_looked_at h n ≡ true → r.look ≡ None → ⊥
  none_placed q none = true≢false (sym q ∙ sym looked_in ∙ ap is_some none)

  row_look : (o : Option ℕ) → r.look ≡ o → (get_or rows n r).look ≡ o
  row_look o q = sym (ap (λ x. x.look) is) ∙ q

  -- one without such a place saw nothing full
  pub none_full : (nodes : List PlanNode) → r.look ≡ None → false ≡ saw_full nodes h n
  none_full nodes q = ∥∥₁_elim table (Bool-set _ _) (λ t. sym (ap (full_in nodes n) (subst (IsLookRow h n) (row_look None q) (t n r lt).look)))

  module _ (place : ℕ) (q : r.look ≡ Some place) where
    -- it is a place of the history
    pub look_within : place < length h
    look_within = ∥∥₁_elim table le_prop (λ t. let row = subst (IsLookRow h n) (row_look (Some place) q) (t n r lt).look in slice_get_within h place (event.Looked n row.0.0 row.0.1) row.2)

    module _ (e : Event) (at : e ≡ get_or h place e) where
      -- the event there
      there : slice_get h place ≡ Some e
      there = slice_get_read h (length h) place e refl look_within at

      -- has the sums that were seen
      pub look_sums : (seen : List (List ℕ) × Look) → seen_at h n ≡ Some seen → sums_in (look_in e) ≡ seen.0
      look_sums seen saw = ∥∥₁_elim table (sums_set _ _) (λ t. ap sums_in (look_told h n place e (subst (IsLookRow h n) (row_look (Some place) q) (t n r lt).look) there ∙ saw))

      -- and tells whether that was full
      pub look_full : (nodes : List PlanNode) → full_in nodes n (look_in e) ≡ saw_full nodes h n
      look_full nodes = ∥∥₁_elim table (Bool-set _ _) (λ t. ap (full_in nodes n) (look_told h n place e (subst (IsLookRow h n) (row_look (Some place) q) (t n r lt).look) there))

-- what stands before the end of a list is there
pub past_none : {A : Type 0} (i n : ℕ) (o : Option A) → i < n → is_some o ≡ nat_lt i n → o ≡ None → ⊥
past_none i n o lt there none = true≢false (sym (lt-ltb i n lt) ∙ sym there ∙ ap is_some none)
