-- Files that are summed one after the other.
use Rattle.std.specs.Prelude.{slice_index_or}
use Rattle.std.proofs.Common.{◌≡◌, ℕ, zero, suc, ◌+◌, ◌<◌, inl, inr, List, [], ◌∷◌, ◌++◌, length, length-append, get_or, Err, refl, ap, ap₂, sym, ◌∙◌, subst, append_assoc, append-nil, arith}
use Rattle.just_host_record.specs.declared.entry.Entry.{Entry}
use Rattle.just_host_record.specs.declared.entry.Entry.TheVariants as entry
use Rattle.just_sched_history.specs.declared.event.Reason.{Reason}
use Rattle.just_sched_history.specs.declared.event.Reason.TheVariants as reason
use Rattle.just_sched_book.specs.Gains.{RefusedSum, SumGain, SumRefusal}
use Rattle.just_sched_history.specs.Match.{summed_entries}

-- no sums are no entries
pub no_entries : (paths : List (List ℕ)) → summed_entries paths [] ≡ []
no_entries [] = refl
no_entries (p ∷ paths) = refl

-- the first of the files have these sums, and the record has gained them
pub record AreSummedSo (paths : List (List ℕ)) (place : ℕ) (sums : List (List ℕ)) (old now : List Entry) : Type 0 where
  pub many : length sums ≡ place
  pub gained : now ≡ old ++ summed_entries paths sums

-- nothing is summed yet
pub summed_none : (paths sums : List (List ℕ)) (old : List Entry) → sums ≡ [] → AreSummedSo paths 0 sums old old
summed_none paths sums old empty = record { many = ap length empty; gained = sym (ap (λ k. old ++ summed_entries paths k) empty ∙ ap (λ k. old ++ k) (no_entries paths) ∙ append-nil old) }

-- a sum more
summed_push : (paths sums : List (List ℕ)) (x d : List ℕ) → length sums < length paths → summed_entries paths (sums ++ x ∷ []) ≡ summed_entries paths sums ++ entry.Summed (get_or paths (length sums) d) x ∷ []
summed_push [] sums x d lt = absurd (omega (arith, lt))
summed_push (p ∷ paths) [] x d lt = ap (λ es. entry.Summed p x ∷ es) (no_entries paths)
summed_push (p ∷ paths) (y ∷ sums) x d lt = ap (λ es. entry.Summed p y ∷ es) (summed_push paths sums x d (omega (arith, lt)))

module _ (paths : List (List ℕ)) (place : ℕ) (path : List ℕ) (sums : List (List ℕ)) (old mid now : List Entry) (lt : place < length paths) (is : path ≡ get_or paths place path) (before : AreSummedSo paths place sums old mid) where
  -- the path of the next one
  at : get_or paths (length sums) path ≡ path
  at = ap (λ k. get_or paths k path) before.many ∙ sym is

  -- a file more has its sum
  pub summed_more : (later : List (List ℕ)) (x : List ℕ) (es : List Entry) → later ≡ sums ++ x ∷ [] → now ≡ mid ++ es → es ≡ entry.Summed path x ∷ [] → AreSummedSo paths (place + 1) later old now
  summed_more later x es grew gained here = subst (λ l. AreSummedSo paths (place + 1) l old now) (sym grew) (record {
    many = length-append sums (x ∷ []) ∙ omega (arith, before.many);
    gained = gained ∙ ap₂ (λ a b. a ++ b) before.gained here ∙ append_assoc old (summed_entries paths sums) (entry.Summed path x ∷ [])
        ∙ ap (λ k. old ++ k) (sym (summed_push paths sums x path (omega (arith, before.many, lt)) ∙ ap (λ p. summed_entries paths sums ++ entry.Summed p x ∷ []) at));
  })

  -- one that was refused
  refused_at : (r : Reason) (es : List Entry) → RefusedSum path place r es → RefusedSum (slice_index_or paths (length sums) []) (length sums) r es
  refused_at r es g =
      subst (λ k. RefusedSum (get_or paths k []) k r es) (sym before.many) (subst (λ p. RefusedSum p place r es) (is ∙ other_default paths place path [] lt) g)
    where
      other_default : (paths : List (List ℕ)) (place : ℕ) (d e : List ℕ) → place < length paths → get_or paths place d ≡ get_or paths place e
      other_default [] place d e lt = absurd (omega (arith, lt))
      other_default (p ∷ paths) zero d e lt = refl
      other_default (p ∷ paths) (suc place) d e lt = other_default paths place d e (omega (arith, lt))

  pub summed_stop : {A : Type 0} (sum : A → List ℕ) (r : Reason) (es : List Entry) → now ≡ mid ++ es → SumGain path place sum (Err r) es → (all : List Entry) × (now ≡ old ++ all) × SumRefusal paths r all
  summed_stop sum r es gained g = (
    summed_entries paths sums ++ es,
    gained ∙ ap (λ k. k ++ es) before.gained ∙ append_assoc old (summed_entries paths sums) es,
    inr (sums, es, omega (arith, before.many, lt), refl, refused_at r es g),
  )

-- the path that is read at a place
pub path_read : (paths : List (List ℕ)) (place : ℕ) (path read : List ℕ) → place < length paths → path ≡ read → read ≡ get_or paths place read → path ≡ get_or paths place path
path_read paths place path read lt same is = subst (λ p. p ≡ get_or paths place p) (sym same) is

-- all of them
pub summed_all : (paths : List (List ℕ)) (place : ℕ) (sums : List (List ℕ)) (old now : List Entry) → place ≡ length paths → AreSummedSo paths place sums old now → (es : List Entry) × (now ≡ old ++ es) × (length sums ≡ length paths) × (es ≡ summed_entries paths sums)
summed_all paths place sums old now whole before = (summed_entries paths sums, before.gained, before.many ∙ whole, refl)

-- nothing was summed for want of memory
pub summed_unasked : (paths : List (List ℕ)) (old : List Entry) → (es : List Entry) × (old ≡ old ++ es) × SumRefusal paths reason.NoMemory es
summed_unasked paths old = ([], sym (append-nil old), inl (refl, refl))
