-- The commands of a body and the statuses so far: each let the body go on.
use Rattle.std.proofs.Common.{◌≡◌, ℕ, zero, suc, ◌-◌, ◌<◌, Bool, true, false, if◌then◌else◌, List, [], ◌∷◌, ◌++◌, length, slice_get, Option, Some, None, is_some, refl, ap₂, ◌∙◌, subst, arith}
use Rattle.std.proofs.lemmas.Option.{slice_get_within}
use Rattle.just_host_record.specs.declared.entry.Status.{Status}
use Rattle.just_exec_work.specs.declared.work.Command.{Command}
use Rattle.just_exec_work.specs.declared.work.Work.{Work}
use Rattle.just_exec_work.specs.declared.work.Step.{Step}
use Rattle.just_exec_work.specs.declared.work.Step.TheVariants as step
use Rattle.just_exec_work.specs.Steps.{commands_of, ends_body, goes_on, start_or_well, step_behind, after, EachWentOn}

-- each status so far let the body go on
abbrev pub AllGoOn : List Command → List Status → Type 0
AllGoOn cs [] = Unit {0}
AllGoOn [] (t ∷ ts) = ⊥
AllGoOn (c ∷ cs) (t ∷ ts) = (goes_on c t ≡ true) × (ends_body c t ≡ false) × AllGoOn cs ts

-- a place within a list has an item
pub item_there : {A : Type 0} (xs : List A) (k : ℕ) → k < length xs → (x : A) × (slice_get xs k ≡ Some x)
item_there [] k lt = absurd (omega (arith, lt))
item_there (x ∷ xs) zero lt = (x, refl)
item_there (x ∷ xs) (suc k) lt = item_there xs k (omega (arith, lt))

-- a start is of the place that was asked for, and there is a command
start_at : (n i : ℕ) (cs : List Command) (o : Option Command) → slice_get cs n ≡ o → (if is_some o then step.Start n else step.Well) ≡ step.Start i → (i ≡ n) × (n < length cs)
start_at n i cs None q e = absurd (cc)
start_at n i cs (Some c) q e = (cc, slice_get_within cs n c q)

-- a body that starts a command at a place has it
start_is : (w : Work) (n i : ℕ) → start_or_well w n ≡ step.Start i → (i ≡ n) × (n < length (commands_of w))
start_is w n i e = start_at n i (commands_of w) (slice_get (commands_of w) n) refl e

-- a body that goes on to a start was let go on by its last status
went_at : (ending going : Bool) (x : Step) (i : ℕ) → (if ending then step.Well else (if going then x else step.Failed)) ≡ step.Start i → (going ≡ true) × (ending ≡ false) × (x ≡ step.Start i)
went_at true going x i e = absurd (cc)
went_at false true x i e = (refl, refl, e)
went_at false false x i e = absurd (cc)

-- a start behind a status is the start that no status would give
judged_start : (w : Work) (n i : ℕ) (oc : Option Command) (ot : Option Status) → step_behind w n oc ot ≡ step.Start i → start_or_well w n ≡ step.Start i
judged_start w n i (Some c) (Some t) e = (went_at (ends_body c t) (goes_on c t) (start_or_well w n) i e).2
judged_start w n i (Some c) None e = e
judged_start w n i None (Some t) e = e
judged_start w n i None None e = e

-- a command that is next has the place behind the statuses so far, and there is one
pub after_start : (w : Work) (ts : List Status) (i : ℕ) → after w ts ≡ step.Start i → (i ≡ length ts) × (length ts < length (commands_of w))
after_start w [] i e = start_is w 0 i e
after_start w (t ∷ ts) i e = start_is w (length (t ∷ ts)) i (judged_start w (length (t ∷ ts)) i (slice_get (commands_of w) (length (t ∷ ts) - 1)) (slice_get (t ∷ ts) (length (t ∷ ts) - 1)) e)

-- with the last status each of them let the body go on
went_all : (cs : List Command) (t : Status) (ts : List Status) (k : ℕ) (c : Command) (u : Status) → EachWentOn cs (t ∷ ts) → k ≡ length ts → slice_get cs k ≡ Some c → slice_get (t ∷ ts) k ≡ Some u → goes_on c u ≡ true → ends_body c u ≡ false → AllGoOn cs (t ∷ ts)
went_all [] t ts k c u went is qc qu going ending = absurd went
went_all (d ∷ cs) t [] zero c u went is qc qu going ending =
    let same_c : d ≡ c = cc in
    let same_u : t ≡ u = cc in
    (ap₂ (λ x y. goes_on x y) same_c same_u ∙ going, ap₂ (λ x y. ends_body x y) same_c same_u ∙ ending, tt)
went_all (d ∷ cs) t [] (suc k) c u went is qc qu going ending = absurd (omega arith)
went_all (d ∷ cs) t (x ∷ ts) zero c u went is qc qu going ending = absurd (omega arith)
went_all (d ∷ cs) t (x ∷ ts) (suc k) c u went is qc qu going ending = (went.0, went.1, went_all cs x ts k c u went.2 (omega (arith, is)) qc qu going ending)

-- a body with a next command: each status so far let it go on
pub all_went : (w : Work) (ts : List Status) (i : ℕ) → EachWentOn (commands_of w) ts → after w ts ≡ step.Start i → AllGoOn (commands_of w) ts
all_went w [] i went e = tt
all_went w (t ∷ ts) i went e =
    let k = length (t ∷ ts) - 1 in
    let lt : k < length (commands_of w) = omega (arith, after_start w (t ∷ ts) i e) in
    let c = item_there (commands_of w) k lt in
    let within : k < length (t ∷ ts) = omega arith in
    let u = item_there (t ∷ ts) k within in
    let g = went_at (ends_body c.0 u.0) (goes_on c.0 u.0) (start_or_well w (length (t ∷ ts))) i (subst (λ o. step_behind w (length (t ∷ ts)) (Some c.0) o ≡ step.Start i) u.1 (subst (λ o. step_behind w (length (t ∷ ts)) o (slice_get (t ∷ ts) k) ≡ step.Start i) c.1 e)) in
    went_all (commands_of w) t ts k c.0 u.0 went (omega arith) c.1 u.1 g.0 g.1

-- one status more keeps that each but the last let the body go on
pub went_push : (cs : List Command) (ts : List Status) (t : Status) → AllGoOn cs ts → length ts < length cs → EachWentOn cs (ts ++ t ∷ [])
went_push [] [] t all lt = absurd (omega (arith, lt))
went_push [] (x ∷ ts) t all lt = absurd all
went_push (c ∷ cs) [] t all lt = tt
went_push (c ∷ cs) (x ∷ []) t all lt = (all.0, all.1, went_push cs [] t tt (omega (arith, lt)))
went_push (c ∷ cs) (x ∷ y ∷ ts) t all lt = (all.0, all.1, went_push cs (y ∷ ts) t all.2 (omega (arith, lt)))
