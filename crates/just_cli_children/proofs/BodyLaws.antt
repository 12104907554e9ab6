-- What bodies start whose commands end well.
use Rattle.std.proofs.Common.{◌≡◌, ◌<◌, ℕ, zero, suc, Bool, true, false, List, [], ◌∷◌, length, Option, Some, None, refl, ◌∙◌, ap, arith}
use Rattle.std.specs.Prelude.{◌-◌, ◌&&◌, if◌then◌else◌, slice_get, is_some, pos}
use Rattle.just_host_record.specs.declared.entry.Status.{Status}
use Rattle.just_host_record.specs.declared.entry.Status.TheVariants as status
use Rattle.just_exec_work.specs.declared.work.Command.{Command}
use Rattle.just_exec_work.specs.declared.work.Step.TheVariants as step
use Rattle.just_exec_work.specs.declared.work.Work.{Work}
use Rattle.just_exec_work.specs.Steps.{commands_of, is_code, start_or_well, step_behind, after}
use Rattle.just_cli_children.specs.DryRuns.{zeros, StartsAll}

abbrev zero_code : Status
zero_code = status.Code (pos 0)

-- behind a command that ended with the code 0 the next one is started, if there is one
by_guard : (w : Work) (n : ℕ) (guard : Bool) → (if guard && is_code (pos 1) zero_code then step.Well else start_or_well w n) ≡ start_or_well w n
by_guard w n true = refl
by_guard w n false = refl

behind_zero : (w : Work) (n : ℕ) (o : Option Command) → step_behind w n o (Some zero_code) ≡ start_or_well w n
behind_zero w n (Some c) = by_guard w n c.guard
behind_zero w n None = refl

length_zeros : (n : ℕ) → length (zeros n) ≡ n
length_zeros zero = refl
length_zeros (suc n) = ap (λ k. suc k) (length_zeros n)

last_zero : (n : ℕ) → slice_get (zeros (suc n)) n ≡ Some zero_code
last_zero zero = refl
last_zero (suc n) = last_zero n

less_one : (m : ℕ) → suc m - 1 ≡ m
less_one m = omega (arith)

after_zeros : (w : Work) (n : ℕ) → after w (zeros n) ≡ start_or_well w n
after_zeros w zero = refl
after_zeros w (suc n) =
    ap (λ k. step_behind w (suc (length (zeros n))) (slice_get (commands_of w) k) (slice_get (zeros (suc n)) k)) (less_one (length (zeros n)))
    ∙ (ap (λ k. step_behind w (suc k) (slice_get (commands_of w) k) (slice_get (zeros (suc n)) k)) (length_zeros n)
    ∙ (ap (λ (o : Option Status). step_behind w (suc n) (slice_get (commands_of w) n) o) (last_zero n) ∙ behind_zero w (suc n) (slice_get (commands_of w) n)))

some_at : (cs : List Command) (n : ℕ) → n < length cs → is_some (slice_get cs n) ≡ true
some_at [] n less = absurd (omega (arith, less))
some_at (c ∷ cs) zero less = refl
some_at (c ∷ cs) (suc n) less = some_at cs n (omega (arith, less))

none_at : (cs : List Command) → is_some (slice_get cs (length cs)) ≡ false
none_at [] = refl
none_at (c ∷ cs) = none_at cs

pub starts_all : StartsAll
starts_all w = (
  λ n less. after_zeros w n ∙ ap (λ b. if b then step.Start n else step.Well) (some_at (commands_of w) n less),
  after_zeros w (length (commands_of w)) ∙ ap (λ b. if b then step.Start (length (commands_of w)) else step.Well) (none_at (commands_of w)),
)
