-- What a check of outputs tells.
use Rattle.std.proofs.Common.{◌≡◌, ℕ, ◌<◌, Bool, true, false, if◌then◌else◌, List, [], ◌++◌, length, get_or, Option, Some, None, IfSome, Result, Ok, Err, refl, sym, ap, ◌∙◌, append-nil, arith}
use Rattle.std.specs.List.{Contains}
use Rattle.std.proofs.lemmas.Option.{slice_get_read, get_or_from_slice_get}
use Rattle.just_path.specs.View.{View, meta_told}
use Rattle.just_path.specs.declared.host.Miss.{Miss}
use Rattle.just_path.specs.declared.meta.Meta.{Meta}
use Rattle.just_host_record.specs.Changes.{is_not_found}
use Rattle.just_host_record.specs.declared.entry.Call.{Call}
use Rattle.just_host_record.specs.declared.entry.Entry.{Entry}
use Rattle.just_host_record.specs.declared.entry.HostFault.{HostFault}
use Rattle.just_host_record.specs.declared.entry.HostFault.TheVariants as fault
use Rattle.just_host_record.specs.Looks.{is_missing, first_missing, absent_or, absent_at, ChecksTo, ShowsMiss}
use Rattle.just_host_record.specs.Record.{refused}
use Rattle.just_host_memory.specs.declared.sights.TreeFault.{TreeFault}
use Rattle.just_host_memory.specs.declared.sights.TreeFault.TheVariants as tree_fault
use Rattle.just_host_memory.specs.Trees.{Shows}
use Rattle.just_host.specs.Mem.{IsFailureOf, IsHostFaultOf}
use Rattle.just_host.proofs.Positions.{position_inside}

-- the first output that isn't found is one of them
pub missing_inside : (v : View) (outputs : List (List ℕ)) (i : ℕ) → first_missing v outputs ≡ Some i → i < length outputs
missing_inside v outputs i first = let inside = position_inside (λ o. is_missing v o) 0 outputs i first in omega (arith, inside)

-- the check asks what the first output is that isn't found
pub check_told : (v : View) (outputs : List (List ℕ)) (i : ℕ) (x : List ℕ) → first_missing v outputs ≡ Some i → x ≡ get_or outputs i x → absent_at v outputs (first_missing v outputs) ≡ absent_or i (meta_told x true v)
check_told v outputs i x first is =
    let found = slice_get_read outputs (length outputs) i x refl (missing_inside v outputs i first) is in
    ap (λ o. absent_at v outputs o) first ∙ ap (λ p. absent_or i (meta_told p true v)) (get_or_from_slice_get outputs i x [] found)

-- an output that is answered as absent has the number that was asked
pub absent_inside : (b : Bool) (i n : ℕ) (m : Miss) (o : Option ℕ) → i < n → (if b then Ok (Some i) else Err m) ≡ Ok o → IfSome o (λ j. j < n)
absent_inside true i n m None inside is = tt
absent_inside true i n m (Some j) inside is = let same : i ≡ j = cc in omega (arith, inside, same)
absent_inside false i n m o inside is = absurd cc

pub absent_within : (i n : ℕ) (r : Result Meta Miss) (o : Option ℕ) → i < n → absent_or i r ≡ Ok o → IfSome o (λ j. j < n)
absent_within i n (Ok m) None inside is = tt
absent_within i n (Ok m) (Some j) inside is = absurd cc
absent_within i n (Err m) o inside is = absent_inside (is_not_found m) i n m o inside is

-- that output is one of them
pub missing_contained : (v : View) (outputs : List (List ℕ)) (i : ℕ) (x : List ℕ) → first_missing v outputs ≡ Some i → x ≡ get_or outputs i x → Contains outputs x
missing_contained v outputs i x first is =
    let found = slice_get_read outputs (length outputs) i x refl (missing_inside v outputs i first) is in
    (i, missing_inside v outputs i first, get_or_from_slice_get outputs i x x found)

-- a check that failed as it was planned appends its failure
pub failed_check : (old new : List Entry) (outputs : List (List ℕ)) (call : Call) (e : HostFault) → IsFailureOf call e → ((path : List ℕ) → new ≡ old ++ refused path e) → ChecksTo old new outputs (Err e)
failed_check old new outputs call (fault.Missed m) is appends = absurd is
failed_check old new outputs call (fault.Failed c) is appends = appends []
failed_check old new outputs call fault.NoMemory is appends = appends [] ∙ append-nil old

-- a check that was refused at an output appends the miss of that output
pub refused_check : (old new : List Entry) (outputs : List (List ℕ)) (path : List ℕ) (e : HostFault) → Contains outputs path → new ≡ old ++ refused path e → ChecksTo old new outputs (Err e)
refused_check old new outputs path (fault.Missed m) is appends = (path, is, appends)
refused_check old new outputs path (fault.Failed c) is appends = appends
refused_check old new outputs path fault.NoMemory is appends = appends ∙ append-nil old

-- a miss that a tree shows is the one that is told
pub refused_shows : {A B : Type 0} (look : A → B) (shown told : Result B Miss) (f : TreeFault) (e : HostFault) → told ≡ shown → Shows look shown (Err f) → IsHostFaultOf f e → ShowsMiss told e
refused_shows look shown told (tree_fault.Missed m) (fault.Missed n) same shows is = same ∙ shows ∙ ap (λ x. Err x) (sym is)
refused_shows look shown told (tree_fault.Missed m) (fault.Failed c) same shows is = tt
refused_shows look shown told (tree_fault.Missed m) fault.NoMemory same shows is = tt
refused_shows look shown told tree_fault.NoMemory (fault.Missed n) same shows is = absurd cc
refused_shows look shown told tree_fault.NoMemory (fault.Failed c) same shows is = tt
refused_shows look shown told tree_fault.NoMemory fault.NoMemory same shows is = tt
