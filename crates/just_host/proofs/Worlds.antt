-- What calls make of the world that a host in memory tells.
use Rattle.std.proofs.Common.{ℕ, ◌≡◌, true, List, Some, None, refl, ap, ◌∙◌, Err, sym, subst}
use Rattle.just_host_record.specs.declared.entry.Call.{Call}
use Rattle.just_host_record.specs.declared.entry.HostFault.{HostFault}
use Rattle.just_host_record.specs.declared.entry.HostFault.TheVariants as fault
use Rattle.just_host_record.specs.World.{World, FaultLeaves, StayHarmless, LeftAlone, Touched}
use Rattle.just_host_record.specs.Sights.{Tree}
use Rattle.just_host_record.specs.declared.entry.Spec.{Spec}
use Rattle.just_host_record.specs.Record.{IsCaptureRefusal}
use Rattle.just_host_record.specs.Scripts.{StartShows}
use Rattle.just_host_record.specs.Changes.{with_tree}
use Rattle.just_host_record.specs.Folders.{RemoveMiss, RemoveFault}
use Rattle.just_host_memory.specs.Trees.{world_from}
use Rattle.just_host_memory.specs.Removals.{RemovesFrom}
use Rattle.just_host_memory.specs.declared.plot.Ending.{Ending}
use Rattle.just_host_memory.specs.Playing.{ending_of, leave_alone, others, tree_after, word_of}
use Rattle.just_host_memory.proofs.Harmless.{left_alone, as_before, stay_alone}
use Rattle.just_host_memory.specs.declared.sights.TreeFault.{TreeFault}
use Rattle.just_host_memory.specs.declared.sights.TreeFault.TheVariants as tree_fault
use Rattle.just_host.specs.Mem.{IsFailureOf, IsHostFaultOf, IsTooLarge}

-- a child that wasn't run as it was planned left all as it was
pub failed_leaves : (w v : World) (call : Call) (e : HostFault) → IsFailureOf call e → v ≡ w → FaultLeaves (Some w) (Some v) e
failed_leaves w v call (fault.Missed m) is same = absurd is
failed_leaves w v call (fault.Failed c) is same = (
  w,
  refl,
  ap (λ x. x.current) same,
  ap (λ x. x.environ) same,
  ap (λ x. x.input) same,
  λ spec h. ap (λ x. x.harmless spec) same ∙ h,
  λ none. ap (λ x. x.disk) same ∙ none,
)
failed_leaves w v call fault.NoMemory is same = ap (λ x. Some x) same

-- where nothing was done, nothing is to be told of the child
pub left_so : (w v : World) (spec : Spec) → v ≡ w → LeftAlone (Some w) (Some v) spec
left_so w v spec same h = ap (λ x. Some x) same

-- a child that wasn't started as it was planned missed nothing
pub failed_shows : (w : World) (spec : Spec) (call : Call) (e : HostFault) → IsFailureOf call e → StartShows w spec e
failed_shows w spec call (fault.Missed m) is = absurd is
failed_shows w spec call (fault.Failed c) is = tt
failed_shows w spec call fault.NoMemory is = tt

-- a child that printed too much is refused as such, and nothing else is missed
pub large_capture : (input : List ℕ) (f : TreeFault) (e : HostFault) → IsTooLarge f → IsHostFaultOf f e → IsCaptureRefusal input e
large_capture input (tree_fault.Missed m) (fault.Missed n) large is = is ∙ large
large_capture input (tree_fault.Missed m) (fault.Failed c) large is = absurd is
large_capture input (tree_fault.Missed m) fault.NoMemory large is = tt
large_capture input tree_fault.NoMemory (fault.Missed n) large is = absurd cc
large_capture input tree_fault.NoMemory (fault.Failed c) large is = absurd cc
large_capture input tree_fault.NoMemory fault.NoMemory large is = tt

-- the world of a host in memory with these files, and these endings to come
abbrev pub told_with : Tree → List ℕ → List (List ℕ × List ℕ) → List ℕ → List Ending → World
told_with tree current environ input endings =
    record { tree = tree; current = current; environ = environ; input = input; harmless = λ spec. leave_alone endings (word_of spec); disk = None }

module _ (current : List ℕ) (environ : List (List ℕ × List ℕ)) (input : List ℕ) (tree after : Tree) (endings rest : List Ending) where
  -- a call that leaves the files and what is to come leaves the world
  pub unchanged : after ≡ tree → rest ≡ endings → told_with after current environ input rest ≡ told_with tree current environ input endings
  unchanged files same = λ i. told_with (files i) current environ input (same i)

  module _ (word : List ℕ) (used : rest ≡ others word endings) where
    -- a child of a word that no ending has effects for leaves the world
    pub alone : (folder : List ℕ) → after ≡ tree_after folder tree (ending_of word endings) → leave_alone endings word ≡ true
        → Some (told_with after current environ input rest) ≡ Some (told_with tree current environ input endings)
    alone folder files h =
        let kept : (spec : Spec) → leave_alone rest (word_of spec) ≡ leave_alone endings (word_of spec) =
        λ spec. ap (λ es. leave_alone es (word_of spec)) used ∙ as_before word (word_of spec) endings h in
        let same : after ≡ tree = files ∙ left_alone word folder tree endings h in
        λ i. Some (record { tree = same i; current = current; environ = environ; input = input; harmless = λ spec. kept spec i; disk = None })

    -- whatever a child does, those that leave the files alone do so behind it
    stay_harmless : StayHarmless (told_with tree current environ input endings) (told_with after current environ input rest)
    stay_harmless spec h = ap (λ es. leave_alone es (word_of spec)) used ∙ stay_alone word (word_of spec) endings h

    -- it changes no more than the files
    pub files_alone : Touched (Some (told_with tree current environ input endings)) (Some (told_with after current environ input rest))
    files_alone = (told_with tree current environ input endings, refl, refl, refl, refl, stay_harmless, λ none. none)

-- what can't be removed stays, and so does the world
pub removal_refused : (w : World) (files : Tree) (path : List ℕ) (f : TreeFault) (e : HostFault)
    → RemovesFrom {A = Unit {0}} (world_from w.current w.tree) files path (Err f) → IsHostFaultOf f e → RemoveFault w (Some (with_tree w files)) path e
removal_refused w files path (tree_fault.Missed m) (fault.Missed n) h is =
    (subst (λ k. RemoveMiss w path k) (sym is) h.0, ap (λ t. Some (with_tree w t)) h.1)
removal_refused w files path (tree_fault.Missed m) (fault.Failed c) h is = absurd is
removal_refused w files path (tree_fault.Missed m) fault.NoMemory h is = ap (λ t. Some (with_tree w t)) h.1
removal_refused w files path tree_fault.NoMemory (fault.Missed n) h is = absurd cc
removal_refused w files path tree_fault.NoMemory (fault.Failed c) h is = absurd cc
removal_refused w files path tree_fault.NoMemory fault.NoMemory h is = ap (λ t. Some (with_tree w t)) h
