-- A child that is run alone, from what the host answered.
use Rattle.std.proofs.Common.{◌≡◌, ◌==◌, ◌++◌, inl, inr, ℕ, Bool, true, false, true≢false, List, [], ◌∷◌, Option, Some, None, Result, Ok, Err, refl, sym, ◌∙◌, ap, subst, append_assoc, append-nil, eq-eqb}
use Rattle.std.specs.Prelude.{if◌then◌else◌, is_some}
use Rattle.just_host_record.specs.declared.entry.Call.TheVariants as call
use Rattle.just_host_record.specs.declared.entry.Entry.{Entry}
use Rattle.just_host_record.specs.declared.entry.Entry.TheVariants as entry
use Rattle.just_host_record.specs.declared.entry.HostFault.{HostFault}
use Rattle.just_host_record.specs.declared.entry.HostFault.TheVariants as fault
use Rattle.just_host_record.specs.declared.entry.Script.{Script}
use Rattle.just_host_record.specs.declared.entry.Status.{Status}
use Rattle.just_host_record.specs.Record.{children, refused, script_folder, IsStartRefusal, ended_entry, ended_answer, settled_entry, settled_answer}
use Rattle.just_host_record.specs.World.{World, Moment, Touched, FaultLeaves}
use Rattle.just_exec.specs.declared.error.Error.{Error}
use Rattle.just_cli_children.specs.declared.child.Child.{Child}
use Rattle.just_cli_children.specs.Children.{start_error, invoke_error, ended_so, RunsAlone}

-- what two calls touch one behind the other is touched
touched_then : (a b c : Option World) → Touched a b → Touched b c → Touched a c
touched_then a b None first second = tt
touched_then a b (Some w) first (v, is, current, environ, input, harmless, disk) =
    let front : Touched a (Some v) = subst (λ (o : Option World). Touched a o) is first in
    (front.0, front.1, current ∙ front.2, environ ∙ front.3, input ∙ front.4, λ spec safe. harmless spec (front.5 spec safe), λ none. disk (front.6 none))

-- ---- the end of a child, by the number that it was started by

ended_well : (child : ℕ) (o : Option Status) (t : Status) → Ok t ≡ ended_answer o → ended_entry child o ≡ entry.Ended child t
ended_well child (Some s) t is = let same : t ≡ s = cc in ap (λ (x : Status). entry.Ended child x) (sym same)
ended_well child None t is = absurd (let no : ⊥ = cc in no)

ended_ill : (child : ℕ) (o : Option Status) (io : HostFault) → Err io ≡ ended_answer o → (ended_entry child o ≡ entry.Failed call.Wait) × (io ≡ fault.Failed call.Wait)
ended_ill child (Some s) io is = absurd (let no : ⊥ = cc in no)
ended_ill child None io is = (refl, cc)

by_test : (b : Bool) → b ≡ true → (child number : ℕ) (o : Option Status) → ((if b then ended_entry child o else entry.Strayed child number) ≡ ended_entry child o) × ((if b then ended_answer o else Err (fault.Failed call.Wait)) ≡ ended_answer o)
by_test true is child number o = (refl, refl)
by_test false is child number o = absurd (let no : ⊥ = cc in no)

settled_same : (child number : ℕ) (o : Option Status) → number ≡ child → (settled_entry child number o ≡ ended_entry child o) × (settled_answer child number o ≡ ended_answer o)
settled_same child number o same = by_test (number == child) (eq-eqb number child same) child number o

module _ (c : Child) (before roomed : Moment) (same : roomed.entries ≡ before.entries) (still : roomed.world ≡ before.world) where
  -- ---- it isn't started

  module _ (after : Moment) (alone : c.spec.script ≡ None) where
    pub unstarted_so : (io : HostFault) (e : Error) → IsStartRefusal c.spec io → after.entries ≡ roomed.entries ++ refused (script_folder c.spec) io → FaultLeaves roomed.world after.world io → e ≡ start_error c.role io → RunsAlone c before after (Err e)
    unstarted_so (fault.Missed m) e scripted grew left is = absurd (true≢false (sym scripted ∙ ap (λ (o : Option Script). is_some o) alone))
    unstarted_so (fault.Failed d) e (inl start) grew left is =
        RunsAlone.unstarted (grew ∙ (ap (λ (l : List Entry). l ++ entry.Failed d ∷ []) same ∙ ap (λ k. before.entries ++ entry.Failed k ∷ []) start)) (subst (λ (o : Option World). Touched o after.world) still left)
        (ap (λ (x : Error). let into : Result (Unit {0}) Error = Err x in into) (is ∙ ap (λ k. invoke_error c.role (fault.Failed k)) start))
    unstarted_so (fault.Failed d) e (inr (temp, scripted)) grew left is = absurd (true≢false (sym scripted ∙ ap (λ (o : Option Script). is_some o) alone))
    unstarted_so fault.NoMemory e wanting grew left is =
        RunsAlone.no_memory (grew ∙ (append-nil roomed.entries ∙ same)) (left ∙ still) (ap (λ (x : Error). let into : Result (Unit {0}) Error = Err x in into) is)

  -- ---- it is waited for

  module _ (started after : Moment) (child number done : ℕ) (o : Option Status) (numbered : child ≡ children roomed.entries) (given : number ≡ child) (is_done : done ≡ child) (began : started.entries ≡ roomed.entries ++ entry.Started child c.spec ∷ []) (touched : Touched roomed.world started.world)
      (grew : after.entries ≡ started.entries ++ settled_entry number done o ∷ []) (settled : Touched started.world after.world) where
    own : done ≡ number
    own = is_done ∙ sym given

    -- both entries, whatever the second
    both : (x : Entry) (y : ℕ → Entry) → settled_entry number done o ≡ x → x ≡ y number → after.entries ≡ before.entries ++ entry.Started (children before.entries) c.spec ∷ y (children before.entries) ∷ []
    both x y ends at =
        let numbers : number ≡ children before.entries = given ∙ (numbered ∙ ap (λ (es : List Entry). children es) same) in
        let first : child ≡ children before.entries = numbered ∙ ap (λ (es : List Entry). children es) same in
        grew ∙ (ap (λ (z : Entry). started.entries ++ z ∷ []) (ends ∙ at)
        ∙ (ap (λ (l : List Entry). l ++ y number ∷ []) began
        ∙ (append_assoc roomed.entries (entry.Started child c.spec ∷ []) (y number ∷ [])
        ∙ (ap (λ (l : List Entry). l ++ entry.Started child c.spec ∷ y number ∷ []) same
        ∙ (ap (λ (k : ℕ). before.entries ++ entry.Started k c.spec ∷ y number ∷ []) first ∙ ap (λ (k : ℕ). before.entries ++ entry.Started (children before.entries) c.spec ∷ y k ∷ []) numbers)))))

    all_touched : Touched before.world after.world
    all_touched = touched_then before.world started.world after.world (subst (λ (w : Option World). Touched w started.world) still touched) settled

    pub waited_well : (t : Status) (r : Result (Unit {0}) Error) → Ok t ≡ settled_answer number done o → r ≡ ended_so c.role t → RunsAlone c before after r
    waited_well t r answers is =
        let k = settled_same number done o own in
        RunsAlone.ended t (both (ended_entry number o) (λ n. entry.Ended n t) k.0 (ended_well number o t (answers ∙ k.1))) all_touched is

    pub waited_ill : (io : HostFault) (e : Error) → Err io ≡ settled_answer number done o → e ≡ invoke_error c.role io → RunsAlone c before after (Err e)
    waited_ill io e answers is =
        let k = settled_same number done o own in
        let ill = ended_ill number o io (answers ∙ k.1) in
        RunsAlone.unwaited (both (ended_entry number o) (λ n. entry.Failed call.Wait) k.0 ill.0) all_touched (ap (λ (x : Error). let into : Result (Unit {0}) Error = Err x in into) (is ∙ ap (λ (x : HostFault). invoke_error c.role x) ill.1))
