-- A chooser that is run, from what the host answered.
use Rattle.std.proofs.Common.{◌≡◌, ◌≢◌, ◌++◌, inl, inr, ℕ, List, [], ◌∷◌, Option, Some, None, MatchOption, Result, Ok, Err, IfOk, IfErr, IsErrAnd, refl, sym, ◌∙◌, ap, subst, append-nil}
use Rattle.just_lang_types.specs.declared.settings.Interpreter.{Interpreter}
use Rattle.just_host_record.specs.declared.entry.Call.{Call}
use Rattle.just_host_record.specs.declared.entry.Call.TheVariants as call
use Rattle.just_host_record.specs.declared.entry.Entry.{Entry}
use Rattle.just_host_record.specs.declared.entry.HostFault.{HostFault}
use Rattle.just_host_record.specs.declared.entry.HostFault.TheVariants as fault
use Rattle.just_host_record.specs.Record.{refused, IsCaptureRefusal}
use Rattle.just_host_record.specs.World.{World, Moment, FaultLeaves}
use Rattle.just_env.specs.Captures.{Capture, entries_of_capture, AreAmongMisses}
use Rattle.just_env.specs.DotenvAnswers.{GainsAmong}
use Rattle.just_exec.specs.declared.error.Error.{Error}
use Rattle.just_exec.specs.declared.error.Error.TheVariants as error
use Rattle.just_cli_plan.specs.Own.{OrMemory, uncaptured_by}
use Rattle.just_cli_plan.specs.Pairs.{ErrorLeaves, Runs, entries_of}
use Rattle.just_cli_children.specs.Choosers.{words_of_code, arguments_text, failed_error, refusal_error, IsChosenBy, RunsChooser, BeginsChooser}

-- the error of a failed call has its entry, and leaves the same world
failed_entries : (shell arguments chooser path : List ℕ) (c : Call) → entries_of path (failed_error shell arguments chooser c) ≡ refused path (fault.Failed c)
failed_entries shell arguments chooser path call.Start = refl
failed_entries shell arguments chooser path call.Write = refl
failed_entries shell arguments chooser path _ = refl

failed_leaves : (shell arguments chooser : List ℕ) (c : Call) (old new : Option World) → FaultLeaves old new (fault.Failed c) → ErrorLeaves old new (failed_error shell arguments chooser c)
failed_leaves shell arguments chooser call.Start old new left = left
failed_leaves shell arguments chooser call.Write old new left = left
failed_leaves shell arguments chooser _ old new left = left

module _ (sh : Interpreter) (folder chooser input : List ℕ) (before after : Moment) where
  abbrev Words : List Capture → Result (List (List ℕ)) Error → Type 0
  Words cs r = RunsChooser sh folder before.world chooser input cs r

  abbrev Began : List Capture → Type 0
  Began cs = BeginsChooser sh folder before.world chooser input cs

  abbrev pub RanSo : Result (List (List ℕ)) Error → Type 0
  RanSo r = Runs Words Began (λ p. p ≡ sh.command) before after r

  none_gained : GainsAmong [] before.entries before.entries
  none_gained = ([], AreAmongMisses.none, sym (append-nil before.entries))

  -- memory is wanting before
  pub ran_short : after.world ≡ before.world → after.entries ≡ before.entries → RanSo (Err error.NoMemory)
  ran_short world same = ([], inl refl, (before.entries, sh.command, refl, none_gained, same ∙ sym (append-nil before.entries)), world, BeginsChooser.nothing refl)

  -- so for whatever is answered then
  pub ran_memory : (r : Result (List (List ℕ)) Error) → after.world ≡ before.world → after.entries ≡ before.entries → IsErrAnd r (λ e. e ≡ error.NoMemory) → RanSo r
  ran_memory (Ok x) world entries memory = absurd memory
  ran_memory (Err e) world entries memory = subst (λ (x : Error). RanSo (Err x)) (sym memory) (ran_short world entries)

  -- ---- its child was run to its end

  module _ (c : Capture) (chosen : IsChosenBy sh folder before.world chooser input c) (grew : after.entries ≡ before.entries ++ entries_of_capture c) (now : after.world ≡ c.after) where
    one_gained : GainsAmong (c ∷ []) before.entries after.entries
    one_gained = (entries_of_capture c ++ [], AreAmongMisses.a_child c [] [] AreAmongMisses.none, grew ∙ ap (λ (l : List Entry). before.entries ++ l) (sym (append-nil (entries_of_capture c))))

    leaves_so : (e : Error) (o : Option HostFault) → o ≡ None → MatchOption o (after.world ≡ c.after) (λ io. FaultLeaves c.after after.world io)
    leaves_so e None is = now
    leaves_so e (Some io) is = absurd (let no : ⊥ = cc in no)

    why : (e : Error) → OrMemory (λ x. words_of_code chooser c.status c.output ≡ Err x) e → OrMemory (λ x. Words (c ∷ []) (Err x)) e
    why e (inl wants) = inl wants
    why e (inr is) = inr (RunsChooser.captured c chosen refl (sym is))

    pub ran_one : (r : Result (List (List ℕ)) Error) → IfOk r (λ ws. words_of_code chooser c.status c.output ≡ Ok ws) → IfErr r (OrMemory (λ e. words_of_code chooser c.status c.output ≡ Err e)) → IfErr r (λ e. (path : List ℕ) → entries_of path e ≡ []) → IfErr r (λ e. uncaptured_by e ≡ None) → RanSo r
    ran_one (Ok ws) words refusal silent captured = (c ∷ [], RunsChooser.captured c chosen refl (sym words), one_gained, now, BeginsChooser.a_child c chosen refl)
    ran_one (Err e) words refusal silent captured = (
      c ∷ [],
      why e refusal,
      (after.entries, sh.command, refl, one_gained, sym (append-nil after.entries) ∙ ap (λ (l : List Entry). after.entries ++ l) (sym (silent sh.command))),
      leaves_so e (uncaptured_by e) captured,
      BeginsChooser.a_child c chosen refl,
    )

  -- ---- it wasn't

  lost_by : (io : HostFault) (e : Error) → io ≢ fault.NoMemory → IsCaptureRefusal input io → e ≡ refusal_error sh.command (arguments_text sh.arguments) chooser io → entries_of sh.command e ≡ refused sh.command io → ErrorLeaves before.world after.world e
      → after.entries ≡ before.entries ++ refused sh.command io → RanSo (Err e)
  lost_by io e remembered refuses is told left grew = (
    [],
    inr (RunsChooser.uncaptured io (refuses, remembered) refl (ap (λ (x : Error). let into : Result (List (List ℕ)) Error = Err x in into) is)),
    (before.entries, sh.command, refl, none_gained, grew ∙ ap (λ (l : List Entry). before.entries ++ l) (sym told)),
    left,
    BeginsChooser.nothing refl,
  )

  pub ran_none : (io : HostFault) (e : Error) → IsCaptureRefusal input io → e ≡ refusal_error sh.command (arguments_text sh.arguments) chooser io → FaultLeaves before.world after.world io → after.entries ≡ before.entries ++ refused sh.command io → RanSo (Err e)
  ran_none (fault.Missed m) e refuses is left grew =
      lost_by (fault.Missed m) e (λ same. let no : ⊥ = cc in no) refuses is (ap (λ x. entries_of sh.command x) is) (subst (λ x. ErrorLeaves before.world after.world x) (sym is) left) grew
  ran_none (fault.Failed c) e refuses is left grew =
      lost_by (fault.Failed c) e (λ same. let no : ⊥ = cc in no) refuses is (ap (λ x. entries_of sh.command x) is ∙ failed_entries sh.command (arguments_text sh.arguments) chooser sh.command c)
      (subst (λ x. ErrorLeaves before.world after.world x) (sym is) (failed_leaves sh.command (arguments_text sh.arguments) chooser c before.world after.world left)) grew
  ran_none fault.NoMemory e refuses is left grew = subst (λ x. RanSo (Err x)) (sym is) (ran_short left (grew ∙ append-nil before.entries))
