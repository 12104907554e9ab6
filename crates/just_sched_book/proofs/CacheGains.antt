-- What the calls that a cache makes gain together, and what they make of a told world.
use Rattle.std.proofs.Common.{◌≡◌, ℕ, inr, false, List, [], ◌∷◌, ◌++◌, length, Option, Some, None, Result, Ok, Err, refl, ap, ap₂, sym, ◌∙◌, subst, append_assoc}
use Rattle.std.specs.List.{list_any}
use Rattle.std.proofs.lemmas.List.Folds.{list_any-append}
use Rattle.just_path.specs.declared.host.Miss.{Miss}
use Rattle.just_host_record.specs.Changes.{Changes}
use Rattle.just_host_record.specs.declared.entry.Entry.{Entry}
use Rattle.just_host_record.specs.declared.entry.Entry.TheVariants as entry
use Rattle.just_host_record.specs.declared.entry.Look.{Look}
use Rattle.just_host_record.specs.Record.{is_failed}
use Rattle.just_host_record.specs.Sights.{Tree}
use Rattle.just_host_record.specs.World.{World, Moment}
use Rattle.just_sched_history.specs.declared.cache_plan.CachePlan.{CachePlan}
use Rattle.just_sched_history.specs.declared.event.Reason.{Reason}
use Rattle.just_sched_history.specs.Cached.{entry_of}
use Rattle.just_sched_book.specs.Gains.{GainsAndLeaves, ProbeGain, KeepGain, SaveGains, LookRefusal, LeavesWorld}
use Rattle.just_sched_history.specs.Match.{summed_entries, looked_entries}
use Rattle.just_sched_history.specs.Touched.{IsChangedBy, IsLooked, IsWritten}
use Rattle.just_sched_history.proofs.Tests.{neither}

-- a call that was answered changed the files so
pub changes_ok : {A : Type 0} (change : World → Result Tree Miss) (places : World → List ℕ → Type 0) (told new : Option World) (x : A) → Changes change places told new (Ok x) → IsChangedBy change told new
changes_ok change places None new x is = is
changes_ok change places (Some w) new x is = is

-- where nothing in two stretches failed, nothing in the second did
pub second_calm : (es fs : List Entry) → list_any is_failed (es ++ fs) ≡ false → list_any is_failed fs ≡ false
second_calm es fs e = (neither (list_any is_failed es) (list_any is_failed fs) (sym (list_any-append is_failed es fs) ∙ e)).1

-- ---- saving

-- what an entry gains behind a check that found each output
keep_behind : (c : CachePlan) (sums : List (List ℕ)) (path : List ℕ) (r : Result (Unit {0}) Reason) (fs : List Entry) → path ≡ entry_of c sums → KeepGain path r fs → SaveGains c sums r (entry.Checked c.outputs None ∷ fs)
keep_behind c sums path (Ok done) fs at g = ap (λ k. entry.Checked c.outputs None ∷ k) (g ∙ ap (λ p. entry.Saved p ∷ []) at)
keep_behind c sums path (Err e) fs at g = inr (fs, refl, subst (λ p. KeepGain p (Err e) fs) at g)

-- the two calls together
pub saved_together : (c : CachePlan) (sums : List (List ℕ)) (path text : List ℕ) (r : Result (Unit {0}) Reason) (before between after : Moment) (es fs : List Entry)
    → path ≡ entry_of c sums → between.entries ≡ before.entries ++ es → es ≡ entry.Checked c.outputs None ∷ [] → between.world ≡ before.world → after.entries ≡ between.entries ++ fs
    → KeepGain path r fs → (list_any is_failed fs ≡ false → LeavesWorld (λ done. IsWritten path text) r between.world after.world)
    → GainsAndLeaves before after (SaveGains c sums r) (LeavesWorld (λ done. IsWritten path text) r)
saved_together c sums path text r before between after es fs at first checked same second g calm =
    let are : es ++ fs ≡ entry.Checked c.outputs None ∷ fs = ap (λ k. k ++ fs) checked in (
      es ++ fs,
      second ∙ ap (λ k. k ++ fs) first ∙ append_assoc before.entries es fs,
      subst (λ k. SaveGains c sums r k) (sym are) (keep_behind c sums path r fs at g),
      λ none. subst (λ w. LeavesWorld {A = Unit {0}} (λ done. IsWritten path text) r w after.world) same (calm (second_calm es fs none)),
    )

-- ---- looking

look_behind : (c : CachePlan) (sums : List (List ℕ)) (r : Reason) (fs : List Entry) → length sums ≡ length c.paths → ProbeGain (entry_of c sums) c.outputs (Err r) fs → LookRefusal c r (summed_entries c.paths sums ++ fs)
look_behind c sums r fs many g = inr (sums, fs, many, refl, g)

module _ (c : CachePlan) (sums : List (List ℕ)) (before between after : Moment) (es fs : List Entry) (first : between.entries ≡ before.entries ++ es)
    (many : length sums ≡ length c.paths) (summed : es ≡ summed_entries c.paths sums) (same : between.world ≡ before.world) (second : after.entries ≡ between.entries ++ fs) where
  together : after.entries ≡ before.entries ++ (es ++ fs)
  together = second ∙ ap (λ k. k ++ fs) first ∙ append_assoc before.entries es fs

  -- the sums and the look together
  pub looked_together : (seen : Look) → ProbeGain (entry_of c sums) c.outputs (Ok seen) fs → (list_any is_failed fs ≡ false → IsLooked (entry_of c sums) between.world after.world)
      → GainsAndLeaves before after (λ all. (length sums ≡ length c.paths) × (all ≡ looked_entries c sums seen)) (IsLooked (entry_of c sums))
  looked_together seen g calm =
      (es ++ fs, together, (many, ap₂ (λ a b. a ++ b) summed g), λ none. subst (λ w. IsLooked (entry_of c sums) w after.world) same (calm (second_calm es fs none)))

  -- the sums, and a look that was refused
  pub unlooked_together : (r : Reason) → ProbeGain (entry_of c sums) c.outputs (Err r) fs → (list_any is_failed fs ≡ false → after.world ≡ between.world)
      → GainsAndLeaves before after (LookRefusal c r) (λ old new. new ≡ old)
  unlooked_together r g calm =
      (es ++ fs, together, subst (λ k. LookRefusal c r (k ++ fs)) (sym summed) (look_behind c sums r fs many g), λ none. calm (second_calm es fs none) ∙ same)
