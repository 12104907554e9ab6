-- What the calls of a cache gained stands for the event that a book notes behind them.
use Rattle.std.specs.Prelude.{slice_index_or}
use Rattle.std.proofs.Common.{◌≡◌, ◌≢◌, ℕ, suc, ◌<◌, ◌≤◌, inl, inr, List, [], ◌∷◌, ◌++◌, length, drop, Option, Some, None, MatchOption, Err, refl, ap, sym, ◌∙◌, subst, append_assoc, append-nil, arith}
use Rattle.just_host_record.specs.declared.entry.Call.TheVariants as call
use Rattle.just_host_record.specs.declared.entry.Entry.{Entry}
use Rattle.just_host_record.specs.declared.entry.Entry.TheVariants as entry
use Rattle.just_host_record.specs.declared.entry.Look.{Look}
use Rattle.just_host_record.specs.declared.entry.Look.TheVariants as look
use Rattle.just_host_record.specs.World.{World}
use Rattle.just_sched_history.specs.declared.cache_plan.CachePlan.{CachePlan}
use Rattle.just_sched_history.specs.declared.event.Event.{Event}
use Rattle.just_sched_history.specs.declared.event.Event.TheVariants as event
use Rattle.just_sched_history.specs.declared.event.Reason.{Reason}
use Rattle.just_sched_history.specs.declared.event.Reason.TheVariants as reason
use Rattle.just_sched_history.specs.Cached.{entry_of, saved_text, seen_at}
use Rattle.just_sched_history.specs.Effects.{Makes}
use Rattle.just_sched_history.specs.Touched.{IsLooked, IsWritten}
use Rattle.just_sched_book.specs.Gains.{RefusalGains, MissesAt, RefusedSum, CheckGain, KeepGain, SumRefusal, LookRefusal, SaveGains}
use Rattle.just_sched_history.specs.Legal.{Run, Looked, Saved, IsDue, May}
use Rattle.just_sched_history.specs.Match.{StandsFor, OfCache, summed_entries, looked_entries, saved_entries}
use Rattle.just_sched_history.specs.Nodes.{cache_at, paths_in, outputs_in}
use Rattle.just_sched_history.proofs.CachedMoves.{at_seen}
use Rattle.just_sched_book.proofs.Gained.{Fails, some_pushed}
use Rattle.just_sched_book.proofs.Summing.{no_entries}

-- what holds of the cache of a node
pub at_cache : (P : CachePlan → Type 0) (o : Option CachePlan) (c : CachePlan) → o ≡ Some c → P c → MatchOption o ⊥ P
at_cache P o c q p = subst (λ k. MatchOption k ⊥ P) (sym q) p

-- ---- a look

-- sums for the paths that are left
filled : (paths sums : List (List ℕ)) → length sums ≤ length paths → (rest : List (List ℕ)) × (length (sums ++ rest) ≡ length paths) × (summed_entries paths (sums ++ rest) ≡ summed_entries paths sums ++ summed_entries (drop (length sums) paths) rest)
filled [] [] le = ([], refl, refl)
filled [] (x ∷ sums) le = absurd (omega (arith, le))
filled (p ∷ paths) [] le = (p ∷ paths, refl, refl)
filled (p ∷ paths) (x ∷ sums) le =
    let r = filled paths sums (omega (arith, le)) in
    (r.0, ap suc r.1, ap (λ es. entry.Summed p x ∷ es) r.2)

module _ (s : Run) (h : List Event) (n : ℕ) (c : CachePlan) (at : cache_at s.nodes n ≡ Some c) where
  paths_are : length (paths_in (cache_at s.nodes n)) ≡ length c.paths
  paths_are = ap (λ o. length (paths_in o)) at

  outputs_are : length (outputs_in (cache_at s.nodes n)) ≡ length c.outputs
  outputs_are = ap (λ o. length (outputs_in o)) at

  -- a look stands for its entries
  pub look_may : (sums : List (List ℕ)) (seen : Look) → IsDue s h n Looked → length sums ≡ length c.paths → May s h (event.Looked n sums seen)
  look_may sums seen due many = (due, many ∙ sym paths_are)

  pub look_stands : (sums : List (List ℕ)) (seen : Look) (es : List Entry) → es ≡ looked_entries c sums seen → StandsFor s h (event.Looked n sums seen) es
  look_stands sums seen es e = at_cache (λ d. es ≡ looked_entries d sums seen) (cache_at s.nodes n) c at e

  -- and makes its entry, empty, where it lacked
  pub look_makes : (sums : List (List ℕ)) (seen : Look) (old new : Option World) → IsLooked (entry_of c sums) old new → Makes s h (event.Looked n sums seen) old new
  look_makes sums seen old new is = at_cache (λ d. IsLooked (entry_of d sums) old new) (cache_at s.nodes n) c at is

  -- want of memory stands for some sums
  memory_looked : (sums : List (List ℕ)) (es : List Entry) → IsDue s h n Looked → length sums ≤ length c.paths → es ≡ summed_entries c.paths sums → Fails s h n reason.NoMemory es
  memory_looked sums es due le e =
      let r = filled c.paths sums le in
      let last = entry.Probed (entry_of c (sums ++ r.0)) c.outputs look.Empty in
      let rest = summed_entries (drop (length sums) c.paths) r.0 ++ last ∷ [] in
      let all = looked_entries c (sums ++ r.0) look.Empty in
      let parts : all ≡ es ++ rest = ap (λ k. k ++ last ∷ []) r.2 ∙ append_assoc (summed_entries c.paths sums) (summed_entries (drop (length sums) c.paths) r.0) (last ∷ []) ∙ ap (λ k. k ++ rest) (sym e) in
      ((Looked, due, λ q. cc), (Looked, rest, all, due, at_cache (λ d. (sums : List (List ℕ)) × (seen : Look) × (length sums ≡ length d.paths) × (all ≡ looked_entries d sums seen)) (cache_at s.nodes n) c at (sums ++ r.0, look.Empty, r.1, refl), parts, some_pushed (summed_entries (drop (length sums) c.paths) r.0) last))

  -- as it does where nothing came behind them
  memory_behind : (sums : List (List ℕ)) (es later : List Entry) → IsDue s h n Looked → length sums ≤ length c.paths → es ≡ summed_entries c.paths sums ++ later → later ≡ [] → Fails s h n reason.NoMemory es
  memory_behind sums es later due le are none =
      memory_looked sums es due le (are ∙ ap (λ k. summed_entries c.paths sums ++ k) none ∙ append-nil (summed_entries c.paths sums))

  -- the sum of the next file was refused
  next_fails : (sums : List (List ℕ)) (r : Reason) (es later : List Entry) → IsDue s h n Looked → length sums < length c.paths → es ≡ summed_entries c.paths sums ++ later → RefusedSum (slice_index_or c.paths (length sums) []) (length sums) r later → Fails s h n r es
  next_fails sums (reason.Input j m) es later due lt are g = (
    (due, subst (λ k. j < k) (sym paths_are) (omega (arith, g.0, lt))),
    at_cache _ (cache_at s.nodes n) c at (sums, sym g.0, are ∙ ap (λ k. summed_entries c.paths sums ++ k) (g.1 ∙ ap (λ k. entry.Missed (slice_index_or c.paths k []) m ∷ []) (sym g.0))),
  )
  next_fails sums (reason.Fault k) es later due lt are g =
      subst (λ x. Fails s h n (reason.Fault x) es) (sym g.0) (due, at_cache _ (cache_at s.nodes n) c at (sums, lt, are ∙ ap (λ x. summed_entries c.paths sums ++ x) g.1))
  next_fails sums reason.NoMemory es later due lt are g = memory_behind sums es later due (omega (arith, lt)) are g
  next_fails sums (reason.Place k m) es later due lt are g = absurd g.1
  next_fails sums _ es later due lt are g = absurd g

  -- a sum that was refused ends the body so
  sum_fails : (r : Reason) (es : List Entry) → IsDue s h n Looked → SumRefusal c.paths r es → Fails s h n r es
  sum_fails r es due (inl g) = subst (λ k. Fails s h n k es) (sym g.0) (memory_looked [] es due (omega arith) (g.1 ∙ sym (no_entries c.paths)))
  sum_fails r es due (inr g) = next_fails g.0 r es g.1 due g.2 g.3 g.4

  -- the look at the entry was refused, behind all sums
  probe_fails : (sums : List (List ℕ)) (r : Reason) (es later : List Entry) → IsDue s h n Looked → length sums ≡ length c.paths → es ≡ summed_entries c.paths sums ++ later → RefusalGains call.Probe (MissesAt (entry_of c sums)) r later → Fails s h n r es
  probe_fails sums (reason.Place k m) es later due many are g =
      subst (λ x. Fails s h n (reason.Place x m) es) (sym g.0) (due, at_cache _ (cache_at s.nodes n) c at (sums, many, are ∙ ap (λ x. summed_entries c.paths sums ++ x) g.1))
  probe_fails sums (reason.Fault k) es later due many are g =
      subst (λ x. Fails s h n (reason.Fault x) es) (sym g.0) (due, at_cache _ (cache_at s.nodes n) c at (sums, many, are ∙ ap (λ x. summed_entries c.paths sums ++ x) g.1))
  probe_fails sums reason.NoMemory es later due many are g = memory_behind sums es later due (omega (arith, many)) are g
  probe_fails sums _ es later due many are g = absurd g

  -- a look that was refused ends the body so
  pub look_fails : (r : Reason) (es : List Entry) → IsDue s h n Looked → LookRefusal c r es → Fails s h n r es
  look_fails r es due (inl g) = sum_fails r es due g
  look_fails r es due (inr g) = probe_fails g.0 r es g.1 due g.2 g.3 g.4

  -- ---- an entry that is saved

  -- the sums are those of the look
  module _ (seen : List (List ℕ) × Look) (saw : seen_at h n ≡ Some seen) where
    of_sums : (fact : CachePlan → List (List ℕ) → Type 0) → fact c seen.0 → OfCache s n (λ d. MatchOption (seen_at h n) ⊥ (λ x. fact d x.0))
    of_sums fact p = at_cache (λ d. MatchOption (seen_at h n) ⊥ (λ x. fact d x.0)) (cache_at s.nodes n) c at (at_seen (λ x. fact c x.0) (seen_at h n) seen saw p)

    -- a saved entry stands for its entries
    pub save_stands : (es : List Entry) → es ≡ saved_entries c seen.0 → StandsFor s h (event.Saved n) es
    save_stands es e = of_sums (λ d sums. es ≡ saved_entries d sums) e

    -- and makes the entry hold its text
    pub save_makes : (sums : List (List ℕ)) (old new : Option World) → sums ≡ seen.0 → IsWritten (entry_of c sums) (saved_text c) old new → Makes s h (event.Saved n) old new
    save_makes sums old new same is = of_sums (λ d sums. IsWritten (entry_of d sums) (saved_text d) old new) (subst (λ k. IsWritten (entry_of c k) (saved_text c) old new) same is)

    -- want of memory before the check, and behind it
    memory_saved : (es rest : List Entry) → IsDue s h n Saved → saved_entries c seen.0 ≡ es ++ rest → (rest ≢ []) → Fails s h n reason.NoMemory es
    memory_saved es rest due parts some =
        ((Saved, due, λ q. cc), (Saved, rest, saved_entries c seen.0, due, of_sums (λ d sums. saved_entries c seen.0 ≡ saved_entries d sums) refl, parts, some))

    -- a check that was refused ends the body so
    check_fails : (r : Reason) (es : List Entry) → IsDue s h n Saved → CheckGain c.outputs (Err r) es → Fails s h n r es
    check_fails (reason.Output j) es due g = ((due, subst (λ k. j < k) (sym outputs_are) g.0), at_cache _ (cache_at s.nodes n) c at g.1)
    check_fails (reason.Place k m) es due g = subst (λ x. Fails s h n (reason.Place x m) es) (sym g.0) (due, at_cache _ (cache_at s.nodes n) c at g.1)
    check_fails (reason.Fault k) es due g = subst (λ x. Fails s h n (reason.Fault x) es) (sym g.0) (due, g.1)
    check_fails reason.NoMemory es due g = memory_saved es (saved_entries c seen.0) due (ap (λ k. k ++ saved_entries c seen.0) (sym g)) (λ q. cc)
    check_fails _ es due g = absurd g

    -- and so does an entry that couldn't be made to hold its text behind it
    keep_fails : (r : Reason) (es later : List Entry) → IsDue s h n Saved → es ≡ entry.Checked c.outputs None ∷ later → KeepGain (entry_of c seen.0) (Err r) later → Fails s h n r es
    keep_fails (reason.Place k m) es later due are g =
        subst (λ x. Fails s h n (reason.Place x m) es) (sym g.0) (due, of_sums (λ d sums. es ≡ entry.Checked d.outputs None ∷ entry.Missed (entry_of d sums) m ∷ []) (are ∙ ap (λ x. entry.Checked c.outputs None ∷ x) g.1))
    keep_fails (reason.Fault k) es later due are g =
        subst (λ x. Fails s h n (reason.Fault x) es) (sym g.0) (due, at_cache _ (cache_at s.nodes n) c at (are ∙ ap (λ x. entry.Checked c.outputs None ∷ x) g.1))
    keep_fails reason.NoMemory es later due are g =
        memory_saved es (entry.Saved (entry_of c seen.0) ∷ []) due (ap (λ k. k ++ entry.Saved (entry_of c seen.0) ∷ []) (sym (are ∙ ap (λ x. entry.Checked c.outputs None ∷ x) g))) (λ q. cc)
    keep_fails _ es later due are g = absurd g

    -- an entry that couldn't be saved ends the body so
    pub save_fails : (r : Reason) (es : List Entry) → IsDue s h n Saved → SaveGains c seen.0 (Err r) es → Fails s h n r es
    save_fails r es due (inl g) = check_fails r es due g
    save_fails r es due (inr g) = keep_fails r es g.0 due g.1 g.2

-- the sums that were read are those of the look
pub sums_are : (h k : List Event) (n : ℕ) (sums : List (List ℕ)) (seen : List (List ℕ) × Look) → k ≡ h → seen_at h n ≡ Some seen → MatchOption (seen_at k n) ⊥ (λ x. sums ≡ x.0) → sums ≡ seen.0
sums_are h k n sums seen same saw read = subst (λ (o : Option (List (List ℕ) × Look)). MatchOption o ⊥ (λ x. sums ≡ x.0)) (ap (λ l. seen_at l n) same ∙ saw) read
