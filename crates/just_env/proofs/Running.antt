-- Children that are run to their end: what they leave in a record and of a world, one behind the other.
use Rattle.std.proofs.Common.{◌≡◌, ◌⊎◌, inl, inr, true, true≢false, List, [], ◌∷◌, ◌++◌, Option, Some, None, refl, ap, sym, ◌∙◌, subst, append_assoc}
use Rattle.std.specs.Prelude.{Result, Ok, Err, IsErrAnd}
use Rattle.std.specs.List.{AllByRecursion}
use Rattle.std.proofs.lemmas.List.{append-nil}
use Rattle.just_host_record.specs.declared.entry.Entry.{Entry}
use Rattle.just_host_record.specs.declared.entry.Entry.TheVariants as entry
use Rattle.just_host_record.specs.declared.entry.HostFault.TheVariants as fault
use Rattle.just_host_record.specs.Record.{is_missed}
use Rattle.just_host_record.specs.World.{Moment, World, Touched}
use Rattle.just_env.specs.Answers.{GainsMisses}
use Rattle.just_env.specs.declared.env_error.EnvError.{EnvError}
use Rattle.just_env.specs.declared.env_error.EnvError.TheVariants as error
use Rattle.just_env.specs.declared.env_error.OutputError.TheVariants as output
use Rattle.just_env.specs.DotenvAnswers.{Answers, Gains, GainsAmong, GainsAll, ErrorLeaves, Leaves, Runs, entries_of}
use Rattle.just_env.specs.Captures.{Capture, entries_of_capture, told_behind, AreAmongMisses}

-- ---- the record

among_append : (cs ds : List Capture) (es fs : List Entry) → AreAmongMisses cs es → AreAmongMisses ds fs → AreAmongMisses (cs ++ ds) (es ++ fs)
among_append cs ds es fs AreAmongMisses.none h = h
among_append cs ds es fs (AreAmongMisses.a_miss path m bs gs g) h = AreAmongMisses.a_miss path m (cs ++ ds) (gs ++ fs) (among_append cs ds gs fs g h)
among_append cs ds es fs (AreAmongMisses.a_child c bs gs g) h =
    subst (λ l. AreAmongMisses (c ∷ (bs ++ ds)) l) (sym (append_assoc (entries_of_capture c) gs fs))
    (AreAmongMisses.a_child c (bs ++ ds) (gs ++ fs) (among_append bs ds gs fs g h))

among_misses : (es : List Entry) → AllByRecursion (λ e. is_missed e ≡ true) es → AreAmongMisses [] es
among_misses [] h = AreAmongMisses.none
among_misses (entry.Missed path m ∷ es) h = AreAmongMisses.a_miss path m [] es (among_misses es h.1)
among_misses (entry.Failed c ∷ es) h = absurd (true≢false (sym h.0))
among_misses (entry.Asked p a ∷ es) h = absurd (true≢false (sym h.0))
among_misses (entry.Summed p d ∷ es) h = absurd (true≢false (sym h.0))
among_misses (entry.Probed p o l ∷ es) h = absurd (true≢false (sym h.0))
among_misses (entry.Checked o i ∷ es) h = absurd (true≢false (sym h.0))
among_misses (entry.Saved p ∷ es) h = absurd (true≢false (sym h.0))
among_misses (entry.Started c s ∷ es) h = absurd (true≢false (sym h.0))
among_misses (entry.Ended c s ∷ es) h = absurd (true≢false (sym h.0))
among_misses (entry.Captured s i t o ∷ es) h = absurd (true≢false (sym h.0))
among_misses (entry.Strayed a b ∷ es) h = absurd (true≢false (sym h.0))
among_misses (entry.Signalled s ∷ es) h = absurd (true≢false (sym h.0))
among_misses (entry.Printed s t ∷ es) h = absurd (true≢false (sym h.0))
among_misses (entry.Made p ∷ es) h = absurd (true≢false (sym h.0))

pub gains_misses : (old new : List Entry) → GainsMisses old new → GainsAmong [] old new
gains_misses old new g = (g.0, among_misses g.0 g.2, g.1)

pub among_none : (old : List Entry) → GainsAmong [] old old
among_none old = ([], AreAmongMisses.none, sym (append-nil old))

pub among_then : (cs ds : List Capture) (a b c : List Entry) → GainsAmong cs a b → GainsAmong ds b c → GainsAmong (cs ++ ds) a c
among_then cs ds a b c g h = (g.0 ++ h.0, among_append cs ds g.0 h.0 g.1 h.1, h.2 ∙ ap (λ x. x ++ h.0) g.2 ∙ append_assoc a g.0 h.0)

-- ---- the world

pub behind_append : (told : Option World) (cs ds : List Capture) → told_behind told (cs ++ ds) ≡ told_behind (told_behind told cs) ds
behind_append told [] ds = refl
behind_append told (c ∷ cs) ds = behind_append c.after cs ds

pub untouched : (told : Option World) → Touched told told
untouched None = tt
untouched (Some w) = (w, refl, refl, refl, refl, λ spec h. h, λ e. e)

-- a world that stays
pub error_stays : (old new : Option World) (e : EnvError) → new ≡ old → ErrorLeaves old new e
error_stays old new error.DotenvRequired is = is
error_stays old new (error.Dotenv path line) is = is
error_stays old new error.DotenvArgumentsRequireLists is = is
error_stays old new (error.DotenvCommand command (output.Code n)) is = is
error_stays old new (error.DotenvCommand command (output.Io (fault.Missed m))) is = is
error_stays old new (error.DotenvCommand command (output.Io (fault.Failed c))) is = subst (λ w. Touched old w) (sym is) (untouched old)
error_stays old new (error.DotenvCommand command (output.Io fault.NoMemory)) is = is
error_stays old new (error.DotenvCommand command (output.Signal n)) is = is
error_stays old new (error.DotenvCommand command output.Unknown) is = is
error_stays old new (error.DotenvCommand command output.Utf8) is = is
error_stays old new (error.Io io path) is = is
error_stays old new error.NoMemory is = is

-- ---- answers

module _ {A : Type 0} (P : List Capture → Result A EnvError → Type 0) (begins : List Capture → Type 0) (before after : Moment) where
  -- no child is run
  all_misses : (r : Result A EnvError) → Gains before.entries after.entries r → GainsAll [] before.entries after.entries r
  all_misses (Ok x) g = gains_misses before.entries after.entries g
  all_misses (Err e) g = (g.0, [], gains_misses before.entries g.0 g.1, g.2)

  all_stays : (r : Result A EnvError) → after.world ≡ before.world → Leaves before.world [] after.world r
  all_stays (Ok x) is = is
  all_stays (Err e) is = error_stays before.world after.world e is

  pub run_still : (r : Result A EnvError) → Answers (P []) r → Gains before.entries after.entries r → after.world ≡ before.world → begins [] → Runs P begins before after r
  run_still r answers gains is begun = ([], answers, all_misses r gains, all_stays r is, begun)

  -- another relation of the same answer
  pub run_map : (Q : List Capture → Result A EnvError → Type 0) (one : List Capture → Type 0) (r : Result A EnvError) → ((cs : List Capture) (s : Result A EnvError) → Q cs s → P cs s) → ((cs : List Capture) → one cs → begins cs)
      → Runs Q one before after r → Runs P begins before after r
  run_map Q one (Ok x) f up runs = (runs.0, f runs.0 (Ok x) runs.1, runs.2, runs.3, up runs.0 runs.4)
  run_map Q one (Err e) f up (cs, inl memory, gains, leaves, begun) = (cs, inl memory, gains, leaves, up cs begun)
  run_map Q one (Err e) f up (cs, inr so, gains, leaves, begun) = (cs, inr (f cs (Err e) so), gains, leaves, up cs begun)

  module _ {B : Type 0} (Q : List Capture → Result B EnvError → Type 0) (one : List Capture → Type 0) (up : (cs : List Capture) → one cs → begins cs) where
    pub run_ok : (x : B) (y : A) → Runs Q one before after (Ok x) → ((cs : List Capture) → Q cs (Ok x) → P cs (Ok y)) → Runs P begins before after (Ok y)
    run_ok x y runs f = (runs.0, f runs.0 runs.1, runs.2, runs.3, up runs.0 runs.4)

    pub run_refused : (e : EnvError) → Runs Q one before after (Err e) → ((cs : List Capture) → Q cs (Err e) → P cs (Err e)) → Runs P begins before after (Err e)
    run_refused e (cs, inl memory, gains, leaves, begun) f = (cs, inl memory, gains, leaves, up cs begun)
    run_refused e (cs, inr so, gains, leaves, begun) f = (cs, inr (f cs so), gains, leaves, up cs begun)

    -- memory is wanting behind an answer
    pub run_short : (x : B) (r : Result A EnvError) → Runs Q one before after (Ok x) → IsErrAnd r (λ e. e ≡ error.NoMemory) → Runs P begins before after r
    run_short x (Ok y) runs memory = absurd memory
    run_short x (Err e) runs memory =
        (runs.0, inl memory, (after.entries, [], runs.2, sym (append-nil after.entries) ∙ ap (λ z. after.entries ++ entries_of [] z) (sym memory)), error_stays (told_behind before.world runs.0) after.world e runs.3, up runs.0 runs.4)

  -- a refusal behind some children
  module _ (cs : List Capture) (between : Moment) (gained : GainsAmong cs before.entries between.entries) (is : between.world ≡ told_behind before.world cs) where
    told_on : (ds : List Capture) → told_behind between.world ds ≡ told_behind before.world (cs ++ ds)
    told_on ds = ap (λ t. told_behind t ds) is ∙ sym (behind_append before.world cs ds)

    module _ {B : Type 0} (Q : List Capture → Result B EnvError → Type 0) (one : List Capture → Type 0) (e : EnvError) where
      or_memory : (ds : List Capture) → ((bs : List Capture) → Q bs (Err e) → P (cs ++ bs) (Err e)) → (e ≡ error.NoMemory) ⊎ Q ds (Err e) → (e ≡ error.NoMemory) ⊎ P (cs ++ ds) (Err e)
      or_memory ds f (inl memory) = inl memory
      or_memory ds f (inr so) = inr (f ds so)

      pub run_refused_behind : Runs Q one between after (Err e) → ((ds : List Capture) → Q ds (Err e) → P (cs ++ ds) (Err e)) → ((ds : List Capture) → one ds → begins (cs ++ ds)) → Runs P begins before after (Err e)
      run_refused_behind runs f up =
          (cs ++ runs.0, or_memory runs.0 f runs.1, (runs.2.0, runs.2.1, among_then cs runs.0 before.entries between.entries runs.2.0 gained runs.2.2, runs.2.3), subst (λ t. ErrorLeaves t after.world e) (told_on runs.0) runs.3, up runs.0 runs.4)

    -- memory is wanting behind an answer behind them
    pub run_short_behind : (ds : List Capture) (e : EnvError) → GainsAmong ds between.entries after.entries → after.world ≡ told_behind between.world ds → e ≡ error.NoMemory → begins (cs ++ ds) → Runs P begins before after (Err e)
    run_short_behind ds e more leaves memory begun = (
      cs ++ ds,
      inl memory,
      (after.entries, [], among_then cs ds before.entries between.entries after.entries gained more, sym (append-nil after.entries) ∙ ap (λ z. after.entries ++ entries_of [] z) (sym memory)),
      error_stays (told_behind before.world (cs ++ ds)) after.world e (leaves ∙ told_on ds),
      begun,
    )

-- ---- for want of memory

pub run_memory : {A : Type 0} (P : List Capture → Result A EnvError → Type 0) (begins : List Capture → Type 0) (before after : Moment) (r : Result A EnvError) → after.world ≡ before.world → after.entries ≡ before.entries → IsErrAnd r (λ e. e ≡ error.NoMemory) → begins [] → Runs P begins before after r
run_memory P begins before after (Ok x) world entries memory begun = absurd memory
run_memory P begins before after (Err e) world entries memory begun =
    ([], inl memory, (before.entries, [], among_none before.entries, entries ∙ sym (append-nil before.entries) ∙ ap (λ z. before.entries ++ entries_of [] z) (sym memory)), error_stays before.world after.world e world, begun)
