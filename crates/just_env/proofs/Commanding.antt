-- Commands, one after the other, as the loop comes to them.
use Rattle.std.proofs.Common.{◌≡◌, ◌⊎◌, inl, inr, ℕ, ◌<◌, ◌≤◌, ◌+◌, false, List, [], ◌∷◌, ◌++◌, length, drop, drop_of_length-le, Option, Some, None, refl, ap, sym, ◌∙◌, subst, append_assoc}
use Rattle.std.specs.Prelude.{Result, Ok, Err, IfErr, IsErrAnd, chars, get_or}
use Rattle.std.specs.Str.{is_utf8, IsUtf8}
use Rattle.std.proofs.lemmas.Str.{is_utf8-from_IsUtf8}
use Rattle.std.proofs.lemmas.List.{append-nil, drop_more}
use Rattle.just_lang_types.specs.declared.settings.Interpreter.{Interpreter}
use Rattle.just_host_record.specs.declared.entry.HostFault.{HostFault}
use Rattle.just_host_record.specs.Record.{refused}
use Rattle.just_host_record.specs.declared.entry.Status.{Status}
use Rattle.just_host_record.specs.World.{Moment, World, FaultLeaves}
use Rattle.just_dotenv.specs.File.{Gives, Stops}
use Rattle.just_dotenv.specs.Meaning.{Pairs}
use Rattle.just_env.specs.declared.env_error.EnvError.{EnvError}
use Rattle.just_env.specs.declared.env_error.EnvError.TheVariants as error
use Rattle.just_env.specs.declared.env_error.OutputError.{OutputError}
use Rattle.just_env.specs.declared.env_error.OutputError.TheVariants as output
use Rattle.just_env.specs.DotenvAnswers.{Answers, GainsAmong, Runs, entries_of}
use Rattle.just_env.specs.Captures.{Capture, entries_of_capture, told_behind, AreAmongMisses}
use Rattle.just_env.specs.Commands.{IsCaptured, GivesPairs, ending_error, IsUncaptured, RunsCommand, RunsCommands, before_pairs, BeginsCommand, BeginsCommands}
use Rattle.just_env.proofs.Running.{error_stays, among_none, among_then, behind_append, run_refused_behind, run_short_behind}

-- ---- what a child printed

module _ (environ : Pairs) (folder command : List ℕ) (ending : Status) where
  pub printed_pairs : (text : List ℕ) (pairs : Pairs) → ending_error ending ≡ None → IsUtf8 text → Gives (chars text) environ pairs → GivesPairs environ folder command ending text (Ok pairs)
  printed_pairs text pairs well is gives = GivesPairs.readable pairs well (is_utf8-from_IsUtf8 text is) gives

  pub printed_faulty : (text named : List ℕ) (line : ℕ) (e : EnvError) → ending_error ending ≡ None → IsUtf8 text → Stops (chars text) line → named ≡ folder → e ≡ error.Dotenv named line
      → (e ≡ error.NoMemory) ⊎ GivesPairs environ folder command ending text (Err e)
  printed_faulty text named line e well is stops at so =
      inr (subst (λ x. GivesPairs environ folder command ending text (Err x)) (sym (so ∙ ap (λ p. error.Dotenv p line) at)) (GivesPairs.faulty line well (is_utf8-from_IsUtf8 text is) stops))

  pub printed_no_text : (printed named : List ℕ) (e : EnvError) → ending_error ending ≡ None → is_utf8 printed ≡ false → named ≡ command → e ≡ error.DotenvCommand named output.Utf8
      → (e ≡ error.NoMemory) ⊎ GivesPairs environ folder command ending printed (Err e)
  printed_no_text printed named e well is at so =
      inr (subst (λ x. GivesPairs environ folder command ending printed (Err x)) (sym (so ∙ ap (λ c. error.DotenvCommand c output.Utf8) at)) (GivesPairs.no_text well is))

  pub printed_ended : (printed named : List ℕ) (f : OutputError) (e : EnvError) → ending_error ending ≡ Some f → named ≡ command → e ≡ error.DotenvCommand named f
      → (e ≡ error.NoMemory) ⊎ GivesPairs environ folder command ending printed (Err e)
  printed_ended printed named f e is at so =
      inr (subst (λ x. GivesPairs environ folder command ending printed (Err x)) (sym (so ∙ ap (λ c. error.DotenvCommand c f) at)) (GivesPairs.ended f is))

-- ---- commands in their order

-- pairs behind pairs
abbrev pub behind : Pairs → Result Pairs EnvError → Result Pairs EnvError
behind done (Ok others) = Ok (done ++ others)
behind done (Err e) = Err e

behind_pairs : (done pairs : Pairs) (r : Result Pairs EnvError) → behind done (before_pairs pairs r) ≡ behind (done ++ pairs) r
behind_pairs done pairs (Ok others) = ap (λ l. Ok l) (sym (append_assoc done pairs others))
behind_pairs done pairs (Err e) = refl

nothing_before : (r : Result Pairs EnvError) → r ≡ behind [] r
nothing_before (Ok others) = refl
nothing_before (Err e) = refl

module _ (environ : Pairs) (shell : Interpreter) (folder : List ℕ) (told : Option World) (commands : List (List ℕ)) where
  -- whatever the commands that are left come to, all come to that behind the pairs so far
  pub record LeadsOn (now : Option World) (left : List (List ℕ)) (cs : List Capture) (done : Pairs) : Type 0 where
    pub so : (ds : List Capture) (r : Result Pairs EnvError) → RunsCommands environ shell folder now left ds r → RunsCommands environ shell folder told commands (cs ++ ds) (behind done r)
    pub begun : (ds : List Capture) → BeginsCommands environ shell folder now left ds → BeginsCommands environ shell folder told commands (cs ++ ds)

  pub on_first : LeadsOn told commands [] []
  on_first = record {
    so = λ ds r runs. subst (λ x. RunsCommands environ shell folder told commands ds x) (nothing_before r) runs;
    begun = λ ds begins. begins;
  }

  pub on_next : (now : Option World) (command : List ℕ) (left : List (List ℕ)) (cs ds : List Capture) (done pairs : Pairs) → LeadsOn now (command ∷ left) cs done
      → RunsCommand environ shell folder now command ds (Ok pairs) → LeadsOn (told_behind now ds) left (cs ++ ds) (done ++ pairs)
  on_next now command left cs ds done pairs leads runs = record {
    so = λ es r rest.
        let all : RunsCommands environ shell folder told commands (cs ++ (ds ++ es)) (behind done (before_pairs pairs r)) = leads.so (ds ++ es) (before_pairs pairs r) (RunsCommands.more now command left ds es pairs r runs rest) in
        subst (λ l. RunsCommands environ shell folder told commands l (behind (done ++ pairs) r)) (sym (append_assoc cs ds es)) (subst (λ x. RunsCommands environ shell folder told commands (cs ++ (ds ++ es)) x) (behind_pairs done pairs r) all);
    begun = λ es begins.
        subst (λ l. BeginsCommands environ shell folder told commands l) (sym (append_assoc cs ds es))
        (leads.begun (ds ++ es) (BeginsCommands.one_before now command left ds es pairs runs begins));
  }

  pub on_refused : (now : Option World) (command : List ℕ) (left : List (List ℕ)) (cs ds : List Capture) (done : Pairs) (e : EnvError) → LeadsOn now (command ∷ left) cs done
      → RunsCommand environ shell folder now command ds (Err e) → RunsCommands environ shell folder told commands (cs ++ ds) (Err e)
  on_refused now command left cs ds done e leads runs = leads.so ds (Err e) (RunsCommands.refused now command left ds e runs)

  -- what was begun for the commands so far, and for one more
  pub on_begun : (now : Option World) (command : List ℕ) (left : List (List ℕ)) (cs ds : List Capture) (done : Pairs) → LeadsOn now (command ∷ left) cs done → BeginsCommand shell folder now command ds → BeginsCommands environ shell folder told commands (cs ++ ds)
  on_begun now command left cs ds done leads begins = leads.begun ds (BeginsCommands.the_last now command left ds begins)

  pub all_begun : (now : Option World) (left : List (List ℕ)) (cs : List Capture) (done : Pairs) → LeadsOn now left cs done → BeginsCommands environ shell folder told commands cs
  all_begun now left cs done leads = subst (λ l. BeginsCommands environ shell folder told commands l) (append-nil cs) (leads.begun [] (BeginsCommands.nothing_more now left))

  pub on_all : (now : Option World) (cs : List Capture) (done : Pairs) → LeadsOn now [] cs done → RunsCommands environ shell folder told commands cs (Ok done)
  on_all now cs done leads =
      subst (λ l. RunsCommands environ shell folder told commands l (Ok done)) (append-nil cs)
      (subst (λ p. RunsCommands environ shell folder told commands (cs ++ []) (Ok p)) (append-nil done) (leads.so [] (Ok []) (RunsCommands.none now)))

-- ---- one child

module _ (environ : Pairs) (shell : Interpreter) (folder : List ℕ) (before after : Moment) (command : List ℕ) where
  -- it was run to its end
  module _ (c : Capture) (is : IsCaptured shell folder before.world command c) (now : after.world ≡ c.after) (gained : after.entries ≡ before.entries ++ entries_of_capture c) where
    among_one : GainsAmong (c ∷ []) before.entries after.entries
    among_one =
        (entries_of_capture c ++ [], AreAmongMisses.a_child c [] [] AreAmongMisses.none, gained ∙ ap (λ l. before.entries ++ l) (sym (append-nil (entries_of_capture c))))

    no_entry : (e : EnvError) → entries_of [] e ≡ [] → after.entries ≡ after.entries ++ entries_of [] e
    no_entry e unheard = sym (append-nil after.entries) ∙ ap (λ l. after.entries ++ l) (sym unheard)

    pub ran_one : (r : Result Pairs EnvError) → Answers (GivesPairs environ folder command c.status c.output) r → IfErr r (λ e. entries_of [] e ≡ [])
        → Runs (RunsCommand environ shell folder before.world command) (BeginsCommand shell folder before.world command) before after r
    ran_one (Ok pairs) gives unheard = (c ∷ [], RunsCommand.captured c (Ok pairs) is gives, among_one, now, BeginsCommand.a_child c is)
    ran_one (Err e) (inl memory) unheard =
        (c ∷ [], inl memory, (after.entries, [], among_one, no_entry e unheard), error_stays c.after after.world e now, BeginsCommand.a_child c is)
    ran_one (Err e) (inr gives) unheard =
        (c ∷ [], inr (RunsCommand.captured c (Err e) is gives), (after.entries, [], among_one, no_entry e unheard), error_stays c.after after.world e now, BeginsCommand.a_child c is)

  -- it wasn't
  pub ran_none : (io : HostFault) (named : List ℕ) (e : EnvError) (program : List ℕ) → named ≡ command → e ≡ error.DotenvCommand named (output.Io io) → IsUncaptured io → FaultLeaves before.world after.world io
      → after.entries ≡ before.entries ++ refused program io → Runs (RunsCommand environ shell folder before.world command) (BeginsCommand shell folder before.world command) before after (Err e)
  ran_none io named e program at so refuses leaves gained =
      let same : e ≡ error.DotenvCommand command (output.Io io) = so ∙ ap (λ k. error.DotenvCommand k (output.Io io)) at in
      subst (λ x. Runs (RunsCommand environ shell folder before.world command) (BeginsCommand shell folder before.world command) before after (Err x)) (sym same)
      ([], inr (RunsCommand.uncaptured io refuses), (before.entries, program, among_none before.entries, gained), leaves, BeginsCommand.nothing)

-- ---- the loop over commands

module _ (environ : Pairs) (shell : Interpreter) (folder : List ℕ) (before : Moment) (commands : List (List ℕ)) where
  -- children were run for the commands so far, whatever those that are left come to
  abbrev pub RanOn : Moment → List (List ℕ) → Pairs → Type 0
  RanOn now left done =
      (cs : List Capture) × LeadsOn environ shell folder before.world commands now.world left cs done × GainsAmong cs before.entries now.entries × (now.world ≡ told_behind before.world cs)

  pub on_start : (done : Pairs) → done ≡ [] → RanOn before commands done
  on_start done none = subst (λ p. RanOn before commands p) (sym none) ([], on_first environ shell folder before.world commands, among_none before.entries, refl)

  pub on_end : (now : Moment) (i : ℕ) (done : Pairs) → length commands ≤ i → RanOn now (drop i commands) done
      → Runs (RunsCommands environ shell folder before.world commands) (BeginsCommands environ shell folder before.world commands) before now (Ok done)
  on_end now i done last (cs, leads, gained, is) = (
    cs,
    on_all environ shell folder before.world commands now.world cs done (subst (λ l. LeadsOn environ shell folder before.world commands now.world l cs done) (drop_of_length-le commands last) leads),
    gained,
    is,
    all_begun environ shell folder before.world commands now.world (drop i commands) cs done leads,
  )

  module _ (now after : Moment) (i : ℕ) (command : List ℕ) (done : Pairs) (less : i < length commands) (here : command ≡ get_or commands i command) (ran : RanOn now (drop i commands) done) where
    left : drop i commands ≡ command ∷ drop (i + 1) commands
    left = drop_more commands i command less ∙ ap (λ c. c ∷ drop (i + 1) commands) (sym here)

    leads : LeadsOn environ shell folder before.world commands now.world (command ∷ drop (i + 1) commands) ran.0 done
    leads = subst (λ l. LeadsOn environ shell folder before.world commands now.world l ran.0 done) left ran.1

    pub on_more : (pairs all : Pairs) → Runs (RunsCommand environ shell folder now.world command) (BeginsCommand shell folder now.world command) now after (Ok pairs) → all ≡ done ++ pairs → RanOn after (drop (i + 1) commands) all
    on_more pairs all (ds, runs, gained, is, begun) so =
        let next : LeadsOn environ shell folder before.world commands (told_behind now.world ds) (drop (i + 1) commands) (ran.0 ++ ds) (done ++ pairs) =
        on_next environ shell folder before.world commands now.world command (drop (i + 1) commands) ran.0 ds done pairs leads runs in (
          ran.0 ++ ds,
          subst (λ w. LeadsOn environ shell folder before.world commands w (drop (i + 1) commands) (ran.0 ++ ds) all) (sym is)
              (subst (λ p. LeadsOn environ shell folder before.world commands (told_behind now.world ds) (drop (i + 1) commands) (ran.0 ++ ds) p) (sym so) next),
          among_then ran.0 ds before.entries now.entries after.entries ran.2 gained,
          is ∙ ap (λ w. told_behind w ds) ran.3 ∙ sym (behind_append before.world ran.0 ds),
        )

    begun_here : (ds : List Capture) → BeginsCommand shell folder now.world command ds → BeginsCommands environ shell folder before.world commands (ran.0 ++ ds)
    begun_here ds begins = on_begun environ shell folder before.world commands now.world command (drop (i + 1) commands) ran.0 ds done leads begins

    pub on_error : (e : EnvError) → Runs (RunsCommand environ shell folder now.world command) (BeginsCommand shell folder now.world command) now after (Err e)
        → Runs (RunsCommands environ shell folder before.world commands) (BeginsCommands environ shell folder before.world commands) before after (Err e)
    on_error e runs =
        run_refused_behind (RunsCommands environ shell folder before.world commands) (BeginsCommands environ shell folder before.world commands) before after ran.0 now ran.2 ran.3
        (RunsCommand environ shell folder now.world command) (BeginsCommand shell folder now.world command) e runs
        (λ ds refuses. on_refused environ shell folder before.world commands now.world command (drop (i + 1) commands) ran.0 ds done e leads refuses) begun_here

    pub on_short : (pairs : Pairs) (r : Result Pairs EnvError) → Runs (RunsCommand environ shell folder now.world command) (BeginsCommand shell folder now.world command) now after (Ok pairs) → IsErrAnd r (λ e. e ≡ error.NoMemory)
        → Runs (RunsCommands environ shell folder before.world commands) (BeginsCommands environ shell folder before.world commands) before after r
    on_short pairs (Ok x) runs memory = absurd memory
    on_short pairs (Err e) runs memory =
        run_short_behind (RunsCommands environ shell folder before.world commands) (BeginsCommands environ shell folder before.world commands) before after ran.0 now ran.2 ran.3
        runs.0 e runs.2 runs.3 memory (begun_here runs.0 runs.4)
