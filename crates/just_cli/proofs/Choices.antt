-- Words that are chosen, and their run, as parts of a preparation, from the answers of their calls.
use Rattle.std.proofs.Common.{◌≡◌, ◌++◌, inl, inr, ℕ, Bool, true, false, List, [], ◌∷◌, Option, Some, None, Result, Ok, Err, IsErrAnd, refl, sym, ◌∙◌, ap, subst, append-nil}
use Rattle.std.specs.Prelude.{◌&&◌, if◌then◌else◌}
use Rattle.just_host_record.specs.World.{World, Moment}
use Rattle.just_lang_types.specs.declared.settings.Interpreter.{Interpreter}
use Rattle.just_config.specs.declared.config.Config.{Config}
use Rattle.just_env.specs.declared.search_error.SearchError.{SearchError}
use Rattle.just_env.specs.Answers.{Answers as AnswersSearch, entries_of as search_entries}
use Rattle.just_env.specs.Loads.{BeginsModules}
use Rattle.just_search.specs.declared.location.Location.{Location}
use Rattle.just_search.specs.Fallback.{FallsBack}
use Rattle.just_exec.specs.Refusals.{error_of_search}
use Rattle.just_exec.specs.declared.error.Error.{Error}
use Rattle.just_exec.specs.declared.error.Error.TheVariants as error
use Rattle.just_cli_plan.specs.Own.{OrMemory}
use Rattle.just_cli_plan.specs.Pairs.{Runs}
use Rattle.just_cli_texts.specs.Choices.{fed_unless_none}
use Rattle.just_cli_texts.specs.Laid.{LaidRequest}
use Rattle.just_cli_children.specs.Choosers.{RunsChooser, BeginsChooser}
use Rattle.just_cli_children.specs.Configs.{with_words, is_any}
use Rattle.just_cli_children.specs.Faults.{entries_of}
use Rattle.just_cli.specs.Acts.{Act, Behind, BeginsBehind}
use Rattle.just_cli.specs.Choosing.{shell_for, chooser_for, project_for, request_for, falls_from, FeedsFor, AsksChooser, BeginsAsking, Chooses, BeginsChooses, TriesBehind, BeginsTriesBehind, RunsWords, BeginsWords, ChoosesFor, BeginsChoosesFor, ChoosesAt, BeginsChoosesAt, as_some}
use Rattle.just_cli.specs.Options.{is_lacking, is_missing, empty_outline, allowed}
use Rattle.just_cli.specs.Preparing.{Answers, Performs}
use Rattle.just_cli.specs.Replies.{Reply}
use Rattle.just_cli.specs.Request.{FindsProjectAt, RepliesTo, BeginsProject, BeginsPairs, BeginsFrom}
use Rattle.just_cli.specs.Taken.{TriesFrom, PerformsProject, PerformsReply, PerformsFrom, PerformsChoosing, PerformsAnswer, PerformsBehind, PerformsAllowed, PerformsWords, PerformsChoices}
use Rattle.just_cli.specs.Words.{ConfigRequest, LocatedRequest}
use Rattle.just_cli.proofs.Chain.{children_ran}
use Rattle.just_cli.proofs.Climbing.{first_of_climb}
use Rattle.just_cli.proofs.Loading.{same_entries}
use Rattle.just_cli.proofs.PlainSearch.{next_error}
use Rattle.just_cli.proofs.Planless.{lacking_silent}
use Rattle.just_cli.proofs.Prepared.{left_nothing, performs_as, performs_lost, performs_instead, performs_looking, performs_then, performs_behind, performs_answer, performs_refusal}
use Rattle.just_cli.proofs.Silent.{or_silent}
use Rattle.just_cli.proofs.Trying.{memory_lacks, memory_there, and_false, and_true, lacking_in, missing_in, lacking_captured, missing_captured}

-- ---- the words

module _ (c : Config) (q : LaidRequest) (input : List ℕ) (before : Moment) where
  abbrev Asks : List Act → Option World → Result (List (List ℕ)) Error → Type 0
  Asks acts world r = AsksChooser c q before.world acts world input r

  abbrev BeginsAsks : List Act → Option World → Type 0
  BeginsAsks acts world = BeginsAsking c q before.world acts world input

  -- memory is wanting before
  pub unanswered : PerformsAnswer c q input before before (Err error.NoMemory)
  unanswered = performs_refusal Asks BeginsAsks before before [] refl ([], refl, refl, BeginsChooser.nothing refl) error.NoMemory (left_nothing before.entries error.NoMemory refl) (inl refl)

  -- so for whatever is answered then
  pub unanswered_so : (r : Result (List (List ℕ)) Error) → IsErrAnd r (λ e. e ≡ error.NoMemory) → PerformsAnswer c q input before before r
  unanswered_so (Ok x) memory = absurd memory
  unanswered_so (Err e) memory = subst (λ (x : Error). PerformsAnswer c q input before before (Err x)) (sym memory) unanswered

  -- a chooser answers, which is run by the shell of the root
  pub chooser_answers : (after : Moment) (sh : Interpreter) (chooser : List ℕ) (r : Result (List (List ℕ)) Error) → sh ≡ shell_for q → chooser ≡ chooser_for c q
      → Runs (RunsChooser sh q.wanted.flags.folder before.world chooser input) (BeginsChooser sh q.wanted.flags.folder before.world chooser input) (λ p. p ≡ sh.command) before after r → PerformsAnswer c q input before after r
  chooser_answers after sh chooser r shell_is chooser_is runs =
      let by_shell : Runs (RunsChooser (shell_for q) q.wanted.flags.folder before.world chooser input) (BeginsChooser (shell_for q) q.wanted.flags.folder before.world chooser input) (λ p. p ≡ (shell_for q).command) before after r =
      subst (λ (s : Interpreter). Runs (RunsChooser s q.wanted.flags.folder before.world chooser input) (BeginsChooser s q.wanted.flags.folder before.world chooser input) (λ p. p ≡ s.command) before after r) shell_is runs in
      let by_chooser : Runs (RunsChooser (shell_for q) q.wanted.flags.folder before.world (chooser_for c q) input) (BeginsChooser (shell_for q) q.wanted.flags.folder before.world (chooser_for c q) input) (λ p. p ≡ (shell_for q).command) before after r =
      subst (λ (t : List ℕ). Runs (RunsChooser (shell_for q) q.wanted.flags.folder before.world t input) (BeginsChooser (shell_for q) q.wanted.flags.folder before.world t input) (λ p. p ≡ (shell_for q).command) before after r) chooser_is by_shell in
      children_ran (RunsChooser (shell_for q) q.wanted.flags.folder before.world (chooser_for c q) input) (BeginsChooser (shell_for q) q.wanted.flags.folder before.world (chooser_for c q) input) (shell_for q).command before after r by_chooser

module _ (c : Config) (q : LaidRequest) (before : Moment) where
  abbrev ChoosesIt : List Act → Option World → Result (List (List ℕ)) Error → Type 0
  ChoosesIt acts world r = Chooses c before.world acts world q r

  abbrev BeginsChoosing : List Act → Option World → Type 0
  BeginsChoosing acts world = BeginsChooses c before.world acts world q

  -- nothing can be chosen
  lines_silent : (lines : List (List ℕ)) (e : Error) → Err e ≡ fed_unless_none lines → entries_of e ≡ []
  lines_silent [] e is = let one : e ≡ error.NoChoosableRecipes = cc in ap (λ x. entries_of x) one
  lines_silent (l ∷ ls) e is = absurd (let no : ⊥ = cc in no)

  feeds_silent : (e : Error) → FeedsFor c q (Err e) → entries_of e ≡ []
  feeds_silent e (p, are, (lines, choices, is)) = lines_silent lines e is

  or_unfed : (e : Error) → OrMemory (λ x. FeedsFor c q (Err x)) e → OrMemory (λ x. ChoosesIt [] before.world (Err x)) e
  or_unfed e (inl wants) = inl wants
  or_unfed e (inr feeds) = inr (Behind.refused e (refl, refl, feeds) refl)

  pub unfed : (e : Error) → OrMemory (λ x. FeedsFor c q (Err x)) e → PerformsChoosing c q before before (Err e)
  unfed e why =
      performs_refusal ChoosesIt BeginsChoosing before before [] refl (BeginsBehind.at_first (refl, refl)) e (left_nothing before.entries e (or_silent (λ x. FeedsFor c q (Err x)) e feeds_silent why)) (or_unfed e why)

  -- a chooser answers
  module _ (input : List ℕ) (feeds : FeedsFor c q (Ok input)) (after : Moment) where
    asked_so : (acts : List Act) (r : Result (List (List ℕ)) Error) → Asks c q input before acts after.world r → ChoosesIt acts after.world r
    asked_so acts r asks = Behind.both input [] acts before.world (refl, refl, feeds) asks refl

    or_asked : (acts : List Act) (e : Error) → OrMemory (λ x. Asks c q input before acts after.world (Err x)) e → OrMemory (λ x. ChoosesIt acts after.world (Err x)) e
    or_asked acts e (inl wants) = inl wants
    or_asked acts e (inr asks) = inr (asked_so acts (Err e) asks)

    begun_so : (acts : List Act) → BeginsAsks c q input before acts after.world → BeginsChoosing acts after.world
    begun_so acts begins = BeginsBehind.at_second input [] acts before.world (refl, refl, feeds) begins refl

    pub chosen_so : (r : Result (List (List ℕ)) Error) → PerformsAnswer c q input before after r → PerformsChoosing c q before after r
    chosen_so (Ok words) p = performs_as (Asks c q input before) ChoosesIt (BeginsAsks c q input before) BeginsChoosing before after [] [] words words p (λ acts asks. asked_so acts (Ok words) asks) begun_so
    chosen_so (Err e) p = performs_lost (Asks c q input before) ChoosesIt (BeginsAsks c q input before) BeginsChoosing before after [] [] e p (λ acts why. or_asked acts e why) begun_so

-- ---- what is asked behind a project

module _ (c : ConfigRequest) (location : Location) (q : LaidRequest) (before : Moment) (kept : List (List ℕ)) where
  abbrev RepliesIt : List Act → Option World → Result Reply Error → Type 0
  RepliesIt acts world r = RepliesTo c.config before.world acts world q r

  abbrev BeginsReply : List Act → Option World → Type 0
  BeginsReply acts world = BeginsPairs before.world acts world q

  abbrev TriesIt : List Act → Option World → Result Reply Error → Type 0
  TriesIt acts world r = TriesBehind c location before.world acts world q r

  abbrev BeginsTrying : List Act → Option World → Type 0
  BeginsTrying acts world = BeginsTriesBehind c location before.world acts world q

  at_first : (world : Option World) (acts : List Act) → BeginsReply acts world → BeginsTrying acts world
  at_first world acts begins = BeginsTriesBehind.at_first begins

  replied : (after : Moment) (r : Result Reply Error) → PerformsReply c.config q before after r → Performs RepliesIt BeginsReply before after kept kept r
  replied after r reply = performs_behind RepliesIt BeginsReply before after kept r reply

  -- its answer stands
  pub behind_planned : (after : Moment) (o : Reply) → PerformsReply c.config q before after (Ok o) → PerformsBehind c location q before after kept kept (Ok o)
  behind_planned after o reply = performs_as RepliesIt TriesIt BeginsReply BeginsTrying before after kept kept o o (replied after (Ok o) reply) (λ acts replies. TriesBehind.stands replies refl) (at_first after.world)

  module _ (after : Moment) (fallback may : Bool) (sets_it : fallback ≡ falls_from q) (e : Error) (is : may ≡ (fallback && is_lacking e)) (reply : PerformsReply c.config q before after (Err e)) where
    stays_so : (acts : List Act) → may ≡ false → OrMemory (λ x. RepliesIt acts after.world (Err x)) e → OrMemory (λ x. TriesIt acts after.world (Err x)) e
    stays_so acts stays (inl wants) = inl wants
    stays_so acts stays (inr replies) = inr (TriesBehind.stands replies (and_false (falls_from q) (is_lacking e) (ap (λ b. b && is_lacking e) (sym sets_it) ∙ (sym is ∙ stays))))

    pub behind_refused : may ≡ false → PerformsBehind c location q before after kept kept (Err e)
    behind_refused stays = performs_lost RepliesIt TriesIt BeginsReply BeginsTrying before after kept kept e (replied after (Err e) reply) (λ acts why. stays_so acts stays why) (at_first after.world)

    -- another one is looked for behind it
    module _ (more : may ≡ true) where
      sets : falls_from q ≡ true
      sets = sym sets_it ∙ (and_true fallback (is_lacking e) (sym is ∙ more)).0

      lacked : is_lacking e ≡ true
      lacked = (and_true fallback (is_lacking e) (sym is ∙ more)).1

      abbrev LacksIt : List Act → Option World → Result Error Error → Type 0
      LacksIt acts world (Ok x) = RepliesIt acts world (Err x) × (is_lacking x ≡ true)
      LacksIt acts world (Err x) = ⊥

      lacks_so : (acts : List Act) → OrMemory (λ x. RepliesIt acts after.world (Err x)) e → LacksIt acts after.world (Ok e)
      lacks_so acts (inl wants) = absurd (memory_lacks e wants lacked)
      lacks_so acts (inr replies) = (replies, lacked)

      lacks_part : Performs LacksIt BeginsTrying before after kept kept (Ok e)
      lacks_part = performs_instead RepliesIt LacksIt BeginsReply BeginsTrying before after kept kept e e (λ parent. lacking_in parent e lacked) (lacking_captured e lacked) (replied after (Err e) reply) lacks_so (at_first after.world)

      module _ (last : Moment) (world : last.world ≡ after.world) where
        begins_last : (acts : List Act) → BeginsTrying acts after.world → BeginsTrying acts last.world
        begins_last acts begins = subst (λ w. BeginsTriesBehind c location before.world acts w q) (sym world) begins

        -- there is none
        pub behind_highest : FallsBack after.world c.config location.working_directory (Ok None) → last.entries ≡ after.entries ++ [] → PerformsBehind c location q before last kept kept (Err e)
        behind_highest falls same =
            performs_looking LacksIt TriesIt BeginsTrying BeginsTrying before after last kept kept e (Err e) lacks_part world ([], same, ([], tt, sym (lacking_silent e lacked)))
            (λ acts at. inr (subst (λ w. TriesBehind c location before.world acts w q (Err e)) (sym world) (TriesBehind.highest e at.0 at.1 sets falls refl))) begins_last

        unlooked_why : (acts : List Act) (f : SearchError) (d : Error) → LacksIt acts after.world (Ok e) → AnswersSearch (λ r. FallsBack after.world c.config location.working_directory r) (Err f) → d ≡ error_of_search f → OrMemory (λ x. TriesIt acts last.world (Err x)) d
        unlooked_why acts f d at (inl wants) from = inl (from ∙ ap (λ g. error_of_search g) wants)
        unlooked_why acts f d at (inr falls) from =
            inr (subst (λ w. TriesBehind c location before.world acts w q (Err d)) (sym world) (TriesBehind.refused e f at.0 at.1 sets falls (ap (λ (x : Error). let into : Result Reply Error = Err x in into) from)))

        -- the search for it is refused
        pub behind_unlooked : (f : SearchError) (d : Error) → AnswersSearch (λ r. FallsBack after.world c.config location.working_directory r) (Err f) → d ≡ error_of_search f → last.entries ≡ after.entries ++ search_entries f → PerformsBehind c location q before last kept kept (Err d)
        behind_unlooked f d falls from grew =
            performs_looking LacksIt TriesIt BeginsTrying BeginsTrying before after last kept kept e (Err d) lacks_part world
            (entries_of d, grew ∙ ap (λ es. after.entries ++ es) (sym (ap (λ x. entries_of x) from ∙ same_entries f (next_error after.world c.config location.working_directory f falls))), ([], tt, refl)) (λ acts at. unlooked_why acts f d at falls from) begins_last

        -- it is asked
        module _ (next : Location) (falls : FallsBack after.world c.config location.working_directory (Ok (Some next))) (same : last.entries ≡ after.entries ++ []) where
          abbrev FallsIt : List Act → Option World → Result Location Error → Type 0
          FallsIt acts now (Ok l) = (x : Error) × RepliesIt acts now (Err x) × (is_lacking x ≡ true) × FallsBack now c.config location.working_directory (Ok (Some l))
          FallsIt acts now (Err x) = ⊥

          fell : Performs FallsIt BeginsTrying before last kept kept (Ok next)
          fell =
              performs_looking LacksIt FallsIt BeginsTrying BeginsTrying before after last kept kept e (Ok next) lacks_part world ([], same, tt) (λ acts at. subst (λ w. FallsIt acts w (Ok next)) (sym world) (e, at.0, at.1, falls)) begins_last

          abbrev FromNext : List Act → Option World → Result Reply Error → Type 0
          FromNext acts now r = TriesFrom c last.world acts now next r

          abbrev BeginsNext : List Act → Option World → Type 0
          BeginsNext acts now = BeginsFrom c last.world acts now next

          fallen : (final : Moment) (acts more_acts : List Act) (r : Result Reply Error) → FallsIt acts last.world (Ok next) → FromNext more_acts final.world r → TriesIt (acts ++ more_acts) final.world r
          fallen final acts more_acts r (x, replies, lack, back) tries = TriesBehind.falls x acts more_acts last.world next replies lack sets back (first_of_climb c last.world more_acts final.world next r tries) refl

          all_fallen : (final : Moment) (acts more_acts : List Act) (r : Result Reply Error) → FallsIt acts last.world (Ok next) → Answers (FromNext more_acts final.world) r → Answers (TriesIt (acts ++ more_acts) final.world) r
          all_fallen final acts more_acts (Ok o) at tries = fallen final acts more_acts (Ok o) at tries
          all_fallen final acts more_acts (Err x) at (inl wants) = inl wants
          all_fallen final acts more_acts (Err x) at (inr tries) = inr (fallen final acts more_acts (Err x) at tries)

          begun_next : (final : Moment) (acts more_acts : List Act) → FallsIt acts last.world (Ok next) → BeginsNext more_acts final.world → BeginsTrying (acts ++ more_acts) final.world
          begun_next final acts more_acts (x, replies, lack, back) begins = BeginsTriesBehind.at_next x acts more_acts last.world next replies lack sets back begins refl

          pub behind_next : (final : Moment) (keeps : List (List ℕ)) (r : Result Reply Error) → PerformsFrom c next last final kept keeps r → PerformsBehind c location q before final kept keeps r
          behind_next final keeps r tries =
              performs_then FallsIt FromNext TriesIt BeginsTrying BeginsNext BeginsTrying before last final kept kept keeps next r fell tries (λ acts more_acts at from. all_fallen final acts more_acts r at from) (λ acts more_acts at begins. begun_next final acts more_acts at begins)

-- ---- names that may be missing

module _ (c : ConfigRequest) (location : Location) (q : LaidRequest) (before after : Moment) (kept keeps : List (List ℕ)) where
  abbrev BehindIt : List Act → Option World → Result Reply Error → Type 0
  BehindIt acts later r = TriesBehind c location before.world acts later q r

  abbrev BeginsBehindIt : List Act → Option World → Type 0
  BeginsBehindIt acts later = BeginsTriesBehind c location before.world acts later q

  abbrev AllowedIt : List Act → Option World → Result Reply Error → Type 0
  AllowedIt acts later x = (y : Result Reply Error) × TriesBehind c location before.world acts later q y × (x ≡ allowed c.config y)

  pub allowed_planned : (o : Reply) → PerformsBehind c location q before after kept keeps (Ok o) → PerformsAllowed c location q before after kept keeps (Ok o)
  allowed_planned o p = performs_as BehindIt AllowedIt BeginsBehindIt BeginsBehindIt before after kept keeps o o p (λ acts tries. (Ok o, tries, refl)) (λ acts b. b)

  module _ (e : Error) (may : Bool) (is : may ≡ (c.config.allow_missing && is_missing e)) (p : PerformsBehind c location q before after kept keeps (Err e)) where
    allowed_so : (acts : List Act) → may ≡ true → (o : Reply) → o ≡ Reply.runs (empty_outline c.config) → OrMemory (λ x. BehindIt acts after.world (Err x)) e → AllowedIt acts after.world (Ok o)
    allowed_so acts so o nothing (inl wants) = absurd (memory_there e wants (and_true c.config.allow_missing (is_missing e) (sym is ∙ so)).1)
    allowed_so acts so o nothing (inr tries) = (Err e, tries, ap (λ x. Ok x) nothing ∙ ap (λ b. if b then Ok (Reply.runs (empty_outline c.config)) else Err e) (sym so ∙ is))

    pub behind_allowed : may ≡ true → (o : Reply) → o ≡ Reply.runs (empty_outline c.config) → PerformsAllowed c location q before after kept keeps (Ok o)
    behind_allowed so o nothing =
        let missing : is_missing e ≡ true = (and_true c.config.allow_missing (is_missing e) (sym is ∙ so)).1 in
        performs_instead BehindIt AllowedIt BeginsBehindIt BeginsBehindIt before after kept keeps e o (λ parent. missing_in parent e missing) (missing_captured e missing) p (λ acts tries. allowed_so acts so o nothing tries) (λ acts b. b)

    refused_so : (acts : List Act) → may ≡ false → OrMemory (λ x. BehindIt acts after.world (Err x)) e → OrMemory (λ x. AllowedIt acts after.world (Err x)) e
    refused_so acts stays (inl wants) = inl wants
    refused_so acts stays (inr tries) = inr (Err e, tries, ap (λ b. if b then Ok (Reply.runs (empty_outline c.config)) else Err e) (sym stays ∙ is))

    pub behind_disallowed : may ≡ false → PerformsAllowed c location q before after kept keeps (Err e)
    behind_disallowed stays = performs_lost BehindIt AllowedIt BeginsBehindIt BeginsBehindIt before after kept keeps e p (λ acts tries. refused_so acts stays tries) (λ acts b. b)

-- ---- the run of words

-- the words change nothing of what is allowed
pub same_allowed : (c : Config) (words : List (List ℕ)) (x : Result Reply Error) → allowed (with_words c words) x ≡ allowed c x
same_allowed c words (Ok o) = refl
same_allowed c words (Err e) = refl

module _ (q : LocatedRequest) (p : LaidRequest) (before : Moment) (kept : List (List ℕ)) where
  abbrev RunsIt : List (List ℕ) → List Act → Option World → Result (Option Reply) Error → Type 0
  RunsIt words acts later r = RunsWords q p before.world acts later words r

  abbrev BeginsRun : List (List ℕ) → List Act → Option World → Type 0
  BeginsRun words acts later = BeginsWords q p before.world acts later words

  -- there are none
  pub no_words : (words : List (List ℕ)) → is_any words ≡ false → PerformsWords q p words before before kept kept (Ok None)
  no_words [] none = performs_answer (RunsIt []) (BeginsRun []) before before kept refl (refl, refl) None ([], sym (append-nil before.entries), tt) (refl, refl, refl)
  no_words (w ∷ ws) none = absurd (let no : ⊥ = cc in no)

  -- memory is wanting for them
  pub words_short : (words : List (List ℕ)) → is_any words ≡ true → PerformsWords q p words before before kept kept (Err error.NoMemory)
  words_short [] some = absurd (let no : ⊥ = cc in no)
  words_short (w ∷ ws) some =
      performs_refusal (RunsIt (w ∷ ws)) (BeginsRun (w ∷ ws)) before before kept refl (BeginsTriesBehind.at_first ([], refl, refl, BeginsModules.nothing_more before.world _)) error.NoMemory (left_nothing before.entries error.NoMemory refl) (inl refl)

  -- they are those of a run
  module _ (after : Moment) (keeps : List (List ℕ)) (w : List ℕ) (ws : List (List ℕ)) where
    abbrev AllowsIt : List Act → Option World → Result Reply Error → Type 0
    AllowsIt acts later x = AllowedIt (request_for q (w ∷ ws)) q.location (project_for p (w ∷ ws)) before after kept keeps acts later x

    abbrev BeginsAllowed : List Act → Option World → Type 0
    BeginsAllowed acts later = BeginsBehindIt (request_for q (w ∷ ws)) q.location (project_for p (w ∷ ws)) before after kept keeps acts later

    runs_so : (acts : List Act) (x : Result Reply Error) → AllowsIt acts after.world x → RunsIt (w ∷ ws) acts after.world (as_some x)
    runs_so acts x (y, tries, is) = (y, tries, ap (λ z. as_some z) (is ∙ same_allowed q.config (w ∷ ws) y))

    or_runs : (acts : List Act) (e : Error) → OrMemory (λ x. AllowsIt acts after.world (Err x)) e → OrMemory (λ x. RunsIt (w ∷ ws) acts after.world (Err x)) e
    or_runs acts e (inl wants) = inl wants
    or_runs acts e (inr allows) = inr (runs_so acts (Err e) allows)

  pub words_replied : (after : Moment) (keeps words : List (List ℕ)) → is_any words ≡ true → (x : Reply) → PerformsAllowed (request_for q words) q.location (project_for p words) before after kept keeps (Ok x) → PerformsWords q p words before after kept keeps (Ok (Some x))
  words_replied after keeps [] some x allows = absurd (let no : ⊥ = cc in no)
  words_replied after keeps (w ∷ ws) some x allows =
      performs_as (AllowsIt after keeps w ws) (RunsIt (w ∷ ws)) (BeginsAllowed after keeps w ws) (BeginsRun (w ∷ ws)) before after kept keeps x (Some x) allows (λ acts so. runs_so after keeps w ws acts (Ok x) so) (λ acts b. b)

  pub words_refused : (after : Moment) (keeps words : List (List ℕ)) → is_any words ≡ true → (e : Error) → PerformsAllowed (request_for q words) q.location (project_for p words) before after kept keeps (Err e) → PerformsWords q p words before after kept keeps (Err e)
  words_refused after keeps [] some e allows = absurd (let no : ⊥ = cc in no)
  words_refused after keeps (w ∷ ws) some e allows =
      performs_lost (AllowsIt after keeps w ws) (RunsIt (w ∷ ws)) (BeginsAllowed after keeps w ws) (BeginsRun (w ∷ ws)) before after kept keeps e allows (λ acts why. or_runs after keeps w ws acts e why) (λ acts b. b)

-- ---- from the place on

module _ (q : LocatedRequest) (before : Moment) (kept : List (List ℕ)) where
  abbrev FindsIt : List Act → Option World → Result LaidRequest Error → Type 0
  FindsIt acts world r = FindsProjectAt before.world acts world q r

  abbrev BeginsFinding : List Act → Option World → Type 0
  BeginsFinding acts world = BeginsProject before.world acts world q

  abbrev ChoosesHere : List Act → Option World → Result (Option Reply) Error → Type 0
  ChoosesHere acts world r = ChoosesAt before.world acts world q r

  abbrev BeginsHere : List Act → Option World → Type 0
  BeginsHere acts world = BeginsChoosesAt before.world acts world q

  or_lost : (acts : List Act) (after : Option World) (e : Error) → OrMemory (λ x. FindsIt acts after (Err x)) e → OrMemory (λ x. ChoosesHere acts after (Err x)) e
  or_lost acts after e (inl wants) = inl wants
  or_lost acts after e (inr lost) = inr (Behind.refused e lost refl)

  -- there is no project
  pub choices_lost : (after : Moment) (keeps : List (List ℕ)) (e : Error) → PerformsProject q before after kept keeps (Err e) → PerformsChoices q before after kept keeps (Err e)
  choices_lost after keeps e p = performs_lost FindsIt ChoosesHere BeginsFinding BeginsHere before after kept keeps e p (λ acts why. or_lost acts after.world e why) (λ acts b. BeginsBehind.at_first b)

  module _ (between : Moment) (keeps : List (List ℕ)) (p : LaidRequest) (found : PerformsProject q before between kept keeps (Ok p)) where
    abbrev ChoosesOf : List Act → Option World → Result (Option Reply) Error → Type 0
    ChoosesOf acts world r = ChoosesFor q between.world acts world p r

    abbrev BeginsOf : List Act → Option World → Type 0
    BeginsOf acts world = BeginsChoosesFor q between.world acts world p

    all_of : (after : Moment) (acts more : List Act) (r : Result (Option Reply) Error) → FindsIt acts between.world (Ok p) → Answers (ChoosesOf more after.world) r → Answers (ChoosesHere (acts ++ more) after.world) r
    all_of after acts more (Ok x) finds chooses = Behind.both p acts more between.world finds chooses refl
    all_of after acts more (Err e) finds (inl wants) = inl wants
    all_of after acts more (Err e) finds (inr chooses) = inr (Behind.both p acts more between.world finds chooses refl)

    behind_project : (after : Moment) (ends : List (List ℕ)) (r : Result (Option Reply) Error) → Performs ChoosesOf BeginsOf between after keeps ends r → PerformsChoices q before after kept ends r
    behind_project after ends r part =
        performs_then FindsIt ChoosesOf ChoosesHere BeginsFinding BeginsOf BeginsHere before between after kept keeps ends p r found part (λ acts more finds chooses. all_of after acts more r finds chooses)
        (λ acts more finds begins. BeginsBehind.at_second p acts more between.world finds begins refl)

    -- no words are chosen
    or_unchosen : (acts : List Act) (after : Option World) (e : Error) → OrMemory (λ x. Chooses q.config between.world acts after p (Err x)) e → OrMemory (λ x. ChoosesOf acts after (Err x)) e
    or_unchosen acts after e (inl wants) = inl wants
    or_unchosen acts after e (inr lost) = inr (Behind.refused e lost refl)

    pub choices_unchosen : (after : Moment) (e : Error) → PerformsChoosing q.config p between after (Err e) → PerformsChoices q before after kept keeps (Err e)
    choices_unchosen after e chosen =
        behind_project after keeps (Err e)
        (performs_lost (ChoosesIt q.config p between) ChoosesOf (BeginsChoosing q.config p between) BeginsOf between after keeps keeps e (performs_behind (ChoosesIt q.config p between) (BeginsChoosing q.config p between) between after keeps (Err e) chosen)
        (λ acts why. or_unchosen acts after.world e why) (λ acts b. BeginsBehind.at_first b))

    -- the words are run
    module _ (middle : Moment) (words : List (List ℕ)) (chosen : PerformsChoosing q.config p between middle (Ok words)) where
      all_run : (after : Moment) (acts more : List Act) (r : Result (Option Reply) Error) → ChoosesIt q.config p between acts middle.world (Ok words) → Answers (RunsWords q p middle.world more after.world words) r → Answers (ChoosesOf (acts ++ more) after.world) r
      all_run after acts more (Ok x) chooses runs = Behind.both words acts more middle.world chooses runs refl
      all_run after acts more (Err e) chooses (inl wants) = inl wants
      all_run after acts more (Err e) chooses (inr runs) = inr (Behind.both words acts more middle.world chooses runs refl)

      pub choices_run : (after : Moment) (ends : List (List ℕ)) (r : Result (Option Reply) Error) → PerformsWords q p words middle after keeps ends r → PerformsChoices q before after kept ends r
      choices_run after ends r runs =
          behind_project after ends r
          (performs_then (ChoosesIt q.config p between) (RunsIt q p middle keeps words) ChoosesOf (BeginsChoosing q.config p between) (BeginsRun q p middle keeps words) BeginsOf between middle after keeps keeps ends words r
          (performs_behind (ChoosesIt q.config p between) (BeginsChoosing q.config p between) between middle keeps (Ok words) chosen) runs (λ acts more chooses so. all_run after acts more r chooses so)
          (λ acts more chooses begins. BeginsBehind.at_second words acts more middle.world chooses begins refl))
