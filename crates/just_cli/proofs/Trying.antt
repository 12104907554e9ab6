-- The justfiles that are tried one behind the other, as parts of a preparation, from what is asked of each.
use Rattle.std.proofs.Common.{◌≡◌, ◌++◌, inl, inr, ℕ, Bool, true, false, true≢false, List, [], ◌∷◌, Option, Some, None, Result, Ok, Err, MatchOption, refl, sym, ◌∙◌, ap, subst, append_assoc, append-nil}
use Rattle.std.specs.Prelude.{◌&&◌, if◌then◌else◌}
use Rattle.just_host_record.specs.World.{World, Moment}
use Rattle.just_env.specs.declared.search_error.SearchError.{SearchError}
use Rattle.just_env.specs.Answers.{Answers as AnswersSearch, entries_of as search_entries}
use Rattle.just_search.specs.declared.location.Location.{Location}
use Rattle.just_search.specs.Fallback.{FallsBack}
use Rattle.just_exec.specs.Refusals.{error_of_search}
use Rattle.just_exec.specs.declared.error.Error.{Error}
use Rattle.just_exec.specs.declared.error.Error.TheVariants as error
use Rattle.just_cli_plan.specs.Own.{OrMemory, is_uncaptured}
use Rattle.just_cli.specs.Replies.{Reply}
use Rattle.just_cli.specs.Acts.{Act}
use Rattle.just_cli_plan.specs.Pairs.{entries_of as entries_in}
use Rattle.just_cli_children.specs.Faults.{entries_of}
use Rattle.just_cli.specs.Options.{is_lacking, is_missing, empty_outline}
use Rattle.just_cli.specs.Preparing.{Answers, Performs}
use Rattle.just_cli.specs.Words.{ConfigRequest, LocatedRequest}
use Rattle.just_cli.specs.Request.{AnswersAt, at_place, Tried, StandsBehind, acts_of, IsFirstAnswer, Tries, BeginsAt, BeginsFrom, BeginsTries}
use Rattle.just_cli.specs.Taken.{TriesFrom, PerformsFrom, FallsTo, FallsOn, PerformsFall, PerformsTries}
use Rattle.just_cli.proofs.Climbing.{first_of_climb}
use Rattle.just_cli.proofs.Loading.{same_entries}
use Rattle.just_cli.proofs.PlainSearch.{next_error}
use Rattle.just_cli.proofs.Planless.{lacking_silent}
use Rattle.just_cli.proofs.Prepared.{performs_as, performs_lost, performs_instead, performs_looking, performs_then, performs_answer}

-- want of memory lacks nothing, and names nothing that may be missing
pub memory_lacks : (e : Error) → e ≡ error.NoMemory → is_lacking e ≡ true → ⊥
memory_lacks e wants lack = true≢false (sym lack ∙ ap (λ x. is_lacking x) wants)

pub memory_there : (e : Error) → e ≡ error.NoMemory → is_missing e ≡ true → ⊥
memory_there e wants missing = true≢false (sym missing ∙ ap (λ x. is_missing x) wants)

pub and_false : (fallback lack : Bool) → (fallback && lack) ≡ false → (lack && fallback) ≡ false
and_false true true stays = stays
and_false true false stays = refl
and_false false true stays = refl
and_false false false stays = refl

pub and_true : (fallback lack : Bool) → (fallback && lack) ≡ true → (fallback ≡ true) × (lack ≡ true)
and_true true true is = (refl, refl)
and_true true false is = absurd (cc)
and_true false lack is = absurd (cc)

-- names that are missing are told of no call
pub lacking_in : (parent : List ℕ) (e : Error) → is_lacking e ≡ true → entries_in parent e ≡ []
lacking_in parent (error.UnknownRecipe recipe) is = refl
lacking_in parent (error.UnknownSubmodule path) is = refl
lacking_in parent _ is = absurd (cc)

pub missing_in : (parent : List ℕ) (e : Error) → is_missing e ≡ true → entries_in parent e ≡ []
missing_in parent (error.UnknownRecipe recipe) is = refl
missing_in parent (error.UnknownSubmodule path) is = refl
missing_in parent (error.ModuleAbsent m) is = refl
missing_in parent _ is = absurd (cc)

-- nor of a child that wasn't run to its end
pub lacking_captured : (e : Error) → is_lacking e ≡ true → is_uncaptured e ≡ false
lacking_captured (error.UnknownRecipe recipe) is = refl
lacking_captured (error.UnknownSubmodule path) is = refl
lacking_captured _ is = absurd (cc)

pub missing_captured : (e : Error) → is_missing e ≡ true → is_uncaptured e ≡ false
missing_captured (error.UnknownRecipe recipe) is = refl
missing_captured (error.UnknownSubmodule path) is = refl
missing_captured (error.ModuleAbsent m) is = refl
missing_captured _ is = absurd (cc)

module _ (c : ConfigRequest) (location : Location) (before : Moment) (kept : List (List ℕ)) where
  abbrev AsksIt : Bool → List Act → Option World → Result Reply Error → Type 0
  AsksIt fallback acts world r = AnswersAt before.world acts world (at_place c location) r fallback

  abbrev From : List Act → Option World → Result Reply Error → Type 0
  From acts world r = TriesFrom c before.world acts world location r

  -- what was begun of it, and from it on
  abbrev BeginsIt : List Act → Option World → Type 0
  BeginsIt acts world = BeginsAt before.world acts world (at_place c location)

  abbrev Begins : List Act → Option World → Type 0
  Begins acts world = BeginsFrom c before.world acts world location

  from_it : (world : Option World) (acts : List Act) → BeginsIt acts world → Begins acts world
  from_it world acts begins = ([], acts, begins, refl)

  -- ---- its answer stands

  pub stands_planned : (after : Moment) (keeps : List (List ℕ)) (fallback : Bool) (o : Reply) → Performs (AsksIt fallback) BeginsIt before after kept keeps (Ok o) → PerformsFrom c location before after kept keeps (Ok o)
  stands_planned after keeps fallback o p = performs_as (AsksIt fallback) From BeginsIt Begins before after kept keeps o o p (λ acts at. TriesFrom.stands before.world after.world acts location (Ok o) fallback at refl) (from_it after.world)

  module _ (after : Moment) (keeps : List (List ℕ)) (fallback may : Bool) (e : Error) (is : may ≡ (fallback && is_lacking e)) (p : Performs (AsksIt fallback) BeginsIt before after kept keeps (Err e)) where
    stays_so : (acts : List Act) → may ≡ false → OrMemory (λ x. AsksIt fallback acts after.world (Err x)) e → OrMemory (λ x. From acts after.world (Err x)) e
    stays_so acts stays (inl wants) = inl wants
    stays_so acts stays (inr at) = inr (TriesFrom.stands before.world after.world acts location (Err e) fallback at (and_false fallback (is_lacking e) (sym is ∙ stays)))

    pub stands_refused : may ≡ false → PerformsFrom c location before after kept keeps (Err e)
    stands_refused stays = performs_lost (AsksIt fallback) From BeginsIt Begins before after kept keeps e p (λ acts why. stays_so acts stays why) (from_it after.world)

    -- ---- another one is looked for behind it

    module _ (more : may ≡ true) where
      sets : fallback ≡ true
      sets = (and_true fallback (is_lacking e) (sym is ∙ more)).0

      lacked : is_lacking e ≡ true
      lacked = (and_true fallback (is_lacking e) (sym is ∙ more)).1

      -- it sets fallback, and lacks what is asked for
      abbrev LacksIt : List Act → Option World → Result Error Error → Type 0
      LacksIt acts world (Ok x) = AsksIt true acts world (Err x) × (is_lacking x ≡ true)
      LacksIt acts world (Err x) = ⊥

      lacks_so : (acts : List Act) → OrMemory (λ x. AsksIt fallback acts after.world (Err x)) e → LacksIt acts after.world (Ok e)
      lacks_so acts (inl wants) = absurd (memory_lacks e wants lacked)
      lacks_so acts (inr at) = (subst (λ b. AnswersAt before.world acts after.world (at_place c location) (Err e) b) sets at, lacked)

      lacks_part : Performs LacksIt Begins before after kept keeps (Ok e)
      lacks_part = performs_instead (AsksIt fallback) LacksIt BeginsIt Begins before after kept keeps e e (λ parent. lacking_in parent e lacked) (lacking_captured e lacked) p lacks_so (from_it after.world)

      module _ (last : Moment) (world : last.world ≡ after.world) where
        begins_last : (acts : List Act) → Begins acts after.world → Begins acts last.world
        begins_last acts begins = subst (λ w. BeginsFrom c before.world acts w location) (sym world) begins

        -- no other is found, or one is
        pub looked : (next : Option Location) → FallsBack after.world c.config location.working_directory (Ok next) → last.entries ≡ after.entries ++ []
            → MatchOption next (PerformsFrom c location before last kept keeps (Err e)) (λ l. PerformsFall c location before last kept keeps l)
        looked None falls same =
            performs_looking LacksIt From Begins Begins before after last kept keeps e (Err e) lacks_part world ([], same, ([], tt, sym (lacking_silent e lacked)))
            (λ acts at. inr (subst (λ w. TriesFrom c before.world acts w location (Err e)) (sym world) (TriesFrom.highest before.world after.world acts location e at.0 at.1 falls))) begins_last
        looked (Some next) falls same =
            performs_looking LacksIt (FallsOn c location before.world) Begins Begins before after last kept keeps e (Ok next) lacks_part world ([], same, tt)
            (λ acts at. subst (λ w. FallsTo c location before.world acts w next) (sym world) (e, at.0, at.1, falls)) begins_last

        unlooked_why : (acts : List Act) (f : SearchError) (d : Error) → LacksIt acts after.world (Ok e) → AnswersSearch (λ r. FallsBack after.world c.config location.working_directory r) (Err f) → d ≡ error_of_search f → OrMemory (λ x. From acts last.world (Err x)) d
        unlooked_why acts f d at (inl wants) from = inl (from ∙ ap (λ g. error_of_search g) wants)
        unlooked_why acts f d at (inr falls) from =
            inr (subst (λ w. TriesFrom c before.world acts w location (Err d)) (sym world) (subst (λ x. TriesFrom c before.world acts after.world location (Err x)) (sym from) (TriesFrom.refused before.world after.world acts location e f at.0 at.1 falls)))

        -- the search for another is refused
        pub unlooked : (f : SearchError) (d : Error) → AnswersSearch (λ r. FallsBack after.world c.config location.working_directory r) (Err f) → d ≡ error_of_search f → last.entries ≡ after.entries ++ search_entries f
            → PerformsFrom c location before last kept keeps (Err d)
        unlooked f d falls from grew =
            performs_looking LacksIt From Begins Begins before after last kept keeps e (Err d) lacks_part world
            (entries_of d, grew ∙ ap (λ es. after.entries ++ es) (sym (ap (λ x. entries_of x) from ∙ same_entries f (next_error after.world c.config location.working_directory f falls))), ([], tt, refl)) (λ acts at. unlooked_why acts f d at falls from) begins_last

-- ---- from place to place

-- what is asked from this place on, behind these acts, is what is asked from the first place on; and so is what is begun from it on
abbrev pub Reaches : ConfigRequest → Location → Location → Option World → List Act → Option World → Result (Unit {0}) Error → Type 0
Reaches c location place told acts now (Ok x) =
    ((rest : List Act) (after : Option World) (r : Result Reply Error) → TriesFrom c now rest after place r → TriesFrom c told (acts ++ rest) after location r)
    × ((rest : List Act) (after : Option World) → BeginsFrom c now rest after place → BeginsFrom c told (acts ++ rest) after location)
Reaches c location place told acts now (Err e) = ⊥

-- nothing of it is told of what was begun
abbrev pub Anyhow : List Act → Option World → Type 0
Anyhow acts after = Unit {0}

pub reaches_itself : (c : ConfigRequest) (location : Location) (told : Moment) (kept : List (List ℕ)) → Performs (Reaches c location location told.world) Anyhow told told kept kept (Ok tt)
reaches_itself c location told kept =
    performs_answer (Reaches c location location told.world) Anyhow told told kept refl tt tt ([], sym (append-nil told.entries), tt) (λ rest after r tries. tries, λ rest after begins. begins)

-- the fall to that place
abbrev Fell : ConfigRequest → Location → Option World → Location → List Act → Option World → Result (Unit {0}) Error → Type 0
Fell c place between next acts later (Ok x) = FallsTo c place between acts later next
Fell c place between next acts later (Err e) = ⊥

-- what was begun from the next place on was begun from this one on
begins_behind : (c : ConfigRequest) (place next : Location) (between after : Option World) (more : List Act) → FallsTo c place between more after next
    → (rest : List Act) (later : Option World) → BeginsFrom c after rest later next → BeginsFrom c between (more ++ rest) later place
begins_behind c place next between after more (e, at, lack, falls) rest later (before, some, comes, split) =
    let one : Tried = record { item = Ok place; told = between; acts = more; after = after; answer = Err e; fallback = true } in (
      one ∷ before,
      some,
      ((refl, refl, at), lack, (Ok next, StandsBehind.found place (Ok (Some next)) refl refl falls refl, comes)),
      ap (λ l. more ++ l) split ∙ sym (append_assoc more (acts_of before) some),
    )

module _ (c : ConfigRequest) (location place : Location) (before between after : Moment) (kept keep keeps : List (List ℕ)) (p : Performs (Reaches c location place before.world) Anyhow before between kept keep (Ok tt)) where
  -- the answer
  answer_reached : (r : Result Reply Error) (acts more : List Act) → Reaches c location place before.world acts between.world (Ok tt) → Answers (λ x. TriesFrom c between.world more after.world place x) r → Answers (λ x. TriesFrom c before.world (acts ++ more) after.world location x) r
  answer_reached (Ok o) acts more reach tries = reach.0 more after.world (Ok o) tries
  answer_reached (Err e) acts more reach (inl wants) = inl wants
  answer_reached (Err e) acts more reach (inr tries) = inr (reach.0 more after.world (Err e) tries)

  pub reached : (r : Result Reply Error) → PerformsFrom c place between after keep keeps r → PerformsFrom c location before after kept keeps r
  reached r q =
      performs_then (Reaches c location place before.world) (λ acts later x. TriesFrom c between.world acts later place x) (λ acts later x. TriesFrom c before.world acts later location x) Anyhow (λ acts later. BeginsFrom c between.world acts later place)
      (λ acts later. BeginsFrom c before.world acts later location) before between after kept keep keeps tt r p q (λ acts more reach tries. answer_reached r acts more reach tries) (λ acts more reach begins. reach.1 more after.world begins)

  next_reached : (next : Location) (acts more : List Act) → Reaches c location place before.world acts between.world (Ok tt) → FallsTo c place between.world more after.world next → Reaches c location next before.world (acts ++ more) after.world (Ok tt)
  next_reached next acts more reach falls = (
    λ rest later r tries.
        subst (λ l. TriesFrom c before.world l later location r) (sym (append_assoc acts more rest)) (reach.0 (more ++ rest) later r (TriesFrom.falls between.world after.world later (more ++ rest) more rest place next falls.0 r falls.1 falls.2 falls.3 tries refl)),
    λ rest later begins. subst (λ l. BeginsFrom c before.world l later location) (sym (append_assoc acts more rest)) (reach.1 (more ++ rest) later (begins_behind c place next between.world after.world more falls rest later begins)),
  )

  -- the next place
  pub reaches_next : (next : Location) → PerformsFall c place between after keep keeps next → Performs (Reaches c location next before.world) Anyhow before after kept keeps (Ok tt)
  reaches_next next q =
      performs_then (Reaches c location place before.world) (Fell c place between.world next) (Reaches c location next before.world) Anyhow Anyhow Anyhow before between after kept keep keeps tt (Ok tt) p
      (performs_as (FallsOn c place between.world) (Fell c place between.world next) (λ acts later. BeginsFrom c between.world acts later place) Anyhow between after keep keeps next tt q (λ acts falls. falls) (λ acts b. tt))
      (λ acts more reach falls. next_reached next acts more reach falls) (λ acts more reach b. tt)

-- ---- names that may be missing

module _ (q : LocatedRequest) (before after : Moment) (kept keeps : List (List ℕ)) where
  abbrev FromPlace : List Act → Option World → Result Reply Error → Type 0
  FromPlace acts later r = TriesFrom (record { config = q.config; environ = q.environ }) before.world acts later q.location r

  abbrev BeginsPlace : List Act → Option World → Type 0
  BeginsPlace acts later = BeginsTries before.world acts later q

  abbrev TriesIt : List Act → Option World → Result Reply Error → Type 0
  TriesIt acts later r = Tries before.world acts later q r

  -- the answer of the climb is that of the first of those that are tried
  first : (acts : List Act) (r : Result Reply Error) → FromPlace acts after.world r → IsFirstAnswer (record { config = q.config; environ = q.environ }) before.world acts after.world q.location r
  first acts r from = first_of_climb (record { config = q.config; environ = q.environ }) before.world acts after.world q.location r from

  pub tries_planned : (o : Reply) → Performs FromPlace BeginsPlace before after kept keeps (Ok o) → PerformsTries q before after kept keeps (Ok o)
  tries_planned o p = performs_as FromPlace TriesIt BeginsPlace BeginsPlace before after kept keeps o o p (λ acts from. (Ok o, first acts (Ok o) from, refl)) (λ acts b. b)

  module _ (e : Error) (may : Bool) (is : may ≡ (q.config.allow_missing && is_missing e)) (p : Performs FromPlace BeginsPlace before after kept keeps (Err e)) where
    allowed_so : (acts : List Act) → may ≡ true → (o : Reply) → o ≡ Reply.runs (empty_outline q.config) → OrMemory (λ x. FromPlace acts after.world (Err x)) e → TriesIt acts after.world (Ok o)
    allowed_so acts so o nothing (inl wants) = absurd (memory_there e wants (and_true q.config.allow_missing (is_missing e) (sym is ∙ so)).1)
    allowed_so acts so o nothing (inr from) = (Err e, first acts (Err e) from, ap (λ x. Ok x) nothing ∙ ap (λ b. if b then Ok (Reply.runs (empty_outline q.config)) else Err e) (sym so ∙ is))

    pub tries_allowed : may ≡ true → (o : Reply) → o ≡ Reply.runs (empty_outline q.config) → PerformsTries q before after kept keeps (Ok o)
    tries_allowed so o nothing =
        let missing : is_missing e ≡ true = (and_true q.config.allow_missing (is_missing e) (sym is ∙ so)).1 in
        performs_instead FromPlace TriesIt BeginsPlace BeginsPlace before after kept keeps e o (λ parent. missing_in parent e missing) (missing_captured e missing) p (λ acts from. allowed_so acts so o nothing from) (λ acts b. b)

    refused_so : (acts : List Act) → may ≡ false → OrMemory (λ x. FromPlace acts after.world (Err x)) e → OrMemory (λ x. TriesIt acts after.world (Err x)) e
    refused_so acts stays (inl wants) = inl wants
    refused_so acts stays (inr from) = inr (Err e, first acts (Err e) from, ap (λ b. if b then Ok (Reply.runs (empty_outline q.config)) else Err e) (sym stays ∙ is))

    pub tries_refused : may ≡ false → PerformsTries q before after kept keeps (Err e)
    tries_refused stays = performs_lost FromPlace TriesIt BeginsPlace BeginsPlace before after kept keeps e p (λ acts from. refused_so acts stays from) (λ acts b. b)
