-- What words that are chosen ask for behind a project is what a run of those words asks for.
use Rattle.std.proofs.Common.{◌≡◌, ◌++◌, ℕ, Bool, true, List, [], ◌∷◌, Option, Some, None, Result, Ok, Err, refl, sym, ◌∙◌, ap, subst, append_assoc}
use Rattle.std.specs.Prelude.{◌||◌}
use Rattle.just_host_record.specs.World.{World}
use Rattle.just_lang_types.specs.Modules.{AreModules}
use Rattle.just_lang.specs.Assembled.{IsJustfileOfSources}
use Rattle.just_config_words.specs.declared.subcommand.Subcommand.{Subcommand}
use Rattle.just_config_words.specs.declared.subcommand.Subcommand.TheVariants as command
use Rattle.just_config.specs.declared.config.Config.{Config}
use Rattle.just_exec.specs.declared.error.Error.{Error}
use Rattle.just_cli_plan.specs.Features.{unstable_feature}
use Rattle.just_cli_plan.specs.Request.{SourcesRequest, ProjectRequest, FindsProject}
use Rattle.just_cli_plan.specs.Steps.{stops, goes_on}
use Rattle.just_cli_plan.specs.declared.wanted.Wanted.{Wanted}
use Rattle.just_cli_plan.proofs.Steps.{refused_or_found}
use Rattle.just_cli_texts.specs.Laid.{LaidRequest, project_with, FindsLaid}
use Rattle.just_cli_children.specs.Configs.{is_summary, dotenv_of, flags_of, wanted_of, with_words, wanted_with}
use Rattle.just_cli.specs.Acts.{Act, Behind}
use Rattle.just_cli.specs.Asked.{as_choice, as_reply}
use Rattle.just_cli.specs.ChosenRuns.{ChoicesAreRuns}
use Rattle.just_cli.specs.Choosing.{project_for, request_for, falls_from, TriesBehind, as_some}
use Rattle.just_cli.specs.Options.{allowed}
use Rattle.just_cli.specs.Replies.{Reply}
use Rattle.just_cli.specs.Request.{LoadsSources, FindsProjectOf, FindsProjectAt, RepliesTo, AnswersAt, at_place}
use Rattle.just_cli.specs.Taken.{TriesFrom}
use Rattle.just_cli.specs.Words.{ConfigRequest, LocatedRequest, JustfileRequest, TakesFile}
use Rattle.just_cli.proofs.Choices.{same_allowed}
use Rattle.just_cli.proofs.Climbing.{climb_of_first, first_of_climb}

-- ---- the project is found by a run of these words too

module _ (words : List (List ℕ)) where
  abbrev file_for : JustfileRequest → JustfileRequest
  file_for j = record { wanted = wanted_with j.wanted words; environ = j.environ; justfile = j.justfile }

  abbrev sources_for : SourcesRequest → SourcesRequest
  sources_for s = record { wanted = wanted_with s.wanted words; environ = s.environ; sources = s.sources }

  -- the words change nothing else of what is asked
  wanted_same : (c : Config) (named : List (List ℕ)) (folder cache : List ℕ) → c.subcommand ≡ Some (command.Choose named) → wanted_with (wanted_of c folder cache) words ≡ wanted_of (with_words c words) folder cache
  wanted_same c named folder cache is =
      ap
      (λ (b : Bool).
      let z : Wanted = record { words = words; overrides = c.overrides; one = c.one; no_deps = c.no_deps; dotenv = dotenv_of c; unstable = b; jobs = c.jobs; cache_folder = cache; flags = flags_of c folder } in z)
      (ap (λ (s : Option Subcommand). c.unstable || is_summary s) is)

  takes_too : (told after : Option World) (acts : List Act) (q : LocatedRequest) (named : List (List ℕ)) (j : JustfileRequest) → q.config.subcommand ≡ Some (command.Choose named) → TakesFile told acts after q (Ok j)
      → TakesFile told acts after (at_place (request_for q words) q.location) (Ok (file_for j))
  takes_too told after acts q named j is (folders, s, made, materializes, path, wanted, environ) =
      (folders, s, made, materializes, path, ap (λ (w : Wanted). wanted_with w words) wanted ∙ wanted_same q.config named s.working_directory _ is, environ)

  loads_too : (told : Option World) (j : JustfileRequest) (s : SourcesRequest) → LoadsSources told j (Ok s) → LoadsSources told (file_for j) (Ok (sources_for s))
  loads_too told j s (wanted, environ, loads) = (ap (λ (w : Wanted). wanted_with w words) wanted, environ, loads)

  project_too : (s : SourcesRequest) (p : LaidRequest) (k : ProjectRequest) → (p.wanted ≡ s.wanted) → (p.environ ≡ s.environ) → FindsProject s (Ok k) → (k ≡ project_with p k.modules) → FindsProject (sources_for s) (Ok (project_with (project_for p words) k.modules))
  project_too s p k wanted environ (stops e lost is) same = absurd (refused_or_found e k (sym is))
  project_too s p k wanted environ (goes_on z assembles checks) same =
      let here : project_with p k.modules ≡ z = sym same ∙ checks.1 in
      goes_on (project_with (project_for p words) k.modules) (
        ap (λ (w : Wanted). wanted_with w words) wanted,
        environ,
        subst (λ (y : ProjectRequest). IsJustfileOfSources s.sources s.environ.pairs y.justfile) (sym here) assembles.2,
        subst (λ (y : ProjectRequest). AreModules (y.justfile ∷ []) y.modules) (sym here) assembles.3,
      ) (subst (λ (y : ProjectRequest). unstable_feature y.wanted.unstable y.modules ≡ None) (sym here) checks.0, refl)

  laid_too : (s : SourcesRequest) (p : LaidRequest) → FindsLaid s (Ok p) → FindsLaid (sources_for s) (Ok (project_for p words))
  laid_too s p (wanted, environ, laid, (modules, project)) = (ap (λ (w : Wanted). wanted_with w words) wanted, environ, laid, (modules, project_too s p (project_with p modules) wanted environ project refl))

  of_too : (told : Option World) (j : JustfileRequest) (p : LaidRequest) → FindsProjectOf told j (Ok p) → FindsProjectOf told (file_for j) (Ok (project_for p words))
  of_too told j p (stops e lost is) = absurd (refused_or_found e p (sym is))
  of_too told j p (goes_on s loads finds) = goes_on (sources_for s) (loads_too told j s loads) (laid_too s p finds)

  finds_too : (told after : Option World) (acts : List Act) (q : LocatedRequest) (named : List (List ℕ)) (p : LaidRequest) → q.config.subcommand ≡ Some (command.Choose named) → FindsProjectAt told acts after q (Ok p)
      → FindsProjectAt told acts after (at_place (request_for q words) q.location) (Ok (project_for p words))
  finds_too told after acts q named p choose (Behind.refused e takes is) = absurd (refused_or_found e p (sym is))
  finds_too told after acts q named p choose (Behind.both j front rest between takes (none, still, finds) split) =
      Behind.both (file_for j) front rest between (takes_too told between front q named j choose takes) (none, still, of_too between j p finds) split

-- ---- and so is what it answers

module _ (q : LocatedRequest) (p : LaidRequest) (words : List (List ℕ)) (told between after : Option World) (front : List Act) (finds : FindsProjectAt told front between (at_place (request_for q words) q.location) (Ok (project_for p words))) where
  abbrev asked : ConfigRequest
  asked = request_for q words

  answers_so : (rest : List Act) (later : Option World) (x : Result Reply Error) (fallback : Bool) → fallback ≡ falls_from p → RepliesTo asked.config between rest later (project_for p words) x → AnswersAt told (front ++ rest) later (at_place asked q.location) x fallback
  answers_so rest later x fallback is replies = AnswersAt.of_project (project_for p words) front rest between finds replies refl is

  tries_so : (rest : List Act) (x : Result Reply Error) → TriesBehind asked q.location between rest after (project_for p words) x → TriesFrom asked told (front ++ rest) after q.location x
  tries_so rest x (TriesBehind.stands replies stays) = TriesFrom.stands told after (front ++ rest) q.location x (falls_from p) (answers_so rest after x (falls_from p) refl replies) stays
  tries_so rest x (TriesBehind.highest e replies lack sets falls is) =
      subst (λ y. TriesFrom asked told (front ++ rest) after q.location y) (sym is) (TriesFrom.highest told after (front ++ rest) q.location e (answers_so rest after (Err e) true (sym sets) replies) lack falls)
  tries_so rest x (TriesBehind.refused e f replies lack sets falls is) =
      subst (λ y. TriesFrom asked told (front ++ rest) after q.location y) (sym is) (TriesFrom.refused told after (front ++ rest) q.location e f (answers_so rest after (Err e) true (sym sets) replies) lack falls)
  tries_so rest x (TriesBehind.falls e fore hind middle next replies lack sets falls more cut) =
      TriesFrom.falls told middle after (front ++ rest) (front ++ fore) hind q.location next e x (answers_so fore middle (Err e) true (sym sets) replies) lack falls (climb_of_first asked middle hind after next x more)
      (ap (λ l. front ++ l) cut ∙ sym (append_assoc front fore hind))

-- an answer that there is asks for what it is
choice_is_reply : (dry : Bool) (x : Result Reply Error) → as_choice dry (as_some x) ≡ as_reply dry x
choice_is_reply dry (Ok o) = refl
choice_is_reply dry (Err e) = refl

pub choices_are_runs : ChoicesAreRuns
choices_are_runs q p named [] told between after front rest r choose some finds runs = absurd (let no : ⊥ = cc in no)
choices_are_runs q p named (w ∷ ws) told between after front rest r choose some finds (x, tries, is) =
    let words : List (List ℕ) = w ∷ ws in
    let from = tries_so q p words told between after front (finds_too words told between front q named p choose finds) rest x tries in
    let first = first_of_climb (request_for q words) told (front ++ rest) after q.location x from in
    (allowed q.config x, (x, first, sym (same_allowed q.config words x)), ap (λ y. as_choice q.config.dry_run y) is ∙ choice_is_reply q.config.dry_run (allowed q.config x))
