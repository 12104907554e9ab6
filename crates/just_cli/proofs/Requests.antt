-- Each step of a request gives one answer of its own at most, and so does the request.
use Rattle.std.proofs.Common.{◌≡◌, ℕ, Bool, true, false, true≢false, List, [], ◌∷◌, map, Option, Some, None, Result, Ok, Err, ◌++◌, refl, sym, ◌∙◌, ap, subst, append-nil}
use Rattle.just_path_text.specs.declared.environ.Environ.{Environ}
use Rattle.just_path.specs.declared.host.Miss.{Miss}
use Rattle.just_host_record.specs.World.{World}
use Rattle.just_host_record.specs.declared.entry.Call.{Call}
use Rattle.just_host_record.specs.declared.entry.Call.TheVariants as call
use Rattle.just_host_record.specs.declared.entry.HostFault.{HostFault}
use Rattle.just_host_record.specs.declared.entry.HostFault.TheVariants as fault
use Rattle.just_config_words.specs.declared.usage.Usage.{Usage}
use Rattle.just_config_words.specs.declared.words.Read.{Read}
use Rattle.just_config_words.specs.declared.words.Read.TheVariants as read
use Rattle.just_config_words.specs.Words.{IsSame}
use Rattle.just_config_words.proofs.Laws.{one_meaning}
use Rattle.just_exec.specs.declared.error.Error.{Error}
use Rattle.just_exec.specs.declared.error.Error.TheVariants as error
use Rattle.just_cli_plan.specs.Own.{is_fault, IsOwn}
use Rattle.just_env.specs.declared.search_error.SearchError.{SearchError}
use Rattle.just_search.specs.declared.search_result.Search.{Search}
use Rattle.just_search.specs.Files.{parent_of}
use Rattle.just_cli.specs.Acts.{Act, AreToldBehind, Looks, Behind}
use Rattle.just_cli.proofs.Acting.{Agrees, Agree, GivesOwnStep, looks_own, looks_agree, behind_agree, agrees_as, agrees_refusal, in_two, told_later, behind_own}
use Rattle.just_cli.proofs.OneFile.{materializes_one}
use Rattle.just_cli_children.specs.Faults.{CallGives, FaultFits, io_error, folder_error}
use Rattle.just_host_record.specs.declared.entry.Entry.{Entry}
use Rattle.just_config.specs.declared.config.Config.{Config}
use Rattle.just_env.specs.Answers.{entries_of}
use Rattle.just_search.specs.declared.location.Location.{Location}
use Rattle.just_cli_children.specs.Configs.{cache_beside, wanted_of}
use Rattle.just_cli.specs.Options.{allowed}
use Rattle.just_cli.specs.Words.{WordsRequest, ReadRequest, FolderRequest, ConfigRequest, LocatedRequest, JustfileRequest, FindsEnviron, ReadsWords, FindsFolder, Configures, FindsLocation, FindsJustfile, TakesFile}
use Rattle.just_exec.specs.Refusals.{error_of_search}
use Rattle.just_lang_types.specs.Modules.{settings_of, AreModules}
use Rattle.just_cli_plan.proofs.AgreeLaws.{loads_agree}
use Rattle.just_lang_types.specs.declared.project.Justfile.{Justfile}
use Rattle.just_lang_types.proofs.Nesting.{same_modules}
use Rattle.just_lang_layout.specs.declared.layout.Layout.{Layout}
use Rattle.just_lang.specs.Assembled.{IsSoundlyMadeOf}
use Rattle.just_lang.specs.Projects.{AreWins}
use Rattle.just_host_record.specs.World.{told_read}
use Rattle.just_env.specs.declared.search_error.SearchError.TheVariants as search_error
use Rattle.just_search.specs.declared.location.Origin.{Origin}
use Rattle.just_search_load.specs.Loads.{source_at}
use Rattle.just_search_load.specs.Shown.{ReadsText}
use Rattle.just_cli_plan.specs.Request.{SourcesRequest, ProjectRequest, ScopesRequest, Outline, FindsProject, EvaluatesVariables}
use Rattle.just_cli_plan.proofs.Files.{one_layout}
use Rattle.just_cli_plan.proofs.Rules.{one_wins}
use Rattle.just_cli_plan.proofs.OneProjectLaws.{soundly_one}
use Rattle.just_cli_plan.proofs.Requests.{EndsProject, EndsLoaded, finds_project, finds_ending, evaluates_variables, plans_keys}
use Rattle.just_cli_texts.specs.declared.kind.Kind.{Kind}
use Rattle.just_cli_texts.specs.declared.kind.Kind.TheVariants as kind
use Rattle.just_cli_texts.specs.Defaults.{ListsLaid}
use Rattle.just_cli_texts.specs.Evaluated.{names_of_words, format_of}
use Rattle.just_cli_texts.specs.Formatted.{Formats}
use Rattle.just_cli_texts.specs.Kinds.{kind_of}
use Rattle.just_cli_texts.specs.Laid.{LaidSources, LaidRequest, project_with, FindsLaid}
use Rattle.just_cli_texts.specs.Prints.{as_printed}
use Rattle.just_cli_texts.proofs.Printers.{texts}
use Rattle.just_cli.specs.Choosing.{ChoosesFor, ChoosesAt}
use Rattle.just_cli.specs.Commands.{as_shown, is_file, anew_or, PrintsIt, EvaluatesIt, EvaluatesLaid, CleansIt, FormatsFile, EditsIt, InvokesIt, InvokesLaid, CommandsAt}
use Rattle.just_cli.specs.Replies.{Reply, as_list, as_plan, Replies, RepliesLoaded}
use Rattle.just_cli.proofs.OnePairs.{own_refused, Ends, modules_one, behind_own_of}
use Rattle.just_cli_plan.specs.Steps.{Then, stops, goes_on}
use Rattle.just_cli.specs.Asked.{Asked, as_reply, as_choice, as_other, as_new, EnvironGiven, FolderGiven, RunsTried, ChoosesTried, CommandAsks, AsksBy, AsksAt, AsksAlone, Searches, Decides, Serves, AsksAs, AsksRead, Asks}
use Rattle.just_cli.specs.Request.{LoadsSources, FindsProjectOf, FindsProjectAt, RepliesTo, AnswersAt, Tries, NoneFailed}
use Rattle.just_cli.specs.declared.task.Other.{Other}
use Rattle.just_cli.specs.declared.task.Other.TheVariants as no_run
use Rattle.just_cli.proofs.Arguments.{arguments_one}
use Rattle.just_cli.proofs.OneLocation.{by_one, own_unfailed}
use Rattle.just_cli.proofs.Climbing.{climb_of_first}
use Rattle.just_cli.proofs.OneChoice.{RepliesOne, choices_one}
use Rattle.just_cli.proofs.OneTried.{own_answer, AnswersOne, from_one}
use Rattle.just_cli.proofs.OneNew.{new_own}
use Rattle.just_cli.proofs.OneSearch.{search_refused}
use Rattle.just_cli_plan.proofs.Steps.{GivesOwn, GivesOwnOf, same_refusal, refused_or_found, same_found, then_own, then_own_of, own_of}

-- an option that holds something holds one thing, and not nothing
held_one : {A : Type 0} (o : Option A) (x y : A) → o ≡ Some x → o ≡ Some y → x ≡ y
held_one o x y p q = let both : Some x ≡ Some y = sym p ∙ q in cc

held_none : {A : Type 0} (o : Option A) (x : A) → o ≡ None → o ≡ Some x → ⊥
held_none o x p q = let both : None ≡ Some x = sym p ∙ q in let no : ⊥ = cc in no

-- ---- the words

-- a call that is shown to have an answer isn't refused, unless it fails
module _ {A : Type 0} (c : Call) (told : HostFault → Error) (fails : (d : Call) → is_fault (told (fault.Failed d)) ≡ true) (x : A) where
  unrefused : (e : Error) (f : HostFault) → e ≡ told f → FaultFits {A = A} c (Some (Ok x)) f → is_fault e ≡ false → ⊥
  unrefused e (fault.Missed m) is shown own = absurd (let no : ⊥ = cc in no)
  unrefused e (fault.Failed d) is same own = true≢false (sym (fails d) ∙ ap (λ z. is_fault z) (sym is) ∙ own)
  unrefused e fault.NoMemory is wanting own = wanting

  -- so it has one answer
  call_own : (r s : Result A Error) → CallGives c told (Some (Ok x)) r → IsOwn r → CallGives c told (Some (Ok x)) s → IsOwn s → r ≡ s
  call_own (Ok y) (Ok z) p a q b = ap (λ v. Ok v) (let both : ◌≡◌ {A = Result A Miss} (Ok y) (Ok z) = sym p ∙ q in cc)
  call_own (Ok y) (Err f) p a q b = absurd (unrefused f q.0 q.1 q.2 b.0)
  call_own (Err e) s p a q b = absurd (unrefused e p.0 p.1 p.2 a.0)

-- ---- the words

module _ (w : World) where
  environ_own : (r s : Result Environ Error) → EnvironGiven (Some w) r → IsOwn r → EnvironGiven (Some w) s → IsOwn s → r ≡ s
  environ_own = call_own call.Environ (io_error []) (λ d. refl) (record { pairs = w.environ })

  folder_own : (r s : Result (List ℕ) Error) → FolderGiven (Some w) r → IsOwn r → FolderGiven (Some w) s → IsOwn s → r ≡ s
  folder_own = call_own call.Current folder_error (λ d. refl) w.current

  finds_environ : GivesOwn (FindsEnviron (EnvironGiven (Some w)))
  finds_environ words (Ok a) (Ok b) p m q n =
      ap (λ x. Ok x)
      (ap (λ k. let z : WordsRequest = record { words = k; environ = a.environ } in z) (p.0 ∙ sym q.0)
      ∙ ap (λ f. let z : WordsRequest = record { words = b.words; environ = f } in z) (same_found a.environ b.environ (environ_own (Ok a.environ) (Ok b.environ) p.1 tt q.1 tt)))
  finds_environ words (Ok a) (Err f) p m q n = absurd (refused_or_found f a.environ (environ_own (Err f) (Ok a.environ) q n p.1 tt))
  finds_environ words (Err e) (Ok b) p m q n = absurd (refused_or_found e b.environ (environ_own (Err e) (Ok b.environ) p m q.1 tt))
  finds_environ words (Err e) (Err f) p m q n = same_refusal e f (environ_own (Err e) (Err f) p m q n)

  finds_folder : GivesOwn (FindsFolder (FolderGiven (Some w)))
  finds_folder k (Ok a) (Ok b) p m q n =
      ap (λ x. Ok x)
      (ap (λ x. let z : FolderRequest = record { arguments = x; environ = a.environ; folder = a.folder } in z) (p.0 ∙ sym q.0)
      ∙ ap (λ x. let z : FolderRequest = record { arguments = b.arguments; environ = x; folder = a.folder } in z) (p.1 ∙ sym q.1)
      ∙ ap (λ x. let z : FolderRequest = record { arguments = b.arguments; environ = b.environ; folder = x } in z) (same_found a.folder b.folder (folder_own (Ok a.folder) (Ok b.folder) p.2 tt q.2 tt)))
  finds_folder k (Ok a) (Err f) p m q n = absurd (refused_or_found f a.folder (folder_own (Err f) (Ok a.folder) q n p.2 tt))
  finds_folder k (Err e) (Ok b) p m q n = absurd (refused_or_found e b.folder (folder_own (Err e) (Ok b.folder) p m q.2 tt))
  finds_folder k (Err e) (Err f) p m q n = same_refusal e f (folder_own (Err e) (Err f) p m q n)

-- what both mean is one thing
read_one : (m n : Read) → IsSame (Ok m) (Ok n) → m ≡ n
read_one (read.Go a) (read.Go b) same = ap (λ x. read.Go x) (arguments_one same.0 same.1 a b same.2 same.3)
read_one (read.Go a) read.Help same = absurd same
read_one (read.Go a) read.Version same = absurd same
read_one read.Help (read.Go b) same = absurd same
read_one read.Help read.Help same = refl
read_one read.Help read.Version same = absurd same
read_one read.Version (read.Go b) same = absurd same
read_one read.Version read.Help same = absurd same
read_one read.Version read.Version same = refl

read_or_fault : (m : Read) (u : Usage) → IsSame (Ok m) (Err u) → ⊥
read_or_fault (read.Go a) u same = same
read_or_fault read.Help u same = same
read_or_fault read.Version u same = same

-- the words are read in one way
reads_words : GivesOwn ReadsWords
reads_words k (Ok a) (Ok b) p m q n =
    ap (λ x. Ok x)
    (ap (λ x. let z : ReadRequest = record { meaning = x; environ = a.environ } in z) (read_one a.meaning b.meaning (one_meaning k.words k.environ.pairs (Ok a.meaning) (Ok b.meaning) p.0 q.0))
    ∙ ap (λ x. let z : ReadRequest = record { meaning = b.meaning; environ = x } in z) (p.1 ∙ sym q.1))
reads_words k (Ok a) (Err f) p m q n = absurd (read_or_fault a.meaning q.0 (one_meaning k.words k.environ.pairs (Ok a.meaning) (Err q.0) p.0 q.1))
reads_words k (Err e) (Ok b) p m q n = absurd (read_or_fault b.meaning p.0 (one_meaning k.words k.environ.pairs (Ok b.meaning) (Err p.0) q.0 p.1))
reads_words k (Err e) (Err f) p m q n = ap (λ x. Err x) (p.2 ∙ ap (λ u. error.Usage u) (one_meaning k.words k.environ.pairs (Err p.0) (Err q.0) p.1 q.1) ∙ sym q.2)

-- arguments give one configuration, or are refused with one error
configures : GivesOwn Configures
configures k (Ok a) (Ok b) p m q n = ap (λ x. Ok x) (p.1 ∙ sym q.1)
configures k (Ok a) (Err f) p m q n = absurd (held_none _ q.0 p.0 q.1)
configures k (Err e) (Ok b) p m q n = absurd (held_none _ p.0 q.0 p.1)
configures k (Err e) (Err f) p m q n = ap (λ x. Err x) (p.2 ∙ ap (λ c. error.Config c) (held_one _ p.0 q.0 p.1 q.1) ∙ sym q.2)

-- ---- the place of the justfile

-- over a told world a justfile is found in one place, over whichever listings, none of which failed
module _ (w : World) where
  location_own : (config : Config) (ls ms : List Entry) (r s : Result Location Error) → NoneFailed ls → NoneFailed ms → FindsLocation (Some w) ls config r → IsOwn r → FindsLocation (Some w) ms config s → IsOwn s → r ≡ s
  location_own config ls ms (Ok a) (Ok b) none never p m q n =
      let same = by_one w config config.search_config ls ms (Ok a) (Ok b) p none tt q never tt in
      let place : a ≡ b = cc in ap (λ x. Ok x) place
  location_own config ls ms (Ok a) (Err f) none never p m (g, q, is) n =
      let own = search_refused g f is n.0 in
      let same = by_one w config config.search_config ls (ms ++ entries_of g) (Ok a) (Err g) p none tt q (own_unfailed w config ms g never own) own in absurd (let no : ⊥ = cc in no)
  location_own config ls ms (Err e) (Ok b) none never (f, p, is) m q n =
      let own = search_refused f e is m.0 in
      let same = by_one w config config.search_config (ls ++ entries_of f) ms (Err f) (Ok b) p (own_unfailed w config ls f none own) own q never tt in absurd (let no : ⊥ = cc in no)
  location_own config ls ms (Err d) (Err e) none never (f, p, is) m (g, q, at) n =
      let own = search_refused f d is m.0 in
      let other = search_refused g e at n.0 in
      let same = by_one w config config.search_config (ls ++ entries_of f) (ms ++ entries_of g) (Err f) (Err g) p (own_unfailed w config ls f none own) own q (own_unfailed w config ms g never other) other in
      let refusals : f ≡ g = cc in
      ap (λ x. Err x) (is ∙ ap (λ x. error_of_search x) refusals ∙ sym at)

  finds_justfile : (ls ms : List Entry) → NoneFailed ls → NoneFailed ms → (k : ConfigRequest) (r s : Result LocatedRequest Error) → FindsJustfile (FindsLocation (Some w) ls) k r → IsOwn r → FindsJustfile (FindsLocation (Some w) ms) k s → IsOwn s → r ≡ s
  finds_justfile ls ms none never k (Ok a) (Ok b) p m q n =
      ap (λ x. Ok x)
      (ap (λ x. let z : LocatedRequest = record { config = x; environ = a.environ; location = a.location } in z) (p.0 ∙ sym q.0)
      ∙ ap (λ x. let z : LocatedRequest = record { config = b.config; environ = x; location = a.location } in z) (p.1 ∙ sym q.1)
      ∙ ap (λ x. let z : LocatedRequest = record { config = b.config; environ = b.environ; location = x } in z) (same_found a.location b.location (location_own k.config ls ms (Ok a.location) (Ok b.location) none never p.2 tt q.2 tt)))
  finds_justfile ls ms none never k (Ok a) (Err f) p m q n = absurd (refused_or_found f a.location (location_own k.config ms ls (Err f) (Ok a.location) never none q n p.2 tt))
  finds_justfile ls ms none never k (Err e) (Ok b) p m q n = absurd (refused_or_found e b.location (location_own k.config ls ms (Err e) (Ok b.location) none never p m q.2 tt))
  finds_justfile ls ms none never k (Err e) (Err f) p m q n = same_refusal e f (location_own k.config ls ms (Err e) (Err f) none never p m q n)

-- ---- the justfile's file

one_search : (s t : Search) → ◌≡◌ {A = Result Search SearchError} (Ok s) (Ok t) → s ≡ t
one_search s t is = cc

search_or_refusal : (s : Search) (f : SearchError) → ◌≡◌ {A = Result Search SearchError} (Ok s) (Err f) → ⊥
search_or_refusal s f is = let no : ⊥ = cc in no

one_refusal : (e f : SearchError) → ◌≡◌ {A = Result Search SearchError} (Err e) (Err f) → e ≡ f
one_refusal e f is = cc

-- acts that go on the same are those of folders that do
folders_go_on : (acts more rest left : List Act) (fs gs : List (List ℕ)) → acts ≡ map Act.made fs → more ≡ map Act.made gs → acts ++ rest ≡ more ++ left → map Act.made fs ++ rest ≡ map Act.made gs ++ left
folders_go_on acts more rest left fs gs is at all = ap (λ l. l ++ rest) (sym is) ∙ (all ∙ ap (λ l. l ++ left) at)

-- of a refusal that the world determines, so is the one of the search
own_file : (e : Error) (f : SearchError) → e ≡ error_of_search f → is_fault e ≡ false → is_fault (error_of_search f) ≡ false
own_file e f is own = ap (λ x. is_fault x) (sym is) ∙ own

takes_file : GivesOwnStep TakesFile
takes_file w acts more rest left after later k (Ok a) (Ok b) (fs, s, is, m, path, wanted, environ) own (gs, t, at, n, road, also, around) other all told =
    let one = materializes_one w (parent_of k.config) k.location fs gs rest left after later (Ok s) (Ok t) m tt n tt (folders_go_on acts more rest left fs gs is at all) in
    let file : s ≡ t = one_search s t one.same in
    record {
      same =
          ap (λ x. Ok x)
          (ap (λ x. let z : JustfileRequest = record { wanted = x; environ = a.environ; justfile = a.justfile } in z)
          (wanted ∙ ap (λ (j : Search). wanted_of k.config j.working_directory (cache_beside j.justfile)) file ∙ sym also)
          ∙ ap (λ x. let z : JustfileRequest = record { wanted = b.wanted; environ = x; justfile = a.justfile } in z) (environ ∙ sym around)
          ∙ ap (λ x. let z : JustfileRequest = record { wanted = b.wanted; environ = b.environ; justfile = x } in z) (path ∙ ap (λ (j : Search). j.justfile) file ∙ sym road));
      rests = one.rests;
      world = one.world;
      told = one.told;
      also = one.also;
    }
takes_file w acts more rest left after later k (Ok a) (Err e) (fs, s, is, m, path, wanted, environ) own (gs, g, at, n, not, from) other all told =
    absurd (search_or_refusal s g (materializes_one w (parent_of k.config) k.location fs gs rest left after later (Ok s) (Err g) m tt n (own_file e g from other.0, not) (folders_go_on acts more rest left fs gs is at all)).same)
takes_file w acts more rest left after later k (Err e) (Ok b) (fs, f, is, m, never, from) own (gs, t, at, n, road, also, around) other all told =
    absurd (search_or_refusal t f (sym (materializes_one w (parent_of k.config) k.location fs gs rest left after later (Err f) (Ok t) m (own_file e f from own.0, never) n tt (folders_go_on acts more rest left fs gs is at all)).same))
takes_file w acts more rest left after later k (Err d) (Err e) (fs, f, is, m, never, from) own (gs, g, at, n, not, so) other all told =
    let one = materializes_one w (parent_of k.config) k.location fs gs rest left after later (Err f) (Err g) m (own_file d f from own.0, never) n (own_file e g so other.0, not) (folders_go_on acts more rest left fs gs is at all) in
    record { same = ap (λ x. Err x) (from ∙ (ap (λ x. error_of_search x) (one_refusal f g one.same) ∙ sym so)); rests = one.rests; world = one.world; told = one.told; also = one.also }

-- ---- the project

-- over a told world one project is loaded
module _ (w : World) where
  loads_sources : GivesOwn (LoadsSources (Some w))
  loads_sources k (Ok a) (Ok b) p m q n =
      let same = loads_agree w k.environ.pairs [] (k.justfile ∷ []) (Ok a.sources) (Ok b.sources) p.2 tt q.2 tt in
      let sources : a.sources ≡ b.sources = cc in
      ap (λ x. Ok x)
      (ap (λ x. let z : SourcesRequest = record { wanted = x; environ = a.environ; sources = a.sources } in z) (p.0 ∙ sym q.0)
      ∙ ap (λ x. let z : SourcesRequest = record { wanted = b.wanted; environ = x; sources = a.sources } in z) (p.1 ∙ sym q.1)
      ∙ ap (λ x. let z : SourcesRequest = record { wanted = b.wanted; environ = b.environ; sources = x } in z) sources)
  loads_sources k (Ok a) (Err f) p m q n =
      let same = loads_agree w k.environ.pairs [] (k.justfile ∷ []) (Ok a.sources) (Err q.0) p.2 tt q.1 (search_refused q.0 f q.2 n.0) in absurd (let no : ⊥ = cc in no)
  loads_sources k (Err e) (Ok b) p m q n =
      let same = loads_agree w k.environ.pairs [] (k.justfile ∷ []) (Err p.0) (Ok b.sources) p.1 (search_refused p.0 e p.2 m.0) q.2 tt in absurd (let no : ⊥ = cc in no)
  loads_sources k (Err e) (Err f) p m q n =
      let same = loads_agree w k.environ.pairs [] (k.justfile ∷ []) (Err p.0) (Err q.0) p.1 (search_refused p.0 e p.2 m.0) q.1 (search_refused q.0 f q.2 n.0) in
      let refusals : p.0 ≡ q.0 = cc in
      ap (λ x. Err x) (p.2 ∙ ap (λ x. error_of_search x) refusals ∙ sym q.2)

-- ---- the project's justfile, with the layout of its sources

-- sources make it with one layout
finds_laid : GivesOwn FindsLaid
finds_laid s (Ok a) (Ok b) p m q n =
    let h = p.2 in
    let g = q.2 in
    let layout : a.laid.layout ≡ b.laid.layout = one_layout s.sources s.environ.pairs a.laid.layout b.laid.layout h.layout_is g.layout_is in
    let wins : a.laid.wins ≡ b.laid.wins = one_wins b.laid.layout a.laid.wins b.laid.wins (subst (λ (l : Layout). AreWins l a.laid.wins) layout h.wins_are) g.wins_are in
    let justfile : a.laid.justfile ≡ b.laid.justfile = soundly_one s.environ.pairs b.laid.layout a.laid.justfile b.laid.justfile (subst (λ (l : Layout). IsSoundlyMadeOf s.environ.pairs l a.laid.justfile) layout h.made) g.made in
    let laid : a.laid ≡ b.laid =
    ap (λ x. let z : LaidSources = record { layout = x; wins = a.laid.wins; justfile = a.laid.justfile } in z) layout
    ∙ (ap (λ x. let z : LaidSources = record { layout = b.laid.layout; wins = x; justfile = a.laid.justfile } in z) wins
    ∙ ap (λ x. let z : LaidSources = record { layout = b.laid.layout; wins = b.laid.wins; justfile = x } in z) justfile) in
    ap (λ x. Ok x)
    (ap (λ x. let z : LaidRequest = record { wanted = x; environ = a.environ; laid = a.laid } in z) (p.0 ∙ sym q.0)
    ∙ (ap (λ x. let z : LaidRequest = record { wanted = b.wanted; environ = x; laid = a.laid } in z) (p.1 ∙ sym q.1)
    ∙ ap (λ x. let z : LaidRequest = record { wanted = b.wanted; environ = b.environ; laid = x } in z) laid))
finds_laid s (Ok a) (Err f) p m q n = absurd (refused_or_found f (project_with a p.3.0) (finds_project s (Err f) (Ok (project_with a p.3.0)) q n p.3.1 tt))
finds_laid s (Err e) (Ok b) p m q n = absurd (refused_or_found e (project_with b q.3.0) (finds_project s (Err e) (Ok (project_with b q.3.0)) p m q.3.1 tt))
finds_laid s (Err e) (Err f) p m q n = same_refusal e f (finds_project s (Err e) (Err f) p m q n)

finds_project_of : (w : World) → GivesOwn (FindsProjectOf (Some w))
finds_project_of w = then_own (LoadsSources (Some w)) FindsLaid (loads_sources w) finds_laid

-- the project of the justfile in a place
pub project_own : GivesOwnStep FindsProjectAt
project_own = behind_own TakesFile (Looks FindsProjectOf) takes_file (looks_own FindsProjectOf finds_project_of)

-- its modules come to an end
modules_in : (s : SourcesRequest) (p : ProjectRequest) → FindsProject s (Ok p) → AreModules (p.justfile ∷ []) p.modules
modules_in s p (stops e lost is) = absurd (refused_or_found e p (sym is))
modules_in s p (goes_on k assembles checks) = subst (λ (z : ProjectRequest). AreModules (z.justfile ∷ []) z.modules) (sym checks.1) assembles.3

laid_ends : (s : SourcesRequest) (q : LaidRequest) → FindsLaid s (Ok q) → Ends q
laid_ends s q finds = λ modules are.
    let project : ProjectRequest = project_with q finds.3.0 in
    subst (λ (l : List Justfile). EndsProject (project_with q l)) (same_modules (q.laid.justfile ∷ []) finds.3.0 modules (modules_in s project finds.3.1) are) (finds_ending s tt project finds.3.1)

file_ends : (told : Option World) (j : JustfileRequest) (q : LaidRequest) → FindsProjectOf told j (Ok q) → Ends q
file_ends told j q (stops e lost is) = absurd (refused_or_found e q (sym is))
file_ends told j q (goes_on s loads finds) = laid_ends s q finds

project_ends : (told after : Option World) (acts : List Act) (here : LocatedRequest) (q : LaidRequest) → FindsProjectAt told acts after here (Ok q) → Ends q
project_ends told after acts here q (Behind.refused e lost is) = absurd (refused_or_found e q (sym is))
project_ends told after acts here q (Behind.both j front back between takes (nothing, still, finds) split) = file_ends between j q finds

-- ---- replies

own_plan : (x : Result Outline Error) (r : Result Reply Error) → r ≡ as_plan x → IsOwn r → IsOwn x
own_plan (Ok o) r is own = tt
own_plan (Err e) r is own = subst (λ (z : Result Reply Error). IsOwn z) is own

module _ (c : Config) (q : LaidRequest) where
  replies_one : GivesOwn (Replies c q)
  replies_one s r t (Replies.by_list names x some lists is) own (Replies.by_list others y also o at) other =
      is ∙ (ap (λ z. as_list z) (texts.listings q.environ.pairs c q.laid others x y (subst (λ (ns : List (List ℕ)). ListsLaid q.environ.pairs c q.laid ns x) (held_one _ names others some also) lists) o) ∙ sym at)
  replies_one s r t (Replies.by_list names x some lists is) own (Replies.by_plan y none o at) other = absurd (held_none _ names none some)
  replies_one s r t (Replies.by_plan x none plans is) own (Replies.by_list names y some o at) other = absurd (held_none _ names none some)
  replies_one s r t (Replies.by_plan x none plans is) own (Replies.by_plan y never o at) other =
      is ∙ (ap (λ z. as_plan z) (plans_keys s x y plans (own_plan x r is own) o (own_plan y t at other)) ∙ sym at)

  loaded_one : GivesOwnOf EndsLoaded (RepliesLoaded c q)
  loaded_one =
      then_own_of EndsLoaded (λ (s : ScopesRequest). Unit {0}) EvaluatesVariables (Replies c q) evaluates_variables (λ k ends found p. tt) (own_of (λ (s : ScopesRequest). Unit {0}) (Replies c q) replies_one)

-- a justfile gives one answer, and sets fallback or doesn't
pub answers_one : AnswersOne
answers_one w acts more rest left after later q r s f g (AnswersAt.no_project e a is none) own (AnswersAt.no_project d b at never) other all told = record {
  answer =
      agrees_as (Err e) (Err d) r s rest left after later is at
      (agrees_refusal e d rest left after later (project_own w acts more rest left after later q (Err e) (Err d) a (own_refused LaidRequest r e is own) b (own_refused LaidRequest s d at other) all told));
  fallback = none ∙ sym never;
}
answers_one w acts more rest left after later q r s f g (AnswersAt.no_project e a is none) own (AnswersAt.of_project p front back between b plans split at) other all told =
    let two = in_two more front back left split in
    absurd (refused_or_found e p (project_own w acts front rest (back ++ left) after between q (Err e) (Ok p) a (own_refused LaidRequest r e is own) b tt (all ∙ two) (subst (λ l. AreToldBehind l) two told)).same)
answers_one w acts more rest left after later q r s f g (AnswersAt.of_project p front back between a plans split is) own (AnswersAt.no_project d b at never) other all told =
    let two = in_two acts front back rest split in
    absurd (refused_or_found d p (project_own w more front left (back ++ rest) later between q (Err d) (Ok p) b (own_refused LaidRequest s d at other) a tt (sym all ∙ two) (subst (λ l. AreToldBehind l) (sym all ∙ two) told)).same)
answers_one w acts more rest left after later q r s f g (AnswersAt.of_project p front back between a plans split is) own (AnswersAt.of_project k fore hind among b others cut at) other all told =
    let two = in_two more fore hind left cut in
    let told_so : AreToldBehind (fore ++ (hind ++ left)) = subst (λ l. AreToldBehind l) two told in
    let project = project_own w front fore (back ++ rest) (hind ++ left) between among q (Ok p) (Ok k) a tt b tt (sym (in_two acts front back rest split) ∙ (all ∙ two)) told_so in
    let found : p ≡ k = same_found p k project.same in
    record {
      answer =
          modules_one (RepliesLoaded q.config k) (loaded_one q.config k) project.world back hind rest left after later k (project_ends (Some w) among fore q k b) r s
          (subst (λ (z : LaidRequest). RepliesTo q.config (Some project.world) back after z r) found (subst (λ t. RepliesTo q.config t back after p r) project.told plans)) own (subst (λ t. RepliesTo q.config t hind later k s) project.also others) other project.rests
          (told_later fore (hind ++ left) told_so);
      fallback = is ∙ ap (λ (z : LaidRequest). (settings_of z.laid.justfile).fallback) found ∙ sym at;
    }

pub tries_own : GivesOwnStep Tries
tries_own w acts more rest left after later q r s (x, p, is) own (y, o, at) other all told =
    let c : ConfigRequest = record { config = q.config; environ = q.environ } in
    let one = from_one c answers_one w acts more rest left after later q.location x y (climb_of_first c (Some w) acts after q.location x p) (own_answer q.config x r is own) (climb_of_first c (Some w) more later q.location y o) (own_answer q.config y s at other) all told in
    record { same = is ∙ (ap (λ z. allowed q.config z) one.same ∙ sym at); rests = one.rests; world = one.world; told = one.told; also = one.also }

-- ---- commands

-- what is shown is determined where the text is
prints_own : (c : Config) → GivesOwn (PrintsIt c)
prints_own c q r s (x, p, is) own (y, o, at) other = is ∙ (ap (λ z. as_shown z) (texts.prints q.environ.pairs c q.laid x y p o) ∙ sym at)

evaluates_own : (c : Config) → GivesOwn (EvaluatesIt c)
evaluates_own c s r t (x, p, is) own (y, o, at) other =
    is ∙ (ap (λ z. as_shown (as_printed z)) (texts.evaluates (format_of c) s.modules s.scopes s.justfile (names_of_words s.wanted.words) x y p o) ∙ sym at)

values_one : (c : Config) → GivesOwnOf EndsLoaded (Then EvaluatesVariables (EvaluatesIt c))
values_one c = then_own_of EndsLoaded (λ (s : ScopesRequest). Unit {0}) EvaluatesVariables (EvaluatesIt c) evaluates_variables (λ k ends found p. tt) (own_of (λ (s : ScopesRequest). Unit {0}) (EvaluatesIt c) (evaluates_own c))

invokes_one : (c : Config) → GivesOwnOf EndsLoaded (Then EvaluatesVariables (InvokesIt c))
invokes_one c = then_own_of EndsLoaded (λ (s : ScopesRequest). Unit {0}) EvaluatesVariables (InvokesIt c) evaluates_variables (λ k ends found p. tt) (own_of (λ (s : ScopesRequest). Unit {0}) (InvokesIt c) (λ s x y a m b n. a ∙ sym b))

-- a file has one text
text_one : (w : World) (path x y : List ℕ) → told_read w path ≡ Ok x → told_read w path ≡ Ok y → x ≡ y
text_one w path x y p q = let both : ◌≡◌ {A = Result (List ℕ) Miss} (Ok x) (Ok y) = sym p ∙ q in cc

miss_one : (w : World) (path : List ℕ) (x y : Miss) → told_read w path ≡ Err x → told_read w path ≡ Err y → x ≡ y
miss_one w path x y p q = let both : ◌≡◌ {A = Result (List ℕ) Miss} (Err x) (Err y) = sym p ∙ q in cc

text_or_miss : (w : World) (path x : List ℕ) (m : Miss) → told_read w path ≡ Ok x → told_read w path ≡ Err m → ⊥
text_or_miss w path x m p q = let both : ◌≡◌ {A = Result (List ℕ) Miss} (Ok x) (Err m) = sym p ∙ q in let no : ⊥ = cc in no

-- and one refusal that isn't a fault of the host's: the miss
miss_of : (w : World) (path : List ℕ) (f : SearchError) → ReadsText (Some w) path (Err f) → is_fault (error_of_search f) ≡ false → (m : Miss) × (f ≡ search_error.Load path (fault.Missed m)) × (told_read w path ≡ Err m)
miss_of w path f (fault.Missed m, is, fits) calm = (m, is, fits)
miss_of w path f (fault.Failed c, is, fits) calm = absurd (true≢false (sym (ap (λ z. is_fault (error_of_search z)) is) ∙ calm))
miss_of w path f (fault.NoMemory, is, fits) calm = absurd fits

-- what is made anew is determined where the text is
formats_own : (w : World) (c : Config) (from : Origin) → GivesOwn (FormatsFile (Some w) c from)
formats_own w c from j r s (FormatsFile.unread f p is) own (FormatsFile.unread g q at) other =
    let m = miss_of w j.justfile f p (own_refused LaidRequest r (error_of_search f) is own).0 in
    let n = miss_of w j.justfile g q (own_refused LaidRequest s (error_of_search g) at other).0 in
    let same : f ≡ g = m.1 ∙ (ap (λ z. search_error.Load j.justfile (fault.Missed z)) (miss_one w j.justfile m.0 n.0 m.2 n.2) ∙ sym n.1) in
    is ∙ (ap (λ (z : SearchError). let into : Result Other Error = Err (error_of_search z) in into) same ∙ sym at)
formats_own w c from j r s (FormatsFile.unread f p is) own (FormatsFile.read text y q formats at) other =
    let m = miss_of w j.justfile f p (own_refused LaidRequest r (error_of_search f) is own).0 in absurd (text_or_miss w j.justfile text m.0 q m.2)
formats_own w c from j r s (FormatsFile.read text x p formats is) own (FormatsFile.unread g q at) other =
    let n = miss_of w j.justfile g q (own_refused LaidRequest s (error_of_search g) at other).0 in absurd (text_or_miss w j.justfile text n.0 p n.2)
formats_own w c from j r s (FormatsFile.read text x p formats is) own (FormatsFile.read now y q others at) other =
    let same : text ≡ now = text_one w j.justfile text now p q in
    let anew : x ≡ y = texts.formats c j.environ.pairs (source_at j.justfile now) x y (subst (λ (t : List ℕ). Formats c j.environ.pairs (source_at j.justfile t) x) same formats) others in
    is ∙ (ap (λ (t : List ℕ). anew_or c.check (is_file from) j.justfile t x) same ∙ (ap (λ z. anew_or c.check (is_file from) j.justfile now z) anew ∙ sym at))

-- each of them asks one thing of the justfile in a place
commands_own : (k : Kind) → GivesOwnStep (CommandsAt k)
commands_own kind.Print w acts more rest left after later q r s p own o other all told =
    behind_own FindsProjectAt (Looks (λ now. PrintsIt q.config)) project_own (looks_own (λ now. PrintsIt q.config) (λ v. prints_own q.config)) w acts more rest left after later q r s p own o other all told
commands_own kind.Evaluate w acts more rest left after later q r s p own o other all told =
    behind_own_of FindsProjectAt (EvaluatesLaid q.config) Ends project_own project_ends (modules_one (Then EvaluatesVariables (EvaluatesIt q.config)) (values_one q.config)) w acts more rest left after later q r s p own o other all told
commands_own kind.Clean w acts more rest left after later q r s p own o other all told =
    behind_own FindsProjectAt (Looks (λ now. CleansIt q.config)) project_own (looks_own (λ now. CleansIt q.config) (λ v k x y a m b n. a ∙ sym b)) w acts more rest left after later q r s p own o other all told
commands_own kind.Format w acts more rest left after later q r s p own o other all told =
    behind_own TakesFile (Looks (λ now. FormatsFile now q.config q.location.origin)) takes_file (looks_own (λ now. FormatsFile now q.config q.location.origin) (λ v. formats_own v q.config q.location.origin)) w acts more rest left after later q r s p own o other all told
commands_own kind.Run w acts more rest left after later q r s p own o other all told = absurd p
commands_own kind.New w acts more rest left after later q r s p own o other all told = absurd p
commands_own kind.Respond w acts more rest left after later q r s p own o other all told = absurd p
commands_own kind.Edit w acts more rest left after later q r s p own o other all told =
    behind_own TakesFile (Looks (λ now. EditsIt)) takes_file (looks_own (λ now. EditsIt) (λ v k x y a m b n. a ∙ sym b)) w acts more rest left after later q r s p own o other all told
commands_own kind.Command w acts more rest left after later q r s p own o other all told =
    behind_own_of FindsProjectAt (InvokesLaid q.config) Ends project_own project_ends (modules_one (Then EvaluatesVariables (InvokesIt q.config)) (invokes_one q.config)) w acts more rest left after later q r s p own o other all told
commands_own kind.Choose w acts more rest left after later q r s p own o other all told = absurd p
commands_own kind.Vectors w acts more rest left after later q r s p own o other all told = absurd p

-- ---- behind the configuration

-- what is asked for is determined where what it comes from is
own_reply : (dry : Bool) (x : Result Reply Error) (r : Result Asked Error) → r ≡ as_reply dry x → IsOwn r → IsOwn x
own_reply dry (Ok o) r is own = tt
own_reply dry (Err e) r is own = subst (λ (z : Result Asked Error). IsOwn z) is own

own_choice : (dry : Bool) (x : Result (Option Reply) Error) (r : Result Asked Error) → r ≡ as_choice dry x → IsOwn r → IsOwn x
own_choice dry (Ok o) r is own = tt
own_choice dry (Err e) r is own = subst (λ (z : Result Asked Error). IsOwn z) is own

own_other : (x : Result Other Error) (r : Result Asked Error) → r ≡ as_other x → IsOwn r → IsOwn x
own_other (Ok c) r is own = tt
own_other (Err e) r is own = subst (λ (z : Result Asked Error). IsOwn z) is own

own_new : (x : Result (List ℕ) Error) (r : Result Asked Error) → r ≡ as_new x → IsOwn r → IsOwn x
own_new (Ok path) r is own = tt
own_new (Err e) r is own = subst (λ (z : Result Asked Error). IsOwn z) is own

runs_own : GivesOwnStep RunsTried
runs_own w acts more rest left after later q r s (x, p, is) own (y, o, at) other all told =
    let one = tries_own w acts more rest left after later q x y p (own_reply q.config.dry_run x r is own) o (own_reply q.config.dry_run y s at other) all told in
    record { same = is ∙ (ap (λ z. as_reply q.config.dry_run z) one.same ∙ sym at); rests = one.rests; world = one.world; told = one.told; also = one.also }

-- and so is what words ask for that are chosen
replies_behind : RepliesOne
replies_behind c w acts more rest left after later p ends r s h own g other all told = modules_one (RepliesLoaded c p) (loaded_one c p) w acts more rest left after later p ends r s h own g other all told

choices_at : GivesOwnStep ChoosesAt
choices_at w acts more rest left after later q r s p own o other all told =
    behind_own_of FindsProjectAt (ChoosesFor q) Ends project_own project_ends (λ v front fore rests lefts behind late k. choices_one answers_one replies_behind q k v front fore rests lefts behind late) w acts more rest left after later q r s p own o other all told

choices_own : GivesOwnStep ChoosesTried
choices_own w acts more rest left after later q r s (x, p, is) own (y, o, at) other all told =
    let one = choices_at w acts more rest left after later q x y p (own_choice q.config.dry_run x r is own) o (own_choice q.config.dry_run y s at other) all told in
    record { same = is ∙ (ap (λ z. as_choice q.config.dry_run z) one.same ∙ sym at); rests = one.rests; world = one.world; told = one.told; also = one.also }

-- a command asks one thing of the justfile in a place
command_own : (k : Kind) → GivesOwnStep (CommandAsks k)
command_own k w acts more rest left after later q r s (x, p, is) own (y, o, at) other all told =
    let one = commands_own k w acts more rest left after later q x y p (own_other x r is own) o (own_other y s at other) all told in
    record { same = is ∙ (ap (λ z. as_other z) one.same ∙ sym at); rests = one.rests; world = one.world; told = one.told; also = one.also }

by_own : (k : Kind) → GivesOwnStep (AsksBy k)
by_own kind.Run = runs_own
by_own kind.New = command_own kind.New
by_own kind.Respond = command_own kind.Respond
by_own kind.Vectors = command_own kind.Vectors
by_own kind.Format = command_own kind.Format
by_own kind.Clean = command_own kind.Clean
by_own kind.Evaluate = command_own kind.Evaluate
by_own kind.Print = command_own kind.Print
by_own kind.Edit = command_own kind.Edit
by_own kind.Command = command_own kind.Command
by_own kind.Choose = choices_own

at_own : GivesOwnStep AsksAt
at_own w acts more rest left after later q r s p own o other all told = by_own (kind_of q.config.subcommand) w acts more rest left after later q r s p own o other all told

-- and so does one that reads none
alone_own : (w : World) (k : Kind) → GivesOwn (AsksAlone k (Some w))
alone_own w kind.New c r s (x, p, is) own (y, q, at) other = is ∙ (ap (λ z. as_new z) (new_own w c.config x y p (own_new x r is own) q (own_new y s at other)) ∙ sym at)
alone_own w kind.Respond c r s p own q other = p ∙ sym q
alone_own w kind.Vectors c r s p own q other = p ∙ sym q
alone_own w kind.Run c r s p own q other = absurd p
alone_own w kind.Format c r s p own q other = absurd p
alone_own w kind.Clean c r s p own q other = absurd p
alone_own w kind.Evaluate c r s p own q other = absurd p
alone_own w kind.Print c r s p own q other = absurd p
alone_own w kind.Edit c r s p own q other = absurd p
alone_own w kind.Command c r s p own q other = absurd p
alone_own w kind.Choose c r s p own q other = absurd p

-- what only the words answer takes no act
one_text : (w : World) (acts more rest left : List Act) (after later : Option World) (x : Asked) (r s : Result Asked Error) → (acts ≡ []) × (after ≡ Some w) × (r ≡ Ok x) → (more ≡ []) × (later ≡ Some w) × (s ≡ Ok x) → acts ++ rest ≡ more ++ left
    → Agrees r s rest left after later
one_text w acts more rest left after later x r s (none, world, is) (never, still, at) all = record {
  same = is ∙ sym at;
  rests = ap (λ l. l ++ rest) (sym none) ∙ (all ∙ ap (λ l. l ++ left) never);
  world = w;
  told = world;
  also = still;
}

-- two chains over listings none of which failed agree
module _ (ls ms : List Entry) (none : NoneFailed ls) (never : NoneFailed ms) where
  searches_agree : Agree (Searches ls) (Searches ms)
  searches_agree =
      behind_agree (Looks (λ told. FindsJustfile (FindsLocation told ls))) (Looks (λ told. FindsJustfile (FindsLocation told ms))) AsksAt AsksAt
      (looks_agree (λ told. FindsJustfile (FindsLocation told ls)) (λ told. FindsJustfile (FindsLocation told ms)) (λ w. finds_justfile w ls ms none never)) at_own

  decides_agree : Agree (Decides ls) (Decides ms)
  decides_agree w acts more rest left after later c r s (Decides.reads_none is listed p) own (Decides.reads_none at empty q) other all told =
      looks_own (AsksAlone (kind_of c.config.subcommand)) (λ v. alone_own v (kind_of c.config.subcommand)) w acts more rest left after later c r s p own q other all told
  decides_agree w acts more rest left after later c r s (Decides.reads_none is listed p) own (Decides.reads_one at q) other all told = absurd (true≢false (sym at ∙ is))
  decides_agree w acts more rest left after later c r s (Decides.reads_one is p) own (Decides.reads_none at empty q) other all told = absurd (true≢false (sym is ∙ at))
  decides_agree w acts more rest left after later c r s (Decides.reads_one is p) own (Decides.reads_one at q) other all told = searches_agree w acts more rest left after later c r s p own q other all told

  serves_agree : Agree (Serves ls) (Serves ms)
  serves_agree =
      behind_agree (Looks (λ told. FindsFolder (FolderGiven told))) (Looks (λ told. FindsFolder (FolderGiven told))) (Behind (Looks (λ told. Configures)) (Decides ls)) (Behind (Looks (λ told. Configures)) (Decides ms)) (looks_own (λ told. FindsFolder (FolderGiven told)) finds_folder)
      (behind_agree (Looks (λ told. Configures)) (Looks (λ told. Configures)) (Decides ls) (Decides ms) (looks_own (λ told. Configures) (λ w. configures)) decides_agree)

  asks_as_agree : (m : Read) (environ : Environ) (w : World) (acts more rest left : List Act) (after later : Option World) (r s : Result Asked Error) → AsksAs ls m environ (Some w) acts after r → IsOwn r → AsksAs ms m environ (Some w) more later s → IsOwn s
      → acts ++ rest ≡ more ++ left → AreToldBehind (more ++ left) → Agrees r s rest left after later
  asks_as_agree read.Help environ w acts more rest left after later r s p own q other all told = one_text w acts more rest left after later (Asked.other no_run.Help) r s p q all
  asks_as_agree read.Version environ w acts more rest left after later r s p own q other all told = one_text w acts more rest left after later (Asked.other no_run.Version) r s p q all
  asks_as_agree (read.Go a) environ w acts more rest left after later r s p own q other all told = serves_agree w acts more rest left after later (record { arguments = a; environ = environ }) r s p own q other all told

  asks_read_agree : Agree (AsksRead ls) (AsksRead ms)
  asks_read_agree w acts more rest left after later k r s p own q other all told = asks_as_agree k.meaning k.environ w acts more rest left after later r s p own q other all told

  asks_agree : Agree {A = List (List ℕ)} {B = Asked} (λ told acts after words r. Asks words told ls acts after r) (λ told acts after words r. Asks words told ms acts after r)
  asks_agree =
      behind_agree (Looks (λ told. FindsEnviron (EnvironGiven told))) (Looks (λ told. FindsEnviron (EnvironGiven told))) (Behind (Looks (λ told. ReadsWords)) (AsksRead ls)) (Behind (Looks (λ told. ReadsWords)) (AsksRead ms))
      (looks_own (λ told. FindsEnviron (EnvironGiven told)) finds_environ)
      (behind_agree (Looks (λ told. ReadsWords)) (Looks (λ told. ReadsWords)) (AsksRead ls) (AsksRead ms) (looks_own (λ told. ReadsWords) (λ w. reads_words)) asks_read_agree)

-- in a world and with these acts, behind whose children worlds are told, words ask for one thing, or are refused with one error, where no listing failed
pub one_answer : (words : List (List ℕ)) (w : World) (acts : List Act) → AreToldBehind acts → (ls ms : List Entry) (after later : Option World) (r s : Result Asked Error) → NoneFailed ls → NoneFailed ms → Asks words (Some w) ls acts after r → IsOwn r
    → Asks words (Some w) ms acts later s → IsOwn s → r ≡ s
one_answer words w acts told ls ms after later r s none never p m q n =
    (asks_agree ls ms none never w acts acts [] [] after later words r s p m q n refl (subst (λ l. AreToldBehind l) (sym (append-nil acts)) told)).same
