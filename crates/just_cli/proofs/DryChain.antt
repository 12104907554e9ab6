-- Where no dotenv command is set, a dry run plans what is planned for a run.
use Rattle.std.proofs.Common.{◌≡◌, ◌++◌, ℕ, suc, Bool, true, false, true≢false, List, [], ◌∷◌, map, Option, Result, Ok, Err, refl, sym, ◌∙◌, ap, subst, arith}
use Rattle.std.specs.Prelude.{◌&&◌, ◌||◌, not, if◌then◌else◌, zip, option_map}
use Rattle.std.specs.Int.NonZero.{non_zero_u64_get}
use Rattle.std.specs.List.{AllByRecursion, Contains}
use Rattle.just_host_record.specs.World.{World}
use Rattle.just_lang_types.specs.declared.node.Node.{Node}
use Rattle.just_lang_types.specs.declared.project.Justfile.{Justfile}
use Rattle.just_lang_types.specs.declared.scope.DotenvOf.{DotenvOf}
use Rattle.just_lang_types.specs.Modules.{settings_of, modules_of}
use Rattle.just_lang_layout.specs.Paths.{Pairs}
use Rattle.just_config.specs.declared.config.Config.{Config}
use Rattle.just_env.specs.declared.ask.DotenvAsk.{DotenvAsk}
use Rattle.just_env.specs.declared.ask.Sources.{Sources}
use Rattle.just_env.specs.declared.ask.Sources.TheVariants as sources
use Rattle.just_env.specs.declared.env_error.EnvError.{EnvError}
use Rattle.just_env.specs.declared.env_error.EnvError.TheVariants as env_error
use Rattle.just_env.specs.Asked.{is_any, commands_of, has_several, has_flag, has_given, sources_of}
use Rattle.just_env.specs.Captures.{Capture, told_behind}
use Rattle.just_env.specs.Loads.{LoadsFrom, LoadsOwn, LoadsModules, LoadsProject, Following, following, folder_of, IsModuleOf}
use Rattle.just_exec_work.specs.declared.run_flags.RunFlags.{RunFlags}
use Rattle.just_exec.specs.declared.error.Error.{Error}
use Rattle.just_exec.specs.declared.node_plan.NodePlan.{NodePlan}
use Rattle.just_cli_plan.specs.declared.wanted.Wanted.{Wanted}
use Rattle.just_cli_plan.specs.Planned.{messages_of}
use Rattle.just_cli_plan.specs.Request.{LoadedRequest, ScopesRequest, KeysRequest, ClosureRequest, Outline, ClosesKeys, MakesPlan, PlansKeys}
use Rattle.just_cli_plan.specs.Steps.{Then, stops, goes_on}
use Rattle.just_cli_plan.proofs.Steps.{refused_or_found}
use Rattle.just_cli_texts.specs.declared.printed.Printed.{Printed}
use Rattle.just_cli_texts.specs.Defaults.{listed_by_default}
use Rattle.just_cli_texts.specs.Laid.{LaidRequest, project_with}
use Rattle.just_cli.specs.Acts.{Act, Behind}
use Rattle.just_cli.specs.DryPlans.{ask_so, flags_so, wanted_so, request_so, HasNoCommands, unasked, unasked_outline, DryPlansAgree}
use Rattle.just_cli.specs.Replies.{Reply, as_list, Replies, RepliesLoaded}
use Rattle.just_cli.specs.Request.{LoadsPairs, RepliesTo}
use Rattle.just_cli.proofs.DryWork.{plans_so, zipped}

-- ---- modules of a project

-- each of these is one
abbrev AreWithin : Justfile → Following → Type 0
AreWithin root pending = AllByRecursion (λ (p : Justfile × Pairs). IsModuleOf root p.0) pending

within_append : (root : Justfile) (ps qs : Following) → AreWithin root ps → AreWithin root qs → AreWithin root (ps ++ qs)
within_append root [] qs g h = h
within_append root (p ∷ ps) qs g h = (g.0, within_append root ps qs g.1 h)

within_following : (root : Justfile) (pairs : Pairs) (js : List Justfile) → ((m : Justfile) → Contains js m → IsModuleOf root m) → AreWithin root (following pairs js)
within_following root pairs [] each = tt
within_following root pairs (j ∷ js) each = (each j (0, omega arith, refl), within_following root pairs js (λ m has. each m (suc has.0, omega (arith, has.1), has.2)))

-- ---- dotenv pairs

abbrev SourcesBy : Bool → Bool → Bool → Bool → Bool → Result Sources EnvError
SourcesBy load commands dry several files =
    if not load then Ok sources.Nothing
    else (if commands then (if dry then Ok sources.Nothing else Ok sources.Commands) else (if several then Err env_error.DotenvArgumentsRequireLists else (if files then Ok sources.Files else Ok sources.Nothing)))

-- without commands it doesn't matter whether the run is dry
sources_by : (load commands dry other several files : Bool) → commands ≡ false → SourcesBy load commands dry several files ≡ SourcesBy load commands other several files
sources_by load false dry other several files unset = refl
sources_by load true dry other several files unset = absurd (true≢false unset)

module _ (dry : Bool) (ask : DotenvAsk) (flags : RunFlags) (environ : Pairs) where
  from_so : (told : Option World) (folder : List ℕ) (j : Justfile) (x : Result Sources EnvError) (cs : List Capture) (r : Result Pairs EnvError) → LoadsFrom told ask flags environ folder j x cs r → LoadsFrom told (ask_so dry ask) (flags_so dry flags) environ folder j x cs r
  from_so told folder j (Ok sources.Nothing) cs r p = p
  from_so told folder j (Ok sources.Files) cs r p = p
  from_so told folder j (Ok sources.Commands) cs r p = p
  from_so told folder j (Err e) cs r p = p

  sources_so : (j : Justfile) → commands_of ask j ≡ [] → sources_of ask j ≡ sources_of (ask_so dry ask) j
  sources_so j unset =
      sources_by ask.load (is_any (commands_of ask j)) ask.dry_run dry (has_several ask && not (settings_of j).lists) (has_flag (settings_of j) || has_given ask (settings_of j)) (ap (λ (l : List (List ℕ)). is_any l) unset)

  own_so : (told : Option World) (folder : List ℕ) (j : Justfile) (cs : List Capture) (r : Result Pairs EnvError) → commands_of ask j ≡ [] → LoadsOwn told ask flags environ folder j cs r → LoadsOwn told (ask_so dry ask) (flags_so dry flags) environ folder j cs r
  own_so told folder j cs r unset p = subst (λ x. LoadsFrom told (ask_so dry ask) (flags_so dry flags) environ folder j x cs r) (sources_so j unset) (from_so told folder j (sources_of ask j) cs r p)

  module _ (root : Justfile) (unset : HasNoCommands ask root) where
    modules_so : (told : Option World) (left : Following) (cs : List Capture) (r : Result (List DotenvOf) EnvError) → LoadsModules ask flags environ told left cs r → AreWithin root left → LoadsModules (ask_so dry ask) (flags_so dry flags) environ told left cs r
    modules_so told left cs r (LoadsModules.none t) within = LoadsModules.none t
    modules_so told left cs r (LoadsModules.refused t j before others es e p) within = LoadsModules.refused t j before others es e (own_so t (folder_of flags.folder j) j es (Err e) (unset j within.0) p)
    modules_so told left cs r (LoadsModules.more t j before own others es ds x p rest) within =
        let top : IsModuleOf root j = within.0 in
        LoadsModules.more t j before own others es ds x (own_so t (folder_of flags.folder j) j es (Ok own) (unset j top) p)
        (modules_so (told_behind t es) (following (before ++ own) (modules_of j) ++ others) ds x rest
        (within_append root (following (before ++ own) (modules_of j)) others (within_following root (before ++ own) (modules_of j) (λ m has. IsModuleOf.within j m top has)) within.1))

    project_so : (told : Option World) (cs : List Capture) (r : Result (List DotenvOf) EnvError) → LoadsProject told ask flags environ root cs r → LoadsProject told (ask_so dry ask) (flags_so dry flags) environ root cs r
    project_so told cs r loads = modules_so told (following [] (root ∷ [])) cs r loads (IsModuleOf.itself, tt)

-- ---- the chain

module _ (dry : Bool) where
  abbrev loaded_so : LoadedRequest → LoadedRequest
  loaded_so l = record { wanted = wanted_so dry l.wanted; environ = l.environ; justfile = l.justfile; modules = l.modules; dotenv = l.dotenv }

  abbrev scopes_so : ScopesRequest → ScopesRequest
  scopes_so s = record { wanted = wanted_so dry s.wanted; justfile = s.justfile; modules = s.modules; scopes = s.scopes }

  abbrev keys_so : KeysRequest → KeysRequest
  keys_so k = record { wanted = wanted_so dry k.wanted; modules = k.modules; scopes = k.scopes; keys = k.keys }

  abbrev closure_so : ClosureRequest → ClosureRequest
  closure_so c = record { wanted = wanted_so dry c.wanted; modules = c.modules; scopes = c.scopes; closure = c.closure }

  same_wanted : (v w : Wanted) → v ≡ w → wanted_so dry v ≡ wanted_so dry w
  same_wanted v w same = ap (λ (x : Wanted). wanted_so dry x) same

  -- ---- plans

  abbrev outline_with : ClosureRequest → List (Node × NodePlan) → Outline
  outline_with c nodes = record { nodes = nodes; invocations = c.closure.invocations; jobs = option_map non_zero_u64_get c.wanted.jobs; messages = messages_of c.modules c.closure.nodes }

  makes_so : (c : ClosureRequest) (o : Outline) → MakesPlan c (Ok o) → (e : Outline) × MakesPlan (closure_so c) (Ok e) × (unasked_outline e ≡ unasked_outline o)
  makes_so c o (plans, made, is) =
      let found = plans_so dry c.wanted.flags c.wanted.cache_folder c.modules c.scopes c.closure plans made in
      let others : List NodePlan = found.0 in
      let same : map unasked others ≡ map unasked plans = found.2 in (
        outline_with c (zip c.closure.nodes others),
        (others, found.1, refl),
        ap (λ (ns : List (Node × NodePlan)). outline_with c ns) (zipped c.closure.nodes others ∙ (ap (λ (xs : List NodePlan). zip c.closure.nodes xs) same ∙ sym (zipped c.closure.nodes plans)))
            ∙ sym (ap (λ (x : Outline). unasked_outline x) is),
      )

  closes_so : (k : KeysRequest) (o : Outline) → Then ClosesKeys MakesPlan k (Ok o) → (e : Outline) × Then ClosesKeys MakesPlan (keys_so k) (Ok e) × (unasked_outline e ≡ unasked_outline o)
  closes_so k o (stops f refused is) = absurd (refused_or_found f o (sym is))
  closes_so k o (goes_on c (wanted, modules, scopes, closes) makes) =
      let (e, made, same) = makes_so c o makes in
      (e, goes_on (closure_so c) (same_wanted c.wanted k.wanted wanted, modules, scopes, closes) made, same)

  plans_keys_so : (s : ScopesRequest) (o : Outline) → PlansKeys s (Ok o) → (e : Outline) × PlansKeys (scopes_so s) (Ok e) × (unasked_outline e ≡ unasked_outline o)
  plans_keys_so s o (stops f refused is) = absurd (refused_or_found f o (sym is))
  plans_keys_so s o (goes_on k (wanted, modules, scopes, invokes) closes) =
      let (e, closed, same) = closes_so k o closes in
      (e, goes_on (keys_so k) (same_wanted k.wanted s.wanted wanted, modules, scopes, invokes) closed, same)

  -- ---- replies

  -- a listing is no plan
  no_list : (o : Outline) (x : Result Printed Error) → ◌≡◌ {A = Result Reply Error} (Ok (Reply.runs o)) (as_list x) → ⊥
  no_list o (Ok p) is = let no : ⊥ = cc in no
  no_list o (Err e) is = let no : ⊥ = cc in no

  module _ (c d : Config) (lists : d.default_list ≡ c.default_list) (p : LaidRequest) where
    abbrev Alike : (Outline → Type 0) → Outline → Type 0
    Alike gives o = (e : Outline) × gives e × (unasked_outline e ≡ unasked_outline o)

    replies_so : (s : ScopesRequest) (o : Outline) → Replies c p s (Ok (Reply.runs o)) → Alike (λ e. Replies d (request_so dry p) (scopes_so s) (Ok (Reply.runs e))) o
    replies_so s o (Replies.by_list names x listed gives is) = absurd (no_list o x is)
    replies_so s o (Replies.by_plan (Err f) unlisted plans is) = absurd (refused_or_found f (Reply.runs o) (sym is))
    replies_so s o (Replies.by_plan (Ok y) unlisted plans is) =
        let both : ◌≡◌ {A = Result Reply Error} (Ok (Reply.runs o)) (Ok (Reply.runs y)) = is in
        let one : o ≡ y = cc in
        let (e, planned, same) = plans_keys_so s y plans in
        (e, Replies.by_plan (Ok e) (ap (λ (b : Bool). listed_by_default b s.modules s.justfile s.wanted.words) lists ∙ unlisted) planned refl, same ∙ sym (ap (λ (x : Outline). unasked_outline x) one))

    loaded_replies : (l : LoadedRequest) (o : Outline) → RepliesLoaded c p l (Ok (Reply.runs o)) → Alike (λ e. RepliesLoaded d (request_so dry p) (loaded_so l) (Ok (Reply.runs e))) o
    loaded_replies l o (stops f refused is) = absurd (refused_or_found f (Reply.runs o) (sym is))
    loaded_replies l o (goes_on s (wanted, justfile, modules, values) replies) =
        let (e, replied, same) = replies_so s o replies in
        (e, goes_on (scopes_so s) (same_wanted s.wanted l.wanted wanted, justfile, modules, values) replied, same)

    module _ (unset : HasNoCommands p.wanted.dotenv p.laid.justfile) where
      pairs_so : (told after : Option World) (acts : List Act) (modules : List Justfile) (l : LoadedRequest) → LoadsPairs told acts after (project_with p modules) (Ok l) → LoadsPairs told acts after (project_with (request_so dry p) modules) (Ok (loaded_so l))
      pairs_so told after acts modules l (cs, is, (wanted, environ, justfile, all, loads), leaves) =
          (cs, is, (same_wanted l.wanted p.wanted wanted, environ, justfile, all, project_so dry p.wanted.dotenv p.wanted.flags p.environ.pairs p.laid.justfile unset told cs (Ok l.dotenv) loads), leaves)

      project_replies : (told after : Option World) (acts : List Act) (o : Outline) → RepliesTo c told acts after p (Ok (Reply.runs o)) → Alike (λ e. RepliesTo d told acts after (request_so dry p) (Ok (Reply.runs e))) o
      project_replies told after acts o (modules, are, Behind.refused f loads is) = absurd (refused_or_found f (Reply.runs o) (sym is))
      project_replies told after acts o (modules, are, Behind.both l front rest between loads (none, still, replies) split) =
          let (e, replied, same) = loaded_replies l o replies in
          (e, (modules, are, Behind.both (loaded_so l) front rest between (pairs_so told between front modules l loads) (none, still, replied) split), same)

pub dry_plans_agree : DryPlansAgree
dry_plans_agree dry c d told after acts p o lists unset replies = project_replies dry c d lists p unset told after acts o replies
