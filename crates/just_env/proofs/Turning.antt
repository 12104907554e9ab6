-- The modules of a project, one after the other, as the loop comes to them.
use Rattle.std.proofs.Common.{◌≡◌, ◌<◌, List, [], ◌∷◌, ◌++◌, map, reverse, Option, Bor, refl, ap, sym, ◌∙◌, subst, append_assoc}
use Rattle.std.specs.Prelude.{Result, Ok, Err, IsErrAnd}
use Rattle.std.proofs.lemmas.List.{append-nil, map-append, reverse-append, reverse-reverse}
use Rattle.just_host_record.specs.World.{Moment, World}
use Rattle.just_dotenv.specs.Meaning.{Pairs}
use Rattle.just_lang_types.specs.declared.project.Justfile.{Justfile}
use Rattle.just_lang_types.specs.declared.scope.DotenvOf.{DotenvOf}
use Rattle.just_lang_types.specs.Modules.{modules_of}
use Rattle.just_lang_types.proofs.Nesting.{weights, fewer}
use Rattle.just_exec_work.specs.declared.run_flags.RunFlags.{RunFlags}
use Rattle.just_env.specs.declared.ask.DotenvAsk.{DotenvAsk}
use Rattle.just_env.specs.declared.env_error.EnvError.{EnvError}
use Rattle.just_env.specs.declared.env_error.EnvError.TheVariants as error
use Rattle.just_env.specs.DotenvAnswers.{GainsAmong, Runs}
use Rattle.just_env.specs.Captures.{Capture, told_behind}
use Rattle.just_env.specs.Loads.{LoadsOwn, LoadsModules, LoadsProject, BeginsOwn, BeginsModules, BeginsProject, Following, following, folder_of, dotenv_of, before_others}
use Rattle.just_env.specs.Turns.{LoadsNext, seen}
use Rattle.just_env.proofs.Running.{among_none, among_then, behind_append, run_refused_behind, run_short_behind}

-- ---- the stack

-- one more on top, behind a borrow
pub seen_more : (pending : List (Bor Justfile × Pairs)) (p : Bor Justfile × Pairs) → seen (pending ++ p ∷ []) ≡ seen pending ++ (p.0.now, p.1) ∷ []
seen_more pending p = map-append (λ (q : Bor Justfile × Pairs). (q.0.now, q.1)) pending (p ∷ [])

-- the modules on a stack
abbrev pub modules_in : Following → List Justfile
modules_in pending = map (λ (p : Justfile × Pairs). p.0) pending

modules_following : (pairs : Pairs) (js : List Justfile) → modules_in (reverse (following pairs js)) ≡ reverse js
modules_following pairs [] = refl
modules_following pairs (j ∷ js) =
    ap modules_in (reverse-append ((j, pairs) ∷ []) (following pairs js))
    ∙ map-append (λ (p : Justfile × Pairs). p.0) (reverse (following pairs js)) ((j, pairs) ∷ [])
    ∙ ap (λ ks. ks ++ j ∷ []) (modules_following pairs js) ∙ sym (reverse-append (j ∷ []) js)

-- ---- what is loaded

-- what is loaded, before what is still to be
abbrev pub behind : List DotenvOf → Result (List DotenvOf) EnvError → Result (List DotenvOf) EnvError
behind done (Ok others) = Ok (done ++ others)
behind done (Err e) = Err e

behind_one : (done : List DotenvOf) (one : DotenvOf) (r : Result (List DotenvOf) EnvError) → behind done (before_others one r) ≡ behind (done ++ one ∷ []) r
behind_one done one (Ok others) = ap (λ l. Ok l) (sym (append_assoc done (one ∷ []) others))
behind_one done one (Err e) = refl

nothing_before : (r : Result (List DotenvOf) EnvError) → r ≡ behind [] r
nothing_before (Ok others) = refl
nothing_before (Err e) = refl

-- whatever the modules on the stack come to, the first ones come to that behind what is loaded
pub record Leads (ask : DotenvAsk) (flags : RunFlags) (environ : Pairs) (told : Option World) (first : Following) (now : Option World) (pending : Following) (cs : List Capture) (done : List DotenvOf) : Type 0 where
  pub so : (ds : List Capture) (r : Result (List DotenvOf) EnvError) → LoadsModules ask flags environ now (reverse pending) ds r → LoadsModules ask flags environ told first (cs ++ ds) (behind done r)
  pub begun : (ds : List Capture) → BeginsModules ask flags environ now (reverse pending) ds → BeginsModules ask flags environ told first (cs ++ ds)

-- ---- one module

module _ (ask : DotenvAsk) (flags : RunFlags) (environ : Pairs) where
  pub next_loaded : (told : Option World) (j : Justfile) (before own pairs : Pairs) (old new : Following) (one : DotenvOf) (cs : List Capture) → pairs ≡ before ++ own
      → one ≡ dotenv_of j pairs → new ≡ old ++ reverse (following pairs (modules_of j)) → LoadsOwn told ask flags environ (folder_of flags.folder j) j cs (Ok own) → LoadsNext told ask flags environ j before old new cs (Ok one)
  next_loaded told j before own pairs old new one cs are is pushed loads =
      (own, loads, is ∙ ap (λ ps. dotenv_of j ps) are, pushed ∙ ap (λ ps. old ++ reverse (following ps (modules_of j))) are)

  -- ---- all modules

  pub leads_first : (told : Option World) (j : Justfile) (pending : Following) → pending ≡ (j, []) ∷ [] → Leads ask flags environ told (following [] (j ∷ [])) told pending [] []
  leads_first told j pending is = record {
    so = λ ds r loads. subst (λ x. LoadsModules ask flags environ told (following [] (j ∷ [])) ds x) (nothing_before r) (subst (λ ps. LoadsModules ask flags environ told (reverse ps) ds r) is loads);
    begun = λ ds begins. subst (λ ps. BeginsModules ask flags environ told (reverse ps) ds) is begins;
  }

  turned : (ps us : Following) (p : Justfile × Pairs) → ps ≡ us ++ p ∷ [] → reverse ps ≡ p ∷ reverse us
  turned ps us p is = ap (λ l. reverse l) is ∙ reverse-append us (p ∷ [])

  within : (us qs rs : Following) → qs ≡ us ++ reverse rs → reverse qs ≡ rs ++ reverse us
  within us qs rs is = ap (λ l. reverse l) is ∙ reverse-append us (reverse rs) ∙ ap (λ l. l ++ reverse us) (reverse-reverse rs)

  module _ (told now : Option World) (first ps us qs : Following) (cs ds : List Capture) (done : List DotenvOf) (j : Justfile) (before : Pairs) (is : ps ≡ us ++ (j, before) ∷ []) (leads : Leads ask flags environ told first now ps cs done) where
    -- one module is loaded
    pub leads_next : (one : DotenvOf) → LoadsNext now ask flags environ j before us qs ds (Ok one) → Leads ask flags environ told first (told_behind now ds) qs (cs ++ ds) (done ++ one ∷ [])
    leads_next one next = record {
      so = λ es r loads.
          let here : LoadsModules ask flags environ (told_behind now ds) (following (before ++ next.0) (modules_of j) ++ reverse us) es r =
          subst (λ l. LoadsModules ask flags environ (told_behind now ds) l es r) (within us qs (following (before ++ next.0) (modules_of j)) next.3) loads in
          let more : LoadsModules ask flags environ now ((j, before) ∷ reverse us) (ds ++ es) (before_others (dotenv_of j (before ++ next.0)) r) = LoadsModules.more now j before next.0 (reverse us) ds es r next.1 here in
          let all : LoadsModules ask flags environ told first (cs ++ (ds ++ es)) (behind done (before_others (dotenv_of j (before ++ next.0)) r)) =
          leads.so (ds ++ es) (before_others (dotenv_of j (before ++ next.0)) r) (subst (λ l. LoadsModules ask flags environ now l (ds ++ es) (before_others (dotenv_of j (before ++ next.0)) r)) (sym (turned ps us (j, before) is)) more) in
          subst (λ l. LoadsModules ask flags environ told first l (behind (done ++ one ∷ []) r)) (sym (append_assoc cs ds es))
          (subst (λ x. LoadsModules ask flags environ told first (cs ++ (ds ++ es)) x) (ap (λ o. behind done (before_others o r)) (sym next.2) ∙ behind_one done one r) all);
      begun = λ es begins.
          let here : BeginsModules ask flags environ (told_behind now ds) (following (before ++ next.0) (modules_of j) ++ reverse us) es =
          subst (λ l. BeginsModules ask flags environ (told_behind now ds) l es) (within us qs (following (before ++ next.0) (modules_of j)) next.3) begins in
          let more : BeginsModules ask flags environ now ((j, before) ∷ reverse us) (ds ++ es) = BeginsModules.one_before now j before next.0 (reverse us) ds es next.1 here in
          subst (λ l. BeginsModules ask flags environ told first l) (sym (append_assoc cs ds es))
          (leads.begun (ds ++ es) (subst (λ l. BeginsModules ask flags environ now l (ds ++ es)) (sym (turned ps us (j, before) is)) more));
    }

    -- one is refused
    pub leads_refused : (e : EnvError) → LoadsNext now ask flags environ j before us qs ds (Err e) → LoadsModules ask flags environ told first (cs ++ ds) (Err e)
    leads_refused e next =
        leads.so ds (Err e) (subst (λ l. LoadsModules ask flags environ now l ds (Err e)) (sym (turned ps us (j, before) is)) (LoadsModules.refused now j before (reverse us) ds e next))

    -- what was begun for those that are loaded, and for one more
    pub leads_begun : BeginsOwn now ask flags environ (folder_of flags.folder j) j ds → BeginsModules ask flags environ told first (cs ++ ds)
    leads_begun begins = leads.begun ds (subst (λ l. BeginsModules ask flags environ now l ds) (sym (turned ps us (j, before) is)) (BeginsModules.the_last now j before (reverse us) ds begins))

    -- there are fewer modules left, with those within it
    pub fewer_left : (one : DotenvOf) → LoadsNext now ask flags environ j before us qs ds (Ok one) → weights (modules_in qs) < weights (modules_in ps)
    fewer_left one next =
        fewer (modules_in ps) (modules_in us) (modules_in qs) j
        (ap modules_in is ∙ map-append (λ (p : Justfile × Pairs). p.0) us ((j, before) ∷ []))
        (ap modules_in next.3 ∙ map-append (λ (p : Justfile × Pairs). p.0) us (reverse (following (before ++ next.0) (modules_of j)))
        ∙ ap (λ ks. modules_in us ++ ks) (modules_following (before ++ next.0) (modules_of j)))

  -- none is left
  pub leads_all : (told now : Option World) (first ps : Following) (cs : List Capture) (done : List DotenvOf) → ps ≡ [] → Leads ask flags environ told first now ps cs done → LoadsModules ask flags environ told first cs (Ok done)
  leads_all told now first ps cs done none leads =
      subst (λ l. LoadsModules ask flags environ told first l (Ok done)) (append-nil cs)
      (subst (λ l. LoadsModules ask flags environ told first (cs ++ []) (Ok l)) (append-nil done)
      (leads.so [] (Ok []) (subst (λ l. LoadsModules ask flags environ now l [] (Ok [])) (sym (ap (λ l. reverse l) none)) (LoadsModules.none now))))

  pub all_begun : (told now : Option World) (first ps : Following) (cs : List Capture) (done : List DotenvOf) → Leads ask flags environ told first now ps cs done → BeginsModules ask flags environ told first cs
  all_begun told now first ps cs done leads = subst (λ l. BeginsModules ask flags environ told first l) (append-nil cs) (leads.begun [] (BeginsModules.nothing_more now (reverse ps)))

-- ---- with modules behind borrows

pub top : (ps us : List (Bor Justfile × Pairs)) (p : Bor Justfile × Pairs) → ps ≡ us ++ p ∷ [] → seen ps ≡ seen us ++ (p.0.now, p.1) ∷ []
top ps us p popped = ap seen popped ∙ seen_more us p

-- ---- the loop over modules

module _ (ask : DotenvAsk) (flags : RunFlags) (environ : Pairs) (before : Moment) (j : Justfile) where
  -- children were run for what is loaded, whatever the modules on the stack come to
  abbrev pub LoadedOn : Moment → Following → List DotenvOf → Type 0
  LoadedOn now pending done =
      (cs : List Capture) × Leads ask flags environ before.world (following [] (j ∷ [])) now.world pending cs done × GainsAmong cs before.entries now.entries × (now.world ≡ told_behind before.world cs)

  pub on_start : (pending : Following) (done : List DotenvOf) → pending ≡ (j, []) ∷ [] → done ≡ [] → LoadedOn before pending done
  on_start pending done is none = subst (λ l. LoadedOn before pending l) (sym none) ([], leads_first ask flags environ before.world j pending is, among_none before.entries, refl)

  pub on_end : (now : Moment) (pending : Following) (done all : List DotenvOf) → pending ≡ [] → all ≡ done → LoadedOn now pending done
      → Runs (LoadsProject before.world ask flags environ j) (BeginsProject before.world ask flags environ j) before now (Ok all)
  on_end now pending done all none same (cs, leads, gained, is) =
      subst (λ l. Runs (LoadsProject before.world ask flags environ j) (BeginsProject before.world ask flags environ j) before now (Ok l)) (sym same) (
        cs,
        leads_all ask flags environ before.world now.world (following [] (j ∷ [])) pending cs done none leads,
        gained,
        is,
        all_begun ask flags environ before.world now.world (following [] (j ∷ [])) pending cs done leads,
      )

  -- a module is taken from the stack
  module _ (now after : Moment) (ps us qs : Following) (k : Justfile) (pairs : Pairs) (done : List DotenvOf) (is : ps ≡ us ++ (k, pairs) ∷ []) (loaded : LoadedOn now ps done) where
    pub on_more : (one : DotenvOf) (all : List DotenvOf) → Runs (LoadsNext now.world ask flags environ k pairs us qs) (BeginsOwn now.world ask flags environ (folder_of flags.folder k) k) now after (Ok one) → all ≡ done ++ one ∷ []
        → LoadedOn after qs all
    on_more one all (ds, next, gained, world, begun) so =
        let leads : Leads ask flags environ before.world (following [] (j ∷ [])) (told_behind now.world ds) qs (loaded.0 ++ ds) (done ++ one ∷ []) =
        leads_next ask flags environ before.world now.world (following [] (j ∷ [])) ps us qs loaded.0 ds done k pairs is loaded.1 one next in (
          loaded.0 ++ ds,
          subst (λ w. Leads ask flags environ before.world (following [] (j ∷ [])) w qs (loaded.0 ++ ds) all) (sym world)
              (subst (λ l. Leads ask flags environ before.world (following [] (j ∷ [])) (told_behind now.world ds) qs (loaded.0 ++ ds) l) (sym so) leads),
          among_then loaded.0 ds before.entries now.entries after.entries loaded.2 gained,
          world ∙ ap (λ w. told_behind w ds) loaded.3 ∙ sym (behind_append before.world loaded.0 ds),
        )

    pub on_fewer : (one : DotenvOf) → Runs (LoadsNext now.world ask flags environ k pairs us qs) (BeginsOwn now.world ask flags environ (folder_of flags.folder k) k) now after (Ok one) → weights (modules_in qs) < weights (modules_in ps)
    on_fewer one (ds, next, gained, world, begun) = fewer_left ask flags environ before.world now.world (following [] (j ∷ [])) ps us qs loaded.0 ds done k pairs is loaded.1 one next

    begun_here : (ds : List Capture) → BeginsOwn now.world ask flags environ (folder_of flags.folder k) k ds → BeginsProject before.world ask flags environ j (loaded.0 ++ ds)
    begun_here ds begins = leads_begun ask flags environ before.world now.world (following [] (j ∷ [])) ps us qs loaded.0 ds done k pairs is loaded.1 begins

    pub on_error : (e : EnvError) → Runs (LoadsNext now.world ask flags environ k pairs us qs) (BeginsOwn now.world ask flags environ (folder_of flags.folder k) k) now after (Err e)
        → Runs (LoadsProject before.world ask flags environ j) (BeginsProject before.world ask flags environ j) before after (Err e)
    on_error e runs =
        run_refused_behind (LoadsProject before.world ask flags environ j) (BeginsProject before.world ask flags environ j) before after loaded.0 now loaded.2 loaded.3
        (LoadsNext now.world ask flags environ k pairs us qs) (BeginsOwn now.world ask flags environ (folder_of flags.folder k) k) e runs
        (λ ds refuses. leads_refused ask flags environ before.world now.world (following [] (j ∷ [])) ps us qs loaded.0 ds done k pairs is loaded.1 e refuses) begun_here

    pub on_short : (one : DotenvOf) (r : Result (List DotenvOf) EnvError) → Runs (LoadsNext now.world ask flags environ k pairs us qs) (BeginsOwn now.world ask flags environ (folder_of flags.folder k) k) now after (Ok one) → IsErrAnd r (λ e. e ≡ error.NoMemory)
        → Runs (LoadsProject before.world ask flags environ j) (BeginsProject before.world ask flags environ j) before after r
    on_short one (Ok x) runs memory = absurd memory
    on_short one (Err e) runs memory =
        run_short_behind (LoadsProject before.world ask flags environ j) (BeginsProject before.world ask flags environ j) before after loaded.0 now loaded.2 loaded.3
        runs.0 e runs.2 runs.3 memory (begun_here runs.0 runs.4)
