-- What stands behind a project's dotenv pairs has one answer of its own at most, where the same children are run for these.
use Rattle.std.proofs.Common.{◌≡◌, ◌++◌, List, [], ◌∷◌, map, Some, Option, Result, Ok, Err, refl, sym, ◌∙◌, ap, subst, append-nil}
use Rattle.std.proofs.lemmas.List.{append_cancel_left}
use Rattle.just_host_record.specs.World.{World}
use Rattle.just_lang_types.specs.declared.project.Justfile.{Justfile}
use Rattle.just_lang_types.specs.Modules.{AreModules}
use Rattle.just_lang_types.proofs.Nesting.{same_modules}
use Rattle.just_env.specs.Captures.{Capture, told_behind}
use Rattle.just_exec.specs.declared.error.Error.{Error}
use Rattle.just_cli_plan.specs.Own.{IsOwn}
use Rattle.just_cli_plan.specs.Request.{ProjectRequest, LoadedRequest, LoadsDotenv}
use Rattle.just_cli_plan.specs.Steps.{Then, stops, goes_on}
use Rattle.just_cli_plan.proofs.Loading.{own_world}
use Rattle.just_cli_plan.proofs.Requests.{EndsProject, EndsLoaded, behind_pairs}
use Rattle.just_cli_plan.proofs.Steps.{GivesOwnOf, refused_or_found, same_found}
use Rattle.just_cli_texts.specs.Laid.{LaidRequest, project_with}
use Rattle.just_cli.specs.Acts.{Act, AreToldBehind, Step, Looks, Behind}
use Rattle.just_cli.specs.Request.{LoadsPairs, WithModules}
use Rattle.just_cli.proofs.Acting.{Agrees, GivesOwnStep, own_refusal, agrees_as, agrees_refusal, in_two, told_later, told_front, told_world, common, own_acts}

-- a refusal is determined whatever it refuses
pub own_refused : {B : Type 0} (A : Type 0) (r : Result B Error) (e : Error) → r ≡ Err e → IsOwn r → IsOwn {A = A} (Err e)
own_refused {B = B} A r e is own = subst (λ (z : Result B Error). IsOwn z) is own

pub nil_front : (xs ys : List Act) → [] ≡ xs ++ ys → xs ≡ []
nil_front [] ys is = refl
nil_front (x ∷ xs) ys is = absurd (let no : ⊥ = cc in no)

pub nil_back : (xs ys : List Act) → [] ≡ xs ++ ys → ys ≡ []
nil_back [] ys is = sym is
nil_back (x ∷ xs) ys is = absurd (let no : ⊥ = cc in no)

-- of children none was run
no_children : (cs : List Capture) → [] ≡ map Act.captured cs → cs ≡ []
no_children [] is = refl
no_children (c ∷ cs) is = absurd (let no : ⊥ = cc in no)

pub children_go_on : (acts more rest left : List Act) (cs ds : List Capture) → acts ≡ map Act.captured cs → more ≡ map Act.captured ds → acts ++ rest ≡ more ++ left → map Act.captured cs ++ rest ≡ map Act.captured ds ++ left
children_go_on acts more rest left cs ds is at all = ap (λ l. l ++ rest) (sym is) ∙ (all ∙ ap (λ l. l ++ left) at)

-- the modules of what was found come to an end, in whichever list
abbrev pub Ends : LaidRequest → Type 0
Ends q = (modules : List Justfile) → AreModules (q.laid.justfile ∷ []) modules → EndsProject (project_with q modules)

module _ {B : Type 0} (looks : LoadedRequest → Result B Error → Type 0) where
  abbrev BehindThem : Step ProjectRequest B
  BehindThem = Behind LoadsPairs (Looks (λ now. looks))

  -- where no act is taken, the world stays
  pairs_still : (told after : Option World) (acts : List Act) (k : ProjectRequest) (r : Result B Error) → BehindThem told acts after k r → IsOwn r → [] ≡ acts → after ≡ told
  pairs_still told after acts k r (Behind.refused e (cs, is, loads, leaves) refuses) own none =
      let owned = own_refused LoadedRequest r e refuses own in
      own_world {A = LoadedRequest} told after cs (Err e) owned leaves ∙ ap (λ (l : List Capture). told_behind told l) (no_children cs (none ∙ own_acts {A = LoadedRequest} k.wanted.flags k.justfile cs (Err e) acts is owned))
  pairs_still told after acts k r (Behind.both q front back between (cs, is, loads, leaves) (empty, world, gives) split) own none =
      world ∙ (own_world {A = LoadedRequest} told between cs (Ok q) tt leaves ∙ ap (λ (l : List Capture). told_behind told l) (no_children cs (sym (nil_front front back (none ∙ split)) ∙ is)))

  pub modules_still : (told after : Option World) (acts : List Act) (q : LaidRequest) (r : Result B Error) → WithModules BehindThem told acts after q r → IsOwn r → [] ≡ acts → after ≡ told
  modules_still told after acts q r (modules, are, gives) own none = pairs_still told after acts (project_with q modules) r gives own none

  -- the same, with the children that are run, and the world that is told behind these
  abbrev InRow : Step ProjectRequest B
  InRow told acts after k r = (cs : List Capture) × (acts ≡ map Act.captured cs) × Then (LoadsDotenv told cs) looks k r × (after ≡ told_behind told cs)

  in_row : (told after : Option World) (acts : List Act) (k : ProjectRequest) (r : Result B Error) → BehindThem told acts after k r → IsOwn r → InRow told acts after k r
  in_row told after acts k r (Behind.refused e (cs, is, loads, leaves) refuses) own =
      let owned = own_refused LoadedRequest r e refuses own in
      (cs, own_acts {A = LoadedRequest} k.wanted.flags k.justfile cs (Err e) acts is owned, stops e loads refuses, own_world {A = LoadedRequest} told after cs (Err e) owned leaves)
  in_row told after acts k r (Behind.both q front back between (cs, is, loads, leaves) (nothing, world, gives) split) own =
      (cs, split ∙ (ap (λ l. front ++ l) nothing ∙ (append-nil front ∙ is)), goes_on q loads gives, world ∙ own_world {A = LoadedRequest} told between cs (Ok q) tt leaves)

  module _ (one : GivesOwnOf EndsLoaded looks) where
    pairs_one : (w : World) (acts more rest left : List Act) (after later : Option World) (k : ProjectRequest) → EndsProject k → (r q : Result B Error) → InRow (Some w) acts after k r → IsOwn r → InRow (Some w) more later k q → IsOwn q → acts ++ rest ≡ more ++ left
        → AreToldBehind (more ++ left) → Agrees r q rest left after later
    pairs_one w acts more rest left after later k ends r q (cs, is, p, world) own (ds, at, o, still) other all told =
        let same = children_go_on acts more rest left cs ds is at all in
        let told_ds : AreToldBehind (map Act.captured ds ++ left) = subst (λ l. AreToldBehind (l ++ left)) at told in
        let told_cs : AreToldBehind (map Act.captured cs ++ rest) = subst (λ l. AreToldBehind l) (sym same) told_ds in
        let are = told_front ds left told_ds in
        let c = common cs ds rest left same (told_front cs rest told_cs) are in
        let both = behind_pairs looks one w k ends cs ds c.0 c.1 c.2 c.3 r q p own o other in
        let there = told_world w ds are in
        record {
          same = both.0;
          rests = append_cancel_left (map Act.captured ds) rest left (ap (λ (l : List Capture). map Act.captured l ++ rest) (sym both.1) ∙ same);
          world = there.0;
          told = world ∙ (ap (λ (l : List Capture). told_behind (Some w) l) both.1 ∙ there.1);
          also = still ∙ there.1;
        }

    -- from the project on
    pub modules_one : (w : World) (acts more rest left : List Act) (after later : Option World) (q : LaidRequest) → Ends q → (r s : Result B Error) → WithModules BehindThem (Some w) acts after q r → IsOwn r → WithModules BehindThem (Some w) more later q s → IsOwn s
        → acts ++ rest ≡ more ++ left → AreToldBehind (more ++ left) → Agrees r s rest left after later
    modules_one w acts more rest left after later q ends r s (modules, are, p) own (others, also, o) other all told =
        let same : modules ≡ others = same_modules (q.laid.justfile ∷ []) modules others are also in
        pairs_one w acts more rest left after later (project_with q others) (ends others also) r s
        (in_row (Some w) after acts (project_with q others) r (subst (λ (l : List Justfile). BehindThem (Some w) acts after (project_with q l) r) same p) own) own (in_row (Some w) later more (project_with q others) s o other) other all told

-- ---- one step behind another, which gives one answer from what the first finds

module _ {A B C : Type 0} (first : Step A B) (second : Step B C) (has : B → Type 0) (one : GivesOwnStep first) (gives : (told after : Option World) (acts : List Act) (x : A) (y : B) → first told acts after x (Ok y) → has y)
    (two : (w : World) (acts more rest left : List Act) (after later : Option World) (y : B) → has y → (r s : Result C Error) → second (Some w) acts after y r → IsOwn r → second (Some w) more later y s → IsOwn s → acts ++ rest ≡ more ++ left → AreToldBehind (more ++ left)
    → Agrees r s rest left after later) where
  pub behind_own_of : GivesOwnStep (Behind first second)
  behind_own_of w acts more rest left after later x r s (Behind.refused e p is) own (Behind.refused f q at) other all told =
      agrees_as (Err e) (Err f) r s rest left after later is at
      (agrees_refusal e f rest left after later (one w acts more rest left after later x (Err e) (Err f) p (own_refusal r e is own) q (own_refusal s f at other) all told))
  behind_own_of w acts more rest left after later x r s (Behind.refused e p is) own (Behind.both z front back between q further at) other all told =
      let two_so = in_two more front back left at in
      absurd (refused_or_found e z (one w acts front rest (back ++ left) after between x (Err e) (Ok z) p (own_refusal r e is own) q tt (all ∙ two_so) (subst (λ l. AreToldBehind l) two_so told)).same)
  behind_own_of w acts more rest left after later x r s (Behind.both y front back between p further is) own (Behind.refused f q at) other all told =
      let two_so = in_two acts front back rest is in
      let a = one w front more (back ++ rest) left between later x (Ok y) (Err f) p tt q (own_refusal s f at other) (sym two_so ∙ all) told in
      absurd (refused_or_found f y (sym a.same))
  behind_own_of w acts more rest left after later x r s (Behind.both y front back between p further is) own (Behind.both z fore hind among q farther at) other all told =
      let two_so = in_two more fore hind left at in
      let told_so : AreToldBehind (fore ++ (hind ++ left)) = subst (λ l. AreToldBehind l) two_so told in
      let a = one w front fore (back ++ rest) (hind ++ left) between among x (Ok y) (Ok z) p tt q tt (sym (in_two acts front back rest is) ∙ (all ∙ two_so)) told_so in
      let found : y ≡ z = same_found y z a.same in
      two a.world back hind rest left after later z (gives (Some w) among fore x z q) r s (subst (λ k. second (Some a.world) back after k r) found (subst (λ t. second t back after y r) a.told further)) own (subst (λ t. second t hind later z s) a.also farther) other a.rests
      (told_later fore (hind ++ left) told_so)
