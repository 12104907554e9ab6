-- Steps that take acts: over told worlds and the same acts two that give one answer of their own at most give one such answer, one behind another.
use Rattle.std.proofs.Common.{◌≡◌, ◌++◌, ℕ, false, true≢false, List, [], ◌∷◌, map, Option, Some, None, MatchOption, Result, Ok, Err, refl, sym, ◌∙◌, ap, subst, append_assoc, append-nil}
use Rattle.std.specs.Prelude.{is_some}
use Rattle.just_host_record.specs.World.{World}
use Rattle.just_host_record.specs.declared.entry.HostFault.{HostFault}
use Rattle.just_lang_types.specs.declared.project.Justfile.{Justfile}
use Rattle.just_exec_work.specs.declared.run_flags.RunFlags.{RunFlags}
use Rattle.just_env.specs.Captures.{Capture, AreTold, told_behind}
use Rattle.just_exec.specs.declared.error.Error.{Error}
use Rattle.just_cli_plan.specs.Own.{uncaptured_by, IsOwn}
use Rattle.just_cli_plan.proofs.Steps.{GivesOwn, same_refusal, refused_or_found, same_found}
use Rattle.just_cli.specs.Acts.{Act, AreToldBehind, Step, Looks, Behind}
use Rattle.just_cli.specs.Request.{acts_of_fault, AreActsOf}

pub own_refusal : {A : Type 0} (r : Result A Error) (e : Error) → r ≡ Err e → IsOwn r → IsOwn {A = A} (Err e)
own_refusal {A = A} r e is own = subst (λ (z : Result A Error). IsOwn z) is own

-- ---- worlds behind children

-- behind later acts worlds are told too
pub told_later : (acts more : List Act) → AreToldBehind (acts ++ more) → AreToldBehind more
told_later [] more told = told
told_later (Act.made folder ∷ acts) more told = told_later acts more told
told_later (Act.captured c ∷ acts) more told = told_later acts more told.1
told_later (Act.uncaptured program ∷ acts) more told = told_later acts more told

-- and behind the children at the front
pub told_front : (cs : List Capture) (more : List Act) → AreToldBehind (map Act.captured cs ++ more) → AreTold cs
told_front [] more told = tt
told_front (c ∷ cs) more told = (told.0, told_front cs more told.1)

told_there : (o : Option World) (cs : List Capture) → MatchOption o ⊥ (λ w. Unit {0}) → AreTold cs → (v : World) × (told_behind o cs ≡ Some v)
told_there None cs told are = absurd told
told_there (Some w) [] told are = (w, refl)
told_there (Some w) (c ∷ cs) told are = told_there c.after cs are.0 are.1

pub told_world : (w : World) (cs : List Capture) → AreTold cs → (v : World) × (told_behind (Some w) cs ≡ Some v)
told_world w cs are = told_there (Some w) cs tt are

-- of two rows of children at the front of the same acts one goes on with what the other has more
pub common : (cs ds : List Capture) (rest left : List Act) → map Act.captured cs ++ rest ≡ map Act.captured ds ++ left → AreTold cs → AreTold ds → (xs : List Capture) × (ys : List Capture) × (cs ++ xs ≡ ds ++ ys) × AreTold (ds ++ ys)
common [] ds rest left all t u = (ds, [], sym (append-nil ds), subst (λ (l : List Capture). AreTold l) (sym (append-nil ds)) u)
common (c ∷ cs) [] rest left all t u = ([], c ∷ cs, append-nil (c ∷ cs), t)
common (c ∷ cs) (d ∷ ds) rest left all t u =
    let heads : Act.captured c ∷ (map Act.captured cs ++ rest) ≡ Act.captured d ∷ (map Act.captured ds ++ left) = all in
    let one : Act.captured c ≡ Act.captured d = cc in
    let same : c ≡ d = cc in
    let tails : map Act.captured cs ++ rest ≡ map Act.captured ds ++ left = cc in
    let k = common cs ds rest left tails t.1 u.1 in
    (k.0, k.1, ap (λ (x : Capture). x ∷ (cs ++ k.0)) same ∙ ap (λ (l : List Capture). d ∷ l) k.2, (u.0, k.3))

-- where no error tells that a child couldn't be run to its end, the acts are those of the children that were
pub no_fault : (cs : List Capture) (program : List ℕ) (o : Option HostFault) → is_some o ≡ false → map Act.captured cs ++ acts_of_fault program o ≡ map Act.captured cs
no_fault cs program None is = append-nil (map Act.captured cs)
no_fault cs program (Some io) is = absurd (true≢false is)

pub own_acts : {A : Type 0} (flags : RunFlags) (j : Justfile) (cs : List Capture) (r : Result A Error) (acts : List Act) → AreActsOf flags j cs r acts → IsOwn r → acts ≡ map Act.captured cs
own_acts flags j cs (Ok x) acts is own = is
own_acts flags j cs (Err e) acts (program, shells, is) own = is ∙ no_fault cs program (uncaptured_by e) own.2

-- ---- steps

-- two answers are one, the acts behind them are the same, and one world is told then
pub record Agrees {R : Type 0} (r s : R) (rest left : List Act) (after later : Option World) : Type 0 where
  pub same : r ≡ s
  pub rests : rest ≡ left
  pub world : World
  pub told : after ≡ Some world
  pub also : later ≡ Some world

-- over a told world and acts that go on the same, behind whose children worlds are told, two steps give one answer of their own at most
abbrev pub Agree : {A B : Type 0} → Step A B → Step A B → Type 0
Agree {A} {B} step other =
    (w : World) (acts more rest left : List Act) (after later : Option World) (x : A) (r s : Result B Error) → step (Some w) acts after x r → IsOwn r → other (Some w) more later x s → IsOwn s → acts ++ rest ≡ more ++ left
    → AreToldBehind (more ++ left) → Agrees r s rest left after later

-- so does one step
abbrev pub GivesOwnStep : {A B : Type 0} → Step A B → Type 0
GivesOwnStep step = Agree step step

-- steps that look do where they give one such answer at most
pub looks_agree : {A B : Type 0} (gives others : Option World → A → Result B Error → Type 0) → ((w : World) (x : A) (r s : Result B Error) → gives (Some w) x r → IsOwn r → others (Some w) x s → IsOwn s → r ≡ s) → Agree (Looks gives) (Looks others)
looks_agree gives others one w acts more rest left after later x r s (none, world, p) own (never, still, q) other all told = record {
  same = one w x r s p own q other;
  rests = ap (λ l. l ++ rest) (sym none) ∙ (all ∙ ap (λ l. l ++ left) never);
  world = w;
  told = world;
  also = still;
}

pub looks_own : {A B : Type 0} (gives : Option World → A → Result B Error → Type 0) → ((w : World) → GivesOwn (gives (Some w))) → GivesOwnStep (Looks gives)
looks_own gives one = looks_agree gives gives one

-- of another answer of the same refusal
pub agrees_refusal : {A B : Type 0} (e f : Error) (rest left : List Act) (after later : Option World) → Agrees {R = Result A Error} (Err e) (Err f) rest left after later → Agrees {R = Result B Error} (Err e) (Err f) rest left after later
agrees_refusal e f rest left after later a = record { same = same_refusal e f a.same; rests = a.rests; world = a.world; told = a.told; also = a.also }

pub agrees_as : {R : Type 0} (r s x y : R) (rest left : List Act) (after later : Option World) → x ≡ r → y ≡ s → Agrees r s rest left after later → Agrees x y rest left after later
agrees_as r s x y rest left after later is at a = record { same = is ∙ a.same ∙ sym at; rests = a.rests; world = a.world; told = a.told; also = a.also }

-- acts in two stretches
pub in_two : (acts front back rest : List Act) → acts ≡ front ++ back → acts ++ rest ≡ front ++ (back ++ rest)
in_two acts front back rest is = ap (λ l. l ++ rest) is ∙ append_assoc front back rest

module _ {A B C : Type 0} (first early : Step A B) (second late : Step B C) (one : Agree first early) (two : Agree second late) where
  pub behind_agree : Agree (Behind first second) (Behind early late)
  behind_agree w acts more rest left after later x r s (Behind.refused e p is) own (Behind.refused f q at) other all told =
      agrees_as (Err e) (Err f) r s rest left after later is at
      (agrees_refusal e f rest left after later (one w acts more rest left after later x (Err e) (Err f) p (own_refusal r e is own) q (own_refusal s f at other) all told))
  behind_agree w acts more rest left after later x r s (Behind.refused e p is) own (Behind.both z front back between q further at) other all told =
      let two_so = in_two more front back left at in
      absurd (refused_or_found e z (one w acts front rest (back ++ left) after between x (Err e) (Ok z) p (own_refusal r e is own) q tt (all ∙ two_so) (subst (λ l. AreToldBehind l) two_so told)).same)
  behind_agree w acts more rest left after later x r s (Behind.both y front back between p further is) own (Behind.refused f q at) other all told =
      let two_so = in_two acts front back rest is in
      let a = one w front more (back ++ rest) left between later x (Ok y) (Err f) p tt q (own_refusal s f at other) (sym two_so ∙ all) told in
      absurd (refused_or_found f y (sym a.same))
  behind_agree w acts more rest left after later x r s (Behind.both y front back between p further is) own (Behind.both z fore hind among q farther at) other all told =
      let two_so = in_two more fore hind left at in
      let told_so : AreToldBehind (fore ++ (hind ++ left)) = subst (λ l. AreToldBehind l) two_so told in
      let a = one w front fore (back ++ rest) (hind ++ left) between among x (Ok y) (Ok z) p tt q tt (sym (in_two acts front back rest is) ∙ (all ∙ two_so)) told_so in
      let found : y ≡ z = same_found y z a.same in
      two a.world back hind rest left after later z r s (subst (λ k. second (Some a.world) back after k r) found (subst (λ t. second t back after y r) a.told further)) own (subst (λ t. late t hind later z s) a.also farther) other a.rests (told_later fore (hind ++ left) told_so)

pub behind_own : {A B C : Type 0} (first : Step A B) (second : Step B C) → GivesOwnStep first → GivesOwnStep second → GivesOwnStep (Behind first second)
behind_own first second one two = behind_agree first first second second one two
