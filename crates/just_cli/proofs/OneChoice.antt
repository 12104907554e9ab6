-- Over a told world and the same acts words that are chosen, and their run, give one answer at most.
use Rattle.std.proofs.Common.{◌≡◌, ◌++◌, ◌≢◌, ℕ, true, false, true≢false, List, [], ◌∷◌, map, Option, Some, None, Result, Ok, Err, refl, sym, ◌∙◌, ap, subst}
use Rattle.std.specs.Prelude.{◌&&◌}
use Rattle.std.proofs.lemmas.List.{append_cancel_left}
use Rattle.just_host_record.specs.World.{World}
use Rattle.just_host_record.specs.declared.entry.Call.{Call}
use Rattle.just_host_record.specs.declared.entry.Call.TheVariants as call
use Rattle.just_host_record.specs.declared.entry.HostFault.{HostFault}
use Rattle.just_host_record.specs.declared.entry.HostFault.TheVariants as fault
use Rattle.just_lang_types.specs.declared.settings.Interpreter.{Interpreter}
use Rattle.just_config.specs.declared.config.Config.{Config}
use Rattle.just_env.specs.declared.search_error.SearchError.{SearchError}
use Rattle.just_env.specs.Captures.{Capture, told_behind}
use Rattle.just_search.specs.declared.location.Location.{Location}
use Rattle.just_search.specs.Fallback.{FallsBack}
use Rattle.just_exec.specs.Refusals.{error_of_search}
use Rattle.just_exec.specs.declared.error.Error.{Error}
use Rattle.just_cli_plan.specs.Loading.{IsOwn as IsOwnSearch}
use Rattle.just_cli_plan.specs.Own.{is_uncaptured, uncaptured_by, IsOwn}
use Rattle.just_cli_plan.proofs.Loading.{own_world}
use Rattle.just_cli_plan.proofs.Steps.{GivesOwn}
use Rattle.just_cli_texts.specs.Laid.{LaidRequest}
use Rattle.just_cli_texts.proofs.Printers.{texts}
use Rattle.just_cli_children.specs.Choosers.{words_of_code, failed_error, chooser_error, RunsChooser}
use Rattle.just_cli.specs.Acts.{Act, AreToldBehind, Looks}
use Rattle.just_cli.specs.Choosing.{AreActsBy, shell_for, chooser_for, project_for, request_for, falls_from, FeedsFor, AsksChooser, Chooses, TriesBehind, RunsWords, ChoosesFor, as_some}
use Rattle.just_cli.specs.Options.{is_lacking, lacks, allowed}
use Rattle.just_cli.specs.Replies.{Reply}
use Rattle.just_cli.specs.Request.{RepliesTo}
use Rattle.just_cli.specs.Words.{ConfigRequest, LocatedRequest}
use Rattle.just_cli.proofs.Acting.{Agrees, GivesOwnStep, looks_own, behind_own, agrees_as, in_two, told_later, told_front, told_world, no_fault}
use Rattle.just_cli.proofs.Climbing.{climb_of_first}
use Rattle.just_cli.proofs.OneLocation.{falls_one}
use Rattle.just_cli.proofs.OnePairs.{own_refused, Ends, children_go_on, behind_own_of}
use Rattle.just_cli.proofs.OneTried.{AnswersOne, own_lacking, own_answer, found_or_refused, none_or_one, one_next, one_error, search_of, stands_or_lacks, tries_one}

-- ---- the words

-- a chooser that isn't run to its end is told as such
failed_uncaptured : (shell arguments chooser : List ℕ) (c : Call) → is_uncaptured (failed_error shell arguments chooser c) ≡ true
failed_uncaptured shell arguments chooser call.Start = refl
failed_uncaptured shell arguments chooser call.Write = refl
failed_uncaptured shell arguments chooser _ = refl

chooser_uncaptured : (sh : Interpreter) (chooser : List ℕ) (io : HostFault) → io ≢ fault.NoMemory → is_uncaptured (chooser_error sh chooser io) ≡ true
chooser_uncaptured sh chooser (fault.Missed m) remembered = refl
chooser_uncaptured sh chooser (fault.Failed c) remembered = failed_uncaptured sh.command _ chooser c
chooser_uncaptured sh chooser fault.NoMemory remembered = absurd (remembered refl)

-- of an answer that is its own the acts are those of the children
own_by : {A : Type 0} (program : List ℕ) (cs : List Capture) (r : Result A Error) (acts : List Act) → AreActsBy program cs r acts → IsOwn r → acts ≡ map Act.captured cs
own_by program cs (Ok x) acts is own = is
own_by program cs (Err e) acts is own = is ∙ no_fault cs program (uncaptured_by e) own.2

module _ (sh : Interpreter) (folder : List ℕ) (told : Option World) (chooser input : List ℕ) where
  abbrev Runs : List Capture → Result (List (List ℕ)) Error → Type 0
  Runs cs r = RunsChooser sh folder told chooser input cs r

  -- a child of such an answer was run to its end
  unchosen : (r : Result (List (List ℕ)) Error) (io : HostFault) → io ≢ fault.NoMemory → r ≡ Err (chooser_error sh chooser io) → IsOwn r → ⊥
  unchosen r io remembered is own =
      true≢false (sym (chooser_uncaptured sh chooser io remembered) ∙ (own_refused (List (List ℕ)) r (chooser_error sh chooser io) is own).2)

  chosen_one : (cs ds : List Capture) (rest left : List Act) (r s : Result (List (List ℕ)) Error) → Runs cs r → IsOwn r → Runs ds s → IsOwn s → map Act.captured cs ++ rest ≡ map Act.captured ds ++ left → (r ≡ s) × (cs ≡ ds)
  chosen_one cs ds rest left r s (RunsChooser.captured c by is gives) own (RunsChooser.captured d through at others) other same =
      let whole : Act.captured c ∷ rest ≡ Act.captured d ∷ left =
      ap (λ (l : List Capture). map Act.captured l ++ rest) (sym is) ∙ (same ∙ ap (λ (l : List Capture). map Act.captured l ++ left) at) in
      let heads : Act.captured c ≡ Act.captured d = cc in
      let one : c ≡ d = cc in
      (gives ∙ (ap (λ (x : Capture). words_of_code chooser x.status x.output) one ∙ sym others), is ∙ (ap (λ (x : Capture). x ∷ []) one ∙ sym at))
  chosen_one cs ds rest left r s (RunsChooser.captured c by is gives) own (RunsChooser.uncaptured io why at refuses) other same = absurd (unchosen s io why.1 refuses other)
  chosen_one cs ds rest left r s (RunsChooser.uncaptured io why is refuses) own runs other same = absurd (unchosen r io why.1 refuses own)

asks_own : (c : Config) (p : LaidRequest) → GivesOwnStep (AsksChooser c p)
asks_own c p w acts more rest left after later input r s (cs, is, runs, leaves) own (ds, at, chooses, keeps) other all told =
    let front = own_by (shell_for p).command cs r acts is own in
    let fore = own_by (shell_for p).command ds s more at other in
    let same = children_go_on acts more rest left cs ds front fore all in
    let there = told_world w ds (told_front ds left (subst (λ l. AreToldBehind (l ++ left)) fore told)) in
    let one = chosen_one (shell_for p) p.wanted.flags.folder (Some w) (chooser_for c p) input cs ds rest left r s runs own chooses other same in
    record {
      same = one.0;
      rests = append_cancel_left (map Act.captured ds) rest left (ap (λ (l : List Capture). map Act.captured l ++ rest) (sym one.1) ∙ same);
      world = there.0;
      told = own_world (Some w) after cs r own leaves ∙ (ap (λ (l : List Capture). told_behind (Some w) l) one.1 ∙ there.1);
      also = own_world (Some w) later ds s other keeps ∙ there.1;
    }

feeds_own : (c : Config) → GivesOwn (FeedsFor c)
feeds_own c p r s h own g other = texts.feeds p.environ.pairs c p.laid r s h g

chooses_own : (c : Config) → GivesOwnStep (Chooses c)
chooses_own c w acts more rest left after later p r s h own g other all told =
    behind_own (Looks (λ now. FeedsFor c)) (AsksChooser c p) (looks_own (λ now. FeedsFor c) (λ v. feeds_own c)) (asks_own c p) w acts more rest left after later p r s h own g other all told

-- ---- their run

-- the reply behind a project is one
abbrev pub RepliesOne : Type 0
RepliesOne =
    (c : Config) (w : World) (acts more rest left : List Act) (after later : Option World) (p : LaidRequest) → Ends p → (r s : Result Reply Error) → RepliesTo c (Some w) acts after p r → IsOwn r → RepliesTo c (Some w) more later p s → IsOwn s → acts ++ rest ≡ more ++ left
    → AreToldBehind (more ++ left) → Agrees {R = Result Reply Error} r s rest left after later

module _ (answers : AnswersOne) (replies : RepliesOne) where
  module _ (k : ConfigRequest) (location : Location) (l : LaidRequest) (ends : Ends l) where
    abbrev Falls : Option World → Result (Option Location) SearchError → Type 0
    Falls told r = FallsBack told k.config location.working_directory r

    one_fall : (v : World) (after later : Option World) → after ≡ Some v → later ≡ Some v → (r s : Result (Option Location) SearchError) → Falls after r → IsOwnSearch r → Falls later s → IsOwnSearch s → r ≡ s
    one_fall v after later is at r s p own q owned = falls_one v k.config location.working_directory r s (subst (λ t. Falls t r) is p) own (subst (λ t. Falls t s) at q) owned

    -- one that answers isn't one behind which another is tried
    no_stand : (r : Result Reply Error) (e : Error) → r ≡ Err e → falls_from l ≡ true → (lacks r && falls_from l) ≡ false → is_lacking e ≡ true → ⊥
    no_stand r e same sets stays lack = stands_or_lacks k answers r (falls_from l) e same sets stays lack

    no_failure : (r : Result Reply Error) (f : SearchError) → r ≡ Err (error_of_search f) → IsOwn r → IsOwnSearch {A = Option Location} (Err f)
    no_failure r f is own = search_of k answers f (own_refused Reply r (error_of_search f) is own)

    behind_one : (w : World) (acts more rest left : List Act) (after later : Option World) (r s : Result Reply Error) → TriesBehind k location (Some w) acts after l r → IsOwn r → TriesBehind k location (Some w) more later l s → IsOwn s → acts ++ rest ≡ more ++ left
        → AreToldBehind (more ++ left) → Agrees {R = Result Reply Error} r s rest left after later
    behind_one w acts more rest left after later r s (TriesBehind.stands p stays) own (TriesBehind.stands q none) owned all told = replies k.config w acts more rest left after later l ends r s p own q owned all told
    behind_one w acts more rest left after later r s (TriesBehind.stands p stays) own (TriesBehind.highest d q wants sets over at) owned all told =
        absurd (no_stand r d (replies k.config w acts more rest left after later l ends r (Err d) p own q (own_lacking d wants) all told).same sets stays wants)
    behind_one w acts more rest left after later r s (TriesBehind.stands p stays) own (TriesBehind.refused d g q wants sets over at) owned all told =
        absurd (no_stand r d (replies k.config w acts more rest left after later l ends r (Err d) p own q (own_lacking d wants) all told).same sets stays wants)
    behind_one w acts more rest left after later r s (TriesBehind.stands p stays) own (TriesBehind.falls d front back among n q wants sets over further split) owned all told =
        let two = in_two more front back left split in
        absurd (no_stand r d (replies k.config w acts front rest (back ++ left) after among l ends r (Err d) p own q (own_lacking d wants) (all ∙ two) (subst (λ z. AreToldBehind z) two told)).same sets stays wants)
    behind_one w acts more rest left after later r s (TriesBehind.highest e p lack sets up is) own (TriesBehind.stands q none) owned all told =
        absurd (no_stand s e (sym (replies k.config w acts more rest left after later l ends (Err e) s p (own_lacking e lack) q owned all told).same) sets none lack)
    behind_one w acts more rest left after later r s (TriesBehind.highest e p lack sets up is) own (TriesBehind.highest d q wants set over at) owned all told =
        agrees_as (Err e) (Err d) r s rest left after later is at (replies k.config w acts more rest left after later l ends (Err e) (Err d) p (own_lacking e lack) q (own_lacking d wants) all told)
    behind_one w acts more rest left after later r s (TriesBehind.highest e p lack sets up is) own (TriesBehind.refused d g q wants set over at) owned all told =
        let a = replies k.config w acts more rest left after later l ends (Err e) (Err d) p (own_lacking e lack) q (own_lacking d wants) all told in
        absurd (found_or_refused g None (one_fall a.world after later a.told a.also (Ok None) (Err g) up tt over (no_failure s g at owned)))
    behind_one w acts more rest left after later r s (TriesBehind.highest e p lack sets up is) own (TriesBehind.falls d front back among n q wants set over further split) owned all told =
        let two = in_two more front back left split in
        let a = replies k.config w acts front rest (back ++ left) after among l ends (Err e) (Err d) p (own_lacking e lack) q (own_lacking d wants) (all ∙ two) (subst (λ z. AreToldBehind z) two told) in
        absurd (none_or_one n (one_fall a.world after among a.told a.also (Ok None) (Ok (Some n)) up tt over tt))
    behind_one w acts more rest left after later r s (TriesBehind.refused e f p lack sets up is) own (TriesBehind.stands q none) owned all told =
        absurd (no_stand s e (sym (replies k.config w acts more rest left after later l ends (Err e) s p (own_lacking e lack) q owned all told).same) sets none lack)
    behind_one w acts more rest left after later r s (TriesBehind.refused e f p lack sets up is) own (TriesBehind.highest d q wants set over at) owned all told =
        let a = replies k.config w acts more rest left after later l ends (Err e) (Err d) p (own_lacking e lack) q (own_lacking d wants) all told in
        absurd (found_or_refused f None (sym (one_fall a.world after later a.told a.also (Err f) (Ok None) up (no_failure r f is own) over tt)))
    behind_one w acts more rest left after later r s (TriesBehind.refused e f p lack sets up is) own (TriesBehind.refused d g q wants set over at) owned all told =
        let a = replies k.config w acts more rest left after later l ends (Err e) (Err d) p (own_lacking e lack) q (own_lacking d wants) all told in
        let refusals : f ≡ g = one_error f g (one_fall a.world after later a.told a.also (Err f) (Err g) up (no_failure r f is own) over (no_failure s g at owned)) in
        record { same = is ∙ (ap (λ (z : SearchError). let into : Result Reply Error = Err (error_of_search z) in into) refusals ∙ sym at); rests = a.rests; world = a.world; told = a.told; also = a.also }
    behind_one w acts more rest left after later r s (TriesBehind.refused e f p lack sets up is) own (TriesBehind.falls d front back among n q wants set over further split) owned all told =
        let two = in_two more front back left split in
        let a = replies k.config w acts front rest (back ++ left) after among l ends (Err e) (Err d) p (own_lacking e lack) q (own_lacking d wants) (all ∙ two) (subst (λ z. AreToldBehind z) two told) in
        absurd (found_or_refused f (Some n) (sym (one_fall a.world after among a.told a.also (Err f) (Ok (Some n)) up (no_failure r f is own) over tt)))
    behind_one w acts more rest left after later r s (TriesBehind.falls e fore hind between o p lack sets up more_of cut) own (TriesBehind.stands q none) owned all told =
        absurd (no_stand s e (sym (replies k.config w fore more (hind ++ rest) left between later l ends (Err e) s p (own_lacking e lack) q owned (sym (in_two acts fore hind rest cut) ∙ all) told).same) sets none lack)
    behind_one w acts more rest left after later r s (TriesBehind.falls e fore hind between o p lack sets up more_of cut) own (TriesBehind.highest d q wants set over at) owned all told =
        let a = replies k.config w fore more (hind ++ rest) left between later l ends (Err e) (Err d) p (own_lacking e lack) q (own_lacking d wants) (sym (in_two acts fore hind rest cut) ∙ all) told in
        absurd (none_or_one o (sym (one_fall a.world between later a.told a.also (Ok (Some o)) (Ok None) up tt over tt)))
    behind_one w acts more rest left after later r s (TriesBehind.falls e fore hind between o p lack sets up more_of cut) own (TriesBehind.refused d g q wants set over at) owned all told =
        let a = replies k.config w fore more (hind ++ rest) left between later l ends (Err e) (Err d) p (own_lacking e lack) q (own_lacking d wants) (sym (in_two acts fore hind rest cut) ∙ all) told in
        absurd (found_or_refused g (Some o) (one_fall a.world between later a.told a.also (Ok (Some o)) (Err g) up tt over (no_failure s g at owned)))
    behind_one w acts more rest left after later r s (TriesBehind.falls e fore hind between o p lack sets up more_of cut) own (TriesBehind.falls d front back among n q wants set over further split) owned all told =
        let two = in_two more front back left split in
        let told_so : AreToldBehind (front ++ (back ++ left)) = subst (λ z. AreToldBehind z) two told in
        let a = replies k.config w fore front (hind ++ rest) (back ++ left) between among l ends (Err e) (Err d) p (own_lacking e lack) q (own_lacking d wants) (sym (in_two acts fore hind rest cut) ∙ (all ∙ two)) told_so in
        let place : o ≡ n = one_next o n (one_fall a.world between among a.told a.also (Ok (Some o)) (Ok (Some n)) up tt over tt) in
        tries_one k answers between hind after o r (climb_of_first k between hind after o r more_of) among back later n s (climb_of_first k among back later n s further) a.world a.told a.also place rest left a.rests (told_later front (back ++ left) told_so) own owned

  own_some : (x : Result Reply Error) (r : Result (Option Reply) Error) → r ≡ as_some x → IsOwn r → IsOwn x
  own_some (Ok o) r is own = tt
  own_some (Err e) r is own = subst (λ (z : Result (Option Reply) Error). IsOwn z) is own

  -- no words are chosen, or those of one run
  module _ (q : LocatedRequest) (p : LaidRequest) where
    words_one : (w : World) (acts more rest left : List Act) (after later : Option World) (ws : List (List ℕ)) → Ends p → (r s : Result (Option Reply) Error) → RunsWords q p (Some w) acts after ws r → IsOwn r → RunsWords q p (Some w) more later ws s → IsOwn s
        → acts ++ rest ≡ more ++ left → AreToldBehind (more ++ left) → Agrees {R = Result (Option Reply) Error} r s rest left after later
    words_one w acts more rest left after later [] ends r s (none, world, is) own (never, still, at) owned all told = record {
      same = is ∙ sym at;
      rests = ap (λ l. l ++ rest) (sym none) ∙ (all ∙ ap (λ l. l ++ left) never);
      world = w;
      told = world;
      also = still;
    }
    words_one w acts more rest left after later (v ∷ vs) ends r s (x, tries, is) own (y, others, at) owned all told =
        let one =
        behind_one (request_for q (v ∷ vs)) q.location (project_for p (v ∷ vs)) ends w acts more rest left after later x y tries (own_answer q.config x (allowed q.config x) refl (own_some (allowed q.config x) r is own)) others
        (own_answer q.config y (allowed q.config y) refl (own_some (allowed q.config y) s at owned)) all told in
        record { same = is ∙ (ap (λ z. as_some (allowed q.config z)) one.same ∙ sym at); rests = one.rests; world = one.world; told = one.told; also = one.also }

    -- behind a project
    pub choices_one : (w : World) (acts more rest left : List Act) (after later : Option World) → Ends p → (r s : Result (Option Reply) Error) → ChoosesFor q (Some w) acts after p r → IsOwn r → ChoosesFor q (Some w) more later p s → IsOwn s
        → acts ++ rest ≡ more ++ left → AreToldBehind (more ++ left) → Agrees {R = Result (Option Reply) Error} r s rest left after later
    choices_one w acts more rest left after later ends r s h own g owned all told =
        behind_own_of (Chooses q.config) (RunsWords q p) (λ ws. Ends p) (chooses_own q.config) (λ now then_told acts x y found. ends) words_one w acts more rest left after later p r s h own g owned all told
