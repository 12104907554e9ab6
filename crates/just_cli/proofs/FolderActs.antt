-- What is asked by a dry run runs no child, whatever it comes to.
use Rattle.std.proofs.Common.{◌≡◌, ◌++◌, ℕ, Bool, true, false, List, [], ◌∷◌, map, Option, None, Result, Ok, Err, refl, sym, ◌∙◌, ap, subst, append_assoc}
use Rattle.just_host_record.specs.World.{World}
use Rattle.just_host_record.specs.declared.entry.Entry.{Entry}
use Rattle.just_config.specs.declared.config.Config.{Config}
use Rattle.just_config_words.specs.declared.arguments.Arguments.{Arguments}
use Rattle.just_config_words.specs.declared.subcommand.Subcommand.{Subcommand}
use Rattle.just_env.specs.Captures.{Capture}
use Rattle.just_env.specs.Agree.{tells_uncaptured}
use Rattle.just_env.specs.declared.env_error.EnvError.{EnvError}
use Rattle.just_env.proofs.DryLoads.{loads_none, begins_none}
use Rattle.just_exec.specs.declared.error.Error.{Error}
use Rattle.just_cli_plan.specs.Own.{uncaptured_by, is_uncaptured}
use Rattle.just_cli_plan.specs.Request.{ProjectRequest, LoadedRequest}
use Rattle.just_cli_plan.specs.Steps.{stops, goes_on}
use Rattle.just_cli_plan.specs.declared.wanted.Wanted.{Wanted}
use Rattle.just_cli_plan.proofs.Alone.{same_unrun}
use Rattle.just_cli_plan.proofs.Steps.{refused_or_found}
use Rattle.just_cli_texts.specs.Kinds.{kind_of}
use Rattle.just_cli_texts.specs.Laid.{LaidRequest, project_with}
use Rattle.just_cli.specs.Acts.{Act, Behind, BeginsBehind}
use Rattle.just_cli.specs.Asked.{Asked, AsksBy, BeginsBy, AsksAt, BeginsAsks, Searches, BeginsSearches, Decides, Serves, BeginsServes}
use Rattle.just_cli.specs.Childless.{AreFolders, RunsNoChild}
use Rattle.just_cli.specs.Replies.{Reply}
use Rattle.just_cli.specs.Request.{FindsProjectOf, FindsProjectAt, LoadsPairs, RepliesTo, AnswersAt, at_place, Item, Tried, IsTried, ComesTo, acts_of, IsFirstAnswer, BeginsPairs, BeginsAt, BeginsItem, BeginsFrom}
use Rattle.just_cli.specs.Words.{ArgumentsRequest, ConfigRequest, LocatedRequest, JustfileRequest, TakesFile}
use Rattle.just_cli.proofs.Acting.{no_fault}

-- ---- acts

pub none_made : (acts : List Act) → acts ≡ [] → AreFolders acts
none_made acts none = subst (λ l. AreFolders l) (sym none) tt

all_made : (folders : List (List ℕ)) → AreFolders (map Act.made folders)
all_made [] = tt
all_made (folder ∷ folders) = all_made folders

made_so : (acts : List Act) (folders : List (List ℕ)) → acts ≡ map Act.made folders → AreFolders acts
made_so acts folders is = subst (λ l. AreFolders l) (sym is) (all_made folders)

made_then : (front rest : List Act) → AreFolders front → AreFolders rest → AreFolders (front ++ rest)
made_then [] rest a b = b
made_then (Act.made folder ∷ front) rest a b = made_then front rest a b
made_then (Act.captured c ∷ front) rest a b = absurd a
made_then (Act.uncaptured program ∷ front) rest a b = absurd a

pub made_both : (acts front rest : List Act) → acts ≡ front ++ rest → AreFolders front → AreFolders rest → AreFolders acts
made_both acts front rest split a b = subst (λ l. AreFolders l) (sym split) (made_then front rest a b)

-- ---- the project

takes_made : (told after : Option World) (acts : List Act) (q : LocatedRequest) (r : Result JustfileRequest Error) → TakesFile told acts after q r → AreFolders acts
takes_made told after acts q (Ok j) (folders, s, is, m, path, wanted, environ) = made_so acts folders is
takes_made told after acts q (Err e) (folders, f, is, m, never, from) = made_so acts folders is

project_made : (told after : Option World) (acts : List Act) (q : LocatedRequest) (r : Result LaidRequest Error) → FindsProjectAt told acts after q r → AreFolders acts
project_made told after acts q r (Behind.refused e takes is) = takes_made told after acts q (Err e) takes
project_made told after acts q r (Behind.both j front rest between takes (none, still, finds) split) = made_both acts front rest split (takes_made told between front q (Ok j) takes) (none_made rest none)

-- what is asked of it is asked dry
asked_of : (told : Option World) (j : JustfileRequest) (p : LaidRequest) → FindsProjectOf told j (Ok p) → p.wanted ≡ j.wanted
asked_of told j p (stops e lost is) = absurd (refused_or_found e p (sym is))
asked_of told j p (goes_on s loads finds) = finds.0 ∙ loads.0

project_dry : (told after : Option World) (acts : List Act) (q : LocatedRequest) (p : LaidRequest) → q.config.dry_run ≡ true → FindsProjectAt told acts after q (Ok p) → p.wanted.dotenv.dry_run ≡ true
project_dry told after acts q p dry (Behind.refused e takes is) = absurd (refused_or_found e p (sym is))
project_dry told after acts q p dry (Behind.both j front rest between (folders, s, is, m, path, wanted, environ) (none, still, finds) split) = ap (λ (w : Wanted). w.dotenv.dry_run) (asked_of between j p finds ∙ wanted) ∙ dry

-- ---- dotenv pairs

not_true : (b : Bool) → (b ≡ true → ⊥) → b ≡ false
not_true true never = absurd (never refl)
not_true false never = refl

-- a refusal that tells of no child is none of one
refused_so : (f : EnvError) (e : Error) → (tells_uncaptured f ≡ true → ⊥) → is_uncaptured e ≡ tells_uncaptured f → is_uncaptured e ≡ false
refused_so f e never is = is ∙ not_true (tells_uncaptured f) never

loads_made : (told after : Option World) (acts : List Act) (p : ProjectRequest) (r : Result LoadedRequest Error) → p.wanted.dotenv.dry_run ≡ true → LoadsPairs told acts after p r → acts ≡ []
loads_made told after acts p (Ok q) dry (cs, is, loads, leaves) =
    is ∙ ap (λ (l : List Capture). map Act.captured l) (loads_none p.wanted.dotenv p.wanted.flags p.environ.pairs dry told p.justfile cs (Ok q.dotenv) loads.4).0
loads_made told after acts p (Err e) dry (cs, (program, shells, is), (f, loads, from), leaves) =
    let none = loads_none p.wanted.dotenv p.wanted.flags p.environ.pairs dry told p.justfile cs (Err f) loads in
    let captured : is_uncaptured e ≡ false = refused_so f e none.1 (ap (λ x. is_uncaptured x) from ∙ sym (same_unrun f)) in
    is ∙ (no_fault cs program (uncaptured_by e) captured ∙ ap (λ (l : List Capture). map Act.captured l) none.0)

pairs_made : (told after : Option World) (acts : List Act) (p : LaidRequest) → p.wanted.dotenv.dry_run ≡ true → BeginsPairs told acts after p → acts ≡ []
pairs_made told after acts p dry (cs, is, world, begins) = is ∙ ap (λ (l : List Capture). map Act.captured l) (begins_none p.wanted.dotenv p.wanted.flags p.environ.pairs dry told p.laid.justfile cs begins)

replies_made : (c : Config) (told after : Option World) (acts : List Act) (p : LaidRequest) (r : Result Reply Error) → p.wanted.dotenv.dry_run ≡ true → RepliesTo c told acts after p r → AreFolders acts
replies_made c told after acts p r dry (modules, are, Behind.refused e loads is) = none_made acts (loads_made told after acts (project_with p modules) (Err e) dry loads)
replies_made c told after acts p r dry (modules, are, Behind.both q front rest between loads (none, still, gives) split) =
    made_both acts front rest split (none_made front (loads_made told between front (project_with p modules) (Ok q) dry loads)) (none_made rest none)

-- ---- the justfiles that are tried

answers_made : (told after : Option World) (acts : List Act) (q : LocatedRequest) (r : Result Reply Error) (fallback : Bool) → q.config.dry_run ≡ true → AnswersAt told acts after q r fallback → AreFolders acts
answers_made told after acts q r fallback dry (AnswersAt.no_project e finds is none) = project_made told after acts q (Err e) finds
answers_made told after acts q r fallback dry (AnswersAt.of_project p front rest between finds replies split sets) =
    made_both acts front rest split (project_made told between front q (Ok p) finds) (replies_made q.config between after rest p r (project_dry told between front q p dry finds) replies)

at_made : (told after : Option World) (acts : List Act) (q : LocatedRequest) → q.config.dry_run ≡ true → BeginsAt told acts after q → AreFolders acts
at_made told after acts q dry (BeginsBehind.at_first (BeginsBehind.at_first (folders, r, is, m))) = made_so acts folders is
at_made told after acts q dry (BeginsBehind.at_first (BeginsBehind.at_second j front rest between takes (none, still) split)) = made_both acts front rest split (takes_made told between front q (Ok j) takes) (none_made rest none)
at_made told after acts q dry (BeginsBehind.at_second p front rest between finds pairs split) =
    made_both acts front rest split (project_made told between front q (Ok p) finds) (none_made rest (pairs_made between after rest p (project_dry told between front q p dry finds) pairs))

module _ (c : ConfigRequest) (dry : c.config.dry_run ≡ true) where
  tried_made : (t : Tried) (told : Option World) (item : Item) → IsTried c t told item → AreFolders t.acts
  tried_made t told (Ok location) (is, at, answers) = answers_made t.told t.after t.acts (at_place c location) t.answer t.fallback dry answers
  tried_made t told (Err e) (is, at, (none, world, answer, never)) = none_made t.acts none

  item_made : (told after : Option World) (acts : List Act) (item : Item) → BeginsItem c told acts after item → AreFolders acts
  item_made told after acts (Ok location) begins = at_made told after acts (at_place c location) dry begins
  item_made told after acts (Err e) (none, world) = none_made acts none

  -- those that are tried before one, and what it does
  comes_made : (reached : Option World → Item → Type 0) (rest : List Act) → ((told : Option World) (item : Item) → reached told item → AreFolders rest) → (before : List Tried) (told : Option World) (item : Item) → ComesTo c reached told item before → AreFolders (acts_of before ++ rest)
  comes_made reached rest last [] told item comes = last told item comes
  comes_made reached rest last (t ∷ ts) told item (tried, lack, (next, stands, more)) =
      subst (λ l. AreFolders l) (sym (append_assoc t.acts (acts_of ts) rest)) (made_then t.acts (acts_of ts ++ rest) (tried_made t told item tried) (comes_made reached rest last ts t.after next more))

  first_made : (told after : Option World) (acts : List Act) (q : LocatedRequest) (r : Result Reply Error) → IsFirstAnswer c told acts after q.location r → AreFolders acts
  first_made told after acts q r k = subst (λ l. AreFolders l) (sym k.acts_are) (comes_made (λ now one. IsTried c k.it now one) k.it.acts (λ now one tried. tried_made k.it now one tried) k.before told (Ok q.location) k.comes)

  from_made : (told after : Option World) (acts : List Act) (q : LocatedRequest) → BeginsFrom c told acts after q.location → AreFolders acts
  from_made told after acts q (before, rest, comes, split) = subst (λ l. AreFolders l) (sym split) (comes_made (λ now item. BeginsItem c now rest after item) rest (λ now item begins. item_made now after rest item begins) before told (Ok q.location) comes)

-- ---- behind the configuration

asks_made : (told after : Option World) (acts : List Act) (q : LocatedRequest) (r : Result Asked Error) → q.config.dry_run ≡ true → q.config.subcommand ≡ None → AsksAt told acts after q r → AreFolders acts
asks_made told after acts q r dry none asks =
    let runs = subst (λ (s : Option Subcommand). AsksBy (kind_of s) told acts after q r) none asks in
    let c : ConfigRequest = record { config = q.config; environ = q.environ } in first_made c dry told after acts q runs.1.0 runs.1.1

begins_made : (told after : Option World) (acts : List Act) (q : LocatedRequest) → q.config.dry_run ≡ true → q.config.subcommand ≡ None → BeginsAsks told acts after q → AreFolders acts
begins_made told after acts q dry none begins =
    let runs = subst (λ (s : Option Subcommand). BeginsBy (kind_of s) told acts after q) none begins in
    let c : ConfigRequest = record { config = q.config; environ = q.environ } in from_made c dry told after acts q runs

module _ (listings : List Entry) (told after : Option World) where
  searches_made : (acts : List Act) (c : ConfigRequest) (r : Result Asked Error) → c.config.dry_run ≡ true → c.config.subcommand ≡ None → Searches listings told acts after c r → AreFolders acts
  searches_made acts c r dry none (Behind.refused e (empty, still, finds) is) = none_made acts empty
  searches_made acts c r dry none (Behind.both q front rest between (empty, still, finds) asks split) =
      made_both acts front rest split (none_made front empty) (asks_made between after rest q r (ap (λ (k : Config). k.dry_run) finds.0 ∙ dry) (ap (λ (k : Config). k.subcommand) finds.0 ∙ none) asks)

  decides_made : (acts : List Act) (c : ConfigRequest) (r : Result Asked Error) → c.config.dry_run ≡ true → c.config.subcommand ≡ None → Decides listings told acts after c r → AreFolders acts
  decides_made acts c r dry none (Decides.reads_none alone empty (nothing, still, asks)) = none_made acts nothing
  decides_made acts c r dry none (Decides.reads_one reads searches) = searches_made acts c r dry none searches

  search_begun_made : (acts : List Act) (c : ConfigRequest) → c.config.dry_run ≡ true → c.config.subcommand ≡ None → BeginsSearches listings told acts after c → AreFolders acts
  search_begun_made acts c dry none (reads, BeginsBehind.at_first (empty, still)) = none_made acts empty
  search_begun_made acts c dry none (reads, BeginsBehind.at_second q front rest between (empty, still, finds) begins split) =
      made_both acts front rest split (none_made front empty) (begins_made between after rest q (ap (λ (k : Config). k.dry_run) finds.0 ∙ dry) (ap (λ (k : Config). k.subcommand) finds.0 ∙ none) begins)

serves_made : (listings : List Entry) (told after : Option World) (acts : List Act) (a : ArgumentsRequest) (r : Result Asked Error) → a.arguments.dry_run ≡ true → a.arguments.subcommand ≡ None → Serves listings told acts after a r → AreFolders acts
serves_made listings told after acts a r dry none (Behind.refused e (empty, still, finds) is) = none_made acts empty
serves_made listings told after acts a r dry none (Behind.both f front rest between (empty, still, finds) (Behind.refused e (nothing, same, configures) is) split) = made_both acts front rest split (none_made front empty) (none_made rest nothing)
serves_made listings told after acts a r dry none (Behind.both f front rest between (empty, still, finds) (Behind.both c fore hind among (nothing, same, (given, is)) decides cut) split) =
    made_both acts front rest split (none_made front empty)
    (made_both rest fore hind cut (none_made fore nothing)
    (decides_made listings among after hind c r (ap (λ (k : ConfigRequest). k.config.dry_run) is ∙ (ap (λ (x : Arguments). x.dry_run) finds.0 ∙ dry)) (ap (λ (k : ConfigRequest). k.config.subcommand) is ∙ (ap (λ (x : Arguments). x.subcommand) finds.0 ∙ none)) decides))

serves_begun_made : (listings : List Entry) (told after : Option World) (acts : List Act) (a : ArgumentsRequest) → a.arguments.dry_run ≡ true → a.arguments.subcommand ≡ None → BeginsServes listings told acts after a → AreFolders acts
serves_begun_made listings told after acts a dry none (BeginsBehind.at_first (empty, still)) = none_made acts empty
serves_begun_made listings told after acts a dry none (BeginsBehind.at_second f front rest between (empty, still, finds) (BeginsBehind.at_first (nothing, same)) split) = made_both acts front rest split (none_made front empty) (none_made rest nothing)
serves_begun_made listings told after acts a dry none (BeginsBehind.at_second f front rest between (empty, still, finds) (BeginsBehind.at_second c fore hind among (nothing, same, (given, is)) begins cut) split) =
    made_both acts front rest split (none_made front empty)
    (made_both rest fore hind cut (none_made fore nothing)
    (search_begun_made listings among after hind c (ap (λ (k : ConfigRequest). k.config.dry_run) is ∙ (ap (λ (x : Arguments). x.dry_run) finds.0 ∙ dry)) (ap (λ (k : ConfigRequest). k.config.subcommand) is ∙ (ap (λ (x : Arguments). x.subcommand) finds.0 ∙ none)) begins))

pub runs_no_child : RunsNoChild
runs_no_child q listings told after acts dry none = (λ r serves. serves_made listings told after acts q r dry none serves, λ begins. serves_begun_made listings told after acts q dry none begins)
