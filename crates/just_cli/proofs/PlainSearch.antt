-- Searches for justfiles and for the files of a project neither read standard input nor make temporary folders, so no such refusal is told of them.
use Rattle.std.proofs.Common.{◌≡◌, ◌⊎◌, ◌++◌, inl, inr, ℕ, Bool, true, false, List, [], ◌∷◌, Option, Some, None, Result, Ok, Err, refl, sym, ap, subst}
use Rattle.std.specs.Prelude.{if◌then◌else◌, bytes_eq}
use Rattle.std.specs.List.{list_any}
use Rattle.just_path.specs.Comps.{slash}
use Rattle.just_host_record.specs.World.{World, Moment}
use Rattle.just_host_record.specs.declared.entry.Entry.{Entry}
use Rattle.just_lang_types.specs.declared.source.Source.{Source}
use Rattle.just_lang_layout.specs.Paths.{Pairs}
use Rattle.just_lang_syntax.specs.declared.ast.AstItem.{AstItem}
use Rattle.just_lang_syntax.specs.declared.ast.AstItem.TheVariants as item
use Rattle.just_lang_syntax.specs.declared.ast.StringLiteral.{StringLiteral}
use Rattle.just_config.specs.declared.config.Config.{Config}
use Rattle.just_config.specs.declared.search_config.SearchConfig.{SearchConfig}
use Rattle.just_config.specs.declared.search_config.SearchConfig.TheVariants as search
use Rattle.just_env.specs.declared.search_error.SearchError.{SearchError}
use Rattle.just_env.specs.declared.search_error.SearchError.TheVariants as error
use Rattle.just_search.specs.declared.location.Location.{Location}
use Rattle.just_search.specs.declared.place.Place.{Place}
use Rattle.just_search.specs.Climb.{candidates, chosen, LooksIn, FindsIn, folders_from, folders_above}
use Rattle.just_search.specs.Finding.{given_path, wanted_names, folder_of, as_file, as_origin, origin_of, own_file, located_as, with_file, FindsFrom, FindsOwn, FindsOwnOver, FindsBy, Finds, FindsAbove}
use Rattle.just_search.specs.First.{First}
use Rattle.just_search.specs.Global.{FindsAmong}
use Rattle.just_search.specs.Listing.{ListsFolder}
use Rattle.just_search.specs.Root.{if_marked, is_mark, LooksForMark, FindsRoot}
use Rattle.just_search.specs.Fallback.{is_not_found, next_found, FallsBack}
use Rattle.just_search.specs.declared.search_result.Search.{Search}
use Rattle.just_search.specs.Inits.{in_root, init_given, search_at, InitsIn, InitsBy, Inits}
use Rattle.just_search_load.specs.Gathers.{Gathers}
use Rattle.just_search_load.specs.Loads.{Loads}
use Rattle.just_search_load.specs.Named.{IfPresent, ModuleFiles, ItemNames, ModuleNames, SourceNames}

-- neither of standard input nor of a temporary folder
abbrev pub is_plain : SearchError → Bool
is_plain (error.StdinIo io) = false
is_plain (error.TempdirIo io) = false
is_plain _ = true

abbrev pub IsPlain : {A : Type 0} → Result A SearchError → Type 0
IsPlain (Ok x) = Unit {0}
IsPlain (Err e) = is_plain e ≡ true

abbrev IsPlainLook : {A : Type 0} → Option (Result A SearchError) → Type 0
IsPlainLook None = Unit {0}
IsPlainLook (Some r) = IsPlain r

plain_as : {A : Type 0} (r s : Result A SearchError) → r ≡ s → IsPlain s → IsPlain r
plain_as {A = A} r s is plain = subst (λ (z : Result A SearchError). IsPlain z) (sym is) plain

look_as : {A : Type 0} (o p : Option (Result A SearchError)) → o ≡ p → IsPlainLook p → IsPlainLook o
look_as {A = A} o p is plain = subst (λ (z : Option (Result A SearchError)). IsPlainLook z) (sym is) plain

-- ---- looks at folders

first_plain : {A R : Type 0} (looks : A → Option (Result R SearchError) → Type 0) → ((x : A) (o : Option (Result R SearchError)) → looks x o → IsPlainLook o) → (items : List A) (otherwise r : Result R SearchError) → IsPlain otherwise → First looks items otherwise r → IsPlain r
first_plain looks each items otherwise r plain (First.decided before x behind is all p) = each x (Some r) p
first_plain looks each items otherwise r plain (First.undecided all is) = plain_as r otherwise is plain

lists_plain : (told : Option World) (path : List ℕ) (e : SearchError) → ListsFolder told path (Err e) → is_plain e ≡ true
lists_plain told path e (f, is, fits) = ap (λ x. is_plain x) is

chosen_plain : (folder : List ℕ) (names : List (List ℕ)) → IsPlainLook (chosen folder names)
chosen_plain folder [] = tt
chosen_plain folder (name ∷ []) = tt
chosen_plain folder (name ∷ (other ∷ others)) = refl

look_plain : (told : Option World) (wanted : List (List ℕ)) (folder : List ℕ) (o : Option (Result (List ℕ) SearchError)) → LooksIn told wanted folder o → IsPlainLook o
look_plain told wanted folder o (LooksIn.listed names lists is) = look_as o (chosen folder (candidates wanted names)) is (chosen_plain folder (candidates wanted names))
look_plain told wanted folder o (LooksIn.unlisted e lists is) = look_as o (Some (Err e)) is (lists_plain told folder e lists)

marked_plain : (folder : List ℕ) (b : Bool) → IsPlainLook {A = List ℕ} (if b then Some (Ok folder) else None)
marked_plain folder true = tt
marked_plain folder false = tt

mark_plain : (told : Option World) (folder : List ℕ) (o : Option (Result (List ℕ) SearchError)) → LooksForMark told folder o → IsPlainLook o
mark_plain told folder o (LooksForMark.listed names lists is) = look_as o (if_marked folder names) is (marked_plain folder (list_any is_mark names))
mark_plain told folder o (LooksForMark.unlisted e lists is) = look_as o (Some (Err e)) is (lists_plain told folder e lists)

finds_plain : (told : Option World) (wanted folders : List (List ℕ)) (r : Result (List ℕ) SearchError) → FindsIn told wanted folders r → IsPlain r
finds_plain told wanted folders r finds = first_plain (LooksIn told wanted) (look_plain told wanted) folders (Err error.NotFound) r refl finds

root_plain : (told : Option World) (ceiling : Option (List ℕ)) (start : List ℕ) (r : Result (List ℕ) SearchError) → FindsRoot told ceiling start r → IsPlain r
root_plain told ceiling start r finds = first_plain (LooksForMark told) (mark_plain told) (folders_from ceiling start) (Ok start) r tt finds

-- ---- locations

located_plain : {A : Type 0} (f : A → Location) (file : Result A SearchError) → IsPlain file → IsPlain (located_as f file)
located_plain f (Ok x) plain = tt
located_plain f (Err e) plain = plain

from_plain : (told : Option World) (config : Config) (start : List ℕ) (f : List ℕ → Location) (r : Result Location SearchError) → FindsFrom told config start f r → IsPlain r
from_plain told config start f r (file, finds, is) = plain_as r (located_as f file) is (located_plain f file (finds_plain told (wanted_names config) (folders_from config.ceiling start) file finds))

given_plain : (b : Bool) (file : List ℕ) (l : Location) → IsPlain {A = Location} (if b then Err (error.JustfileHadNoParent file) else Ok l)
given_plain true file l = refl
given_plain false file l = tt

among_plain : (told : Option World) (places : List Place) (gained : List Entry) (r : Result (List ℕ) SearchError) → FindsAmong told places gained r → IsPlain r
among_plain told places gained r FindsAmong.nowhere = refl
among_plain told places gained r (FindsAmong.at_first place rest g file looks) = tt
among_plain told places gained r (FindsAmong.behind place rest g more s looks later) = among_plain told rest more s later

over_plain : (told : Option World) (config : Config) (environ : List (List ℕ × List ℕ)) (gained : List Entry) (r : Result Location SearchError) → FindsOwnOver told config environ gained r → IsPlain r
over_plain told config environ gained r (FindsOwnOver.nowhere e finds is) = plain_as r (Err e) is (among_plain told _ gained (Err e) finds)
over_plain told config environ gained r (FindsOwnOver.at_place listings file root finds roots all is) =
    plain_as r (located_as (own_file file) root) is (located_plain (own_file file) root (root_plain told config.ceiling config.invocation_directory root roots))

own_plain : (told : Option World) (config : Config) (gained : List Entry) (r : Result Location SearchError) → FindsOwn told config gained r → IsPlain r
own_plain told config gained r (FindsOwn.no_environ e fails all is) = plain_as r (Err e) is (ap (λ x. is_plain x) fails)
own_plain told config gained r (FindsOwn.over_environ environ given finds) = over_plain told config environ.pairs gained r finds

by_plain : (before after : Moment) (config : Config) (setting : SearchConfig) (r : Result Location SearchError) → FindsBy before after config setting r → IsPlain r
by_plain before after config search.FromInvocationDirectory r finds = from_plain before.world config config.invocation_directory as_origin r finds
by_plain before after config (search.FromSearchDirectory folder) r finds = from_plain before.world config (given_path config folder) as_file r finds
by_plain before after config search.GlobalJustfile r (gained, grew, finds) = own_plain before.world config gained r finds
by_plain before after config (search.StandardInput folder) r is = plain_as r (Ok _) is tt
by_plain before after config (search.WithJustfile file) r is =
    plain_as r (with_file (given_path config file) (folder_of (given_path config file))) is (given_plain (bytes_eq (given_path config file) slash) (given_path config file) (record { origin = origin_of (given_path config file); working_directory = folder_of (given_path config file) }))
by_plain before after config (search.WithJustfileAndWorkingDirectory file folder) r is =
    plain_as r (with_file (given_path config file) (given_path config folder)) is (given_plain (bytes_eq (given_path config file) slash) (given_path config file) (record { origin = origin_of (given_path config file); working_directory = given_path config folder }))

-- want of memory, or a refusal
pub located_error : (before after : Moment) (config : Config) (f : SearchError) → (f ≡ error.NoMemory) ⊎ Finds before after config (Err f) → is_plain f ≡ true
located_error before after config f (inl wants) = ap (λ x. is_plain x) wants
located_error before after config f (inr finds) = by_plain before after config config.search_config (Err f) finds

-- ---- the next justfile

above_plain : (told : Option World) (config : Config) (folder : List ℕ) (r : Result Location SearchError) → FindsAbove told config folder r → IsPlain r
above_plain told config folder r (file, finds, is) = plain_as r (located_as as_origin file) is (located_plain as_origin file (finds_plain told (wanted_names config) (folders_above config.ceiling folder) file finds))

unless_plain : (b : Bool) (e : SearchError) → is_plain e ≡ true → IsPlain {A = Option Location} (if b then Ok None else Err e)
unless_plain true e plain = tt
unless_plain false e plain = plain

next_plain : (found : Result Location SearchError) → IsPlain found → IsPlain (next_found found)
next_plain (Ok l) plain = tt
next_plain (Err e) plain = unless_plain (is_not_found e) e plain

falls_plain : (told : Option World) (config : Config) (folder : List ℕ) (r : Result (Option Location) SearchError) → FallsBack told config folder r → IsPlain r
falls_plain told config folder r (FallsBack.above searches found finds is) = plain_as r (next_found found) is (next_plain found (above_plain told config folder found finds))
falls_plain told config folder r (FallsBack.given given is) = plain_as r (Ok None) is tt
falls_plain told config folder r (FallsBack.astray searches untold location finds low is) = plain_as r (Ok None) is tt

pub next_error : (told : Option World) (config : Config) (folder : List ℕ) (f : SearchError) → (f ≡ error.NoMemory) ⊎ FallsBack told config folder (Err f) → is_plain f ≡ true
next_error told config folder f (inl wants) = ap (λ x. is_plain x) wants
next_error told config folder f (inr falls) = falls_plain told config folder (Err f) falls

-- ---- a new justfile

in_root_plain : (config : Config) (root : Result (List ℕ) SearchError) → IsPlain root → IsPlain (in_root config root)
in_root_plain config (Ok x) plain = tt
in_root_plain config (Err e) plain = plain

init_root_plain : (told : Option World) (config : Config) (start : List ℕ) (r : Result Search SearchError) → InitsIn told config start r → IsPlain r
init_root_plain told config start r (root, finds, is) = plain_as r (in_root config root) is (in_root_plain config root (root_plain told config.ceiling start root finds))

init_given_plain : (b : Bool) (file : List ℕ) (s : Search) → IsPlain {A = Search} (if b then Err (error.JustfileHadNoParent file) else Ok s)
init_given_plain true file s = refl
init_given_plain false file s = tt

inits_plain : (told : Option World) (config : Config) (setting : SearchConfig) (r : Result Search SearchError) → InitsBy told config setting r → IsPlain r
inits_plain told config search.FromInvocationDirectory r inits = init_root_plain told config config.invocation_directory r inits
inits_plain told config (search.FromSearchDirectory folder) r inits = init_root_plain told config (given_path config folder) r inits
inits_plain told config search.GlobalJustfile r is = plain_as r (Err error.GlobalJustfileInit) is refl
inits_plain told config (search.StandardInput folder) r is = plain_as r (Err error.InitWithJustfileFromStandardInput) is refl
inits_plain told config (search.WithJustfile file) r is =
    plain_as r (init_given (given_path config file)) is (init_given_plain (bytes_eq (given_path config file) slash) (given_path config file) (search_at (given_path config file) (folder_of (given_path config file))))
inits_plain told config (search.WithJustfileAndWorkingDirectory file folder) r is = plain_as r (Ok (search_at (given_path config file) (given_path config folder))) is tt

pub init_error : (told : Option World) (config : Config) (f : SearchError) → (f ≡ error.NoMemory) ⊎ Inits told config (Err f) → is_plain f ≡ true
init_error told config f (inl wants) = ap (λ x. is_plain x) wants
init_error told config f (inr inits) = inits_plain told config config.search_config (Err f) inits

-- ---- the files of a project

gathers_plain : {A B : Type 0} (gives : A → Result (List B) SearchError → Type 0) → ((x : A) (e : SearchError) → gives x (Err e) → is_plain e ≡ true) → (xs : List A) (r : Result (List B) SearchError) → Gathers gives xs r → IsPlain r
gathers_plain gives each xs r Gathers.nothing = tt
gathers_plain gives each xs r (Gathers.more x rest ys zs p later) = tt
gathers_plain gives each xs r (Gathers.refused_first x rest e p) = each x e p
gathers_plain gives each xs r (Gathers.refused_later x rest ys e p later) = gathers_plain gives each rest (Err e) later

present_plain : (told : Option World) (path : List ℕ) (e : SearchError) → IfPresent told path (Err e) → is_plain e ≡ true
present_plain told path e fails = ap (λ x. is_plain x) fails

module_plain : (told : Option World) (base : List ℕ) (r : Result (List (List ℕ)) SearchError) → ModuleFiles told base r → IsPlain r
module_plain told base r (ModuleFiles.of_folder names lists gathers) = gathers_plain (IfPresent told) (present_plain told) _ r gathers
module_plain told base r (ModuleFiles.refused_folder e lists is) = plain_as r (Err e) is (ap (λ x. is_plain x) lists)

names_plain : (told : Option World) (environ : Pairs) (root name : List ℕ) (s : Option StringLiteral) (e : SearchError) → ModuleNames told environ root name s (Err e) → is_plain e ≡ true
names_plain told environ root name None e files = module_plain told _ (Err e) files
names_plain told environ root name (Some s) e (text, means, gathers) = gathers_plain (IfPresent told) (present_plain told) _ (Err e) gathers

no_refusal : (e : SearchError) → ◌≡◌ {A = Result (List (List ℕ)) SearchError} (Err e) (Ok []) → ⊥
no_refusal e is = let no : ⊥ = cc in no

item_plain : (told : Option World) (environ : Pairs) (root : List ℕ) (x : AstItem) (e : SearchError) → ItemNames told environ root x (Err e) → is_plain e ≡ true
item_plain told environ root (item.Import optional s comment) e (text, means, gathers) = gathers_plain (IfPresent told) (present_plain told) _ (Err e) gathers
item_plain told environ root (item.Module attributes optional name s comment) e names = names_plain told environ root name.text s e names
item_plain told environ root item.Blank e is = absurd (no_refusal e is)
item_plain told environ root (item.Comment text) e is = absurd (no_refusal e is)
item_plain told environ root (item.Alias name path comment) e is = absurd (no_refusal e is)
item_plain told environ root (item.Assignment export name value comment) e is = absurd (no_refusal e is)
item_plain told environ root (item.Unexport name comment) e is = absurd (no_refusal e is)
item_plain told environ root (item.Setting name value comment) e is = absurd (no_refusal e is)
item_plain told environ root (item.Recipe x) e is = absurd (no_refusal e is)

source_plain : (told : Option World) (environ : Pairs) (s : Source) (r : Result (List (List ℕ)) SearchError) → SourceNames told environ s r → IsPlain r
source_plain told environ s r (SourceNames.of_items items tree gathers) = gathers_plain (ItemNames told environ s.root) (item_plain told environ s.root) items r gathers
source_plain told environ s r (SourceNames.of_no_text fault tree is) = plain_as r (Ok []) is tt

loads_plain : (told : Option World) (environ : Pairs) (before : List Source) (paths : List (List ℕ)) (r : Result (List Source) SearchError) → Loads told environ before paths r → IsPlain r
loads_plain told environ before paths r (Loads.nothing_left sources) = tt
loads_plain told environ before paths r (Loads.loaded_before sources path rest n s at later) = loads_plain told environ sources rest s later
loads_plain told environ before paths r (Loads.loaded_now sources path rest text named s at reads names later) = loads_plain told environ _ (named ++ rest) s later
loads_plain told environ before paths r (Loads.unread sources path rest e at (f, is, fits)) = ap (λ x. is_plain x) is
loads_plain told environ before paths r (Loads.unseen sources path rest text e at reads names) = source_plain told environ _ (Err e) names

pub load_error : (told : Option World) (environ : Pairs) (before : List Source) (paths : List (List ℕ)) (f : SearchError) → (f ≡ error.NoMemory) ⊎ Loads told environ before paths (Err f) → is_plain f ≡ true
load_error told environ before paths f (inl wants) = ap (λ x. is_plain x) wants
load_error told environ before paths f (inr loads) = loads_plain told environ before paths (Err f) loads
