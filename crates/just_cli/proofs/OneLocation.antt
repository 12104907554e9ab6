-- Over a told world a justfile is found in one place at most, where no listing failed.
use Rattle.std.proofs.Common.{◌≡◌, ◌++◌, ◌||◌, ℕ, Bool, true, false, true≢false, List, [], ◌∷◌, Option, Some, None, option_map, refl, sym, ap, ◌∙◌, subst}
use Rattle.std.specs.Prelude.{Result, Ok, Err}
use Rattle.just_path.specs.Path.{pushed}
use Rattle.std.specs.List.{list_any}
use Rattle.std.proofs.lemmas.List.Folds.{list_any-append}
use Rattle.just_path.specs.View.{AreItemsOf}
use Rattle.just_path.specs.declared.host.Miss.{Miss}
use Rattle.just_host_record.specs.declared.entry.Entry.{Entry}
use Rattle.just_host_record.specs.declared.entry.Call.TheVariants as call
use Rattle.just_host_record.specs.declared.entry.HostFault.{HostFault}
use Rattle.just_host_record.specs.declared.entry.HostFault.TheVariants as fault
use Rattle.just_host_record.specs.Record.{is_failed}
use Rattle.just_host_record.specs.World.{World, view_of}
use Rattle.just_config.specs.declared.config.Config.{Config}
use Rattle.just_config.specs.declared.search_config.SearchConfig.{SearchConfig}
use Rattle.just_config.specs.declared.search_config.SearchConfig.TheVariants as search
use Rattle.just_env.specs.declared.search_error.SearchError.{SearchError}
use Rattle.just_env.specs.declared.search_error.SearchError.TheVariants as error
use Rattle.just_env.specs.Answers.{entries_of, told_entries}
use Rattle.just_cli_plan.specs.Loading.{tells_failure, IsOwn, GivesOwn}
use Rattle.just_cli_plan.proofs.Answers.{answered_or_refused, same_answer, same_refusal, failed, own_refusal}
use Rattle.just_cli_plan.proofs.Folders.{one_list, one_place, no_place}
use Rattle.just_search.specs.declared.location.Location.{Location}
use Rattle.just_search.specs.declared.place.Place.{Place}
use Rattle.just_search.specs.Climb.{candidates, chosen, LooksIn, FindsIn, folders_from, folders_above}
use Rattle.just_search.specs.Finding.{given_path, wanted_names, as_file, as_origin, own_file, located_as, FindsFrom, FindsOwn, FindsOwnOver, FindsBy, FindsAbove}
use Rattle.just_search.specs.First.{AllPassed, First}
use Rattle.just_search.specs.Global.{global_places, same_name, LooksAtPlace, FindsAmong}
use Rattle.just_search.specs.Listing.{AreNamesIn, ListFaultFits, ListsFolder}
use Rattle.just_search.specs.Root.{if_marked, LooksForMark, FindsRoot}
use Rattle.just_search.specs.Fallback.{next_found, FallsBack}
use Rattle.just_cli.specs.Request.{NoneFailed}
use Rattle.just_cli.specs.Words.{told_with}

-- ---- names

one_miss : (m n : Miss) → ◌≡◌ {A = Result (List ℕ) Miss} (Err m) (Err n) → m ≡ n
one_miss m n is = cc

module _ (w : World) where
  one_names : (path : List ℕ) (ns ms : List (List ℕ)) → AreNamesIn (Some w) path ns → AreNamesIn (Some w) path ms → ns ≡ ms
  one_names path ns ms (xs, order, are, (place, at, items)) (ys, sorted, also, (other, there, those)) =
      are ∙ one_list other (view_of w).tree xs ys order sorted (subst (λ l. AreItemsOf l (view_of w).tree xs) (one_place place other (sym at ∙ there)) items) those ∙ sym also

  -- a refusal that the world determines is the miss that it shows
  no_names : (path : List ℕ) (ns : List (List ℕ)) (e : SearchError) (f : HostFault) → AreNamesIn (Some w) path ns → e ≡ error.FilesystemIo path f → ListFaultFits (Some w) path f → tells_failure e ≡ false → ⊥
  no_names path ns e (fault.Missed m) (xs, order, are, (place, at, items)) is fits own = no_place place m (sym at ∙ fits)
  no_names path ns e (fault.Failed c) names is fits own = true≢false (sym (ap tells_failure is) ∙ own)
  no_names path ns e fault.NoMemory names is fits own = fits

  one_fault : (path : List ℕ) (d e : SearchError) (f g : HostFault) → d ≡ error.FilesystemIo path f → ListFaultFits (Some w) path f → tells_failure d ≡ false → e ≡ error.FilesystemIo path g → ListFaultFits (Some w) path g → tells_failure e ≡ false → d ≡ e
  one_fault path d e (fault.Missed m) (fault.Missed n) is fits own also shown other =
      let same : m ≡ n = one_miss m n (sym fits ∙ shown) in is ∙ (ap (λ z. error.FilesystemIo path (fault.Missed z)) same ∙ sym also)
  one_fault path d e (fault.Failed c) g is fits own also shown other = absurd (true≢false (sym (ap tells_failure is) ∙ own))
  one_fault path d e fault.NoMemory g is fits own also shown other = absurd fits
  one_fault path d e (fault.Missed m) (fault.Failed c) is fits own also shown other = absurd (true≢false (sym (ap tells_failure also) ∙ other))
  one_fault path d e (fault.Missed m) fault.NoMemory is fits own also shown other = absurd shown

  lists_own : (path : List ℕ) → GivesOwn (ListsFolder (Some w) path)
  lists_own path (Ok ns) (Ok ms) p own q other = ap (λ z. Ok z) (one_names path ns ms p q)
  lists_own path (Ok ns) (Err e) p own q other = absurd (no_names path ns e q.0 p q.1 q.2 other)
  lists_own path (Err e) (Ok ms) p own q other = absurd (no_names path ms e p.0 q p.1 p.2 own)
  lists_own path (Err d) (Err e) p own q other = ap (λ z. Err z) (one_fault path d e p.0 q.0 p.1 p.2 own q.1 q.2 other)

-- ---- the first thing that decides

-- what is decided, if something is, is determined by the world
abbrev IsOwnLook : {R : Type 0} → Option (Result R SearchError) → Type 0
IsOwnLook None = Unit {0}
IsOwnLook (Some r) = IsOwn r

passed_or_decided : {R : Type 0} (r : R) → ◌≡◌ {A = Option R} None (Some r) → ⊥
passed_or_decided r is = let no : ⊥ = cc in no

one_decided : {R : Type 0} (r s : R) → ◌≡◌ {A = Option R} (Some r) (Some s) → r ≡ s
one_decided r s is = cc

module _ {A R : Type 0} (looks : A → Option (Result R SearchError) → Type 0)
    (one : (x : A) (o p : Option (Result R SearchError)) → looks x o → IsOwnLook o → looks x p → IsOwnLook p → o ≡ p) where
  -- a thing at which something is decided isn't passed
  decided_or_passed : (x y : A) (r : Result R SearchError) → x ≡ y → looks x (Some r) → IsOwn r → looks y None → ⊥
  decided_or_passed x y r is p own q = passed_or_decided r (one y None (Some r) q tt (subst (λ z. looks z (Some r)) is p) own)

  passed_all : (before behind : List A) (x : A) (r : Result R SearchError) → AllPassed looks (before ++ x ∷ behind) → looks x (Some r) → IsOwn r → ⊥
  passed_all [] behind x r all p own = decided_or_passed x x r refl p own all.0
  passed_all (y ∷ before) behind x r all p own = passed_all before behind x r all.1 p own

  one_first : (b c : List A) (x y : A) (u v : List A) (r s : Result R SearchError) → b ++ x ∷ u ≡ c ++ y ∷ v → AllPassed looks b → looks x (Some r) → IsOwn r → AllPassed looks c → looks y (Some s) → IsOwn s → r ≡ s
  one_first [] [] x y u v r s is pb p own pc q other =
      let heads : x ∷ u ≡ y ∷ v = is in let same : x ≡ y = cc in one_decided r s (one y (Some r) (Some s) (subst (λ z. looks z (Some r)) same p) own q other)
  one_first [] (z ∷ c) x y u v r s is pb p own pc q other =
      let heads : x ∷ u ≡ z ∷ (c ++ y ∷ v) = is in let same : x ≡ z = cc in absurd (decided_or_passed x z r same p own pc.0)
  one_first (z ∷ b) [] x y u v r s is pb p own pc q other =
      let heads : z ∷ (b ++ x ∷ u) ≡ y ∷ v = is in let same : y ≡ z = cc in absurd (decided_or_passed y z s same q other pb.0)
  one_first (z ∷ b) (k ∷ c) x y u v r s is pb p own pc q other =
      let heads : z ∷ (b ++ x ∷ u) ≡ k ∷ (c ++ y ∷ v) = is in let rest : b ++ x ∷ u ≡ c ++ y ∷ v = cc in one_first b c x y u v r s rest pb.1 p own pc.1 q other

  first_own : (items : List A) (otherwise : Result R SearchError) → GivesOwn (First looks items otherwise)
  first_own items otherwise r s (First.decided b x u is pb p) own (First.decided c y v at pc q) other = one_first b c x y u v r s (sym is ∙ at) pb p own pc q other
  first_own items otherwise r s (First.decided b x u is pb p) own (First.undecided all at) other = absurd (passed_all b u x r (subst (λ l. AllPassed looks l) is all) p own)
  first_own items otherwise r s (First.undecided all is) own (First.decided c y v at pc q) other = absurd (passed_all c v y s (subst (λ l. AllPassed looks l) at all) q other)
  first_own items otherwise r s (First.undecided all is) own (First.undecided every at) other = is ∙ sym at

-- ---- the climb

module _ (w : World) where
  names_one : (path : List ℕ) (ns ms : List (List ℕ)) → ListsFolder (Some w) path (Ok ns) → ListsFolder (Some w) path (Ok ms) → ns ≡ ms
  names_one path ns ms p q = same_answer ns ms (lists_own w path (Ok ns) (Ok ms) p tt q tt)

  names_or_none : (path : List ℕ) (ns : List (List ℕ)) (e : SearchError) → ListsFolder (Some w) path (Ok ns) → ListsFolder (Some w) path (Err e) → tells_failure e ≡ false → ⊥
  names_or_none path ns e p q own = answered_or_refused ns e (lists_own w path (Ok ns) (Err e) p tt q own)

  -- a refusal that is decided
  own_look : {R : Type 0} (o : Option (Result R SearchError)) (e : SearchError) → o ≡ Some (Err e) → IsOwnLook o → tells_failure e ≡ false
  own_look {R = R} o e is own = subst (λ (z : Option (Result R SearchError)). IsOwnLook z) is own

  look_one : (wanted : List (List ℕ)) (folder : List ℕ) (o p : Option (Result (List ℕ) SearchError)) → LooksIn (Some w) wanted folder o → IsOwnLook o → LooksIn (Some w) wanted folder p → IsOwnLook p → o ≡ p
  look_one wanted folder o p (LooksIn.listed ns a is) own (LooksIn.listed ms b at) other = is ∙ (ap (λ l. chosen folder (candidates wanted l)) (names_one folder ns ms a b) ∙ sym at)
  look_one wanted folder o p (LooksIn.listed ns a is) own (LooksIn.unlisted e b at) other = absurd (names_or_none folder ns e a b (own_look p e at other))
  look_one wanted folder o p (LooksIn.unlisted e a is) own (LooksIn.listed ms b at) other = absurd (names_or_none folder ms e b a (own_look o e is own))
  look_one wanted folder o p (LooksIn.unlisted d a is) own (LooksIn.unlisted e b at) other =
      is ∙ (ap (λ z. Some z) (same_refusal d e (lists_own w folder (Err d) (Err e) a (own_look o d is own) b (own_look p e at other))) ∙ sym at)

  finds_in : (wanted folders : List (List ℕ)) → GivesOwn (FindsIn (Some w) wanted folders)
  finds_in wanted folders = first_own (LooksIn (Some w) wanted) (look_one wanted) folders (Err error.NotFound)

  mark_one : (folder : List ℕ) (o p : Option (Result (List ℕ) SearchError)) → LooksForMark (Some w) folder o → IsOwnLook o → LooksForMark (Some w) folder p → IsOwnLook p → o ≡ p
  mark_one folder o p (LooksForMark.listed ns a is) own (LooksForMark.listed ms b at) other = is ∙ (ap (λ l. if_marked folder l) (names_one folder ns ms a b) ∙ sym at)
  mark_one folder o p (LooksForMark.listed ns a is) own (LooksForMark.unlisted e b at) other = absurd (names_or_none folder ns e a b (own_look p e at other))
  mark_one folder o p (LooksForMark.unlisted e a is) own (LooksForMark.listed ms b at) other = absurd (names_or_none folder ms e b a (own_look o e is own))
  mark_one folder o p (LooksForMark.unlisted d a is) own (LooksForMark.unlisted e b at) other =
      is ∙ (ap (λ z. Some z) (same_refusal d e (lists_own w folder (Err d) (Err e) a (own_look o d is own) b (own_look p e at other))) ∙ sym at)

  pub finds_root : (ceiling : Option (List ℕ)) (start : List ℕ) → GivesOwn (FindsRoot (Some w) ceiling start)
  finds_root ceiling start = first_own (LooksForMark (Some w)) mark_one (folders_from ceiling start) (Ok start)

  -- ---- the user's own justfile

  -- a listing that was refused, and didn't fail, is refused by the miss that the world shows
  unfailed : (path : List ℕ) (e : SearchError) (f : HostFault) → e ≡ error.FilesystemIo path f → NoneFailed (entries_of e) → tells_failure e ≡ false
  unfailed path e (fault.Missed m) is none = ap tells_failure is
  unfailed path e (fault.Failed c) is none = absurd (true≢false (sym (ap (λ x. list_any is_failed (entries_of x)) is) ∙ none))
  unfailed path e fault.NoMemory is none = ap tells_failure is

  place_one : (place : Place) (g h : List Entry) (o p : Option (List ℕ)) → LooksAtPlace (Some w) place g o → NoneFailed g → LooksAtPlace (Some w) place h p → NoneFailed h → o ≡ p
  place_one place g h o p (LooksAtPlace.listed ns a x is) none (LooksAtPlace.listed ms b y at) never =
      is ∙ (ap (λ l. option_map (λ name. pushed place.folder name) (same_name place.name l)) (names_one place.folder ns ms a b) ∙ sym at)
  place_one place g h o p (LooksAtPlace.listed ns a x is) none (LooksAtPlace.unlisted e b y at) never =
      absurd (names_or_none place.folder ns e a b (unfailed place.folder e b.0 b.1 (subst (λ l. NoneFailed l) y never)))
  place_one place g h o p (LooksAtPlace.unlisted e a x is) none (LooksAtPlace.listed ms b y at) never =
      absurd (names_or_none place.folder ms e b a (unfailed place.folder e a.0 a.1 (subst (λ l. NoneFailed l) x none)))
  place_one place g h o p (LooksAtPlace.unlisted d a x is) none (LooksAtPlace.unlisted e b y at) never = is ∙ sym at

  first_of : (a b : Bool) → (a || b) ≡ false → a ≡ false
  first_of true b e = absurd (cc)
  first_of false b e = refl

  second_of : (a b : Bool) → (a || b) ≡ false → b ≡ false
  second_of true b e = absurd (cc)
  second_of false b e = e

  front : (g h : List Entry) → NoneFailed (g ++ h) → NoneFailed g
  front g h none = first_of (list_any is_failed g) (list_any is_failed h) (sym (list_any-append is_failed g h) ∙ none)

  back : (g h : List Entry) → NoneFailed (g ++ h) → NoneFailed h
  back g h none = second_of (list_any is_failed g) (list_any is_failed h) (sym (list_any-append is_failed g h) ∙ none)

  found_or_passed : (f : List ℕ) → ◌≡◌ {A = Option (List ℕ)} (Some f) None → ⊥
  found_or_passed f is = let no : ⊥ = cc in no

  one_file : (f g : List ℕ) → ◌≡◌ {A = Option (List ℕ)} (Some f) (Some g) → f ≡ g
  one_file f g is = cc

  among_by : (places : List Place) (g : List Entry) (r : Result (List ℕ) SearchError) → FindsAmong (Some w) places g r → NoneFailed g
      → (others : List Place) (h : List Entry) (s : Result (List ℕ) SearchError) → FindsAmong (Some w) others h s → NoneFailed h → places ≡ others → r ≡ s
  among_by places g r FindsAmong.nowhere none others h s FindsAmong.nowhere never is = refl
  among_by places g r FindsAmong.nowhere none others h s (FindsAmong.at_first q qs l k b) never is = absurd (let no : ⊥ = cc in no)
  among_by places g r FindsAmong.nowhere none others h s (FindsAmong.behind q qs l m t b later) never is = absurd (let no : ⊥ = cc in no)
  among_by places g r (FindsAmong.at_first p ps l f a) none others h s FindsAmong.nowhere never is = absurd (let no : ⊥ = cc in no)
  among_by places g r (FindsAmong.at_first p ps l f a) none others h s (FindsAmong.at_first q qs m k b) never is =
      let same : p ≡ q = cc in
      ap (λ z. Ok z) (one_file f k (place_one q l m (Some f) (Some k) (subst (λ z. LooksAtPlace (Some w) z l (Some f)) same a) none b never))
  among_by places g r (FindsAmong.at_first p ps l f a) none others h s (FindsAmong.behind q qs m n t b later) never is =
      let same : p ≡ q = cc in
      absurd (found_or_passed f (place_one q l m (Some f) None (subst (λ z. LooksAtPlace (Some w) z l (Some f)) same a) none b (front m n never)))
  among_by places g r (FindsAmong.behind p ps l m t a rest) none others h s FindsAmong.nowhere never is = absurd (let no : ⊥ = cc in no)
  among_by places g r (FindsAmong.behind p ps l m t a rest) none others h s (FindsAmong.at_first q qs n k b) never is =
      let same : q ≡ p = cc in
      absurd (found_or_passed k (place_one p n l (Some k) None (subst (λ z. LooksAtPlace (Some w) z n (Some k)) same b) never a (front l m none)))
  among_by places g r (FindsAmong.behind p ps l m t a rest) none others h s (FindsAmong.behind q qs n i v b later) never is =
      let behind : ps ≡ qs = cc in
      among_by ps m t rest (back l m none) qs i v later (back n i never) behind

  among_one : (environ : List (List ℕ × List ℕ)) (g h : List Entry) (r s : Result (List ℕ) SearchError) → FindsAmong (Some w) (global_places environ) g r → NoneFailed g → FindsAmong (Some w) (global_places environ) h s → NoneFailed h → r ≡ s
  among_one environ g h r s a none b never = among_by (global_places environ) g r a none (global_places environ) h s b never refl

  -- ---- a location

  -- what a file is found as is determined where the file is
  own_file_found : {A : Type 0} (f : A → Location) (file : Result A SearchError) → IsOwn (located_as f file) → IsOwn file
  own_file_found f (Ok x) own = tt
  own_file_found f (Err e) own = own

  own_as : {A : Type 0} (f : A → Location) (file : Result A SearchError) (r : Result Location SearchError) → r ≡ located_as f file → IsOwn r → IsOwn file
  own_as f file r is own = own_file_found f file (subst (λ (z : Result Location SearchError). IsOwn z) is own)

  module _ (config : Config) where
    from_one : (start : List ℕ) (f : List ℕ → Location) → GivesOwn (FindsFrom (Some w) config start f)
    from_one start f r s (file, a, is) own (other, b, at) also =
        is ∙ (ap (λ z. located_as f z) (finds_in (wanted_names config) (folders_from config.ceiling start) file other a (own_as f file r is own) b (own_as f other s at also)) ∙ sym at)

    -- the root of a refusal has the entry of the refusal
    same_told : {A : Type 0} (f : A → Location) (root : Result A SearchError) → told_entries (located_as f root) ≡ told_entries root
    same_told f (Ok x) = refl
    same_told f (Err e) = refl

    over_one : (environ : List (List ℕ × List ℕ)) (g h : List Entry) (r s : Result Location SearchError)
        → FindsOwnOver (Some w) config environ g r → NoneFailed g → IsOwn r → FindsOwnOver (Some w) config environ h s → NoneFailed h → IsOwn s → r ≡ s
    over_one environ g h r s (FindsOwnOver.nowhere d a is) none own (FindsOwnOver.nowhere e b at) never other = is ∙ (same_refusal d e (among_one environ g h (Err d) (Err e) a none b never) ∙ sym at)
    over_one environ g h r s (FindsOwnOver.nowhere d a is) none own (FindsOwnOver.at_place m k root b c i at) never other =
        absurd (answered_or_refused k d (among_one environ m g (Ok k) (Err d) b (front m (told_entries root) (subst (λ l. NoneFailed l) i never)) a none))
    over_one environ g h r s (FindsOwnOver.at_place l f root a c i is) none own (FindsOwnOver.nowhere e b at) never other =
        absurd (answered_or_refused f e (among_one environ l h (Ok f) (Err e) a (front l (told_entries root) (subst (λ m. NoneFailed m) i none)) b never))
    over_one environ g h r s (FindsOwnOver.at_place l f root a c i is) none own (FindsOwnOver.at_place m k base b d j at) never other =
        let file : f ≡ k = same_answer f k (among_one environ l m (Ok f) (Ok k) a (front l (told_entries root) (subst (λ x. NoneFailed x) i none)) b (front m (told_entries base) (subst (λ x. NoneFailed x) j never))) in
        let folder : root ≡ base = finds_root config.ceiling config.invocation_directory root base c (own_as (own_file f) root r is own) d (own_as (own_file k) base s at other) in
        is ∙ (ap (λ z. located_as (own_file f) z) folder ∙ ap (λ z. located_as (own_file z) base) file ∙ sym at)

    own_one : (g h : List Entry) (r s : Result Location SearchError) → FindsOwn (Some w) config g r → NoneFailed g → IsOwn r → FindsOwn (Some w) config h s → NoneFailed h → IsOwn s → r ≡ s
    own_one g h r s (FindsOwn.no_environ e missing a is) none own q never other = absurd (failed call.Environ [] e missing (own_refusal r e is own))
    own_one g h r s (FindsOwn.over_environ x given p) none own (FindsOwn.no_environ e missing b at) never other = absurd (failed call.Environ [] e missing (own_refusal s e at other))
    own_one g h r s (FindsOwn.over_environ x given p) none own (FindsOwn.over_environ y also q) never other =
        over_one y.pairs g h r s (subst (λ (e : List (List ℕ × List ℕ)). FindsOwnOver (Some w) config e g r) (given ∙ sym also) p) none own q never other

    -- one place is found at most
    pub by_one : (setting : SearchConfig) (g h : List Entry) (r s : Result Location SearchError)
        → FindsBy (told_with (Some w) []) (told_with (Some w) g) config setting r → NoneFailed g → IsOwn r
        → FindsBy (told_with (Some w) []) (told_with (Some w) h) config setting s → NoneFailed h → IsOwn s → r ≡ s
    by_one search.FromInvocationDirectory g h r s p none own q never other = from_one config.invocation_directory as_origin r s p own q other
    by_one (search.FromSearchDirectory folder) g h r s p none own q never other = from_one (given_path config folder) as_file r s p own q other
    by_one search.GlobalJustfile g h r s p none own q never other =
        own_one p.0 q.0 r s p.2 (subst (λ x. NoneFailed x) p.1 none) own q.2 (subst (λ x. NoneFailed x) q.1 never) other
    by_one (search.StandardInput folder) g h r s p none own q never other = p ∙ sym q
    by_one (search.WithJustfile file) g h r s p none own q never other = p ∙ sym q
    by_one (search.WithJustfileAndWorkingDirectory file folder) g h r s p none own q never other = p ∙ sym q

    -- ---- above a folder

    above_one : (folder : List ℕ) → GivesOwn (FindsAbove (Some w) config folder)
    above_one folder r s (file, a, is) own (other, b, at) also =
        is ∙ (ap (λ z. located_as as_origin z) (finds_in (wanted_names config) (folders_above config.ceiling folder) file other a (own_as as_origin file r is own) b (own_as as_origin other s at also)) ∙ sym at)

    own_next : (found : Result Location SearchError) → IsOwn (next_found found) → IsOwn found
    own_next (Ok l) own = tt
    own_next (Err error.NotFound) own = refl
    own_next (Err _) own = own

    own_found : (found : Result Location SearchError) (r : Result (Option Location) SearchError) → r ≡ next_found found → IsOwn r → IsOwn found
    own_found found r is own = own_next found (subst (λ (z : Result (Option Location) SearchError). IsOwn z) is own)

    -- one is tried next at most
    pub falls_one : (folder : List ℕ) → GivesOwn (FallsBack (Some w) config folder)
    falls_one folder r s (FallsBack.above a found p is) own (FallsBack.above b other q at) also =
        is ∙ (ap (λ z. next_found z) (above_one folder found other p (own_found found r is own) q (own_found other s at also)) ∙ sym at)
    falls_one folder r s (FallsBack.above a found p is) own (FallsBack.given never at) also = absurd (true≢false (sym a ∙ never))
    falls_one folder r s (FallsBack.given never is) own (FallsBack.above b other q at) also = absurd (true≢false (sym b ∙ never))
    falls_one folder r s (FallsBack.given never is) own (FallsBack.given none at) also = is ∙ sym at
    falls_one folder r s (FallsBack.astray a untold l p up is) own q also = absurd (let no : ⊥ = cc in no)
    falls_one folder r s p own (FallsBack.astray a untold l q up at) also = absurd (let no : ⊥ = cc in no)

    -- ---- failures

    no_failure : (e : SearchError) → tells_failure e ≡ false → NoneFailed (entries_of e)
    no_failure (error.FilesystemIo path (fault.Missed m)) own = refl
    no_failure (error.FilesystemIo path (fault.Failed c)) own = absurd (true≢false own)
    no_failure (error.FilesystemIo path fault.NoMemory) own = refl
    no_failure (error.Load path (fault.Missed m)) own = refl
    no_failure (error.Load path (fault.Failed c)) own = absurd (true≢false own)
    no_failure (error.Load path fault.NoMemory) own = refl
    no_failure _ own = refl

    -- a refusal that the world determines has no failure among its entries
    pub own_unfailed : (g : List Entry) (e : SearchError) → NoneFailed g → tells_failure e ≡ false → NoneFailed (g ++ entries_of e)
    own_unfailed g e none own = list_any-append is_failed g (entries_of e) ∙ (ap (λ b. b || list_any is_failed (entries_of e)) none ∙ no_failure e own)
