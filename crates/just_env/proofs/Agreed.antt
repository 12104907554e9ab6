-- Over a told world dotenv files are loaded in one way.
use Rattle.std.proofs.Common.{◌≡◌, ◌⊎◌, inl, inr, ℕ, true, false, true≢false, List, [], ◌∷◌, ◌++◌, Option, Some, None, refl, sym, ap, ◌∙◌, subst, append_assoc}
use Rattle.std.specs.Prelude.{chars, Result, Ok, Err, MatchOption}
use Rattle.just_path.specs.Ancestors.{ancestors_of}
use Rattle.just_path.specs.declared.host.Miss.{Miss}
use Rattle.just_host_record.specs.declared.entry.HostFault.{HostFault}
use Rattle.just_host_record.specs.declared.entry.HostFault.TheVariants as fault
use Rattle.just_host_record.specs.World.{World, told_read}
use Rattle.just_dotenv.specs.File.{Gives, Stops}
use Rattle.just_dotenv.specs.Meaning.{Pairs}
use Rattle.just_dotenv.proofs.FileLaws.{one_gift, no_gift}
use Rattle.just_env.proofs.Stopped.{one_stop}
use Rattle.just_lang_types.specs.declared.project.Justfile.{Justfile}
use Rattle.just_lang_types.specs.declared.scope.DotenvOf.{DotenvOf}
use Rattle.just_lang_types.specs.declared.settings.Settings.{Settings}
use Rattle.just_lang_types.specs.Modules.{settings_of, modules_of}
use Rattle.just_lang_types.specs.declared.settings.Interpreter.{Interpreter}
use Rattle.just_host_record.specs.declared.entry.Status.{Status}
use Rattle.just_exec_work.specs.declared.run_flags.RunFlags.{RunFlags}
use Rattle.just_exec_work.specs.Shells.{shell}
use Rattle.just_env.specs.declared.ask.DotenvAsk.{DotenvAsk}
use Rattle.just_env.specs.declared.ask.Sources.{Sources}
use Rattle.just_env.specs.declared.ask.Sources.TheVariants as sources
use Rattle.just_env.specs.declared.env_error.OutputError.{OutputError}
use Rattle.just_env.specs.declared.env_error.EnvError.{EnvError}
use Rattle.just_env.specs.declared.env_error.EnvError.TheVariants as error
use Rattle.just_env.specs.Agree.{tells_failure, IsOwn, GivesOwn, DotenvAgrees}
use Rattle.just_env.specs.Asked.{sources_of, commands_of, paths_given, names_wanted}
use Rattle.just_env.specs.Captures.{Capture, told_behind, AreTold}
use Rattle.just_env.specs.Commands.{ending_error, GivesPairs, RunsCommand, RunsCommands, before_pairs}
use Rattle.just_env.specs.Files.{is_absence, RefusesRead, FindsText, LoadsFile, LoadsFiles, LoadsUnder, joined, all_under}
use Rattle.just_env.specs.Loads.{FindsFiles, FoundPairs, LoadsFrom, LoadsOwn, pairs_of_found, pairs_of_commands, folder_of, dotenv_of, before_others, Following, following, LoadsModules}
use Rattle.just_env.specs.Sequences.{Each, First, HaveNothing}

-- ---- answers

-- an answer is no refusal
pub answered_or_refused : {A : Type 0} (x : A) (e : EnvError) → ◌≡◌ {A = Result A EnvError} (Ok x) (Err e) → ⊥
answered_or_refused x e is = let no : ⊥ = cc in no

pub same_answer : {A : Type 0} (x y : A) → ◌≡◌ {A = Result A EnvError} (Ok x) (Ok y) → x ≡ y
same_answer x y is = cc

same_error : {A : Type 0} (e f : EnvError) → ◌≡◌ {A = Result A EnvError} (Err e) (Err f) → e ≡ f
same_error e f is = cc

-- something is not nothing
some_or_none : {A : Type 0} (x : A) → ◌≡◌ {A = Result (Option A) EnvError} (Ok (Some x)) (Ok None) → ⊥
some_or_none x is = let no : ⊥ = cc in no

-- ---- what each of some things gives

module _ {A B : Type 0} (gives : A → Result B EnvError → Type 0) (one : (x : A) → GivesOwn (gives x)) where
  -- what one thing gives is refused or found
  either_way : (x y : A) (z : B) (e : EnvError) → x ≡ y → gives x (Ok z) → gives y (Err e) → tells_failure e ≡ false → ⊥
  either_way x y z e is p q own = answered_or_refused z e (one y (Ok z) (Err e) (subst (λ w. gives w (Ok z)) is p) tt q own)

  each_by : (xs : List A) (r : Result (List B) EnvError) → Each gives xs r → IsOwn r → (ys : List A) (s : Result (List B) EnvError) → Each gives ys s → IsOwn s → xs ≡ ys → r ≡ s
  each_by xs r Each.none own ys s Each.none other is = refl
  each_by xs r Each.none own ys s (Each.more y vs k ks q later) other is = absurd (let no : ⊥ = cc in no)
  each_by xs r Each.none own ys s (Each.refused_first y vs f q) other is = absurd (let no : ⊥ = cc in no)
  each_by xs r Each.none own ys s (Each.refused_later y vs k f q later) other is = absurd (let no : ⊥ = cc in no)
  each_by xs r (Each.more x us h hs p rest) own ys s Each.none other is = absurd (let no : ⊥ = cc in no)
  each_by xs r (Each.more x us h hs p rest) own ys s (Each.more y vs k ks q later) other is =
      let here : x ≡ y = cc in
      let behind : us ≡ vs = cc in
      let first : h ≡ k = same_answer h k (one y (Ok h) (Ok k) (subst (λ z. gives z (Ok h)) here p) tt q tt) in
      let second : hs ≡ ks = same_answer hs ks (each_by us (Ok hs) rest tt vs (Ok ks) later tt behind) in
      ap (λ z. Ok (z ∷ hs)) first ∙ ap (λ l. Ok (k ∷ l)) second
  each_by xs r (Each.more x us h hs p rest) own ys s (Each.refused_first y vs f q) other is =
      let here : x ≡ y = cc in
      absurd (either_way x y h f here p q other)
  each_by xs r (Each.more x us h hs p rest) own ys s (Each.refused_later y vs k f q later) other is =
      let behind : us ≡ vs = cc in
      absurd (answered_or_refused hs f (each_by us (Ok hs) rest tt vs (Err f) later other behind))
  each_by xs r (Each.refused_first x us g p) own ys s Each.none other is = absurd (let no : ⊥ = cc in no)
  each_by xs r (Each.refused_first x us g p) own ys s (Each.more y vs k ks q later) other is =
      let here : y ≡ x = cc in
      absurd (either_way y x k g here q p own)
  each_by xs r (Each.refused_first x us g p) own ys s (Each.refused_first y vs f q) other is =
      let here : x ≡ y = cc in
      let same : ◌≡◌ {A = Result B EnvError} (Err g) (Err f) = one y (Err g) (Err f) (subst (λ z. gives z (Err g)) here p) own q other in
      ap (λ e. Err e) (same_error g f same)
  each_by xs r (Each.refused_first x us g p) own ys s (Each.refused_later y vs k f q later) other is =
      let here : y ≡ x = cc in
      absurd (either_way y x k g here q p own)
  each_by xs r (Each.refused_later x us h g p rest) own ys s Each.none other is = absurd (let no : ⊥ = cc in no)
  each_by xs r (Each.refused_later x us h g p rest) own ys s (Each.more y vs k ks q later) other is =
      let behind : us ≡ vs = cc in
      absurd (answered_or_refused ks g (sym (each_by us (Err g) rest own vs (Ok ks) later tt behind)))
  each_by xs r (Each.refused_later x us h g p rest) own ys s (Each.refused_first y vs f q) other is =
      let here : x ≡ y = cc in
      absurd (either_way x y h f here p q other)
  each_by xs r (Each.refused_later x us h g p rest) own ys s (Each.refused_later y vs k f q later) other is =
      let behind : us ≡ vs = cc in
      each_by us (Err g) rest own vs (Err f) later other behind

  each_own : (xs : List A) → GivesOwn (Each gives xs)
  each_own xs r s p own q other = each_by xs r p own xs s q other refl

-- ---- the first that has something

module _ {A B : Type 0} (gives : A → Result (Option B) EnvError → Type 0) (one : (x : A) → GivesOwn (gives x)) where
  -- an answer that is found or refused
  abbrev HasEnd : Result (Option B) EnvError → Type 0
  HasEnd (Ok None) = ⊥
  HasEnd (Ok (Some y)) = Unit {0}
  HasEnd (Err e) = Unit {0}

  -- the same from the first of the things on
  abbrev Sought : List A → Result (Option B) EnvError → Type 0
  Sought [] r = r ≡ Ok None
  Sought (x ∷ xs) r = (gives x r × HasEnd r) ⊎ (gives x (Ok None) × Sought xs r)

  sought_from : (before : List A) (x : A) (behind : List A) (r : Result (Option B) EnvError) → HaveNothing gives before → gives x r → HasEnd r → Sought (before ++ x ∷ behind) r
  sought_from [] x behind r none here end = inl (here, end)
  sought_from (y ∷ ys) x behind r none here end = inr (none.0, sought_from ys x behind r none.1 here end)

  sought_nowhere : (items : List A) → HaveNothing gives items → Sought items (Ok None)
  sought_nowhere [] none = refl
  sought_nowhere (x ∷ xs) none = inr (none.0, sought_nowhere xs none.1)

  sought : (items : List A) (r : Result (Option B) EnvError) → First gives items r → Sought items r
  sought items r (First.found before x behind y is none here) = subst (λ l. Sought l (Ok (Some y))) (sym is) (sought_from before x behind (Ok (Some y)) none here tt)
  sought items r (First.refused before x behind e is none here) = subst (λ l. Sought l (Err e)) (sym is) (sought_from before x behind (Err e) none here tt)
  sought items r (First.nowhere none) = sought_nowhere items none

  end_or_none : (x : A) (r : Result (Option B) EnvError) → gives x r → HasEnd r → IsOwn r → gives x (Ok None) → ⊥
  end_or_none x (Ok None) here end own none = end
  end_or_none x (Ok (Some y)) here end own none = some_or_none y (one x (Ok (Some y)) (Ok None) here tt none tt)
  end_or_none x (Err e) here end own none = answered_or_refused None e (one x (Ok None) (Err e) none tt here own)

  sought_own : (items : List A) → GivesOwn (Sought items)
  sought_own [] r s p own q other = p ∙ sym q
  sought_own (x ∷ xs) r s (inl p) own (inl q) other = one x r s p.0 own q.0 other
  sought_own (x ∷ xs) r s (inl p) own (inr q) other = absurd (end_or_none x r p.0 p.1 own q.0)
  sought_own (x ∷ xs) r s (inr p) own (inl q) other = absurd (end_or_none x s q.0 q.1 other p.0)
  sought_own (x ∷ xs) r s (inr p) own (inr q) other = sought_own xs r s p.1 own q.1 other

  first_own : (items : List A) → GivesOwn (First gives items)
  first_own items r s p own q other = sought_own items r s (sought items r p) own (sought items s q) other

-- ---- files

text_or_miss : (t : List ℕ) (m : Miss) → ◌≡◌ {A = Result (List ℕ) Miss} (Ok t) (Err m) → ⊥
text_or_miss t m is = let no : ⊥ = cc in no

one_text : (t u : List ℕ) → ◌≡◌ {A = Result (List ℕ) Miss} (Ok t) (Ok u) → t ≡ u
one_text t u is = cc

one_miss : (m n : Miss) → ◌≡◌ {A = Result (List ℕ) Miss} (Err m) (Err n) → m ≡ n
one_miss m n is = cc

module _ (w : World) where
  -- a refusal to read that the world determines is the miss that it shows, which is no absence
  missed : (path : List ℕ) (e : EnvError) (io : HostFault) → e ≡ error.Io io path → RefusesRead (Some w) path io → tells_failure e ≡ false
      → (m : Miss) × (is_absence m ≡ false) × (told_read w path ≡ Err m) × (e ≡ error.Io (fault.Missed m) path)
  missed path e (fault.Missed m) is fits own = (m, fits.0, fits.1, is)
  missed path e (fault.Failed c) is fits own = absurd (true≢false (sym (ap tells_failure is) ∙ own))
  missed path e fault.NoMemory is fits own = absurd fits

  absent_or_missed : (path : List ℕ) (m n : Miss) → is_absence m ≡ true → told_read w path ≡ Err m → is_absence n ≡ false → told_read w path ≡ Err n → ⊥
  absent_or_missed path m n absent p there q = true≢false (sym absent ∙ ap is_absence (one_miss m n (sym p ∙ q)) ∙ there)

  finds_own : (path : List ℕ) → GivesOwn (FindsText (Some w) path)
  finds_own path (Ok (Some t)) (Ok (Some u)) p own q other = ap (λ z. Ok (Some z)) (one_text t u (sym p ∙ q))
  finds_own path (Ok (Some t)) (Ok None) p own q other = absurd (text_or_miss t q.0 (sym p ∙ q.2))
  finds_own path (Ok None) (Ok (Some u)) p own q other = absurd (text_or_miss u p.0 (sym q ∙ p.2))
  finds_own path (Ok None) (Ok None) p own q other = refl
  finds_own path (Ok (Some t)) (Err e) p own q other =
      let m = missed path e q.0 q.1 q.2 other in absurd (text_or_miss t m.0 (sym p ∙ m.2))
  finds_own path (Ok None) (Err e) p own q other =
      let m = missed path e q.0 q.1 q.2 other in absurd (absent_or_missed path p.0 m.0 p.1 p.2 m.1 m.2)
  finds_own path (Err e) (Ok (Some u)) p own q other =
      let m = missed path e p.0 p.1 p.2 own in absurd (text_or_miss u m.0 (sym q ∙ m.2))
  finds_own path (Err e) (Ok None) p own q other =
      let m = missed path e p.0 p.1 p.2 own in absurd (absent_or_missed path q.0 m.0 q.1 q.2 m.1 m.2)
  finds_own path (Err e) (Err f) p own q other =
      let m = missed path e p.0 p.1 p.2 own in
      let n = missed path f q.0 q.1 q.2 other in
      let same : m.0 ≡ n.0 = one_miss m.0 n.0 (sym m.2 ∙ n.2) in
      ap (λ z. Err z) (m.3 ∙ ap (λ z. error.Io (fault.Missed z) path) same ∙ sym n.3)

  -- what is found at a path, as texts
  found_once : (path t u : List ℕ) → FindsText (Some w) path (Ok (Some t)) → FindsText (Some w) path (Ok (Some u)) → t ≡ u
  found_once path t u p q = one_text t u (sym p ∙ q)

  module _ (environ : Pairs) where
    file_own : (path : List ℕ) → GivesOwn (LoadsFile (Some w) environ path)
    file_own path r s (LoadsFile.absent p) own (LoadsFile.absent q) other = refl
    file_own path r s (LoadsFile.absent p) own (LoadsFile.there u vs q gives) other = absurd (text_or_miss u p.0 (sym q ∙ p.2))
    file_own path r s (LoadsFile.absent p) own (LoadsFile.faulty u m q stops) other = absurd (text_or_miss u p.0 (sym q ∙ p.2))
    file_own path r s (LoadsFile.absent p) own (LoadsFile.unread f q) other = absurd (answered_or_refused None f (finds_own path (Ok None) (Err f) p tt q other))
    file_own path r s (LoadsFile.there t us p gives) own (LoadsFile.absent q) other = absurd (text_or_miss t q.0 (sym p ∙ q.2))
    file_own path r s (LoadsFile.there t us p gives) own (LoadsFile.there u vs q also) other =
        ap (λ z. Ok (Some z)) (one_gift (chars u) environ us vs (subst (λ x. Gives (chars x) environ us) (found_once path t u p q) gives) also)
    file_own path r s (LoadsFile.there t us p gives) own (LoadsFile.faulty u m q stops) other =
        absurd (no_gift (chars u) m environ us stops (subst (λ x. Gives (chars x) environ us) (found_once path t u p q) gives))
    file_own path r s (LoadsFile.there t us p gives) own (LoadsFile.unread f q) other = absurd (answered_or_refused (Some t) f (finds_own path (Ok (Some t)) (Err f) p tt q other))
    file_own path r s (LoadsFile.faulty t n p stops) own (LoadsFile.absent q) other = absurd (text_or_miss t q.0 (sym p ∙ q.2))
    file_own path r s (LoadsFile.faulty t n p stops) own (LoadsFile.there u vs q gives) other =
        absurd (no_gift (chars t) n environ vs stops (subst (λ x. Gives (chars x) environ vs) (found_once path u t q p) gives))
    file_own path r s (LoadsFile.faulty t n p stops) own (LoadsFile.faulty u m q also) other =
        ap (λ z. Err (error.Dotenv path z)) (one_stop (chars u) n m (subst (λ x. Stops (chars x) n) (found_once path t u p q) stops) also)
    file_own path r s (LoadsFile.faulty t n p stops) own (LoadsFile.unread f q) other = absurd (answered_or_refused (Some t) f (finds_own path (Ok (Some t)) (Err f) p tt q other))
    file_own path r s (LoadsFile.unread e p) own (LoadsFile.absent q) other = absurd (answered_or_refused None e (finds_own path (Ok None) (Err e) q tt p own))
    file_own path r s (LoadsFile.unread e p) own (LoadsFile.there u vs q gives) other = absurd (answered_or_refused (Some u) e (finds_own path (Ok (Some u)) (Err e) q tt p own))
    file_own path r s (LoadsFile.unread e p) own (LoadsFile.faulty u m q stops) other = absurd (answered_or_refused (Some u) e (finds_own path (Ok (Some u)) (Err e) q tt p own))
    file_own path r s (LoadsFile.unread e p) own (LoadsFile.unread f q) other =
        let same : ◌≡◌ {A = Result (Option (List ℕ)) EnvError} (Err e) (Err f) = finds_own path (Err e) (Err f) p own q other in
        ap (λ z. Err z) (same_error e f same)

    files_own : (paths : List (List ℕ)) → GivesOwn (LoadsFiles (Some w) environ paths)
    files_own paths (Ok x) (Ok y) p own q other =
        let same : p.0 ≡ q.0 = same_answer p.0 q.0 (each_own (LoadsFile (Some w) environ) file_own paths (Ok p.0) (Ok q.0) p.1 tt q.1 tt) in
        ap (λ z. Ok z) (p.2 ∙ ap (λ l. joined l) same ∙ sym q.2)
    files_own paths (Ok x) (Err f) p own q other = absurd (answered_or_refused p.0 f (each_own (LoadsFile (Some w) environ) file_own paths (Ok p.0) (Err f) p.1 tt q other))
    files_own paths (Err e) (Ok y) p own q other = absurd (answered_or_refused q.0 e (each_own (LoadsFile (Some w) environ) file_own paths (Ok q.0) (Err e) q.1 tt p own))
    files_own paths (Err e) (Err f) p own q other =
        let same : ◌≡◌ {A = Result (List (Option Pairs)) EnvError} (Err e) (Err f) = each_own (LoadsFile (Some w) environ) file_own paths (Err e) (Err f) p own q other in
        ap (λ z. Err z) (same_error e f same)

    under_own : (names : List (List ℕ)) (folder : List ℕ) → GivesOwn (LoadsUnder (Some w) environ names folder)
    under_own names folder = files_own (all_under folder names)

    climbs_own : (names folders : List (List ℕ)) → GivesOwn (First (LoadsUnder (Some w) environ names) folders)
    climbs_own names folders = first_own (LoadsUnder (Some w) environ names) (under_own names) folders

    module _ (paths names : List (List ℕ)) (folder : List ℕ) where
      at_paths : GivesOwn (LoadsUnder (Some w) environ paths folder)
      at_paths = under_own paths folder

      all_files_own : GivesOwn (FindsFiles (Some w) environ paths names folder)
      all_files_own r s (FindsFiles.by_paths us p) own (FindsFiles.by_paths vs q) other = at_paths (Ok (Some us)) (Ok (Some vs)) p tt q tt
      all_files_own r s (FindsFiles.by_paths us p) own (FindsFiles.refused f q) other = absurd (answered_or_refused (Some us) f (at_paths (Ok (Some us)) (Err f) p tt q other))
      all_files_own r s (FindsFiles.by_paths us p) own (FindsFiles.by_names x q first) other = absurd (some_or_none us (at_paths (Ok (Some us)) (Ok None) p tt q tt))
      all_files_own r s (FindsFiles.refused e p) own (FindsFiles.by_paths vs q) other = absurd (answered_or_refused (Some vs) e (at_paths (Ok (Some vs)) (Err e) q tt p own))
      all_files_own r s (FindsFiles.refused e p) own (FindsFiles.refused f q) other = at_paths (Err e) (Err f) p own q other
      all_files_own r s (FindsFiles.refused e p) own (FindsFiles.by_names x q first) other = absurd (answered_or_refused None e (at_paths (Ok None) (Err e) q tt p own))
      all_files_own r s (FindsFiles.by_names x p first) own (FindsFiles.by_paths vs q) other = absurd (some_or_none vs (at_paths (Ok (Some vs)) (Ok None) q tt p tt))
      all_files_own r s (FindsFiles.by_names x p first) own (FindsFiles.refused f q) other = absurd (answered_or_refused None f (at_paths (Ok None) (Err f) p tt q other))
      all_files_own r s (FindsFiles.by_names x p first) own (FindsFiles.by_names y q also) other = climbs_own names (ancestors_of folder) r s first own also other

    module _ (ask : DotenvAsk) where
      -- a refusal of the files is one of the module
      own_found : (t : Settings) (found : Result (Option Pairs) EnvError) (r : Result Pairs EnvError) → r ≡ pairs_of_found t environ found → IsOwn r → IsOwn found
      own_found t (Ok x) r is own = tt
      own_found t (Err e) r is own = subst (λ (z : Result Pairs EnvError). IsOwn z) is own

      pairs_own : (folder : List ℕ) (t : Settings) → GivesOwn (FoundPairs (Some w) ask environ folder t)
      pairs_own folder t r s p own q other =
          p.2 ∙ ap (λ z. pairs_of_found t environ z) (all_files_own (paths_given ask t) (names_wanted ask t) folder p.0 q.0 p.1 (own_found t p.0 r p.2 own) q.1 (own_found t q.0 s q.2 other)) ∙ sym q.2

-- ---- commands

-- two answers that both take children from the front of one list: they take the same ones
abbrev pub SameFront : {A : Type 0} → (List Capture → Result A EnvError → Type 0) → Type 0
SameFront {A} gives =
    (cs ds xs ys : List Capture) (r s : Result A EnvError) → gives cs r → IsOwn r → gives ds s → IsOwn s → cs ++ xs ≡ ds ++ ys → (r ≡ s) × (cs ≡ ds) × (xs ≡ ys)

pub no_capture : (c : Capture) (cs : List Capture) → ◌≡◌ {A = List Capture} [] (c ∷ cs) → ⊥
no_capture c cs is = let no : ⊥ = cc in no

module _ (environ : Pairs) (folder command : List ℕ) where
  well_or_ended : (ending : Status) (e : OutputError) → ending_error ending ≡ None → ending_error ending ≡ Some e → ⊥
  well_or_ended ending e p q = let no : ⊥ = cc in no

  one_ending : (ending : Status) (e f : OutputError) → ending_error ending ≡ Some e → ending_error ending ≡ Some f → e ≡ f
  one_ending ending e f p q = cc

  printed_once : (ending : Status) (printed : List ℕ) (r s : Result Pairs EnvError) → GivesPairs environ folder command ending printed r → GivesPairs environ folder command ending printed s → r ≡ s
  printed_once ending printed r s (GivesPairs.readable us w u p) (GivesPairs.readable vs x v q) = ap (λ z. Ok z) (one_gift (chars printed) environ us vs p q)
  printed_once ending printed r s (GivesPairs.readable us w u p) (GivesPairs.faulty m x v q) = absurd (no_gift (chars printed) m environ us q p)
  printed_once ending printed r s (GivesPairs.readable us w u p) (GivesPairs.no_text x v) = absurd (true≢false (sym u ∙ v))
  printed_once ending printed r s (GivesPairs.readable us w u p) (GivesPairs.ended f x) = absurd (well_or_ended ending f w x)
  printed_once ending printed r s (GivesPairs.faulty n w u p) (GivesPairs.readable vs x v q) = absurd (no_gift (chars printed) n environ vs p q)
  printed_once ending printed r s (GivesPairs.faulty n w u p) (GivesPairs.faulty m x v q) = ap (λ z. Err (error.Dotenv folder z)) (one_stop (chars printed) n m p q)
  printed_once ending printed r s (GivesPairs.faulty n w u p) (GivesPairs.no_text x v) = absurd (true≢false (sym u ∙ v))
  printed_once ending printed r s (GivesPairs.faulty n w u p) (GivesPairs.ended f x) = absurd (well_or_ended ending f w x)
  printed_once ending printed r s (GivesPairs.no_text w u) (GivesPairs.readable vs x v q) = absurd (true≢false (sym v ∙ u))
  printed_once ending printed r s (GivesPairs.no_text w u) (GivesPairs.faulty m x v q) = absurd (true≢false (sym v ∙ u))
  printed_once ending printed r s (GivesPairs.no_text w u) (GivesPairs.no_text x v) = refl
  printed_once ending printed r s (GivesPairs.no_text w u) (GivesPairs.ended f x) = absurd (well_or_ended ending f w x)
  printed_once ending printed r s (GivesPairs.ended e w) (GivesPairs.readable vs x v q) = absurd (well_or_ended ending e x w)
  printed_once ending printed r s (GivesPairs.ended e w) (GivesPairs.faulty m x v q) = absurd (well_or_ended ending e x w)
  printed_once ending printed r s (GivesPairs.ended e w) (GivesPairs.no_text x v) = absurd (well_or_ended ending e x w)
  printed_once ending printed r s (GivesPairs.ended e w) (GivesPairs.ended f x) = ap (λ z. Err (error.DotenvCommand command z)) (one_ending ending e f w x)

  printed_by : (c d : Capture) → c ≡ d → (r s : Result Pairs EnvError) → GivesPairs environ folder command c.status c.output r → GivesPairs environ folder command d.status d.output s → r ≡ s
  printed_by c d is r s p q = printed_once d.status d.output r s (subst (λ z. GivesPairs environ folder command z.status z.output r) is p) q

module _ (environ : Pairs) (shell : Interpreter) (folder : List ℕ) where
  pub command_once : (told : Option World) (command : List ℕ) → SameFront (RunsCommand environ shell folder told command)
  command_once told command cs ds xs ys r s (RunsCommand.captured c x p g) own (RunsCommand.captured d y q h) other is =
      let same : c ≡ d = cc in
      let left : xs ≡ ys = cc in
      (printed_by environ folder command c d same r s g h, ap (λ z. z ∷ []) same, left)
  command_once told command cs ds xs ys r s (RunsCommand.captured c x p g) own (RunsCommand.uncaptured io so) other is = absurd (true≢false other)
  command_once told command cs ds xs ys r s (RunsCommand.uncaptured io so) own q other is = absurd (true≢false own)

  pub own_before : (pairs : Pairs) (r : Result Pairs EnvError) → IsOwn (before_pairs pairs r) → IsOwn r
  own_before pairs (Ok x) own = tt
  own_before pairs (Err e) own = own

  assoc_fronts : (us vs cs ds xs ys : List Capture) → (us ++ vs) ++ xs ≡ (cs ++ ds) ++ ys → us ++ (vs ++ xs) ≡ cs ++ (ds ++ ys)
  assoc_fronts us vs cs ds xs ys is = sym (append_assoc us vs xs) ∙ is ∙ append_assoc cs ds ys

  commands_by : (told now : Option World) (ks ls : List (List ℕ)) (cs ds xs ys : List Capture) (r s : Result Pairs EnvError) → RunsCommands environ shell folder told ks cs r → IsOwn r
      → RunsCommands environ shell folder now ls ds s → IsOwn s → told ≡ now → ks ≡ ls → cs ++ xs ≡ ds ++ ys → (r ≡ s) × (cs ≡ ds) × (xs ≡ ys)
  commands_by told now ks ls cs ds xs ys r s (RunsCommands.none t) own (RunsCommands.none u) other at are is = (refl, refl, is)
  commands_by told now ks ls cs ds xs ys r s (RunsCommands.none t) own (RunsCommands.more u l ms fs hs vs z q later) other at are is = absurd (let no : ⊥ = cc in no)
  commands_by told now ks ls cs ds xs ys r s (RunsCommands.none t) own (RunsCommands.refused u l ms fs f q) other at are is = absurd (let no : ⊥ = cc in no)
  commands_by told now ks ls cs ds xs ys r s (RunsCommands.more t k js es gs us y p rest) own (RunsCommands.none u) other at are is = absurd (let no : ⊥ = cc in no)
  commands_by told now ks ls cs ds xs ys r s (RunsCommands.more t k js es gs us y p rest) own (RunsCommands.more u l ms fs hs vs z q later) other at are is =
      let first : k ≡ l = cc in
      let others : js ≡ ms = cc in
      let here : RunsCommand environ shell folder u l es (Ok us) = subst (λ w. RunsCommand environ shell folder w l es (Ok us)) at (subst (λ c. RunsCommand environ shell folder t c es (Ok us)) first p) in
      let one = command_once u l es fs (gs ++ xs) (hs ++ ys) (Ok us) (Ok vs) here tt q tt (assoc_fronts es gs fs hs xs ys is) in
      let worlds : told_behind t es ≡ told_behind u fs = ap (λ w. told_behind w es) at ∙ ap (λ l. told_behind u l) one.1 in
      let rests = commands_by (told_behind t es) (told_behind u fs) js ms gs hs xs ys y z rest (own_before us y own) later (own_before vs z other) worlds others one.2 in
      (ap (λ l. before_pairs l y) (same_answer us vs one.0) ∙ ap (λ w. before_pairs vs w) rests.0, ap (λ l. l ++ gs) one.1 ∙ ap (λ l. fs ++ l) rests.1, rests.2)
  commands_by told now ks ls cs ds xs ys r s (RunsCommands.more t k js es gs us y p rest) own (RunsCommands.refused u l ms fs f q) other at are is =
      let first : k ≡ l = cc in
      let here : RunsCommand environ shell folder u l es (Ok us) = subst (λ w. RunsCommand environ shell folder w l es (Ok us)) at (subst (λ c. RunsCommand environ shell folder t c es (Ok us)) first p) in
      let one = command_once u l es fs (gs ++ xs) ys (Ok us) (Err f) here tt q other (sym (append_assoc es gs xs) ∙ is) in
      absurd (answered_or_refused us f one.0)
  commands_by told now ks ls cs ds xs ys r s (RunsCommands.refused t k js es e p) own (RunsCommands.none u) other at are is = absurd (let no : ⊥ = cc in no)
  commands_by told now ks ls cs ds xs ys r s (RunsCommands.refused t k js es e p) own (RunsCommands.more u l ms fs hs vs z q later) other at are is =
      let first : k ≡ l = cc in
      let here : RunsCommand environ shell folder u l es (Err e) = subst (λ w. RunsCommand environ shell folder w l es (Err e)) at (subst (λ c. RunsCommand environ shell folder t c es (Err e)) first p) in
      let one = command_once u l es fs xs (hs ++ ys) (Err e) (Ok vs) here own q tt (is ∙ append_assoc fs hs ys) in
      absurd (answered_or_refused vs e (sym one.0))
  commands_by told now ks ls cs ds xs ys r s (RunsCommands.refused t k js es e p) own (RunsCommands.refused u l ms fs f q) other at are is =
      let first : k ≡ l = cc in
      let here : RunsCommand environ shell folder u l es (Err e) = subst (λ w. RunsCommand environ shell folder w l es (Err e)) at (subst (λ c. RunsCommand environ shell folder t c es (Err e)) first p) in
      let one = command_once u l es fs xs ys (Err e) (Err f) here own q other is in
      (ap (λ z. Err z) (same_error e f one.0), one.1, one.2)

-- ---- modules

-- a world is told
abbrev pub IsTold : Option World → Type 0
IsTold None = ⊥
IsTold (Some w) = Unit {0}

module _ (ask : DotenvAsk) (flags : RunFlags) (environ : Pairs) where
  pub own_printed : (t : Settings) (found : Result Pairs EnvError) (r : Result Pairs EnvError) → r ≡ pairs_of_commands t environ found → IsOwn r → IsOwn found
  own_printed t (Ok x) r is own = tt
  own_printed t (Err e) r is own = subst (λ (z : Result Pairs EnvError). IsOwn z) is own

  from_own : (told : Option World) → IsTold told → (folder : List ℕ) (j : Justfile) (from : Result Sources EnvError) → SameFront (LoadsFrom told ask flags environ folder j from)
  from_own None never folder j from cs ds xs ys r s p own q other is = absurd never
  from_own (Some w) so folder j (Ok sources.Nothing) cs ds xs ys r s p own q other is = (p.1 ∙ sym q.1, p.0 ∙ sym q.0, sym (ap (λ l. l ++ xs) p.0) ∙ is ∙ ap (λ l. l ++ ys) q.0)
  from_own (Some w) so folder j (Ok sources.Files) cs ds xs ys r s p own q other is =
      (pairs_own w environ ask folder (settings_of j) r s p.1 own q.1 other, p.0 ∙ sym q.0, sym (ap (λ l. l ++ xs) p.0) ∙ is ∙ ap (λ l. l ++ ys) q.0)
  from_own (Some w) so folder j (Ok sources.Commands) cs ds xs ys r s p own q other is =
      let t = settings_of j in
      let one = commands_by environ (shell flags t) folder (Some w) (Some w) (commands_of ask j) (commands_of ask j) cs ds xs ys p.0 q.0 p.1 (own_printed t p.0 r p.2 own) q.1 (own_printed t q.0 s q.2 other) refl refl is in
      (p.2 ∙ ap (λ z. pairs_of_commands t environ z) one.0 ∙ sym q.2, one.1, one.2)
  from_own (Some w) so folder j (Err e) cs ds xs ys r s p own q other is = (p.1 ∙ sym q.1, p.0 ∙ sym q.0, sym (ap (λ l. l ++ xs) p.0) ∙ is ∙ ap (λ l. l ++ ys) q.0)

  module_own : (told : Option World) → IsTold told → (folder : List ℕ) (j : Justfile) → SameFront (LoadsOwn told ask flags environ folder j)
  module_own told so folder j = from_own told so folder j (sources_of ask j)

  pub own_by : (told now : Option World) → told ≡ now → IsTold now → (j k : Justfile) → j ≡ k → (cs ds xs ys : List Capture) (r s : Result Pairs EnvError)
      → LoadsOwn told ask flags environ (folder_of flags.folder j) j cs r → IsOwn r → LoadsOwn now ask flags environ (folder_of flags.folder k) k ds s → IsOwn s → cs ++ xs ≡ ds ++ ys → (r ≡ s) × (cs ≡ ds) × (xs ≡ ys)
  own_by told now at so j k here cs ds xs ys r s p own q other is =
      module_own now so (folder_of flags.folder k) k cs ds xs ys r s
      (subst (λ m. LoadsOwn now ask flags environ (folder_of flags.folder m) m cs r) here (subst (λ w. LoadsOwn w ask flags environ (folder_of flags.folder j) j cs r) at p)) own q other is

  pub own_others : (one : DotenvOf) (r : Result (List DotenvOf) EnvError) → IsOwn (before_others one r) → IsOwn r
  own_others one (Ok ds) own = tt
  own_others one (Err e) own = own

  -- what is told behind children, and behind those that are left
  told_so : (o : Option World) → MatchOption o ⊥ (λ w. Unit {0}) → IsTold o
  told_so None is = is
  told_so (Some w) is = tt

  pub told_on : (told : Option World) (cs ds : List Capture) → IsTold told → AreTold (cs ++ ds) → IsTold (told_behind told cs) × AreTold ds
  told_on told [] ds so are = (so, are)
  told_on told (c ∷ cs) ds so are = told_on c.after cs ds (told_so c.after are.0) are.1

  -- a front of children behind which a world is told is told itself
  pub told_front : (cs ds : List Capture) → AreTold (cs ++ ds) → AreTold cs
  told_front [] ds are = tt
  told_front (c ∷ cs) ds are = (are.0, told_front cs ds are.1)

  modules_by : (told now : Option World) (ps qs : Following) (cs ds xs ys : List Capture) (r s : Result (List DotenvOf) EnvError) → LoadsModules ask flags environ told ps cs r → IsOwn r
      → LoadsModules ask flags environ now qs ds s → IsOwn s → told ≡ now → IsTold now → AreTold ds → ps ≡ qs → cs ++ xs ≡ ds ++ ys → (r ≡ s) × (cs ≡ ds) × (xs ≡ ys)
  modules_by told now ps qs cs ds xs ys r s (LoadsModules.none t) own (LoadsModules.none u) other at so told_all is are = (refl, refl, are)
  modules_by told now ps qs cs ds xs ys r s (LoadsModules.none t) own (LoadsModules.refused u k after more fs f q) other at so told_all is are = absurd (let no : ⊥ = cc in no)
  modules_by told now ps qs cs ds xs ys r s (LoadsModules.none t) own (LoadsModules.more u k after its more fs hs z q later) other at so told_all is are = absurd (let no : ⊥ = cc in no)
  modules_by told now ps qs cs ds xs ys r s (LoadsModules.refused t j before others es e p) own (LoadsModules.none u) other at so told_all is are = absurd (let no : ⊥ = cc in no)
  modules_by told now ps qs cs ds xs ys r s (LoadsModules.refused t j before others es e p) own (LoadsModules.refused u k after more fs f q) other at so told_all is are =
      let pair : ◌≡◌ {A = Justfile × Pairs} (j, before) (k, after) = cc in
      let here : j ≡ k = ap (λ (p : Justfile × Pairs). p.0) pair in
      let one = own_by t u at so j k here es fs xs ys (Err e) (Err f) p own q other are in
      (ap (λ z. Err z) (same_error e f one.0), one.1, one.2)
  modules_by told now ps qs cs ds xs ys r s (LoadsModules.refused t j before others es e p) own (LoadsModules.more u k after its more fs hs z q later) other at so told_all is are =
      let pair : ◌≡◌ {A = Justfile × Pairs} (j, before) (k, after) = cc in
      let here : j ≡ k = ap (λ (p : Justfile × Pairs). p.0) pair in
      let one = own_by t u at so j k here es fs xs (hs ++ ys) (Err e) (Ok its) p own q tt (are ∙ append_assoc fs hs ys) in
      absurd (answered_or_refused its e (sym one.0))
  modules_by told now ps qs cs ds xs ys r s (LoadsModules.more t j before mine others es gs y p rest) own (LoadsModules.none u) other at so told_all is are = absurd (let no : ⊥ = cc in no)
  modules_by told now ps qs cs ds xs ys r s (LoadsModules.more t j before mine others es gs y p rest) own (LoadsModules.refused u k after more fs f q) other at so told_all is are =
      let pair : ◌≡◌ {A = Justfile × Pairs} (j, before) (k, after) = cc in
      let here : j ≡ k = ap (λ (p : Justfile × Pairs). p.0) pair in
      let one = own_by t u at so j k here es fs (gs ++ xs) ys (Ok mine) (Err f) p tt q other (sym (append_assoc es gs xs) ∙ are) in
      absurd (answered_or_refused mine f one.0)
  modules_by told now ps qs cs ds xs ys r s (LoadsModules.more t j before mine others es gs y p rest) own (LoadsModules.more u k after its more fs hs z q later) other at so told_all is are =
      let pair : ◌≡◌ {A = Justfile × Pairs} (j, before) (k, after) = cc in
      let here : j ≡ k = ap (λ (p : Justfile × Pairs). p.0) pair in
      let follows : before ≡ after = ap (λ (p : Justfile × Pairs). p.1) pair in
      let behind : others ≡ more = cc in
      let one = own_by t u at so j k here es fs (gs ++ xs) (hs ++ ys) (Ok mine) (Ok its) p tt q tt (sym (append_assoc es gs xs) ∙ are ∙ append_assoc fs hs ys) in
      let same : mine ≡ its = same_answer mine its one.0 in
      let pairs : before ++ mine ≡ after ++ its = ap (λ l. l ++ mine) follows ∙ ap (λ l. after ++ l) same in
      let stacks : following (before ++ mine) (modules_of j) ++ others ≡ following (after ++ its) (modules_of k) ++ more =
      ap (λ l. following l (modules_of j) ++ others) pairs ∙ ap (λ m. following (after ++ its) (modules_of m) ++ others) here ∙ ap (λ l. following (after ++ its) (modules_of k) ++ l) behind in
      let worlds : told_behind t es ≡ told_behind u fs = ap (λ w. told_behind w es) at ∙ ap (λ l. told_behind u l) one.1 in
      let told_left = told_on u fs hs so told_all in
      let rests =
      modules_by (told_behind t es) (told_behind u fs) (following (before ++ mine) (modules_of j) ++ others) (following (after ++ its) (modules_of k) ++ more) gs hs xs ys y z
      rest (own_others (dotenv_of j (before ++ mine)) y own) later (own_others (dotenv_of k (after ++ its)) z other) worlds told_left.0 told_left.1 stacks one.2 in (
        ap (λ m. before_others (dotenv_of m (before ++ mine)) y) here ∙ ap (λ l. before_others (dotenv_of k l) y) pairs ∙ ap (λ w. before_others (dotenv_of k (after ++ its)) w) rests.0,
        ap (λ l. l ++ gs) one.1 ∙ ap (λ l. fs ++ l) rests.1,
        rests.2,
      )

pub dotenv_agrees : DotenvAgrees
dotenv_agrees w ask flags environ j cs ds xs ys is are r s p own q other =
    modules_by ask flags environ (Some w) (Some w) (following [] (j ∷ [])) (following [] (j ∷ [])) cs ds xs ys r s p own q other refl tt (told_front ask flags environ ds ys are) refl is
