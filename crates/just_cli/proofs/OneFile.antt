-- Over a told world and the same temporary folders the justfile in a place is one file at most.
use Rattle.std.proofs.Common.{◌≡◌, ◌++◌, ℕ, true, false, true≢false, List, [], ◌∷◌, map, Option, Some, None, Result, Ok, Err, refl, sym, ◌∙◌, ap, subst}
use Rattle.std.specs.Prelude.{◌≢◌, if◌then◌else◌}
use Rattle.std.specs.Str.Lines.{lines}
use Rattle.std.specs.FinMap as finmap
use Rattle.just_path.specs.View.{folder_told}
use Rattle.just_path.specs.declared.host.Miss.{Miss}
use Rattle.just_host_record.specs.declared.entry.Call.{Call}
use Rattle.just_host_record.specs.declared.entry.Call.TheVariants as call
use Rattle.just_host_record.specs.declared.entry.HostFault.{HostFault}
use Rattle.just_host_record.specs.declared.entry.HostFault.TheVariants as fault
use Rattle.just_host_record.specs.declared.tree.Thing.TheVariants as thing
use Rattle.just_host_record.specs.Sights.{Tree}
use Rattle.just_host_record.specs.Changes.{with_tree, written}
use Rattle.just_host_record.specs.Looks.{told_input}
use Rattle.just_host_record.specs.World.{World, view_of, told_read}
use Rattle.just_env.specs.declared.search_error.SearchError.{SearchError}
use Rattle.just_env.specs.declared.search_error.SearchError.TheVariants as search
use Rattle.just_search.specs.declared.search_result.Search.{Search}
use Rattle.just_search.specs.Inits.{search_at}
use Rattle.just_search.specs.declared.location.Location.{Location}
use Rattle.just_search.specs.declared.location.Origin.{Origin}
use Rattle.just_search.specs.declared.location.Origin.TheVariants as origin
use Rattle.just_search_load.specs.declared.fence.Fence.{Fence}
use Rattle.just_search_load.specs.Fences.{closes}
use Rattle.just_search_load.specs.Running.{out_of}
use Rattle.just_search_load.specs.Tangles.{kept, AreInside, Tangles, text_of_lines, IsTangled}
use Rattle.just_search.specs.Calls.{IsRefusal, Refuses}
use Rattle.just_search.specs.Files.{Makes, Writes, WritesText, Materializes, search_in, file_in}
use Rattle.just_search.specs.Texts.{GivesText}
use Rattle.just_exec.specs.Refusals.{error_of_search}
use Rattle.just_cli.specs.Acts.{Act}
use Rattle.just_cli_plan.specs.Own.{is_fault}
use Rattle.just_cli.proofs.Acting.{Agrees}

-- ---- tangling

-- lines within a block
inside_out : (fence : Fence) (inside rest : List (List ℕ)) → AreInside fence inside → out_of (Some fence) (inside ++ rest) ≡ kept fence inside ++ out_of (Some fence) rest
inside_out fence [] rest are = refl
inside_out fence (line ∷ inside) rest are =
    ap (λ b. (if b then [] else (if fence.is_just then line else [])) ∷ out_of (if b then None else Some fence) (inside ++ rest)) are.0
    ∙ ap (λ l. (if fence.is_just then line else []) ∷ l) (inside_out fence inside rest are.1)

inside_end : (fence : Fence) (inside : List (List ℕ)) → AreInside fence inside → out_of (Some fence) inside ≡ kept fence inside
inside_end fence [] are = refl
inside_end fence (line ∷ inside) are =
    ap (λ b. (if b then [] else (if fence.is_just then line else [])) ∷ out_of (if b then None else Some fence) inside) are.0
    ∙ ap (λ l. (if fence.is_just then line else []) ∷ l) (inside_end fence inside are.1)

closed : (fence : Fence) (close : List ℕ) (rest : List (List ℕ)) → closes fence close ≡ true → out_of (Some fence) (close ∷ rest) ≡ [] ∷ out_of None rest
closed fence close rest is = ap (λ b. (if b then [] else (if fence.is_just then close else [])) ∷ out_of (if b then None else Some fence) rest) is

-- what lines are tangled to is one thing
tangled_out : (ls out : List (List ℕ)) → Tangles ls out → out ≡ out_of None ls
tangled_out ls out Tangles.nothing = refl
tangled_out ls out (Tangles.outside line rest more none t) = ap (λ l. [] ∷ l) (tangled_out rest more t ∙ ap (λ block. out_of block rest) (sym none))
tangled_out ls out (Tangles.block line close fence inside rest more opens are shut t) =
    ap (λ l. [] ∷ l)
    (ap (λ l. kept fence inside ++ [] ∷ l) (tangled_out rest more t)
    ∙ (ap (λ l. kept fence inside ++ l) (sym (closed fence close rest shut))
    ∙ (sym (inside_out fence inside (close ∷ rest) are) ∙ ap (λ block. out_of block (inside ++ close ∷ rest)) (sym opens))))
tangled_out ls out (Tangles.open_block line fence inside opens are) = ap (λ l. [] ∷ l) (sym (inside_end fence inside are) ∙ ap (λ block. out_of block inside) (sym opens))

tangled_one : (markdown a b : List ℕ) → IsTangled markdown a → IsTangled markdown b → a ≡ b
tangled_one markdown a b x y =
    x.text_is ∙ (ap (λ l. text_of_lines l) (tangled_out (lines markdown) x.out x.tangles ∙ sym (tangled_out (lines markdown) y.out y.tangles)) ∙ sym y.text_is)

-- ---- refused calls

-- a refusal that tells of no failed call, nor of want of memory
abbrev pub IsOwnSearch : {A : Type 0} → Result A SearchError → Type 0
IsOwnSearch (Ok x) = Unit {0}
IsOwnSearch (Err e) = (is_fault (error_of_search e) ≡ false) × (e ≢ search.NoMemory)

own_of : {A : Type 0} (r s : Result A SearchError) → r ≡ s → IsOwnSearch r → IsOwnSearch s
own_of {A = A} r s is own = subst (λ (z : Result A SearchError). IsOwnSearch z) is own

answer_or_miss : {A : Type 0} (x : A) (m : Miss) (r : Result A Miss) → r ≡ Ok x → r ≡ Err m → ⊥
answer_or_miss {A = A} x m r is at = let both : ◌≡◌ {A = Result A Miss} (Ok x) (Err m) = sym is ∙ at in let no : ⊥ = cc in no

one_miss : {A : Type 0} (m n : Miss) (r : Result A Miss) → r ≡ Err m → r ≡ Err n → m ≡ n
one_miss {A = A} m n r is at = let both : ◌≡◌ {A = Result A Miss} (Err m) (Err n) = sym is ∙ at in cc

one_answer : {A : Type 0} (x y : A) (r : Result A Miss) → r ≡ Ok x → r ≡ Ok y → x ≡ y
one_answer {A = A} x y r is at = let both : ◌≡◌ {A = Result A Miss} (Ok x) (Ok y) = sym is ∙ at in cc

-- of a call whose refusals are told so a refusal that tells of no failed call is the miss that the world shows
module _ {A : Type 0} (c : Call) (w : World) (shown : World → Result A Miss) (told : HostFault → SearchError) (fails : (d : Call) → is_fault (error_of_search (told (fault.Failed d))) ≡ true) where
  missed : (e : SearchError) (io : HostFault) → e ≡ told io → Refuses c (Some w) shown io → is_fault (error_of_search e) ≡ false → (m : Miss) × (e ≡ told (fault.Missed m)) × (shown w ≡ Err m)
  missed e (fault.Missed m) is refuses own = (m, is, refuses)
  missed e (fault.Failed d) is refuses own = absurd (true≢false (sym (fails d) ∙ (ap (λ x. is_fault (error_of_search x)) (sym is) ∙ own)))
  missed e fault.NoMemory is refuses own = absurd refuses

  pub refused_one : (e f : SearchError) (io jo : HostFault) → e ≡ told io → Refuses c (Some w) shown io → is_fault (error_of_search e) ≡ false → f ≡ told jo → Refuses c (Some w) shown jo → is_fault (error_of_search f) ≡ false → e ≡ f
  refused_one e f io jo is refuses own at refused other =
      let a = missed e io is refuses own in
      let b = missed f jo at refused other in
      a.1 ∙ (ap (λ m. told (fault.Missed m)) (one_miss a.0 b.0 (shown w) a.2 b.2) ∙ sym b.1)

  pub refused_or_answered : (x : A) (e : SearchError) (io : HostFault) → e ≡ told io → Refuses c (Some w) shown io → is_fault (error_of_search e) ≡ false → shown w ≡ Ok x → ⊥
  refused_or_answered x e io is refuses own answered = let a = missed e io is refuses own in answer_or_miss x a.0 (shown w) answered a.2

-- ---- the text

module _ (w : World) where
  abbrev FileTold : List ℕ → HostFault → SearchError
  FileTold path io = search.FilesystemIo path io

  abbrev InputTold : HostFault → SearchError
  InputTold io = search.StdinIo io

  gives_one : (from : Origin) (r s : Result (List ℕ) SearchError) → GivesText (Some w) from r → IsOwnSearch r → GivesText (Some w) from s → IsOwnSearch s → r ≡ s
  gives_one (origin.File path) r s p own q other = absurd p
  gives_one (origin.Markdown path) (Ok a) (Ok b) (x, at, t) own (y, there, u) other =
      let same : x ≡ y = one_answer x y (told_read w path) at there in ap (λ z. Ok z) (tangled_one y a b (subst (λ (z : List ℕ). IsTangled z a) same t) u)
  gives_one (origin.Markdown path) (Ok a) (Err f) (x, at, t) own (io, is, refuses) other = absurd (refused_or_answered call.Read w (λ v. told_read v path) (FileTold path) (λ d. refl) x f io is refuses other.0 at)
  gives_one (origin.Markdown path) (Err e) (Ok b) (io, is, refuses) own (y, there, u) other = absurd (refused_or_answered call.Read w (λ v. told_read v path) (FileTold path) (λ d. refl) y e io is refuses own.0 there)
  gives_one (origin.Markdown path) (Err e) (Err f) (io, is, refuses) own (jo, at, refused) other =
      ap (λ z. Err z) (refused_one call.Read w (λ v. told_read v path) (FileTold path) (λ d. refl) e f io jo is refuses own.0 at refused other.0)
  gives_one origin.StandardInput (Ok a) (Ok b) p own q other = ap (λ z. Ok z) (one_answer a b (told_input w) p q)
  gives_one origin.StandardInput (Ok a) (Err f) p own (io, is, refuses) other = absurd (refused_or_answered call.Input w told_input InputTold (λ d. refl) a f io is refuses other.0 p)
  gives_one origin.StandardInput (Err e) (Ok b) (io, is, refuses) own q other = absurd (refused_or_answered call.Input w told_input InputTold (λ d. refl) b e io is refuses own.0 q)
  gives_one origin.StandardInput (Err e) (Err f) (io, is, refuses) own (jo, at, refused) other =
      ap (λ z. Err z) (refused_one call.Input w told_input InputTold (λ d. refl) e f io jo is refuses own.0 at refused other.0)

  -- ---- the temporary folder

  -- the world with a new folder
  abbrev with_folder : List ℕ → World
  with_folder folder = with_tree w (finmap.insert w.tree folder thing.Folder)

  -- what is made of the file in it
  abbrev IsMade : List ℕ → List ℕ → Option World → Type 0
  IsMade text folder after = (tree : Tree) × (written (with_folder folder) (file_in folder) text ≡ Ok tree) × (after ≡ Some (with_tree (with_folder folder) tree))

  abbrev IsMissed : List ℕ → List ℕ → Miss → Option World → Type 0
  IsMissed text folder m after = (written (with_folder folder) (file_in folder) text ≡ Err m) × (after ≡ Some (with_folder folder))

  file_made : (parent : Option (List ℕ)) (folder text : List ℕ) (between after : Option World) → Makes (Some w) between parent (Ok folder) → Writes between after folder text (Ok tt) → IsMade text folder after
  file_made parent folder text between after makes writes = subst (λ (t : Option World). Writes t after folder text (Ok tt)) makes.1 writes

  file_missed : (parent : Option (List ℕ)) (folder text : List ℕ) (m : Miss) (between after : Option World) → Makes (Some w) between parent (Ok folder) → Writes between after folder text (Err (fault.Missed m)) → IsMissed text folder m after
  file_missed parent folder text m between after makes writes = subst (λ (t : Option World). Writes t after folder text (Err (fault.Missed m))) makes.1 writes

  -- a folder isn't made and missed
  made_or_missed : (parent : Option (List ℕ)) (folder : List ℕ) (m : Miss) (between after : Option World) → Makes (Some w) between parent (Ok folder) → Makes (Some w) after parent (Err (fault.Missed m)) → ⊥
  made_or_missed None folder m between after p q = q.0
  made_or_missed (Some path) folder m between after p q = answer_or_miss p.0.0 m (folder_told path (view_of w)) p.0.1 q.0

  missed_once : (parent : Option (List ℕ)) (m n : Miss) (after later : Option World) → Makes (Some w) after parent (Err (fault.Missed m)) → Makes (Some w) later parent (Err (fault.Missed n)) → m ≡ n
  missed_once None m n after later p q = absurd p.0
  missed_once (Some path) m n after later p q = one_miss m n (folder_told path (view_of w)) p.0 q.0

  -- a refusal that tells of no failed call is a miss
  abbrev TempTold : HostFault → SearchError
  TempTold io = search.TempdirIo io

  refusal_missed : (c : Call) (told : HostFault → SearchError) → ((d : Call) → is_fault (error_of_search (told (fault.Failed d))) ≡ true) → (io : HostFault) → IsRefusal c io → is_fault (error_of_search (told io)) ≡ false → (m : Miss) × (io ≡ fault.Missed m)
  refusal_missed c told fails (fault.Missed m) refuses own = (m, refl)
  refusal_missed c told fails (fault.Failed d) refuses own = absurd (true≢false (sym (fails d) ∙ own))
  refusal_missed c told fails fault.NoMemory refuses own = absurd refuses

  module _ (parent : Option (List ℕ)) (text working : List ℕ) where
    abbrev One : Result Search SearchError → Result Search SearchError → List Act → List Act → Option World → Option World → Type 0
    One r s rest left after later = Agrees {R = Result Search SearchError} r s rest left after later

    first_folder : (folder other : List ℕ) (rest left : List Act) → Act.made folder ∷ rest ≡ Act.made other ∷ left → folder ≡ other
    first_folder folder other rest left all = let one : Act.made folder ≡ Act.made other = cc in cc

    rest_same : (folder other : List ℕ) (rest left : List Act) → Act.made folder ∷ rest ≡ Act.made other ∷ left → rest ≡ left
    rest_same folder other rest left all = cc

    -- both are written
    both_made : (folder other : List ℕ) (rest left : List Act) (after later : Option World) → folder ≡ other → rest ≡ left → IsMade text folder after → IsMade text other later → One (Ok (search_in folder working)) (Ok (search_in other working)) rest left after later
    both_made folder other rest left after later same rests p q =
        let k : IsMade text folder later = subst (λ (f : List ℕ). IsMade text f later) (sym same) q in
        let trees : p.0 ≡ k.0 = one_answer p.0 k.0 (written (with_folder folder) (file_in folder) text) p.1 k.1 in
        record { same = ap (λ f. Ok (search_in f working)) same; rests = rests; world = with_tree (with_folder folder) p.0; told = p.2; also = k.2 ∙ ap (λ t. Some (with_tree (with_folder folder) t)) (sym trees) }

    made_not_missed : (folder other : List ℕ) (m : Miss) (after later : Option World) → folder ≡ other → IsMade text folder after → IsMissed text other m later → ⊥
    made_not_missed folder other m after later same p q =
        let k : IsMissed text folder m later = subst (λ (f : List ℕ). IsMissed text f m later) (sym same) q in answer_or_miss p.0 m (written (with_folder folder) (file_in folder) text) p.1 k.0

    both_missed : (folder other : List ℕ) (m n : Miss) (rest left : List Act) (after later : Option World) → folder ≡ other → rest ≡ left → IsMissed text folder m after → IsMissed text other n later
        → One (Err (search.FilesystemIo (file_in folder) (fault.Missed m))) (Err (search.FilesystemIo (file_in other) (fault.Missed n))) rest left after later
    both_missed folder other m n rest left after later same rests p q =
        let k : IsMissed text folder n later = subst (λ (f : List ℕ). IsMissed text f n later) (sym same) q in
        record {
          same = ap (λ f. Err (search.FilesystemIo (file_in f) (fault.Missed m))) same ∙ ap (λ x. Err (search.FilesystemIo (file_in other) (fault.Missed x))) (one_miss m n (written (with_folder folder) (file_in folder) text) p.0 k.0);
          rests = rests;
          world = with_folder folder;
          told = p.1;
          also = k.1;
        }

    -- the three ends of writing a text
    data IsText (after : Option World) : List (List ℕ) → Result Search SearchError → Type 0 where
      made : (between : Option World) (folder : List ℕ) → Makes (Some w) between parent (Ok folder) → IsMade text folder after → IsText after (folder ∷ []) (Ok (search_in folder working))
      missed_folder : (m : Miss) → Makes (Some w) after parent (Err (fault.Missed m)) → IsText after [] (Err (search.TempdirIo (fault.Missed m)))
      missed_file : (between : Option World) (folder : List ℕ) (m : Miss) → Makes (Some w) between parent (Ok folder) → IsMissed text folder m after
          → IsText after (folder ∷ []) (Err (search.FilesystemIo (file_in folder) (fault.Missed m)))

    is_text : (after : Option World) (folders : List (List ℕ)) (r : Result Search SearchError) → WritesText (Some w) after parent text working folders r → IsOwnSearch r → IsText after folders r
    is_text after folders r (WritesText.a_file between folder makes writes) own = IsText.made between folder makes (file_made parent folder text between after makes writes)
    is_text after folders r (WritesText.no_folder io refuses makes) own =
        let k = refusal_missed call.Temp TempTold (λ d. refl) io refuses own.0 in
        subst (λ (z : HostFault). IsText after [] (Err (search.TempdirIo z))) (sym k.1) (IsText.missed_folder k.0 (subst (λ (z : HostFault). Makes (Some w) after parent (Err z)) k.1 makes))
    is_text after folders r (WritesText.unwritten between folder io makes refuses writes) own =
        let k = refusal_missed call.Write (FileTold (file_in folder)) (λ d. refl) io refuses own.0 in
        subst (λ (z : HostFault). IsText after (folder ∷ []) (Err (search.FilesystemIo (file_in folder) z))) (sym k.1)
        (IsText.missed_file between folder k.0 makes (file_missed parent folder text k.0 between after makes (subst (λ (z : HostFault). Writes between after folder text (Err z)) k.1 writes)))
    is_text after folders r (WritesText.no_memory is) own = absurd (own.1 refl)
    is_text after folders r (WritesText.no_memory_behind folder makes) own = absurd (own.1 refl)

    text_one : (fs gs : List (List ℕ)) (rest left : List Act) (after later : Option World) (r s : Result Search SearchError) → IsText after fs r → IsText later gs s → map Act.made fs ++ rest ≡ map Act.made gs ++ left → One r s rest left after later
    text_one fs gs rest left after later r s (IsText.made between folder makes p) (IsText.made among other bakes q) all =
        both_made folder other rest left after later (first_folder folder other rest left all) (rest_same folder other rest left all) p q
    text_one fs gs rest left after later r s (IsText.made between folder makes p) (IsText.missed_folder m q) all = absurd (made_or_missed parent folder m between later makes q)
    text_one fs gs rest left after later r s (IsText.made between folder makes p) (IsText.missed_file among other m bakes q) all =
        absurd (made_not_missed folder other m after later (first_folder folder other rest left all) p q)
    text_one fs gs rest left after later r s (IsText.missed_folder m p) (IsText.made among other bakes q) all = absurd (made_or_missed parent other m among after bakes p)
    text_one fs gs rest left after later r s (IsText.missed_folder m p) (IsText.missed_folder n q) all =
        record { same = ap (λ x. Err (search.TempdirIo (fault.Missed x))) (missed_once parent m n after later p q); rests = all; world = w; told = p.1; also = q.1 }
    text_one fs gs rest left after later r s (IsText.missed_folder m p) (IsText.missed_file among other n bakes q) all = absurd (made_or_missed parent other m among after bakes p)
    text_one fs gs rest left after later r s (IsText.missed_file between folder m makes p) (IsText.made among other bakes q) all =
        absurd (made_not_missed other folder m later after (sym (first_folder folder other rest left all)) q p)
    text_one fs gs rest left after later r s (IsText.missed_file between folder m makes p) (IsText.missed_folder n q) all = absurd (made_or_missed parent folder n between later makes q)
    text_one fs gs rest left after later r s (IsText.missed_file between folder m makes p) (IsText.missed_file among other n bakes q) all =
        both_missed folder other m n rest left after later (first_folder folder other rest left all) (rest_same folder other rest left all) p q

  -- ---- the file

  module _ (parent : Option (List ℕ)) (place : Location) where
    no_text : (path : List ℕ) (r : Result (List ℕ) SearchError) → place.origin ≡ origin.File path → GivesText (Some w) place.origin r → ⊥
    no_text path r is gives = subst (λ (z : Origin). GivesText (Some w) z r) is gives

    text_or_refusal : (text : List ℕ) (e : SearchError) → ◌≡◌ {A = Result (List ℕ) SearchError} (Ok text) (Err e) → ⊥
    text_or_refusal text e is = let no : ⊥ = cc in no

    same_text : (a b : List ℕ) → ◌≡◌ {A = Result (List ℕ) SearchError} (Ok a) (Ok b) → a ≡ b
    same_text a b is = cc

    same_error : (e f : SearchError) → ◌≡◌ {A = Result (List ℕ) SearchError} (Err e) (Err f) → ◌≡◌ {A = Result Search SearchError} (Err e) (Err f)
    same_error e f is = let same : e ≡ f = cc in ap (λ x. Err x) same

    same_file : (path other : List ℕ) → place.origin ≡ origin.File path → place.origin ≡ origin.File other → path ≡ other
    same_file path other p q = let both : origin.File path ≡ origin.File other = sym p ∙ q in cc

    pub materializes_one : (fs gs : List (List ℕ)) (rest left : List Act) (after later : Option World) (r s : Result Search SearchError) → Materializes (Some w) after parent place fs r → IsOwnSearch r → Materializes (Some w) later parent place gs s → IsOwnSearch s
        → map Act.made fs ++ rest ≡ map Act.made gs ++ left → Agrees {R = Result Search SearchError} r s rest left after later
    materializes_one fs gs rest left after later r s (Materializes.file path from still) own (Materializes.file other also kept_so) owned all =
        record { same = ap (λ p. Ok (search_at p place.working_directory)) (same_file path other from also); rests = all; world = w; told = still; also = kept_so }
    materializes_one fs gs rest left after later r s (Materializes.file path from still) own (Materializes.unread f gives same) owned all = absurd (no_text path (Err f) from gives)
    materializes_one fs gs rest left after later r s (Materializes.file path from still) own (Materializes.read text folders x gives writes) owned all = absurd (no_text path (Ok text) from gives)
    materializes_one fs gs rest left after later r s (Materializes.unread e gives still) own (Materializes.file other also kept_so) owned all = absurd (no_text other (Err e) also gives)
    materializes_one fs gs rest left after later r s (Materializes.unread e gives still) own (Materializes.unread f given same) owned all =
        record { same = same_error e f (gives_one place.origin (Err e) (Err f) gives own given owned); rests = all; world = w; told = still; also = same }
    materializes_one fs gs rest left after later r s (Materializes.unread e gives still) own (Materializes.read text folders x given writes) owned all =
        absurd (text_or_refusal text e (gives_one place.origin (Ok text) (Err e) given tt gives own))
    materializes_one fs gs rest left after later r s (Materializes.read text folders x gives writes) own (Materializes.file other also kept_so) owned all = absurd (no_text other (Ok text) also gives)
    materializes_one fs gs rest left after later r s (Materializes.read text folders x gives writes) own (Materializes.unread f given same) owned all =
        absurd (text_or_refusal text f (gives_one place.origin (Ok text) (Err f) gives tt given owned))
    materializes_one fs gs rest left after later r s (Materializes.read text folders x gives writes) own (Materializes.read other more y given written_so) owned all =
        let same : text ≡ other = same_text text other (gives_one place.origin (Ok text) (Ok other) gives tt given tt) in
        text_one parent text place.working_directory folders more rest left after later x y (is_text parent text place.working_directory after folders x writes own)
        (is_text parent text place.working_directory later more y (subst (λ (t : List ℕ). WritesText (Some w) later parent t place.working_directory more y) (sym same) written_so) owned) all
    materializes_one fs gs rest left after later r s (Materializes.no_memory is) own q owned all = absurd (own.1 refl)
    materializes_one fs gs rest left after later r s p own (Materializes.no_memory is) owned all = absurd (owned.1 refl)
