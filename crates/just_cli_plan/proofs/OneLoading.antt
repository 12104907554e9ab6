-- Over a told world a root is loaded in one way.
use Rattle.std.proofs.Common.{◌≡◌, ℕ, Bool, false, true≢false, List, [], ◌∷◌, ◌++◌, Option, Some, None, refl, sym, ap, ◌∙◌, subst}
use Rattle.std.specs.Prelude.{chars, if◌then◌else◌, Result, Ok, Err}
use Rattle.just_path.specs.declared.host.Miss.{Miss}
use Rattle.just_path_text.specs.Environ.{home_of}
use Rattle.just_host_record.specs.declared.entry.Call.TheVariants as call
use Rattle.just_host_record.specs.declared.entry.HostFault.{HostFault}
use Rattle.just_host_record.specs.declared.entry.HostFault.TheVariants as fault
use Rattle.just_host_record.specs.World.{World, view_of, told_read}
use Rattle.just_lang_syntax.specs.declared.ast.AstItem.{AstItem}
use Rattle.just_lang_syntax.specs.declared.ast.AstItem.TheVariants as item
use Rattle.just_lang_syntax.specs.declared.ast.StringLiteral.{StringLiteral}
use Rattle.just_lang_syntax.specs.declared.error.Fault.{Fault}
use Rattle.just_lang_syntax.proofs.Laws.{found_or_refused}
use Rattle.just_lang_types.specs.declared.source.Source.{Source}
use Rattle.just_lang_types.proofs.Laws.{one_tree}
use Rattle.just_lang_layout.specs.Paths.{Pairs}
use Rattle.just_lang_layout.specs.Targets.{module_base}
use Rattle.just_lang_layout.proofs.Meanings.{means_once}
use Rattle.just_env.specs.declared.search_error.SearchError.{SearchError}
use Rattle.just_env.specs.declared.search_error.SearchError.TheVariants as error
use Rattle.just_search_load.specs.Gathers.{Gathers}
use Rattle.just_search_load.specs.Loads.{source_at, Loads, LoadsAll}
use Rattle.just_search_load.specs.Named.{IfPresent, paths_meant, NamesFile, module_paths, ModuleFiles, ModuleNames, ItemNames, HasTree, SourceNames}
use Rattle.just_search_load.specs.Numbers.{number_of}
use Rattle.just_search_load.specs.Shown.{ListsNames, ReadFaultFits, ReadsText}
use Rattle.just_cli_plan.specs.Loading.{tells_failure, IsOwn, GivesOwn}
use Rattle.just_cli_plan.proofs.Answers.{answered_or_refused, same_answer, same_refusal, failed, own_refusal, gathers_own}
use Rattle.just_cli_plan.proofs.Folders.{one_names}

-- ---- texts

text_or_miss : (t : List ℕ) (m : Miss) → ◌≡◌ {A = Result (List ℕ) Miss} (Ok t) (Err m) → ⊥
text_or_miss t m is = let no : ⊥ = cc in no

one_text : (t u : List ℕ) → ◌≡◌ {A = Result (List ℕ) Miss} (Ok t) (Ok u) → t ≡ u
one_text t u is = cc

one_miss : (m n : Miss) → ◌≡◌ {A = Result (List ℕ) Miss} (Err m) (Err n) → m ≡ n
one_miss m n is = cc

module _ (w : World) where
  -- a refusal to read that the world determines is the miss that it shows
  missed : (path : List ℕ) (e : SearchError) (f : HostFault) → e ≡ error.Load path f → ReadFaultFits (Some w) path f → tells_failure e ≡ false → (m : Miss) × (told_read w path ≡ Err m) × (e ≡ error.Load path (fault.Missed m))
  missed path e (fault.Missed m) is fits own = (m, fits, is)
  missed path e (fault.Failed c) is fits own = absurd (true≢false (sym (ap tells_failure is) ∙ own))
  missed path e fault.NoMemory is fits own = absurd fits

  reads_own : (path : List ℕ) → GivesOwn (ReadsText (Some w) path)
  reads_own path (Ok t) (Ok u) p own q other = ap (λ z. Ok z) (one_text t u (sym p ∙ q))
  reads_own path (Ok t) (Err e) p own q other =
      let m = missed path e q.0 q.1 q.2 other in absurd (text_or_miss t m.0 (sym p ∙ m.1))
  reads_own path (Err e) (Ok t) p own q other =
      let m = missed path e p.0 p.1 p.2 own in absurd (text_or_miss t m.0 (sym q ∙ m.1))
  reads_own path (Err e) (Err f) p own q other =
      let m = missed path e p.0 p.1 p.2 own in
      let n = missed path f q.0 q.1 q.2 other in
      let same : m.0 ≡ n.0 = one_miss m.0 n.0 (sym m.1 ∙ n.1) in
      ap (λ z. Err z) (m.2 ∙ ap (λ z. error.Load path (fault.Missed z)) same ∙ sym n.2)

  -- ---- files that are there

  present_own : (path : List ℕ) → GivesOwn (IfPresent (Some w) path)
  present_own path (Ok ps) (Ok qs) p own q other =
      ap (λ z. Ok z) (p.2 ∙ ap (λ (b : Bool). if b then path ∷ [] else []) (p.1 ∙ sym q.1) ∙ sym q.2)
  present_own path (Ok ps) (Err e) p own q other = absurd (failed call.Meta path e q other)
  present_own path (Err e) s p own q other = absurd (failed call.Meta path e p own)

  all_present : (paths : List (List ℕ)) → GivesOwn (Gathers (IfPresent (Some w)) paths)
  all_present = gathers_own (IfPresent (Some w)) present_own

  names_own : (path : List ℕ) → GivesOwn (ListsNames (Some w) path)
  names_own path (Ok ns) (Ok ms) p own q other = ap (λ z. Ok z) (one_names (view_of w) path ns ms p q)
  names_own path (Ok ns) (Err e) p own q other = absurd (failed call.List path e q other)
  names_own path (Err e) s p own q other = absurd (failed call.List path e p own)

  module_files_own : (base : List ℕ) → GivesOwn (ModuleFiles (Some w) base)
  module_files_own base r s (ModuleFiles.of_folder ns p rest) own (ModuleFiles.of_folder ms q later) other =
      let same : ns ≡ ms = same_answer ns ms (names_own base (Ok ns) (Ok ms) p tt q tt) in
      all_present (module_paths base ms) r s (subst (λ ks. Gathers (IfPresent (Some w)) (module_paths base ks) r) same rest) own later other
  module_files_own base r s (ModuleFiles.of_folder ns p rest) own (ModuleFiles.refused_folder e q is) other = absurd (failed call.List base e q (own_refusal s e is other))
  module_files_own base r s (ModuleFiles.refused_folder e p is) own q other = absurd (failed call.List base e p (own_refusal r e is own))

  -- ---- what sources name

  module _ (environ : Pairs) where
    file_own : (root : List ℕ) (x : StringLiteral) → GivesOwn (NamesFile (Some w) environ root x)
    file_own root x r s p own q other =
        all_present (paths_meant (home_of environ) root q.0) r s
        (subst (λ (t : Option (List ℕ)). Gathers (IfPresent (Some w)) (paths_meant (home_of environ) root t) r) (means_once environ x p.0 q.0 p.1 q.1) p.2) own q.2 other

    module_own : (root name : List ℕ) (x : Option StringLiteral) → GivesOwn (ModuleNames (Some w) environ root name x)
    module_own root name None r s p own q other = module_files_own (module_base root name) r s p own q other
    module_own root name (Some x) r s p own q other = file_own root x r s p own q other

    item_own : (root : List ℕ) (x : AstItem) → GivesOwn (ItemNames (Some w) environ root x)
    item_own root (item.Import optional x comment) r s p own q other = file_own root x r s p own q other
    item_own root (item.Module attributes optional name x comment) r s p own q other = module_own root name.text x r s p own q other
    item_own root item.Blank r s p own q other = p ∙ sym q
    item_own root (item.Comment text) r s p own q other = p ∙ sym q
    item_own root (item.Alias name path comment) r s p own q other = p ∙ sym q
    item_own root (item.Assignment export name value comment) r s p own q other = p ∙ sym q
    item_own root (item.Unexport name comment) r s p own q other = p ∙ sym q
    item_own root (item.Setting name value comment) r s p own q other = p ∙ sym q
    item_own root (item.Recipe x) r s p own q other = p ∙ sym q

    items_own : (root : List ℕ) (xs : List AstItem) → GivesOwn (Gathers (ItemNames (Some w) environ root) xs)
    items_own root = gathers_own (ItemNames (Some w) environ root) (item_own root)

    -- a source has a tree, or its text is refused
    tree_or_fault : (x : Source) (items : List AstItem) (f : Fault) → HasTree x (Ok items) → HasTree x (Err f) → ⊥
    tree_or_fault x items f tree refused = found_or_refused (chars x.text) items f tree.0 tree.1 refused

    source_own : (x : Source) → GivesOwn (SourceNames (Some w) environ x)
    source_own x r s (SourceNames.of_items us p rest) own (SourceNames.of_items vs q later) other =
        items_own x.root vs r s (subst (λ (l : List AstItem). Gathers (ItemNames (Some w) environ x.root) l r) (one_tree x.text us vs p q) rest) own later other
    source_own x r s (SourceNames.of_items us p rest) own (SourceNames.of_no_text f q same) other = absurd (tree_or_fault x us f p q)
    source_own x r s (SourceNames.of_no_text f p same) own (SourceNames.of_items vs q later) other = absurd (tree_or_fault x vs f q p)
    source_own x r s (SourceNames.of_no_text f p same) own (SourceNames.of_no_text g q also) other = same ∙ sym also

    -- ---- loading

    -- a path was loaded or it wasn't
    number_or_none : (a b : List Source) (path place : List ℕ) (n : ℕ) → a ≡ b → path ≡ place → number_of a path ≡ Some n → number_of b place ≡ None → ⊥
    number_or_none a b path place n same at number none =
        let both : Some n ≡ None = sym number ∙ ap (λ l. number_of l path) same ∙ ap (λ p. number_of b p) at ∙ none in
        let no : ⊥ = cc in no

    -- a text is read at one path in one way
    read_once : (path place : List ℕ) → path ≡ place → (t u : List ℕ) → ReadsText (Some w) path (Ok t) → ReadsText (Some w) place (Ok u) → t ≡ u
    read_once path place at t u p q = same_answer t u (reads_own place (Ok t) (Ok u) (subst (λ z. ReadsText (Some w) z (Ok t)) at p) tt q tt)

    read_or_not : (path place : List ℕ) → path ≡ place → (t : List ℕ) (e : SearchError) → ReadsText (Some w) path (Ok t) → ReadsText (Some w) place (Err e) → tells_failure e ≡ false → ⊥
    read_or_not path place at t e p q own = answered_or_refused t e (reads_own place (Ok t) (Err e) (subst (λ z. ReadsText (Some w) z (Ok t)) at p) tt q own)

    one_source : (path place t u : List ℕ) → path ≡ place → t ≡ u → source_at path t ≡ source_at place u
    one_source path place t u at is = ap (λ p. source_at p t) at ∙ ap (λ z. source_at place z) is

    -- what two sources that are one name
    named_once : (x y : Source) → x ≡ y → (r s : Result (List (List ℕ)) SearchError) → SourceNames (Some w) environ x r → IsOwn r → SourceNames (Some w) environ y s → IsOwn s → r ≡ s
    named_once x y is r s p own q other = source_own y r s (subst (λ z. SourceNames (Some w) environ z r) is p) own q other

    loads_by : (a : List Source) (ps : List (List ℕ)) (r : Result (List Source) SearchError) → Loads (Some w) environ a ps r → IsOwn r
        → (b : List Source) (qs : List (List ℕ)) (s : Result (List Source) SearchError) → Loads (Some w) environ b qs s → IsOwn s → a ≡ b → ps ≡ qs → r ≡ s
    loads_by a ps r (Loads.nothing_left before) own b qs s (Loads.nothing_left after) other same paths = ap (λ z. Ok z) same
    loads_by a ps r (Loads.nothing_left before) own b qs s (Loads.loaded_before after q more n t number rest) other same paths = absurd (let no : ⊥ = cc in no)
    loads_by a ps r (Loads.nothing_left before) own b qs s (Loads.loaded_now after q more u ms t none read names rest) other same paths = absurd (let no : ⊥ = cc in no)
    loads_by a ps r (Loads.nothing_left before) own b qs s (Loads.unread after q more f none read) other same paths = absurd (let no : ⊥ = cc in no)
    loads_by a ps r (Loads.nothing_left before) own b qs s (Loads.unseen after q more u f none read names) other same paths = absurd (let no : ⊥ = cc in no)
    loads_by a ps r (Loads.loaded_before before p left n t number rest) own b qs s (Loads.nothing_left after) other same paths = absurd (let no : ⊥ = cc in no)
    loads_by a ps r (Loads.loaded_before before p left n t number rest) own b qs s (Loads.loaded_before after q more k v also later) other same paths =
        let behind : left ≡ more = cc in
        loads_by before left t rest own after more v later other same behind
    loads_by a ps r (Loads.loaded_before before p left n t number rest) own b qs s (Loads.loaded_now after q more u ms v none read names later) other same paths =
        let at : p ≡ q = cc in
        absurd (number_or_none before after p q n same at number none)
    loads_by a ps r (Loads.loaded_before before p left n t number rest) own b qs s (Loads.unread after q more f none read) other same paths =
        let at : p ≡ q = cc in
        absurd (number_or_none before after p q n same at number none)
    loads_by a ps r (Loads.loaded_before before p left n t number rest) own b qs s (Loads.unseen after q more u f none read names) other same paths =
        let at : p ≡ q = cc in
        absurd (number_or_none before after p q n same at number none)
    loads_by a ps r (Loads.loaded_now before p left x ns t none read names rest) own b qs s (Loads.nothing_left after) other same paths = absurd (let no : ⊥ = cc in no)
    loads_by a ps r (Loads.loaded_now before p left x ns t none read names rest) own b qs s (Loads.loaded_before after q more n v number later) other same paths =
        let at : q ≡ p = cc in
        absurd (number_or_none after before q p n (sym same) at number none)
    loads_by a ps r (Loads.loaded_now before p left x ns t none read names rest) own b qs s (Loads.loaded_now after q more y ms v free reads also later) other same paths =
        let at : p ≡ q = cc in
        let behind : left ≡ more = cc in
        let source : source_at p x ≡ source_at q y = one_source p q x y at (read_once p q at x y read reads) in
        let found : ns ≡ ms = same_answer ns ms (named_once (source_at p x) (source_at q y) source (Ok ns) (Ok ms) names tt also tt) in
        loads_by (before ++ source_at p x ∷ []) (ns ++ left) t rest own (after ++ source_at q y ∷ []) (ms ++ more) v later other
        (ap (λ l. l ++ source_at p x ∷ []) same ∙ ap (λ z. after ++ z ∷ []) source) (ap (λ l. l ++ left) found ∙ ap (λ l. ms ++ l) behind)
    loads_by a ps r (Loads.loaded_now before p left x ns t none read names rest) own b qs s (Loads.unread after q more f free reads) other same paths =
        let at : p ≡ q = cc in
        absurd (read_or_not p q at x f read reads other)
    loads_by a ps r (Loads.loaded_now before p left x ns t none read names rest) own b qs s (Loads.unseen after q more y f free reads also) other same paths =
        let at : p ≡ q = cc in
        absurd (answered_or_refused ns f (named_once (source_at p x) (source_at q y) (one_source p q x y at (read_once p q at x y read reads)) (Ok ns) (Err f) names tt also other))
    loads_by a ps r (Loads.unread before p left e none read) own b qs s (Loads.nothing_left after) other same paths = absurd (let no : ⊥ = cc in no)
    loads_by a ps r (Loads.unread before p left e none read) own b qs s (Loads.loaded_before after q more n v number later) other same paths =
        let at : q ≡ p = cc in
        absurd (number_or_none after before q p n (sym same) at number none)
    loads_by a ps r (Loads.unread before p left e none read) own b qs s (Loads.loaded_now after q more y ms v free reads also later) other same paths =
        let at : q ≡ p = cc in
        absurd (read_or_not q p at y e reads read own)
    loads_by a ps r (Loads.unread before p left e none read) own b qs s (Loads.unread after q more f free reads) other same paths =
        let at : p ≡ q = cc in
        same_refusal e f (reads_own q (Err e) (Err f) (subst (λ z. ReadsText (Some w) z (Err e)) at read) own reads other)
    loads_by a ps r (Loads.unread before p left e none read) own b qs s (Loads.unseen after q more y f free reads also) other same paths =
        let at : q ≡ p = cc in
        absurd (read_or_not q p at y e reads read own)
    loads_by a ps r (Loads.unseen before p left x e none read names) own b qs s (Loads.nothing_left after) other same paths = absurd (let no : ⊥ = cc in no)
    loads_by a ps r (Loads.unseen before p left x e none read names) own b qs s (Loads.loaded_before after q more n v number later) other same paths =
        let at : q ≡ p = cc in
        absurd (number_or_none after before q p n (sym same) at number none)
    loads_by a ps r (Loads.unseen before p left x e none read names) own b qs s (Loads.loaded_now after q more y ms v free reads also later) other same paths =
        let at : q ≡ p = cc in
        absurd (answered_or_refused ms e (named_once (source_at q y) (source_at p x) (one_source q p y x at (read_once q p at y x reads read)) (Ok ms) (Err e) also tt names own))
    loads_by a ps r (Loads.unseen before p left x e none read names) own b qs s (Loads.unread after q more f free reads) other same paths =
        let at : p ≡ q = cc in
        absurd (read_or_not p q at x f read reads other)
    loads_by a ps r (Loads.unseen before p left x e none read names) own b qs s (Loads.unseen after q more y f free reads also) other same paths =
        let at : p ≡ q = cc in
        same_refusal e f (named_once (source_at p x) (source_at q y) (one_source p q x y at (read_once p q at x y read reads)) (Err e) (Err f) names own also other)

    pub loads_own : (before : List Source) (paths : List (List ℕ)) → GivesOwn (Loads (Some w) environ before paths)
    loads_own before paths r s p own q other = loads_by before paths r p own before paths s q other refl refl

  -- a root is loaded in one way
  pub one_loading : (before : List Source) (root : List ℕ) → GivesOwn (LoadsAll (Some w) before root)
  one_loading before root r s (LoadsAll.over_environ a given p) own (LoadsAll.over_environ b also q) other =
      loads_own b.pairs before (root ∷ []) r s (subst (λ (e : Pairs). Loads (Some w) e before (root ∷ []) r) (given ∙ sym also) p) own q other
  one_loading before root r s (LoadsAll.over_environ a given p) own (LoadsAll.no_environ e missing is) other = absurd (failed call.Environ [] e missing (own_refusal s e is other))
  one_loading before root r s (LoadsAll.no_environ e missing is) own q other = absurd (failed call.Environ [] e missing (own_refusal r e is own))
