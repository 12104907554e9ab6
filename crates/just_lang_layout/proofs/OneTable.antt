-- Items have one target each.
use Rattle.std.proofs.Common.{◌≡◌, ℕ, List, [], ◌∷◌, Bool, refl, sym, ◌∙◌, subst, ap}
use Rattle.std.specs.Prelude.{Option, Some, None}
use Rattle.just_path_text.specs.Environ.{home_of}
use Rattle.just_lang_syntax.specs.declared.ast.AstItem.{AstItem}
use Rattle.just_lang_syntax.specs.declared.ast.AstItem.TheVariants as item
use Rattle.just_lang_syntax.specs.declared.ast.StringLiteral.{StringLiteral}
use Rattle.just_lang_layout.specs.declared.layout.File.{File}
use Rattle.just_lang_layout.specs.declared.layout.Module.{Module}
use Rattle.just_lang_layout.specs.declared.target.Target.{Target}
use Rattle.just_lang_layout.specs.Paths.{Pairs}
use Rattle.just_lang_layout.specs.Targets.{paths_of, import_target, module_target, IsModuleTarget, IsTarget, AreItemTargets, AreFileTargets, AreTargets}
use Rattle.just_lang_layout.specs.Laid.{IsLaid}
use Rattle.just_lang_layout.proofs.Meanings.{means_once}

-- an item has one target
one_module : (e : Pairs) (paths : List (List ℕ)) (root name : List ℕ) (o : Bool) (s : Option StringLiteral) (t u : Target)
    → IsModuleTarget e paths root name o s t → IsModuleTarget e paths root name o s u → t ≡ u
one_module e paths root name o None t u h k = h ∙ sym k
one_module e paths root name o (Some s) t u h k =
    h.2 ∙ ap (λ (x : Option (List ℕ)). module_target (home_of e) paths root o x) (means_once e s h.0 k.0 h.1 k.1) ∙ sym k.2

one_target : (e : Pairs) (paths : List (List ℕ)) (root : List ℕ) (x : AstItem) (t u : Target) → IsTarget e paths root x t → IsTarget e paths root x u → t ≡ u
one_target e paths root item.Blank t u h k = h ∙ sym k
one_target e paths root (item.Comment text) t u h k = h ∙ sym k
one_target e paths root (item.Alias name path comment) t u h k = h ∙ sym k
one_target e paths root (item.Import o s comment) t u h k =
    h.2 ∙ ap (λ (x : Option (List ℕ)). import_target (home_of e) paths root o x) (means_once e s h.0 k.0 h.1 k.1) ∙ sym k.2
one_target e paths root (item.Module attributes o name s comment) t u h k = one_module e paths root name.text o s t u h k
one_target e paths root (item.Assignment export name value comment) t u h k = h ∙ sym k
one_target e paths root (item.Unexport name comment) t u h k = h ∙ sym k
one_target e paths root (item.Setting name value comment) t u h k = h ∙ sym k
one_target e paths root (item.Recipe r) t u h k = h ∙ sym k

one_row : (e : Pairs) (paths : List (List ℕ)) (root : List ℕ) (xs : List AstItem) (ts us : List Target)
    → AreItemTargets e paths root xs ts → AreItemTargets e paths root xs us → ts ≡ us
one_row e paths root [] [] [] h k = refl
one_row e paths root [] [] (u ∷ us) h k = absurd k
one_row e paths root [] (t ∷ ts) us h k = absurd h
one_row e paths root (x ∷ xs) [] us h k = absurd h
one_row e paths root (x ∷ xs) (t ∷ ts) [] h k = absurd k
one_row e paths root (x ∷ xs) (t ∷ ts) (u ∷ us) h k =
    ap (λ (y : Target). y ∷ ts) (one_target e paths root x t u h.0 k.0) ∙ ap (λ (ys : List Target). u ∷ ys) (one_row e paths root xs ts us h.1 k.1)

one_rows : (e : Pairs) (paths : List (List ℕ)) (fs : List File) (S T : List (List Target)) → AreFileTargets e paths fs S → AreFileTargets e paths fs T → S ≡ T
one_rows e paths [] [] [] h k = refl
one_rows e paths [] [] (u ∷ us) h k = absurd k
one_rows e paths [] (t ∷ ts) us h k = absurd h
one_rows e paths (f ∷ fs) [] us h k = absurd h
one_rows e paths (f ∷ fs) (t ∷ ts) [] h k = absurd k
one_rows e paths (f ∷ fs) (t ∷ ts) (u ∷ us) h k =
    ap (λ (y : List Target). y ∷ ts) (one_row e paths f.root f.items t u h.0 k.0) ∙ ap (λ (ys : List (List Target)). u ∷ ys) (one_rows e paths fs ts us h.1 k.1)

-- files have one table of targets
pub one_table : (e : Pairs) (fs : List File) (S T : List (List Target)) → AreTargets e fs S → AreTargets e fs T → S ≡ T
one_table e fs S T h k = one_rows e (paths_of fs) fs S T h k

-- so they have one layout
pub one_layout : (e : Pairs) (fs : List File) (S T : List (List Target)) (ms : List Module) (is : List (List ℕ))
    → AreTargets e fs S → IsLaid fs S ms is → AreTargets e fs T → IsLaid fs T ms is
one_layout e fs S T ms is h laid k = subst (λ (X : List (List Target)). IsLaid fs X ms is) (one_table e fs S T h k) laid
