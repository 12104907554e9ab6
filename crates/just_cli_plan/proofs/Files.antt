-- Sources are one list of files; these have one layout, or one rule on files is the first that they break.
use Rattle.std.proofs.Common.{◌≡◌, ℕ, List, [], ◌∷◌, Option, Some, None, chars, refl, sym, ap, ◌∙◌, subst}
use Rattle.just_lang_syntax.specs.declared.ast.AstItem.{AstItem}
use Rattle.just_lang_syntax.specs.declared.error.Fault.{Fault}
use Rattle.just_lang_syntax.proofs.Laws.{one_refusal, found_or_refused}
use Rattle.just_lang_types.specs.declared.source.Source.{Source}
use Rattle.just_lang_types.proofs.Laws.{one_tree}
use Rattle.just_lang_layout.specs.declared.error.LayoutError.{LayoutError}
use Rattle.just_lang_layout.specs.declared.error.LayoutError.TheVariants as error
use Rattle.just_lang_layout.specs.declared.layout.File.{File}
use Rattle.just_lang_layout.specs.declared.layout.Layout.{Layout}
use Rattle.just_lang_layout.specs.declared.layout.Placed.{Placed}
use Rattle.just_lang_layout.specs.declared.target.Target.{Target}
use Rattle.just_lang_layout.specs.declared.target.Target.TheVariants.{Nothing, Import, Module, Absent, MissingImport, MissingModule, Ambiguous, Homeless}
use Rattle.just_lang_layout.specs.declared.visit.Visit.{Visit}
use Rattle.just_lang_layout.specs.Files.{IsRead, IsFileOf, AreFilesOf}
use Rattle.just_lang_layout.specs.Imports.{imports_of}
use Rattle.just_lang_layout.specs.Laid.{module_files, BreaksAt, Breaks, IsLayoutOf, HasNoLayout}
use Rattle.just_lang_layout.specs.Modules.{name_at, modules_of}
use Rattle.just_lang_layout.specs.Paths.{Pairs}
use Rattle.just_lang_layout.specs.Targets.{AreTargets}
use Rattle.just_lang_layout.specs.Walk.{first_broken}
use Rattle.just_lang_layout.proofs.OneTable.{one_table}
use Rattle.just_cli_plan.proofs.Sorted.{texts_order}

-- ---- files

-- a text is read in one way
one_read : (text : List ℕ) (xs ys : List AstItem) (f g : Option Fault) → IsRead text xs f → IsRead text ys g → (xs ≡ ys) × (f ≡ g)
one_read text xs ys None None h k = (one_tree text xs ys h k, refl)
one_read text xs ys None (Some g) h k = absurd (found_or_refused (chars text) xs g h.0 h.1 k.1)
one_read text xs ys (Some f) None h k = absurd (found_or_refused (chars text) ys f k.0 k.1 h.1)
one_read text xs ys (Some f) (Some g) h k = (h.0 ∙ sym k.0, ap Some (one_refusal (chars text) f g h.1 k.1))

same_file : (f g : File) → f.path ≡ g.path → f.root ≡ g.root → f.items ≡ g.items → f.fault ≡ g.fault → f ≡ g
same_file f g path root items fault = rw (path, root, items, fault)

one_file : (source : Source) (f g : File) → IsFileOf source f → IsFileOf source g → f ≡ g
one_file source f g h k =
    let read = one_read source.text f.items g.items f.fault g.fault h.read k.read in
    same_file f g (h.path_is ∙ sym k.path_is) (h.root_is ∙ sym k.root_is) read.0 read.1

-- sources are one list of files
pub one_files : (sources : List Source) (fs gs : List File) → AreFilesOf sources fs → AreFilesOf sources gs → fs ≡ gs
one_files [] [] [] h k = refl
one_files [] [] (g ∷ gs) h k = absurd k
one_files [] (f ∷ fs) gs h k = absurd h
one_files (s ∷ ss) [] gs h k = absurd h
one_files (s ∷ ss) (f ∷ fs) [] h k = absurd k
one_files (s ∷ ss) (f ∷ fs) (g ∷ gs) h k = ap (λ (x : File). x ∷ fs) (one_file s f g h.0 k.0) ∙ ap (λ (xs : List File). g ∷ xs) (one_files ss fs gs h.1 k.1)

-- and have one table of targets
one_table_of : (environ : Pairs) (fs gs : List File) (S T : List (List Target)) → fs ≡ gs → AreTargets environ fs S → AreTargets environ gs T → S ≡ T
one_table_of environ fs gs S T e h k = one_table environ gs S T (subst (λ (xs : List File). AreTargets environ xs S) e h) k

-- ---- layouts

same_layout : (l m : Layout) → l.files ≡ m.files → l.modules ≡ m.modules → l.imports ≡ m.imports → l ≡ m
same_layout l m files modules imports = rw (files, modules, imports)

-- sources have one layout
pub one_layout : (sources : List Source) (environ : Pairs) (l m : Layout) → IsLayoutOf sources environ l → IsLayoutOf sources environ m → l ≡ m
one_layout sources environ l m h k =
    let files : l.files ≡ m.files = one_files sources l.files m.files h.files k.files in
    let table : h.table ≡ k.table = one_table_of environ l.files m.files h.table k.table files h.targets k.targets in
    let modules : l.modules ≡ m.modules =
    h.laid.modules_are ∙ ap (λ (fs : List File). modules_of fs h.table) files ∙ ap (λ (t : List (List Target)). modules_of m.files t) table ∙ sym k.laid.modules_are in
    same_layout l m files modules (h.laid.imports_are ∙ ap imports_of table ∙ sym k.laid.imports_are)

-- ---- why there is none

-- an item of a target breaks one rule at a place
one_at : (fs : List File) (p : Placed) (t : Target) (x y : LayoutError) → BreaksAt fs p t x → BreaksAt fs p t y → x ≡ y
one_at fs p Nothing x y h k = absurd h
one_at fs p (Import n) x y h k = h ∙ sym k
one_at fs p (Module n) x y h k = h ∙ sym k
one_at fs p Absent x y h k = absurd h
one_at fs p MissingImport x y h k = h ∙ sym k
one_at fs p MissingModule x y h k = h ∙ sym k
one_at fs p Ambiguous x y h k =
    h.error_is ∙ ap (λ (found : List (List ℕ)). error.AmbiguousModuleFile (name_at fs p) found) (texts_order (module_files fs p) h.found k.found h.all h.sorted k.all k.sorted) ∙ sym k.error_is
one_at fs p Homeless x y h k = h ∙ sym k

one_break : (fs : List File) (o : Option Visit) (x y : LayoutError) → Breaks fs o x → Breaks fs o y → x ≡ y
one_break fs None x y h k = absurd h
one_break fs (Some v) x y h k = one_at fs v.place v.target x y h k

-- sources have no layout for one reason
pub one_reason : (sources : List Source) (environ : Pairs) (x y : LayoutError) → HasNoLayout sources environ x → HasNoLayout sources environ y → x ≡ y
one_reason sources environ x y h k =
    let files : h.files ≡ k.files = one_files sources h.files k.files h.files_are k.files_are in
    let table : h.table ≡ k.table = one_table_of environ h.files k.files h.table k.table files h.targets k.targets in
    let here : Breaks k.files (first_broken h.table) x = subst (λ (fs : List File). Breaks fs (first_broken h.table) x) files h.breaks in
    one_break k.files (first_broken k.table) x y (subst (λ (t : List (List Target)). Breaks k.files (first_broken t) x) table here) k.breaks

-- and not where they have one
pub laid_or_broken : (sources : List Source) (environ : Pairs) (l : Layout) (x : LayoutError) → IsLayoutOf sources environ l → HasNoLayout sources environ x → ⊥
laid_or_broken sources environ l x h k =
    let files : l.files ≡ k.files = one_files sources l.files k.files h.files k.files_are in
    let table : h.table ≡ k.table = one_table_of environ l.files k.files h.table k.table files h.targets k.targets in
    subst (λ (o : Option Visit). Breaks k.files o x) (sym (ap first_broken table) ∙ h.laid.sound) k.breaks
