-- A layout, and the first broken rule, put together.
use Rattle.std.proofs.Common.{◌≡◌, ℕ, List, sym, subst, ap, ◌∙◌, IsPermutation, IsSorted}
use Rattle.std.specs.Prelude.{Option, Some, None, Result, Ok, Err, IfOk}
use Rattle.std.specs.Ordering.{nat_cmp}
use Rattle.std.specs.Cmp.Lexicographic.{slice_cmp}
use Rattle.just_lang_types.specs.declared.source.Source.{Source}
use Rattle.just_lang_layout.specs.declared.layout.File.{File}
use Rattle.just_lang_layout.specs.declared.layout.Layout.{Layout}
use Rattle.just_lang_layout.specs.declared.layout.Placed.{Placed}
use Rattle.just_lang_layout.specs.declared.target.Target.{Target}
use Rattle.just_lang_layout.specs.declared.visit.Visit.{Visit}
use Rattle.just_lang_layout.specs.declared.error.LayoutError.{LayoutError}
use Rattle.just_lang_layout.specs.declared.error.LayoutError.TheVariants as error
use Rattle.just_lang_layout.specs.Files.{AreFilesOf}
use Rattle.just_lang_layout.specs.Paths.{Pairs}
use Rattle.just_lang_layout.specs.Targets.{AreTargets}
use Rattle.just_lang_layout.specs.Walk.{first_broken}
use Rattle.just_lang_layout.specs.Modules.{name_at, modules_of}
use Rattle.just_lang_layout.specs.Imports.{imports_of}
use Rattle.just_lang_layout.proofs.OneTable.{one_layout}
use Rattle.just_lang_layout.specs.Laid.{module_files, IsAmbiguous, BreaksAt, Breaks, IsLaid, IsLayoutOf, Refuses}

-- files that break no rule have a layout
pub laid : (ss : List Source) (e : Pairs) (l : Layout) (T : List (List Target))
    → AreFilesOf ss l.files → AreTargets e l.files T → None ≡ first_broken T → l.modules ≡ modules_of l.files T → l.imports ≡ imports_of T → IsLayoutOf ss e l
laid ss e l T a t n m i = record { files = a; table = T; targets = t; laid = record { sound = sym n; modules_are = m; imports_are = i } }

-- and no other
pub no_other : (ss : List Source) (e : Pairs) (r : Result Layout LayoutError) → IfOk r (IsLayoutOf ss e)
    → IfOk r (λ l. (T : List (List Target)) → AreTargets e l.files T → IsLaid l.files T l.modules l.imports)
no_other ss e (Ok l) h = λ T t. one_layout e l.files h.table T l.modules l.imports h.targets h.laid t
no_other ss e (Err x) h = tt

-- the files of a module in their order are told
pub told : (fs : List File) (p : Placed) (name : List ℕ) (found sorted out : List (List ℕ)) → name ≡ name_at fs p → found ≡ module_files fs p
    → IsPermutation found sorted → IsSorted (slice_cmp nat_cmp) sorted → out ≡ sorted → IsAmbiguous fs p (error.AmbiguousModuleFile name out)
told fs p name found sorted out n f perm order o =
    record {
      found = sorted;
      all = subst (λ (xs : List (List ℕ)). IsPermutation xs sorted) f perm;
      sorted = order;
      error_is = ap (λ (t : List ℕ). error.AmbiguousModuleFile t out) n ∙ ap (error.AmbiguousModuleFile (name_at fs p)) o;
    }

-- files whose first broken rule is that one have none
pub broken : (ss : List Source) (e : Pairs) (fs : List File) (T : List (List Target)) (v : Visit) (x : LayoutError)
    → AreFilesOf ss fs → AreTargets e fs T → Some v ≡ first_broken T → BreaksAt fs v.place v.target x → Refuses ss e x
broken ss e fs T v x a t s b =
    λ _. record { files = fs; files_are = a; table = T; targets = t; breaks = subst (λ (o : Option Visit). Breaks fs o x) s b }
