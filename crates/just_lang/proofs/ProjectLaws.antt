-- What sources break, by what their layout breaks.
use Rattle.std.proofs.Common.{◌≡◌, ◌∙◌, inl, inr, ℕ, List, ◌++◌, Option, Some, refl, sym, ap, subst}
use Rattle.std.specs.Prelude.{◌≢◌}
use Rattle.just_lang_types.specs.declared.project.LangError.{LangError}
use Rattle.just_lang_types.specs.declared.project.LangError.TheVariants as error
use Rattle.just_lang_types.specs.declared.source.Source.{Source}
use Rattle.just_lang_layout.specs.declared.error.LayoutError.{LayoutError}
use Rattle.just_lang_layout.specs.declared.error.LayoutError.TheVariants as layout_error
use Rattle.just_lang_layout.specs.declared.layout.Layout.{Layout}
use Rattle.just_lang_layout.specs.Laid.{IsLayoutOf, HasNoLayout}
use Rattle.just_lang_layout.specs.Paths.{Pairs}
use Rattle.just_lang_spots.specs.Importers.{AreImporters}
use Rattle.just_lang_spots.specs.Standing.{Wins}
use Rattle.just_lang_spots.specs.Winners.{wins_in}
use Rattle.just_lang_names.specs.declared.names.Names.{Names}
use Rattle.just_lang_names.specs.Names.{layout_of, wins_of}
use Rattle.just_lang_rulebook.specs.declared.broken.Broken.{Broken}
use Rattle.just_lang_rulebook.specs.First.{first_broken}
use Rattle.just_lang_rulebook.specs.Rules.{rules_on_files, rules_on_attributes, rules_on_duplicates}
use Rattle.just_lang_rulebook.proofs.Orders.{behind_first}
use Rattle.just_lang.specs.Errors.{error_of_files, error_of_rule, BreaksNone, IsErrorIn}
use Rattle.just_lang.specs.Projects.{HasNone, HasError, AreWell, IsFirstError}
use Rattle.just_lang.proofs.Behind.{front_found}
use Rattle.just_lang.proofs.WinsExist.{wins_exist}

-- over copies of the imports and of the importers
pub same_importers : (imports kept winners rows : List (List ℕ)) → kept ≡ imports → rows ≡ winners → AreImporters kept winners → AreImporters imports rows
same_importers imports kept winners rows e k h = subst (λ (is : List (List ℕ)). AreImporters is rows) e (subst (λ (ws : List (List ℕ)). AreImporters kept ws) (sym k) h)

-- over a copy of the tables of names
module _ (environ : Pairs) (names kept : Names) (same : kept ≡ names) where
  pub same_none : BreaksNone environ (wins_of kept) (layout_of kept) → BreaksNone environ (wins_of names) (layout_of names)
  same_none h = subst (λ (n : Names). BreaksNone environ (wins_of n) (layout_of n)) same h

  pub same_error : (e : LangError) → IsErrorIn environ (wins_of kept) (layout_of kept) e → IsErrorIn environ (wins_of names) (layout_of names) e
  same_error e h = subst (λ (n : Names). IsErrorIn environ (wins_of n) (layout_of n) e) same h

-- over a layout
module _ (environ : Pairs) (layout : Layout) (winners : List (List ℕ)) (names : Names) (importers : AreImporters layout.imports winners) (laid : layout_of names ≡ layout) (wins : wins_of names ≡ wins_in winners) where
  over_names : (P : Wins → Layout → Type 0) → P (wins_of names) (layout_of names) → P (wins_in winners) layout
  over_names P h = subst (λ (w : Wins). P w layout) wins (subst (λ (l : Layout). P (wins_of names) l) laid h)

  pub layout_has_none : BreaksNone environ (wins_of names) (layout_of names) → HasNone environ layout
  unfolding HasNone
  layout_has_none h = (wins_in winners, importers, over_names (λ w l. BreaksNone environ w l) h)

  pub layout_has_error : (e : LangError) → IsErrorIn environ (wins_of names) (layout_of names) e → HasError environ layout e
  unfolding HasError
  layout_has_error e h = (wins_in winners, importers, over_names (λ w l. IsErrorIn environ w l e) h)

-- a layout that breaks a rule on files, whichever of its files win over which
pub files_have_error : (environ : Pairs) (layout : Layout) (o : Option Broken) (b : Broken) (e : LangError) → o ≡ first_broken (rules_on_files layout) → o ≡ Some b → e ≡ error_of_rule layout b → HasError environ layout e
unfolding HasError IsErrorIn
files_have_error environ layout o b e h k is =
    let wins = wins_exist layout in (
      wins.0,
      wins.1,
      inl (b, front_found environ wins.0 layout (Some b) b (behind_first (rules_on_files layout) (rules_on_attributes environ layout ++ rules_on_duplicates environ wins.0 layout) b o h k) refl, is),
    )

-- over sources
module _ (sources : List Source) (environ : Pairs) where
  pub sources_are_well : (layout : Layout) → IsLayoutOf sources environ layout → HasNone environ layout → AreWell sources environ
  unfolding AreWell
  sources_are_well layout h k = (layout, h, k)

  pub error_in_layout : (layout : Layout) (e : LangError) → IsLayoutOf sources environ layout → HasError environ layout e → IsFirstError sources environ e
  unfolding IsFirstError
  error_in_layout layout e h k = inr (layout, h, k)

  pub error_on_files : (on_files : LayoutError) (e : LangError) → (on_files ≢ layout_error.NoMemory → HasNoLayout sources environ on_files) → e ≡ error_of_files on_files → e ≢ error.NoMemory → IsFirstError sources environ e
  unfolding IsFirstError
  error_on_files on_files e h k there = inl (on_files, h (λ is. there (k ∙ ap error_of_files is)), k)
