-- What tables of names make is what their layout makes.
use Rattle.std.proofs.Common.{◌≡◌, IfOk, Result, Ok, Err, ℕ, List, [], ◌∷◌, sym, ap, ◌∙◌, subst}
use Rattle.just_lang_types.specs.declared.project.Justfile.{Justfile}
use Rattle.just_lang_types.specs.declared.source.Source.{Source}
use Rattle.just_lang_layout.specs.declared.layout.Layout.{Layout}
use Rattle.just_lang_layout.specs.Laid.{IsLayoutOf}
use Rattle.just_lang_layout.specs.Paths.{Pairs}
use Rattle.just_lang_spots.specs.Importers.{AreImporters}
use Rattle.just_lang_spots.specs.Standing.{Wins}
use Rattle.just_lang_spots.specs.Winners.{wins_in}
use Rattle.just_lang_rulebook.specs.Meant.{meant}
use Rattle.just_lang_names.specs.declared.names.Names.{Names}
use Rattle.just_lang_names.specs.Names.{layout_of, wins_of}
use Rattle.just_lang.specs.Errors.{BreaksNone}
use Rattle.just_lang_justfile.specs.Trees.{IsJustfileOf, outermost}
use Rattle.just_lang.specs.Assembled.{IsMadeOf, IsSoundlyMadeOf, IsJustfileOfSources, IsLaidJustfile}
use Rattle.just_lang.specs.Projects.{AreWins}
use Rattle.just_lang.specs.declared.laid.LaidJustfile.{LaidJustfile}
use Rattle.just_lang.specs.declared.tables.Tables.{Tables}
use Rattle.just_lang.specs.Tables.{AreTables, causes_of, links_in}
use Rattle.just_lang.proofs.TableLaws.{causes_are}

-- over a copy of the tables of names
module _ (names kept : Names) (same : kept ≡ names) where
  pub made_of_copy : (environ : Pairs) (j : Justfile) → IsMadeOf environ (wins_of kept) (layout_of kept) j → IsMadeOf environ (wins_of names) (layout_of names) j
  made_of_copy environ j h = subst (λ (n : Names). IsMadeOf environ (wins_of n) (layout_of n) j) same h

  pub outermost_in_copy : outermost (layout_of names).modules ≡ [] ∷ [] → outermost (layout_of kept).modules ≡ [] ∷ []
  outermost_in_copy h = ap (λ (n : Names). outermost (layout_of n).modules) same ∙ h

pub made_by_tables : (tables : Tables) → AreTables tables → (environ : Pairs) (j : Justfile)
    → IsJustfileOf (meant environ) (links_in tables) (wins_of tables.names.now) (layout_of tables.names.now) j → IsMadeOf environ (wins_of tables.names.now) (layout_of tables.names.now) j
made_by_tables tables are environ j h = record { causes = causes_of tables; causes_are = causes_are tables are; justfile = h }

-- what follows from both of two answers
pub both_ok : {T E : Type 0} (r : Result T E) (P Q R : T → Type 0) → ((x : T) → P x → Q x → R x) → IfOk r P → IfOk r Q → IfOk r R
both_ok (Ok x) P Q R f p q = f x p q
both_ok (Err e) P Q R f p q = tt

-- over a layout
module _ (environ : Pairs) (layout : Layout) (winners : List (List ℕ)) (names : Names) (importers : AreImporters layout.imports winners) (laid : layout_of names ≡ layout) (wins : wins_of names ≡ wins_in winners) where
  over_names : (P : Wins → Layout → Type 0) → P (wins_of names) (layout_of names) → P (wins_in winners) layout
  over_names P h = subst (λ (w : Wins). P w layout) wins (subst (λ (l : Layout). P (wins_of names) l) laid h)

  pub outermost_of_names : outermost layout.modules ≡ [] ∷ [] → outermost (layout_of names).modules ≡ [] ∷ []
  outermost_of_names h = ap (λ (l : Layout). outermost l.modules) laid ∙ h

  pub soundly_made : (j : Justfile) → BreaksNone environ (wins_of names) (layout_of names) → IsMadeOf environ (wins_of names) (layout_of names) j → IsSoundlyMadeOf environ layout j
  soundly_made j h k = record { wins = wins_in winners; wins_are = importers; none_broken = over_names (λ w l. BreaksNone environ w l) h; made = over_names (λ w l. IsMadeOf environ w l j) k }

-- the justfile with its layout
pub laid_of_sources : (sources : List Source) (environ : Pairs) (layout : Layout) (p : LaidJustfile) → IsLayoutOf sources environ layout
    → (p.layout ≡ layout) × AreWins layout (wins_in p.winners) × IsSoundlyMadeOf environ layout p.justfile → IsLaidJustfile sources environ p
laid_of_sources sources environ layout p h k = record {
  layout_is = subst (λ (l : Layout). IsLayoutOf sources environ l) (sym k.0) h;
  wins_are = subst (λ (l : Layout). AreWins l (wins_in p.winners)) (sym k.0) k.1;
  made = subst (λ (l : Layout). IsSoundlyMadeOf environ l p.justfile) (sym k.0) k.2;
}

pub made_of_laid : (sources : List Source) (environ : Pairs) (p : LaidJustfile) → IsLaidJustfile sources environ p → IsJustfileOfSources sources environ p.justfile
made_of_laid sources environ p h = record { layout = p.layout; layout_is = h.layout_is; made = h.made }
