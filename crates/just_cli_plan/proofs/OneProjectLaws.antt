-- The law of this crate, and its parts.
use Rattle.std.proofs.Common.{◌≡◌, ℕ, inl, inr, List, [], ◌∷◌, Option, None, sym, ap, ◌∙◌, subst}
use Rattle.just_lang_types.specs.declared.project.Justfile.{Justfile}
use Rattle.just_lang_types.specs.declared.project.LangError.{LangError}
use Rattle.just_lang_types.specs.declared.source.Source.{Source}
use Rattle.just_lang_layout.specs.declared.error.LayoutError.{LayoutError}
use Rattle.just_lang_layout.specs.declared.layout.Layout.{Layout}
use Rattle.just_lang_layout.specs.Paths.{Pairs}
use Rattle.just_lang_spots.specs.Standing.{Wins}
use Rattle.just_lang_types.proofs.Nesting.{same_modules}
use Rattle.just_lang_rulebook.specs.Meant.{meant}
use Rattle.just_lang.specs.Cycles.{IsFirstSpot, IsCircularRecipe}
use Rattle.just_lang.specs.Errors.{error_of_files}
use Rattle.just_lang.specs.Projects.{HasError, IsFirstError}
use Rattle.just_lang.proofs.Unbroken.{no_circular_recipe}
use Rattle.just_lang_justfile.specs.Trees.{IsJustfileOf}
use Rattle.just_lang.specs.Assembled.{IsMadeOf, IsSoundlyMadeOf, IsJustfileOfSources}
use Rattle.just_lang.specs.Linked.{links_of}
use Rattle.just_cli_plan.specs.OneProject.{IsDetermined, ProjectsAgree}
use Rattle.just_cli_plan.proofs.Causes.{one_causes}
use Rattle.just_cli_plan.proofs.Files.{one_layout, one_reason, laid_or_broken}
use Rattle.just_cli_plan.proofs.Rules.{one_wins, one_error, unbroken_or_error}
use Rattle.just_cli_plan.proofs.Trees.{one_justfile_of}

-- ---- justfiles

made_one : (environ : Pairs) (wins : Wins) (layout : Layout) (j k : Justfile) → IsFirstSpot (IsCircularRecipe wins layout) None → IsMadeOf environ wins layout j → IsMadeOf environ wins layout k → j ≡ k
made_one environ wins layout j k none h g =
    let causes : h.causes ≡ g.causes = one_causes wins layout h.causes g.causes none h.causes_are g.causes_are in
    one_justfile_of (meant environ) (links_of wins layout g.causes) wins layout j k
    (subst (λ (cs : List (Option ℕ)). IsJustfileOf (meant environ) (links_of wins layout cs) wins layout j) causes h.justfile) g.justfile

pub soundly_one : (environ : Pairs) (layout : Layout) (j k : Justfile) → IsSoundlyMadeOf environ layout j → IsSoundlyMadeOf environ layout k → j ≡ k
soundly_one environ layout j k h g =
    made_one environ g.wins layout j k (no_circular_recipe environ g.wins layout g.none_broken)
    (subst (λ (w : Wins). IsMadeOf environ w layout j) (one_wins layout h.wins g.wins h.wins_are g.wins_are) h.made) g.made

-- sources make one justfile
pub one_justfile : (sources : List Source) (environ : Pairs) (j k : Justfile) → IsJustfileOfSources sources environ j → IsJustfileOfSources sources environ k → j ≡ k
one_justfile sources environ j k h g =
    soundly_one environ g.layout j k
    (subst (λ (l : Layout). IsSoundlyMadeOf environ l j) (one_layout sources environ h.layout g.layout h.layout_is g.layout_is) h.made) g.made

-- ---- errors

-- they break one first rule
pub one_first_error : (sources : List Source) (environ : Pairs) (e f : LangError) → IsFirstError sources environ e → IsFirstError sources environ f → IsDetermined e → IsDetermined f → e ≡ f
unfolding IsFirstError
one_first_error sources environ e f (inl h) (inl g) m n = h.2 ∙ ap (λ (x : LayoutError). error_of_files x) (one_reason sources environ h.0 g.0 h.1 g.1) ∙ sym g.2
one_first_error sources environ e f (inl h) (inr g) m n = absurd (laid_or_broken sources environ g.0 h.0 g.1 h.1)
one_first_error sources environ e f (inr h) (inl g) m n = absurd (laid_or_broken sources environ h.0 g.0 h.1 g.1)
one_first_error sources environ e f (inr h) (inr g) m n =
    one_error environ g.0 e f (subst (λ (l : Layout). HasError environ l e) (one_layout sources environ h.0 g.0 h.1 g.1) h.2) g.2 m n

-- and none, where they make a justfile
pub made_or_broken : (sources : List Source) (environ : Pairs) (j : Justfile) (e : LangError) → IsJustfileOfSources sources environ j → IsFirstError sources environ e → IsDetermined e → ⊥
unfolding IsFirstError
made_or_broken sources environ j e h (inl g) m = laid_or_broken sources environ h.layout g.0 h.layout_is g.1
made_or_broken sources environ j e h (inr g) m =
    unbroken_or_error environ h.made.wins h.layout e h.made.wins_are h.made.none_broken
    (subst (λ (l : Layout). HasError environ l e) (one_layout sources environ g.0 h.layout g.1 h.layout_is) g.2) m

pub projects_agree : ProjectsAgree
projects_agree = record {
  justfiles = one_justfile;
  modules = λ j all others. same_modules (j ∷ []) all others;
  errors = one_first_error;
  either = made_or_broken;
}
