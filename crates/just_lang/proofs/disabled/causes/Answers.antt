-- The causes are those of the graph of recipes.
use Rattle.std.proofs.Common.{◌∙◌, map, ap}
use Rattle.just_lang.specs.Disabling.{is_filled}
use Rattle.just_lang.specs.DisablingTables.{texts}
use Rattle.just_lang.proofs.CauseLaws.{causes_for}
use Rattle.just_lang.proofs.disabled.causes.Goals as goal

pub returns-clause-causes : goal.returns-clause-causes
returns-clause-causes c =
    causes_for c.args.recipes.now c.requires.recipes c.as_slice-edges.result.now (map (λ v. texts v.items) c.in_ok-absent.absent.items) c.as_slice-2.result.now
    c.as_slice-edges.ensures.value c.in_ok-absent.ensures
    (c.as_slice-2.ensures.value ∙ c.in_ok-own.ensures ∙ ap (λ vs. map is_filled (map (λ v. texts v.items) vs)) c.as_slice.ensures.value) c.in_ok-causes.causes.items c.in_ok-causes.ensures

pub returns-clause-tables : goal.returns-clause-tables
returns-clause-tables c =
    let are = causes_for c.args.recipes.now c.requires.recipes c.as_slice-edges.result.now (map (λ v. texts v.items) c.in_ok-absent.absent.items) c.as_slice-2.result.now
    c.as_slice-edges.ensures.value c.in_ok-absent.ensures
    (c.as_slice-2.ensures.value ∙ c.in_ok-own.ensures ∙ ap (λ vs. map is_filled (map (λ v. texts v.items) vs)) c.as_slice.ensures.value) c.in_ok-causes.causes.items c.in_ok-causes.ensures in
    record { recipes_are = c.requires.recipes; causes_are = are; absent_are = c.in_ok-absent.ensures }
