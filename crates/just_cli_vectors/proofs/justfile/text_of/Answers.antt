-- One recipe more, and all of them at the end.
use Rattle.std.proofs.Common.{◌++◌, ap, sym, ◌∙◌, arith}
use Rattle.std.specs.Prelude.{flat_map}
use Rattle.std.specs.List.{range_with_len}
use Rattle.just_cli_vectors.specs.Vectors.{recipe_text}
use Rattle.just_cli_vectors.proofs.Ranges.{more}
use Rattle.just_cli_vectors.proofs.justfile.text_of.Goals as goal

pub recipes-preserved : goal.recipes-preserved
recipes-preserved c = record {
  within = omega (arith, c.recipes-test.true);
  text = c.in_ok-push_recipe.ensures
      ∙ ap (λ t. t ++ recipe_text c.args.count c.recipes.number) c.recipes.invariant.text
      ∙ sym (more (recipe_text c.args.count) c.recipes.number);
}

pub returns : goal.returns
returns c = c.recipes.invariant.text ∙ ap (λ n. flat_map (recipe_text c.args.count) (range_with_len 0 n)) (omega (arith, c.recipes.invariant.within, c.recipes-test.false))
