-- The recipes so far.
use Rattle.std.proofs.Common.{◌≡◌, ◌≤◌, string_bytes}
use Rattle.std.specs.Prelude.{flat_map}
use Rattle.std.specs.List.{range_with_len}
use Rattle.just_cli_vectors.specs.Vectors.{recipe_text}
use Rattle.just_cli_vectors.proofs.justfile.text_of.Given as goal

abbrev pub invariant-recipes : goal.invariant-recipes
invariant-recipes l = record {
  within : l.number ≤ l.count;
  text : string_bytes l.out ≡ flat_map (recipe_text l.count) (range_with_len 0 l.number);
}
