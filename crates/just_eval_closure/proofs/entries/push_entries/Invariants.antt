-- The recipes that are left follow what was added.
use Rattle.std.proofs.Common.{◌≡◌, ◌++◌, drop, map}
use Rattle.std.specs.List.{All}
use Rattle.just_eval_closure.specs.Entries.{located_of, Sees}
use Rattle.just_lang_types.specs.Modules.{recipes_of}
use Rattle.just_eval_closure.proofs.entries.push_entries.Given as goal

abbrev pub invariant-recipes : goal.invariant-recipes
invariant-recipes l =
    record {
      entries : map located_of l.entries.items ++ map (λ r. record { parent = l.justfile; recipe = r }) (drop l.recipe-index (recipes_of l.justfile)) ≡ map located_of l.initial.entries.items ++ map (λ r. record { parent = l.justfile; recipe = r }) (recipes_of l.justfile);
      see : All (Sees l.scopes) l.entries.items;
    }
