-- The recipes so far and those of the modules that are left are those of all.
use Rattle.std.proofs.Common.{◌≡◌, ◌++◌, drop, map}
use Rattle.std.specs.List.{All}
use Rattle.just_eval_closure.specs.Entries.{located_of, Sees}
use Rattle.just_lang_types.specs.Modules.{located}
use Rattle.just_eval_closure.proofs.entries.entries.Given as goal

abbrev pub invariant-modules : goal.invariant-modules
invariant-modules l =
    record {
      entries : map located_of l.all.items ++ located (map (λ m. m.now) (drop l.module-index l.modules)) ≡ located (map (λ m. m.now) l.modules);
      see : All (Sees l.scopes) l.all.items;
    }
