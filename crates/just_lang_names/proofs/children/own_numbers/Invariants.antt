-- The numbers so far, and those that are still to come.
use Rattle.std.proofs.Common.{◌≡◌, ◌++◌, map, drop}
use Rattle.just_lang_names.specs.Lookup.{module_at}
use Rattle.just_lang_names.proofs.children.own_numbers.Given as goal

abbrev pub invariant-modules : goal.invariant-modules
invariant-modules l =
    l.numbers.items ++ map (λ m. module_at l.modules m.path.components) (drop l.some_module-index l.modules) ≡ map (λ m. module_at l.modules m.path.components) l.modules
