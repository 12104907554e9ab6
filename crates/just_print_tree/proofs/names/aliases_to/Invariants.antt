-- What was kept so far, and what is still to come.
use Rattle.std.proofs.Common.{◌≡◌, ◌++◌, drop, map}
use Rattle.std.specs.Prelude.{filter}
use Rattle.just_lang_types.specs.declared.scope.Alias.{Alias}
use Rattle.just_lang_types.specs.Keys.{same_path}
use Rattle.just_print_tree.proofs.names.aliases_to.Given as goal

abbrev pub invariant-aliases : goal.invariant-aliases
invariant-aliases l =
    map (λ a. a.now) l.kept.items ++ filter (λ (a : Alias). same_path a.target l.path) (drop l.alias-index l.aliases) ≡ filter (λ (a : Alias). same_path a.target l.path) l.aliases
