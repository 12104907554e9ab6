-- What was kept so far, and what is still to come.
use Rattle.std.proofs.Common.{◌≡◌, ◌++◌, drop, map}
use Rattle.std.specs.Prelude.{filter}
use Rattle.just_print_tree.specs.Names.{is_of_other}
use Rattle.just_print_tree.proofs.names.others_of.Given as goal

abbrev pub invariant-aliases : goal.invariant-aliases
invariant-aliases l = map (λ a. a.now) l.kept.items ++ filter (is_of_other l.path) (drop l.alias-index l.aliases) ≡ filter (is_of_other l.path) l.aliases
