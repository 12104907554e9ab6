-- What is shown so far, and what is still to come.
use Rattle.std.proofs.Common.{◌≡◌, ◌++◌, drop, map}
use Rattle.just_print_tree.specs.Kept.{tolds}
use Rattle.just_print_tree.specs.Names.{listed_alias}
use Rattle.just_print_tree.proofs.names.listed_each.Given as goal

abbrev pub invariant-aliases : goal.invariant-aliases
invariant-aliases l =
    l.listed.items ++ map (listed_alias (map tolds l.all)) (map (λ a. a.now) (drop l.alias-index l.aliases)) ≡ map (listed_alias (map tolds l.all)) (map (λ a. a.now) l.aliases)
