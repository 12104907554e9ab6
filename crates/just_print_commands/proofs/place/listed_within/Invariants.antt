-- It is among those that are left.
use Rattle.std.proofs.Common.{◌≡◌, drop, find}
use Rattle.std.specs.Str.{bytes_eq}
use Rattle.just_print_lists.specs.Listed.{name_of}
use Rattle.just_print_commands.proofs.place.listed_within.Given as goal

abbrev pub invariant-inner : goal.invariant-inner
invariant-inner l = find (λ m. bytes_eq (name_of m) l.name) (drop l.one-index l.inner) ≡ find (λ m. bytes_eq (name_of m) l.name) l.inner
