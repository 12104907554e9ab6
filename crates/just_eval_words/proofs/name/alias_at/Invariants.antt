-- It is among those that are left.
use Rattle.std.proofs.Common.{◌≡◌, drop, find}
use Rattle.std.specs.Str.{bytes_eq}
use Rattle.just_eval_words.proofs.name.alias_at.Given as goal

abbrev pub invariant-aliases : goal.invariant-aliases
invariant-aliases l =
    find (λ a. bytes_eq a.name l.name) (drop l.alias-index l.all) ≡ find (λ a. bytes_eq a.name l.name) l.all
