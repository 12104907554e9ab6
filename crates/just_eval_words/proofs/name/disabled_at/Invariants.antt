-- It is among those that are left.
use Rattle.std.proofs.Common.{◌≡◌, drop, find}
use Rattle.std.specs.Str.{bytes_eq}
use Rattle.just_eval_words.proofs.name.disabled_at.Given as goal

abbrev pub invariant-disabled : goal.invariant-disabled
invariant-disabled l =
    find (λ d. bytes_eq d.name l.name) (drop l.disabled-index l.all) ≡ find (λ d. bytes_eq d.name l.name) l.all
