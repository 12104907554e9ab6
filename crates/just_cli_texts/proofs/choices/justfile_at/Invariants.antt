-- It is among those that are left.
use Rattle.std.proofs.Common.{◌≡◌, drop, map}
use Rattle.just_cli_texts.specs.Choices.{justfile_at}
use Rattle.just_cli_texts.proofs.choices.justfile_at.Given as goal

abbrev pub invariant-modules : goal.invariant-modules
invariant-modules l = justfile_at (map (λ m. m.now) (drop l.one-index l.modules)) l.path ≡ justfile_at (map (λ m. m.now) l.modules) l.path
