-- It is among those that are left.
use Rattle.std.proofs.Common.{◌≡◌, drop, find}
use Rattle.just_lang_types.specs.Keys.{same_path}
use Rattle.just_cli_children.proofs.environment.scope_of.Given as goal

abbrev pub invariant-scopes : goal.invariant-scopes
invariant-scopes l = find (λ s. same_path s.0 l.path) (drop l.one-index l.scopes.scopes) ≡ find (λ s. same_path s.0 l.path) l.scopes.scopes
