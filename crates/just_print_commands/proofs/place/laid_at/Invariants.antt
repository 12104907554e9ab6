-- It is among those that are left.
use Rattle.std.proofs.Common.{◌≡◌, drop, find}
use Rattle.just_lang_types.specs.Keys.{same_path}
use Rattle.just_lang_layout.specs.declared.layout.Module.{Module}
use Rattle.just_print_commands.proofs.place.laid_at.Given as goal

abbrev pub invariant-modules : goal.invariant-modules
invariant-modules l = find (λ (m : Module). same_path m.path l.path) (drop l.one-index l.layout.modules) ≡ find (λ (m : Module). same_path m.path l.path) l.layout.modules
