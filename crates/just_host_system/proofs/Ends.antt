-- What waiting told of a child is what the system told of it.
use Rattle.std.proofs.Common.{◌≡◌, Option, Some, None, option_map, Result, Ok, Err, IfOk, sym, ap, ◌∙◌}
use Rattle.std.specs.Option.{ForSome}
use Rattle.std.specs.Process.{exit_code, exit_signal}
use Rattle.std.specs.declared.process.ExitStatus.{ExitStatus}
use Rattle.just_host_record.specs.declared.entry.Status.{Status}
use Rattle.just_host_system.specs.Commands.{IsToldOf, status_told, status_waited}

-- a child whose waiting told this ended so
pub told_ended : {E : Type 0} (told : Result ExitStatus E) (known : Option ExitStatus) (status : Option Status) → IfOk told (λ e. known ≡ Some e) → status ≡ status_waited told → ForSome status (λ s. ∥ IsToldOf known s ∥₁)
told_ended (Ok e) known status k is s some = ∣ ap (λ o. option_map (λ x. status_told (exit_code x) (exit_signal x)) o) k ∙ sym is ∙ some ∣₁
told_ended (Err x) known status k is s some = let no : None ≡ Some s = sym is ∙ some in absurd cc
