-- What a host tells at a moment, put together from its parts.
use Rattle.std.proofs.Common.{◌≡◌}
use Rattle.just_host_record.specs.World.{Moment}

-- two moments with one record and one world are one
pub moment_by : (a b : Moment) → a.entries ≡ b.entries → a.world ≡ b.world → a ≡ b
moment_by a b es w = λ i. record { entries = es i; world = w i }
