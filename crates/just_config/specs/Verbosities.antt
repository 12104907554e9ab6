-- How much is printed.
use Rattle.std.specs.Prelude.{ℕ, ◌==◌, if◌then◌else◌}
use Rattle.just_config.specs.declared.verbosity.Verbosity.{Verbosity}
use Rattle.just_config.specs.declared.verbosity.Verbosity.TheVariants.{Quiet, Taciturn, Loquacious, Grandiloquent}

-- the place in the order, from the least
abbrev pub level : Verbosity → ℕ
level Quiet = 0
level Taciturn = 1
level Loquacious = 2
level Grandiloquent = 3

-- of `--verbose` that is given so many times
abbrev pub from_times : ℕ → Verbosity
from_times n = if n == 0 then Taciturn else (if n == 1 then Loquacious else Grandiloquent)
