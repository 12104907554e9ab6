-- The names and numbers of signals.
use Rattle.std.specs.Prelude.{ℕ, ◌==◌, List, [], ◌∷◌, Option, codes}
use Rattle.std.specs.List.{find}
use Rattle.std.specs.Str.{bytes_eq}
use Rattle.just_host_record.specs.declared.signal.Signal.{Signal}
use Rattle.just_host_record.specs.declared.signal.Signal.TheVariants.{Hangup, Interrupt, Quit, Terminate}

abbrev pub number_of : Signal → ℕ
number_of Hangup = 1
number_of Interrupt = 2
number_of Quit = 3
number_of Terminate = 15

abbrev pub name_of : Signal → List ℕ
name_of Hangup = codes "SIGHUP"
name_of Interrupt = codes "SIGINT"
name_of Quit = codes "SIGQUIT"
name_of Terminate = codes "SIGTERM"

abbrev pub all : List Signal
all = Hangup ∷ Interrupt ∷ Quit ∷ Terminate ∷ []

-- the signal of that name, but that SIGTERM is none that is asked for by name
abbrev pub named : List ℕ → Option Signal
named name = find (λ s. bytes_eq name (name_of s)) (Hangup ∷ Interrupt ∷ Quit ∷ [])

-- the signal of that number
abbrev pub numbered : ℕ → Option Signal
numbered n = find (λ s. n == number_of s) all
