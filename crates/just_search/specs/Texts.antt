-- The text of a justfile that is no file's own.
use Rattle.std.specs.Prelude.{ℕ, ◌≡◌, List, Option, Result, Ok, Err, MatchOption}
use Rattle.just_host_record.specs.declared.entry.Call.TheVariants as call
use Rattle.just_host_record.specs.declared.entry.HostFault.{HostFault}
use Rattle.just_host_record.specs.World.{World, told_read}
use Rattle.just_host_record.specs.Looks.{told_input}
use Rattle.just_env.specs.declared.search_error.SearchError.{SearchError}
use Rattle.just_env.specs.declared.search_error.SearchError.TheVariants as error
use Rattle.just_search.specs.declared.location.Origin.{Origin}
use Rattle.just_search.specs.declared.location.Origin.TheVariants as origin
use Rattle.just_search_load.specs.Tangles.{IsTangled}
use Rattle.just_search.specs.Calls.{Refuses}

-- The text of a justfile in markdown is that of its code blocks, and the text of one on standard input is all of it; or why it can't be read. A file
-- has its text itself.
abbrev pub GivesText : Option World → Origin → Result (List ℕ) SearchError → Type 0
GivesText told (origin.File path) r = ⊥
GivesText told (origin.Markdown path) (Ok text) = (markdown : List ℕ) × MatchOption told (Unit {0}) (λ w. told_read w path ≡ Ok markdown) × IsTangled markdown text
GivesText told (origin.Markdown path) (Err e) = (io : HostFault) × (e ≡ error.FilesystemIo path io) × Refuses call.Read told (λ w. told_read w path) io
GivesText told origin.StandardInput (Ok text) = MatchOption told (Unit {0}) (λ w. told_input w ≡ Ok text)
GivesText told origin.StandardInput (Err e) = (io : HostFault) × (e ≡ error.StdinIo io) × Refuses call.Input told told_input io
