-- What an environment shows.
use Rattle.std.specs.Prelude.{List}
use Rattle.just_env.specs.declared.changes.Environment.{Environment}
use Rattle.just_env.specs.Changes.{Change}

abbrev pub changes_of : Environment → List Change
changes_of e = e.inside
