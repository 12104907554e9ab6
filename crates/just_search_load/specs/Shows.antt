-- What a loader shows.
use Rattle.std.specs.Prelude.{List}
use Rattle.just_lang_types.specs.declared.source.Source.{Source}
use Rattle.just_search_load.specs.declared.loader.Loader.{Loader}

-- the sources that were loaded, in the order of their loading
abbrev pub sources_of : Loader → List Source
sources_of loader = loader.inside.sources.items
