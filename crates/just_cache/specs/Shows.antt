-- What a cache shows.
use Rattle.std.specs.Prelude.{ℕ, List}
use Rattle.just_cache.specs.declared.cache.Cache.{Cache}

abbrev pub folder_of : Cache → List ℕ
folder_of c = c.folder
