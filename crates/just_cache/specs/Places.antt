-- Where a cache and its entries stand.
use Rattle.std.specs.Prelude.{ℕ, List, ◌∷◌, ◌++◌, codes}
use Rattle.just_path.specs.Path.{pushed}
use Rattle.just_cache.specs.Digests.{digest}
use Rattle.just_cache.specs.Keys.{key_text}
use Rattle.just_cache.specs.declared.key.CacheKey.{CacheKey}

-- the folder of the cache beside a justfile that was found in that folder
abbrev pub cache_folder : List ℕ → List ℕ
cache_folder parent = pushed parent (codes ".justcache")

-- the entry of a key's text in a cache's folder: the folder, `/`, the digest of the text, and `.json`
abbrev pub entry_path : List ℕ → List ℕ → List ℕ
entry_path folder text = folder ++ 47 ∷ digest text ++ codes ".json"

-- the entry of a key
abbrev pub entry_of_key : List ℕ → CacheKey → List ℕ
entry_of_key folder key = entry_path folder (key_text key)
