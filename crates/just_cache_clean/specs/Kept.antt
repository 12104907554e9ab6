-- What the code keeps where a cache is cleaned, and what its steps answer.
use Rattle.std.specs.Prelude.{◌≡◌, ℕ, Bool, false, List, Option, option_map, Result, Ok, Err, IfSome}
use Rattle.just_host_record.specs.declared.entry.HostFault.{HostFault}
use Rattle.just_host_record.specs.World.{Moment}
use Rattle.just_lang_types.specs.declared.recipe.Modulepath.{Modulepath}
use Rattle.just_cache.specs.Errors.{entry_error}
use Rattle.just_cache.specs.Members.{path_text}
use Rattle.just_cache.specs.declared.cache_error.CacheError.{CacheError}
use Rattle.just_cache_clean.specs.declared.wanted.Prefix.{Prefix}
use Rattle.just_cache_clean.specs.EntryTexts.{IsPath}
use Rattle.just_cache_clean.specs.Told.{IsRead, IsRemoved}
use Rattle.just_cache_clean.specs.Sweeps.{is_no_text, Judges}

-- the path that is given, and what is known of it
abbrev pub path_of : Prefix → Modulepath
path_of p = p.path.now

abbrev pub given : Option Prefix → Option Modulepath
given prefix = option_map path_of prefix

abbrev pub IsKnown : Option Prefix → Type 0
IsKnown prefix = IfSome prefix (λ p. IsPath p.path.now.components × (p.text.now ≡ path_text p.path.now.components))

-- an entry goes or stays, or can't be read
abbrev pub JudgesOr : Option Modulepath → List ℕ → List ℕ → Moment → Moment → Result Bool CacheError → Type 0
JudgesOr prefix digest path before after (Ok goes) = Judges prefix digest path before after goes
JudgesOr prefix digest path before after (Err e) = (f : HostFault) × IsRead path before after (Err f) × (is_no_text f ≡ false) × (e ≡ entry_error path f)

-- an entry is removed, or can't be
abbrev pub RemovesOr : List ℕ → Moment → Moment → Result (Unit {0}) CacheError → Type 0
RemovesOr path before after (Ok done) = IsRemoved path before after (Ok done)
RemovesOr path before after (Err e) = (f : HostFault) × IsRemoved path before after (Err f) × (e ≡ entry_error path f)
