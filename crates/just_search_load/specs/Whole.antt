-- The sources that a root leads to, all at once: each is the root's or named by an earlier one, none comes twice, and what they name is there.
use Rattle.std.specs.Prelude.{ℕ, ◌≡◌, true, List, [], ◌∷◌, ◌++◌, Contains, Option, None, Ok}
use Rattle.std.specs.List.{AllByRecursion}
use Rattle.just_path_text.specs.declared.environ.Environ.{Environ}
use Rattle.just_lang_types.specs.declared.source.Source.{Source}
use Rattle.just_lang_layout.specs.Paths.{Pairs}
use Rattle.just_host_record.specs.World.{World}
use Rattle.just_env.specs.Answers.{GivesEnviron}
use Rattle.just_search_load.specs.Loads.{source_at, is_loaded}
use Rattle.just_search_load.specs.Named.{SourceNames}
use Rattle.just_search_load.specs.Numbers.{number_of}
use Rattle.just_search_load.specs.Shown.{ReadsText}

-- a path is the root's, or one that a source names
pub data IsNamed (told : Option World) (environ : Pairs) (root : List ℕ) (sources : List Source) (path : List ℕ) : Type 0 where
  as_root : path ≡ root → IsNamed told environ root sources path
  by_source : (s : Source) (named : List (List ℕ)) → Contains sources s → SourceNames told environ s (Ok named) → Contains named path → IsNamed told environ root sources path

-- sources behind others, one after the other: each is read at a path that no earlier one has, and that is the root's or named by an earlier one
pub data AreReached (told : Option World) (environ : Pairs) (before : List Source) (root : List ℕ) : List Source → Type 0 where
  none : AreReached told environ before root []
  one_more : (more : List Source) (path text : List ℕ) → AreReached told environ before root more → number_of (before ++ more) path ≡ None → ReadsText told path (Ok text)
      → IsNamed told environ root more path → AreReached told environ before root (more ++ source_at path text ∷ [])

-- what a source names is there
pub record IsClosed (told : Option World) (environ : Pairs) (sources : List Source) (s : Source) : Type 0 where
  pub named : List (List ℕ)
  pub names : SourceNames told environ s (Ok named)
  pub there : AllByRecursion (λ path. is_loaded sources path ≡ true) named

-- those behind the sources that were there are what the root leads to, over the environment that the host gives
pub record IsWhole (told : Option World) (before : List Source) (root : List ℕ) (new : List Source) : Type 0 where
  pub environ : Environ
  pub given : GivesEnviron told (Ok environ)
  pub more : List Source
  pub behind : new ≡ before ++ more
  pub root_there : is_loaded new root ≡ true
  pub reached : AreReached told environ.pairs before root more
  pub closed : AllByRecursion (IsClosed told environ.pairs new) more
