-- A search for the user's own justfile is asked for.
use Rattle.std.proofs.Common.{◌≡◌, inl, inr, ℕ, Bool, true, false, List, Option, Some, None, refl, sym, ◌∙◌, ap}
use Rattle.std.specs.Prelude.{if◌then◌else◌, codes, bytes_eq}
use Rattle.just_host_record.specs.declared.entry.Entry.{Entry}
use Rattle.just_config_words.specs.declared.arguments.Arguments.{Arguments}
use Rattle.just_config.specs.declared.config.Config.{Config}
use Rattle.just_config.specs.declared.search_config.SearchConfig.{SearchConfig}
use Rattle.just_config.specs.declared.search_config.SearchConfig.TheVariants as search
use Rattle.just_config.specs.Config.{by_justfile, search_config_of, config_of}
use Rattle.just_config.specs.Positional.{positional_of}
use Rattle.just_cli.specs.Request.{ArePassed}

-- where a justfile is given, or none is, the user's own isn't looked for
abbrev given_by : Bool → List ℕ → Option (List ℕ) → SearchConfig
given_by input file folder = if input then search.StandardInput folder else elim folder [ None ↦ search.WithJustfile file | Some d ↦ search.WithJustfileAndWorkingDirectory file d ]

not_given : (input : Bool) (file : List ℕ) (folder : Option (List ℕ)) → given_by input file folder ≡ search.GlobalJustfile → ⊥
not_given true file folder is = let no : ⊥ = cc in no
not_given false file None is = let no : ⊥ = cc in no
not_given false file (Some d) is = let no : ⊥ = cc in no

not_by_justfile : (file folder : Option (List ℕ)) → by_justfile file folder ≡ search.GlobalJustfile → ⊥
not_by_justfile None folder is = let no : ⊥ = cc in no
not_by_justfile (Some file) folder is = not_given (bytes_eq file (codes "-")) file folder is

asked : (b : Bool) (file folder : Option (List ℕ)) → ◌≡◌ {A = SearchConfig} (if b then search.GlobalJustfile else by_justfile file folder) search.GlobalJustfile → b ≡ true
asked true file folder is = refl
asked false file folder is = absurd (not_by_justfile file folder is)

asked_of : (a : Arguments) (folder : Option (List ℕ)) → search_config_of a folder ≡ search.GlobalJustfile → a.global_justfile ≡ true
asked_of a None is = asked a.global_justfile a.justfile a.working_directory is
asked_of a (Some d) is = absurd (let no : ⊥ = cc in no)

-- entries of listings are passed over where the arguments ask for it
pub passed_by : (a : Arguments) (folder : List ℕ) (config : Config) (listings : List Entry) → config ≡ config_of a folder
    → ArePassed (config.search_config ≡ search.GlobalJustfile) listings → ArePassed (a.global_justfile ≡ true) listings
passed_by a folder config listings is (inl none) = inl none
passed_by a folder config listings is (inr some) = inr (asked_of a (positional_of a.arguments).search_directory (sym (ap (λ c. c.search_config) is) ∙ some.0), some.1)

-- the user's own justfile is the one that a configuration searches where the arguments ask for it
pub global_by : (a : Arguments) (folder : List ℕ) (config : Config) → config ≡ config_of a folder → config.search_config ≡ search.GlobalJustfile → a.global_justfile ≡ true
global_by a folder config is asks = asked_of a (positional_of a.arguments).search_directory (sym (ap (λ c. c.search_config) is) ∙ asks)
