-- What a search leaves in a host's record.
use Rattle.std.specs.Prelude.{◌≡◌, List, ◌++◌, Result}
use Rattle.just_host_record.specs.declared.entry.Entry.{Entry}
use Rattle.just_config.specs.declared.search_config.SearchConfig.{SearchConfig}
use Rattle.just_config.specs.declared.search_config.SearchConfig.TheVariants as search
use Rattle.just_env.specs.declared.search_error.SearchError.{SearchError}
use Rattle.just_env.specs.Answers.{told_entries}
use Rattle.just_search.specs.Listing.{GainsListings}

-- a record gains entries of which something holds
abbrev pub Leaves : (List Entry → Type 0) → List Entry → List Entry → Type 0
Leaves P old new = (gained : List Entry) × (new ≡ old ++ gained) × P gained

-- a record gains the entries of refused listings, and behind them the entry of the call for which an error came
abbrev pub GainsLast : {A : Type 0} → List Entry → List Entry → Result A SearchError → Type 0
GainsLast old new r = (middle : List Entry) × GainsListings old middle × (new ≡ middle ++ told_entries r)

-- A search leaves the entry of the call for which an error came, and nothing else; but one for the user's own justfile goes on behind listings
-- that were refused.
abbrev pub FindGains : {A : Type 0} → SearchConfig → List Entry → List Entry → Result A SearchError → Type 0
FindGains search.GlobalJustfile old new r = GainsLast old new r
FindGains search.FromInvocationDirectory old new r = new ≡ old ++ told_entries r
FindGains (search.FromSearchDirectory folder) old new r = new ≡ old ++ told_entries r
FindGains (search.StandardInput folder) old new r = new ≡ old ++ told_entries r
FindGains (search.WithJustfile file) old new r = new ≡ old ++ told_entries r
FindGains (search.WithJustfileAndWorkingDirectory file folder) old new r = new ≡ old ++ told_entries r
