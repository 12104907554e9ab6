-- Files that are summed one after the other: what the host's record gains, and what a told world shows.
use Rattle.std.specs.Prelude.{ℕ, ◌≡◌, List, [], ◌∷◌, ◌++◌, map, Result, Ok, Err, MatchOption}
use Rattle.std.specs.declared.alloc.Global.{Global}
use Rattle.std.specs.declared.vec.Vec.{Vec}
use Rattle.just_path.specs.Path.{pushed}
use Rattle.just_host_record.specs.declared.entry.Call.TheVariants as call
use Rattle.just_host_record.specs.declared.entry.Entry.TheVariants as entry
use Rattle.just_host_record.specs.declared.entry.HostFault.{HostFault}
use Rattle.just_host_record.specs.Record.{gained, IsOwn}
use Rattle.just_host_record.specs.World.{Moment}
use Rattle.just_host_record.specs.Looks.{told_sum, TellsAnswer}
use Rattle.just_cache.specs.declared.cache_error.CacheError.{CacheError}
use Rattle.just_cache.specs.Errors.{input_error}

-- one file's sum, as the host answered: the record gained it or its refusal, a told world shows it, and the world stays as it is
pub record IsSummed (before after : Moment) (path : List ℕ) (answer : Result (List ℕ) HostFault) : Type 0 where
  pub entries : after.entries ≡ before.entries ++ gained path (λ sum. entry.Summed path sum ∷ []) answer
  pub own : IsOwn call.Sum answer
  pub shown : TellsAnswer (λ sum. sum) (λ w. told_sum w path) before.world answer
  pub world : after.world ≡ before.world

-- the sum of one input
abbrev pub GivesSum : Moment → Moment → List ℕ → Result (List ℕ) CacheError → Type 0
GivesSum before after path (Ok sum) = IsSummed before after path (Ok sum)
GivesSum before after path (Err e) = (f : HostFault) × IsSummed before after path (Err f) × (e ≡ input_error path f)

-- a name is put behind others with the sum of its file, or refused
abbrev pub AddsSum : Moment → Moment → List ℕ → List ℕ → List (List ℕ × List ℕ) → List (List ℕ × List ℕ) → Result (Unit {0}) CacheError → Type 0
AddsSum before after folder name given gives (Ok done) =
    (sum : List ℕ) × IsSummed before after (pushed folder name) (Ok sum) × (gives ≡ given ++ (name, sum) ∷ [])
AddsSum before after folder name given gives (Err e) =
    (f : HostFault) × IsSummed before after (pushed folder name) (Err f) × (e ≡ input_error (pushed folder name) f)

-- names with the sums of their files under a folder, in that order: the record gained the sums, a told world shows them, and the
-- world stays as it is
pub record AreSummed (before after : Moment) (folder : List ℕ) (names : List (List ℕ)) (given : List (List ℕ × List ℕ)) : Type 0 where
  pub named : map (λ g. g.0) given ≡ names
  pub entries : after.entries ≡ before.entries ++ map (λ g. entry.Summed (pushed folder g.0) g.1) given
  pub shown : MatchOption before.world (Unit {0}) (λ w. map (λ g. told_sum w (pushed folder g.0)) given ≡ map (λ g. Ok g.1) given)
  pub world : after.world ≡ before.world

-- the first name whose file's sum was refused, and why: those in front of it have their sums
pub record IsRefused (before after : Moment) (folder : List ℕ) (names : List (List ℕ)) (e : CacheError) : Type 0 where
  pub front : List (List ℕ)
  pub name : List ℕ
  pub others : List (List ℕ)
  pub given : List (List ℕ × List ℕ)
  pub between : Moment
  pub fault : HostFault
  pub parts : names ≡ front ++ name ∷ others
  pub summed : AreSummed before between folder front given
  pub refused : IsSummed between after (pushed folder name) (Err fault)
  pub error : e ≡ input_error (pushed folder name) fault

-- all names with their sums, or the first refusal
abbrev pub GivesSums : Moment → Moment → List ℕ → List (List ℕ) → Result (Vec (List ℕ × List ℕ) Global) CacheError → Type 0
GivesSums before after folder names (Ok given) = AreSummed before after folder names given.items
GivesSums before after folder names (Err e) = IsRefused before after folder names e
