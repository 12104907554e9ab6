-- What a walk through a graph keeps.
use Rattle.std.specs.Prelude.{◌≡◌, ℕ, ◌<◌, length, All}
use Rattle.just_lang_spots.specs.declared.level.Walk.{Walk}

-- its lists have an entry for each node, and what is open are nodes
pub record IsWalk (size : ℕ) (walk : Walk) : Type 0 where
  pub seen : length walk.seen.items ≡ size
  pub numbers : length walk.numbers.items ≡ size
  pub levels : length walk.levels.items ≡ size
  pub open_nodes : All (λ v. v < size) walk.open.items
