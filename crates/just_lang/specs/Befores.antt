-- How many recipes stand before those of each module.
use Rattle.std.specs.Prelude.{◌≡◌, ℕ, ◌<◌, List, length, get_or}
use Rattle.just_lang_layout.specs.declared.layout.Layout.{Layout}
use Rattle.just_lang_spots.specs.Standing.{Wins}
use Rattle.just_lang.specs.Cycles.{recipes_before}

-- for each module how many recipes stand in those before it
pub record AreBeforeEach (wins : Wins) (layout : Layout) (before : List ℕ) : Type 0 where
  pub size : length before ≡ length layout.modules
  pub each : (m : ℕ) → m < length layout.modules → get_or before m 0 ≡ recipes_before wins layout m
