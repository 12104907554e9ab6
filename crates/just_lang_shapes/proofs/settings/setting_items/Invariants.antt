-- The settings so far, and those that are still to come.
use Rattle.std.proofs.Common.{◌≡◌, ◌++◌, drop}
use Rattle.std.specs.Prelude.{filter}
use Rattle.just_lang_spots.specs.Entries.{entries}
use Rattle.just_lang_shapes.specs.Settings.{is_setting}
use Rattle.just_lang_shapes.proofs.settings.setting_items.Given as goal

abbrev pub invariant-items : goal.invariant-items
invariant-items l = entries l.kept.items ++ filter is_setting (entries (drop l.one-index l.items)) ≡ filter is_setting (entries l.items)
