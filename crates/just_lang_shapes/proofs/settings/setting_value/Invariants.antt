-- No item so far gives the setting a value.
use Rattle.std.proofs.Common.{◌≡◌, drop}
use Rattle.just_lang_spots.specs.Entries.{entries}
use Rattle.just_lang_shapes.specs.Settings.{setting_value}
use Rattle.just_lang_shapes.proofs.settings.setting_value.Given as goal

abbrev pub invariant-items : goal.invariant-items
invariant-items l = setting_value l.name (entries (drop l.one-index l.items)) ≡ setting_value l.name (entries l.items)
