-- The values so far are those of the texts so far.
use Rattle.std.proofs.Common.{◌≡◌, map, take}
use Rattle.serde_json.specs.Data.{string}
use Rattle.serde_json.specs.View.{view}
use Rattle.just_cache.proofs.member.texts_value.Given as goal

abbrev pub invariant-texts : goal.invariant-texts
invariant-texts l = map view l.items.items ≡ map string (take l.text-index l.list)
