-- The pairs to come, put into the members so far, give what all pairs give.
use Rattle.std.proofs.Common.{◌≡◌, drop}
use Rattle.serde_json.specs.Data.{no_members}
use Rattle.serde_json.specs.View.{members_view}
use Rattle.just_cache.specs.Members.{object_by, text_or_null}
use Rattle.just_cache.proofs.member.environment_value.Given as goal

abbrev pub invariant-pairs : goal.invariant-pairs
invariant-pairs l = object_by text_or_null (members_view l.members.entries) (drop l.pair-index l.pairs) ≡ object_by text_or_null no_members l.pairs
