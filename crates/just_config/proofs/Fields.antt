-- How many fields an object has.
use Rattle.std.proofs.Common.{◌≡◌, List, [], ◌∷◌, length, refl, String, arith}
use Rattle.std.specs.declared.alloc.Global.{Global}
use Rattle.serde_json.specs.View.{members_view}
use Rattle.serde_json.specs.declared.value.Value.{Value}
use Rattle.just_config.specs.Requests.{count}

pub count_view : (ms : List (String Global × Value)) → count (members_view ms) ≡ length ms
count_view [] = refl
count_view (m ∷ ms) = let e = count_view ms in omega (arith, e)
