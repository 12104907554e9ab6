-- None of the rows so far has the name.
use Rattle.std.proofs.Common.{◌≡◌, map, drop}
use Rattle.just_lang_types.specs.Constants.{text_among}
use Rattle.just_lang_types.proofs.constants.constant.Given as goal

abbrev pub invariant-rows : goal.invariant-rows
invariant-rows l =
    text_among (map (λ r. (r.0.now, r.1.now)) (drop l.row-index l.row-items)) l.name
    ≡ text_among (map (λ r. (r.0.now, r.1.now)) l.row-items) l.name
