-- One more place has its key.
use Rattle.std.proofs.Common.{◌++◌, ◌∷◌, [], ◌∙◌, List, get_or, ap, sym}
use Rattle.just_lang.specs.SpotOrder.{Key, nowhere}
use Rattle.just_lang.proofs.SpotOrder.{numbered_more}
use Rattle.just_lang.proofs.first.keys_of.Goals as goal

pub spots-preserved : goal.spots-preserved
spots-preserved c =
    let here = get_or c.args.spots.now c.spots.number nowhere in
    c.in_ok-push.ensures.items ∙ ap (λ (ks : List Key). ks ++ (here.file, here.line, here.column, c.spots.number) ∷ []) c.spots.invariant
    ∙ sym (numbered_more c.args.spots.now c.spots.number nowhere c.spots-test.true)
