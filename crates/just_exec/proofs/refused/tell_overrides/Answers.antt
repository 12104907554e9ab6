-- The variables between two texts.
use Rattle.std.proofs.Common.{refl}
use Rattle.std.proofs.lemmas.Grind.{put_three}
use Rattle.just_exec.proofs.refused.tell_overrides.Goals as goal

pub returns : goal.returns
returns g c = λ plain written.
    let start = c.in_ok-write_str.ensures.writes plain refl in
    let list = c.in_ok-tell_listed.ensures start.plain refl in
    let told = c.write_str-2.ensures.writes list.plain written in
    put_three g.W.Write.write_str_gives _ _ _ _ _ _ _ _ start list told refl
