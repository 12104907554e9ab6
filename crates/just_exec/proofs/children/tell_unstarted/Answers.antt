-- The words between two texts.
use Rattle.std.proofs.Common.{refl}
use Rattle.std.proofs.lemmas.Grind.{put_three}
use Rattle.just_exec.proofs.children.tell_unstarted.Goals as goal

pub returns : goal.returns
returns g c = λ plain written.
    let start = c.in_ok-write_str.ensures.writes plain refl in
    let words = c.in_ok-tell_words.ensures start.plain refl in
    let fault = rw c.fault_text.ensures at c.write.ensures.writes words.plain written in
    put_three g.W.Write.write_str_gives _ _ _ _ _ _ _ _ start words fault refl
