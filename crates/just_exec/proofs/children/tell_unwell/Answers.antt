-- The words between two texts, and how the child ended.
use Rattle.std.proofs.Common.{refl}
use Rattle.std.proofs.lemmas.Grind.{put_four}
use Rattle.just_exec.proofs.children.tell_unwell.Goals as goal

pub returns : goal.returns
returns g c = λ plain written.
    let start = c.in_ok-write_str.ensures.writes plain refl in
    let words = c.in_ok-tell_words.ensures start.plain refl in
    let told = c.in_ok-write_str-2.ensures.writes words.plain refl in
    let ended = c.tell_status.ensures told.plain written in
    put_four g.W.Write.write_str_gives _ _ _ _ _ _ _ _ _ _ start words told ended refl
