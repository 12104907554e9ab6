-- The child, and how it ended.
use Rattle.std.proofs.Common.{refl}
use Rattle.std.proofs.lemmas.Grind.{put_two}
use Rattle.just_exec.proofs.children.tell_ended.Goals as goal

pub returns : goal.returns
returns g c = λ plain written.
    let told = rw c.as_str.ensures at c.in_ok-tell_naming.ensures plain refl in
    let ended = c.tell_status.ensures told.plain written in
    put_two g.W.Write.write_str_gives _ _ _ _ _ _ told ended refl
