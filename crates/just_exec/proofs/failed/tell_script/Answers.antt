-- What is told of the command, and the refusal.
use Rattle.std.proofs.Common.{refl}
use Rattle.std.proofs.lemmas.Grind.{put_two}
use Rattle.just_exec.proofs.failed.tell_script.Goals as goal

pub returns : goal.returns
returns g c = λ plain written.
    let told = c.in_ok-tell_part.ensures plain refl in
    let fault = c.tell_io.ensures told.plain written in
    put_two g.W.Write.write_str_gives _ _ _ _ _ _ told fault refl
