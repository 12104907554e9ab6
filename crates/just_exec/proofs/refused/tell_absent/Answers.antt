-- What depends on modules, and the modules.
use Rattle.std.proofs.Common.{refl}
use Rattle.std.proofs.lemmas.Grind.{put_two}
use Rattle.just_exec.proofs.refused.tell_absent.Goals as goal

pub returns : goal.returns
returns g c = λ plain written.
    let told = c.in_ok-tell_naming.ensures plain refl in
    let list = c.tell_listed.ensures told.plain written in
    put_two g.W.Write.write_str_gives _ _ _ _ _ _ told list refl
