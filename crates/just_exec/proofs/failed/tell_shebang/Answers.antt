-- What is told of the script, its interpreter with an argument, and the refusal.
use Rattle.std.proofs.Common.{refl}
use Rattle.std.proofs.lemmas.Grind.{put_four}
use Rattle.just_exec.proofs.failed.tell_shebang.Goals as goal

pub returns : goal.returns
returns g c = λ plain written.
    let told = c.in_ok-tell_recipe.ensures plain refl in
    let command = c.in_ok-write_str.ensures.writes told.plain refl in
    let argument = c.in_ok-tell_argument.ensures command.plain refl in
    let fault = c.tell_execution.ensures argument.plain written in
    put_four g.W.Write.write_str_gives _ _ _ _ _ _ _ _ _ _ told command argument fault refl
