-- The argument, the recipe, the parameter and its patterns.
use Rattle.std.proofs.Common.{refl}
use Rattle.std.proofs.lemmas.Grind.{put_four}
use Rattle.just_exec.proofs.refused.tell_pattern.Goals as goal

pub returns : goal.returns
returns g c = λ plain written.
    let told = c.in_ok-tell_naming.ensures plain refl in
    let recipe = c.in_ok-tell_ticked.ensures told.plain refl in
    let parameter = c.in_ok-tell_ticked-2.ensures recipe.plain refl in
    let list = c.tell_patterns.ensures parameter.plain written in
    put_four g.W.Write.write_str_gives _ _ _ _ _ _ _ _ _ _ told recipe parameter list refl
