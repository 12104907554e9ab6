-- Three texts are written one behind the other.
use Rattle.std.proofs.Common.{refl}
use Rattle.std.proofs.lemmas.Grind.{put_three}
use Rattle.just_config.proofs.config_error.write_use.Goals as goal

pub returns : goal.returns
returns g c = λ plain written.
    let command = c.in_ok-write_command.ensures plain refl in
    let surplus = c.in_ok-write_str.ensures.writes command.plain refl in
    let texts = c.write_texts.ensures surplus.plain written in
    put_three g.W.Write.write_str_gives _ _ _ _ _ _ _ _ command surplus texts refl
