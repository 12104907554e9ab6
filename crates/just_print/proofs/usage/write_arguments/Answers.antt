-- One more parameter is written behind what was.
use Rattle.std.proofs.Common.{◌++◌, ◌∙◌, refl}
use Rattle.std.proofs.lemmas.Grind.{put_two}
use Rattle.just_print.specs.Usages.{argument_text}
use Rattle.just_print.proofs.Written.{text_here}
use Rattle.just_print.proofs.usage.write_arguments.Goals as goal

pub parameters-preserved : goal.parameters-preserved
parameters-preserved g c = λ plain.
    let (done, written, e) = c.parameters.invariant plain in
    let text = argument_text c.parameter-item.result in (
      done ++ text,
      put_two g.W.Write.write_str_gives c.args.f.now c.parameters.f c.write_argument.new.f done text (done ++ text) written (c.in_ok-write_argument.ensures written.plain refl) refl,
      text_here argument_text c.parameters.parameter-index c.parameter-item.result c.args.parameters.now done c.parameters-test.true c.parameter-item.is ∙ e,
    )
