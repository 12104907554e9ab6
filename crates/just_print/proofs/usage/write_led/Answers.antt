-- One more component is written behind what was.
use Rattle.std.proofs.Common.{◌++◌, ◌∙◌, refl}
use Rattle.std.proofs.lemmas.Grind.{put_two}
use Rattle.just_print.specs.Usages.{behind}
use Rattle.just_print.proofs.Written.{text_here}
use Rattle.just_print.proofs.usage.write_led.Goals as goal

pub components-preserved : goal.components-preserved
components-preserved g c = λ plain.
    let (done, written, e) = c.components.invariant plain in
    let text = behind c.component-item.result in (
      done ++ text,
      put_two g.W.Write.write_str_gives c.args.f.now c.components.f c.write_behind.new.f done text (done ++ text) written (c.in_ok-write_behind.ensures written.plain refl) refl,
      text_here behind c.components.component-index c.component-item.result c.args.components.now done c.components-test.true c.component-item.is ∙ e,
    )
