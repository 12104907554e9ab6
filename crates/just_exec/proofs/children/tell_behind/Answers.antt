-- One more text is written behind what was.
use Rattle.std.proofs.Common.{◌++◌, ◌∷◌, ◌∙◌, refl}
use Rattle.std.proofs.lemmas.Grind.{put_two}
use Rattle.just_print.specs.SmallTexts.{ticked}
use Rattle.just_exec.proofs.Written.{text_here}
use Rattle.just_exec.proofs.children.tell_behind.Goals as goal

pub texts-preserved : goal.texts-preserved
texts-preserved g c = λ plain.
    let (done, written, e) = c.texts.invariant plain in
    let text = 32 ∷ ticked c.text-item.result in (
      done ++ text,
      put_two g.W.Write.write_str_gives c.args.f.now c.texts.f c.tell_word.new.f done text (done ++ text) written (c.in_ok-tell_word.ensures written.plain refl) refl,
      text_here (λ t. 32 ∷ ticked t) c.texts.text-index c.text-item.result c.args.texts.now done c.texts-test.true c.text-item.is ∙ e,
    )
