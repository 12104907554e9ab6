-- One more character is written behind what was.
use Rattle.std.proofs.Common.{◌≡◌, ◌∙◌, ℕ, List, ◌∷◌, ◌++◌, ◌+◌, drop, drop-cons, add-one, length, get_or, encode_utf8, refl, sym, ap, append_assoc}
use Rattle.std.specs.Fmt.{HasWritten, IsPlainFormatter}
use Rattle.std.proofs.lemmas.Grind.{put_two}
use Rattle.just_print.specs.SmallTexts.{shown_all, seen}
use Rattle.just_print.proofs.ListLaws.{character_here}
use Rattle.just_print.proofs.whitespace.write_shown.Goals as goal

pub characters-preserved : goal.characters-preserved
characters-preserved g c = λ plain.
    let (done, written, e) = c.characters.invariant plain in
    let rest = shown_all (drop (c.characters.at + 1) c.args.characters.now) in (
      done ++ encode_utf8 c.seen.result,
      put_two g.W.Write.write_str_gives c.args.f.now c.characters.f c.write_char.new.self done (encode_utf8 c.seen.result) (done ++ encode_utf8 c.seen.result) written
          (c.in_ok-write_char.ensures.writes written.plain refl) refl,
      append_assoc done (encode_utf8 c.seen.result) rest
          ∙ ap (λ x. done ++ x)
          (ap (λ (k : ℕ). encode_utf8 k ++ rest) (c.seen.ensures ∙ ap seen c.index-characters-at.is)
          ∙ sym (character_here c.characters.at _ c.args.characters.now c.characters-test.true))
          ∙ e,
    )
