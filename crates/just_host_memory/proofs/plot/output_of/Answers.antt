-- The output is that of the first ending of the word.
use Rattle.std.proofs.Common.{◌≡◌, Some, None, sym, ap, ◌∙◌}
use Rattle.std.specs.List.{position}
use Rattle.std.specs.Str.{bytes_eq}
use Rattle.just_host_memory.specs.Playing.{output_of}
use Rattle.just_host_memory.proofs.Endings.{found, not_found}
use Rattle.just_host_memory.proofs.plot.output_of.Goals as goal

pub returns-in_ok-from_slice-in-Some : goal.returns-in_ok-from_slice-in-Some
returns-in_ok-from_slice-in-Some c =
    let some : position (λ x. bytes_eq x.word c.args.word.now) c.args.endings.now ≡ Some c.in-Some.at = sym c.ending_at.ensures ∙ c.in-Some.is in
    c.in_ok-from_slice-in-Some.ensures.items ∙ c.as_slice.ensures
    ∙ ap (λ e. e.output) (sym c.index-endings-at.is)
    ∙ ap output_of (sym (found c.args.word.now c.args.endings.now c.in-Some.at c.index-endings-at.result some c.index-endings-at.is))

pub returns-in-None : goal.returns-in-None
returns-in-None c =
    let none : position (λ x. bytes_eq x.word c.args.word.now) c.args.endings.now ≡ None = sym c.ending_at.ensures ∙ c.in-None.is in
    c.new.ensures.items ∙ ap output_of (sym (not_found c.args.word.now c.args.endings.now none))
