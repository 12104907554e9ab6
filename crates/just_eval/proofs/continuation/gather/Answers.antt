-- A line that doesn't go on.
use Rattle.std.proofs.Common.{◌≡◌, false, [], ◌∷◌, ◌++◌, map, sym, ap, ◌∙◌}
use Rattle.std.proofs.lemmas.List.{map-append}
use Rattle.std.specs.Option.{option_map}
use Rattle.just_eval.specs.Bodies.{goes_on, joined}
use Rattle.just_eval.specs.Parts.{line_of, behind_unfinished, rejoined}
use Rattle.just_eval.proofs.Joins.{line_ends}
use Rattle.just_eval.proofs.continuation.gather.Goals as goal

pub returns-in_ok-push : goal.returns-in_ok-push
returns-in_ok-push c = λ rest.
    let g = c.args.gathered.now in
    let l = c.args.line.now in
    let current = line_of c.in_ok-current.current in
    let ends : goes_on l.fragments ≡ false = ap goes_on (sym c.as_slice.ensures) ∙ sym c.goes_on.ensures ∙ c.if-goes_on.false in
    let is : current ≡ behind_unfinished (option_map line_of g.unfinished) l = c.in_ok-current.ensures ∙ ap (λ o. behind_unfinished (option_map line_of o) l) c.take.ensures.value in
    let whole : map line_of c.push.new.self.items ≡ map line_of g.whole.items ++ current ∷ [] = ap (map line_of) c.in_ok-push.ensures.items ∙ map-append line_of g.whole.items (c.in_ok-current.current ∷ []) in
    let none : rejoined (option_map line_of c.take.new.self) (joined rest) ≡ joined rest = ap (λ o. rejoined (option_map line_of o) (joined rest)) c.take.ensures.after in
    ap (λ ws. ws ++ rejoined (option_map line_of c.take.new.self) (joined rest)) whole ∙ ap (λ ls. (map line_of g.whole.items ++ current ∷ []) ++ ls) none ∙ line_ends l rest (map line_of g.whole.items) (option_map line_of g.unfinished) current ends is
