-- One more line.
use Rattle.std.proofs.Common.{◌≡◌, ℕ, ◌+◌, ◌<◌, Bool, List, ◌∷◌, drop, length, get_or, Option, sym, ap, ◌∙◌}
use Rattle.just_lang_syntax.specs.declared.ast.Line.{Line}
use Rattle.just_lang_spots.specs.declared.spot.Spot.{Spot}
use Rattle.just_lang_spots.specs.Spots.{earlier, first_spot}
use Rattle.just_lang_spots.proofs.Spots.{first_behind}
use Rattle.just_lang_spots.proofs.ListLaws.{drop_here}
use Rattle.just_lang_rulebook.specs.Front.{goes_on}
use Rattle.just_lang_rulebook.specs.GuardSpots.{guard_spot, guard_spots_of}

-- one more line
pub lines_step : (file : ℕ) (is_continued then : Bool) (found here next : Option Spot) (body tail : List Line) (i : ℕ) (x : Line) → i < length body → x ≡ get_or body i x
    → tail ≡ drop i body → here ≡ first_spot (guard_spot file is_continued tail) → then ≡ goes_on x.fragments → next ≡ earlier found here
    → earlier next (first_spot (guard_spots_of file then (drop (i + 1) body))) ≡ earlier found (first_spot (guard_spots_of file is_continued (drop i body)))
lines_step file is_continued then found here next body tail i x less is t h g k =
    let cons : drop i body ≡ x ∷ drop (i + 1) body = drop_here body i x less is in
    ap (λ (o : Option Spot). earlier o (first_spot (guard_spots_of file then (drop (i + 1) body)))) (k ∙ ap (earlier found) (h ∙ ap (λ (ls : List Line). first_spot (guard_spot file is_continued ls)) (t ∙ cons)))
    ∙ ap (λ (b : Bool). earlier (earlier found (first_spot (guard_spot file is_continued (x ∷ drop (i + 1) body)))) (first_spot (guard_spots_of file b (drop (i + 1) body)))) g
    ∙ sym (first_behind found (guard_spot file is_continued (x ∷ drop (i + 1) body)) (guard_spots_of file (goes_on x.fragments) (drop (i + 1) body)))
    ∙ ap (λ (ls : List Line). earlier found (first_spot (guard_spots_of file is_continued ls))) (sym cons)
