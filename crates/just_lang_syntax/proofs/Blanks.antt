-- The blanks in front of a line, as a loop collects them.
use Rattle.std.proofs.Common.{◌≡◌, ℕ, ◌==◌, true, false, List, [], ◌∷◌, ◌++◌, Some, append-nil, append_assoc, sym, ap, ◌∙◌, arith}
use Rattle.just_lang_read.specs.Place.{Place, next, run, first, starts, sees}
use Rattle.just_lang_read.proofs.Laws.{starts_with, starts_at, run_next, run_none, sees_first}
use Rattle.just_lang_read.specs.Characters.{is_blank}

-- a blank that is no space is a tab
tab_of : (c : ℕ) → is_blank c ≡ true → (c == 32) ≡ false → c ≡ 9
tab_of c h n = grind (arith)

-- the run of blanks goes on with a space
pub space_more : (p : Place) (found : List ℕ) → starts is_blank p ≡ true → sees 32 p ≡ true → (found ++ 32 ∷ []) ++ run is_blank (next p).rest ≡ found ++ run is_blank p.rest
space_more p found h s =
    rw (run_next is_blank p 32 (sees_first 32 p s) h) (append_assoc found (32 ∷ []) (run is_blank (next p).rest))

-- or with a tab
pub tab_more : (p : Place) (found : List ℕ) → starts is_blank p ≡ true → sees 32 p ≡ false → (found ++ 9 ∷ []) ++ run is_blank (next p).rest ≡ found ++ run is_blank p.rest
tab_more p found h s =
    let (c, f, t) = starts_with is_blank p h in
    let k : c ≡ 9 = tab_of c t (sym (starts_at (λ d. d == 32) p c f) ∙ s) in
    let g : first p ≡ Some 9 = f ∙ ap (λ (d : ℕ). Some d) k in
    rw (run_next is_blank p 9 g h) (append_assoc found (9 ∷ []) (run is_blank (next p).rest))

-- where no blank stands, all of the run is found
pub blanks_done : (p : Place) (found : List ℕ) → starts is_blank p ≡ false → found ++ run is_blank p.rest ≡ found
blanks_done p found h = rw (run_none is_blank p h) (append-nil found)
