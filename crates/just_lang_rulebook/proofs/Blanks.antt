-- Blanks in front, one more at a time.
use Rattle.std.proofs.Common.{◌≡◌, ℕ, ◌+◌, ◌<◌, Bool, true, false, List, ◌∷◌, drop, length, get_or, cond, sym, ap, ◌∙◌}
use Rattle.just_lang_read.specs.Characters.{is_blank}
use Rattle.just_lang_spots.proofs.ListLaws.{drop_here}
use Rattle.just_lang_rulebook.specs.Front.{drop_blanks}

-- a blank is dropped
pub blank_here : (cs : List ℕ) (i c : ℕ) → i < length cs → c ≡ get_or cs i c → is_blank c ≡ true → drop_blanks (drop (i + 1) cs) ≡ drop_blanks (drop i cs)
blank_here cs i c h e t =
    let rest : List ℕ = drop (i + 1) cs in
    sym (ap drop_blanks (drop_here cs i c h e) ∙ ap (λ (b : Bool). cond b (drop_blanks rest) (c ∷ rest)) t)

-- what is no blank stays, with all behind it
pub none_here : (cs : List ℕ) (i c : ℕ) → i < length cs → c ≡ get_or cs i c → is_blank c ≡ false → drop i cs ≡ drop_blanks (drop i cs)
none_here cs i c h e f =
    let rest : List ℕ = drop (i + 1) cs in
    drop_here cs i c h e ∙ sym (ap drop_blanks (drop_here cs i c h e) ∙ ap (λ (b : Bool). cond b (drop_blanks rest) (c ∷ rest)) f)
