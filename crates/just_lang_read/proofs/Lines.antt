-- The ends of lines and comments: what the code reads is what the grammar says.
use Rattle.std.proofs.Common.{◌≡◌, ℕ, ◌==◌, false, List, [], ◌∷◌, ◌++◌, refl, sym, ap, ◌∙◌, arith}
use Rattle.just_lang_read.specs.Lines.{put, without_returns}

-- a carriage return at the end of a text goes
pub returns_end : (text : List ℕ) → without_returns (text ++ 13 ∷ []) ≡ without_returns text
returns_end [] = refl
returns_end (c ∷ text) = ap (put c) (returns_end text)

-- any other character there stays, with all in front of it
stays : (c : ℕ) (text : List ℕ) (d : ℕ) (rest : List ℕ) → text ++ d ∷ [] ≡ rest → put c rest ≡ c ∷ rest
stays c [] d rest e = rw (sym e) refl
stays c (x ∷ text) d rest e = rw (sym e) refl

-- a text that ends in any other character keeps them all
pub returns_none : (text : List ℕ) (d : ℕ) → (d ≡ 13 → ⊥) → without_returns (text ++ d ∷ []) ≡ text ++ d ∷ []
returns_none [] d n = let k : (d == 13) ≡ false = grind (arith) in rw k refl
returns_none (c ∷ text) d n = ap (put c) (returns_none text d n) ∙ stays c text d (text ++ d ∷ []) refl
