-- Tokens, words and names: what the code reads is what the grammar says, and it takes characters.
use Rattle.std.proofs.Common.{◌≡◌, ℕ, ◌<◌, not, List, ◌∷◌, length, Ok, Err, refl, sym, ⊎_elim, arith}
use Rattle.just_lang_read.specs.Place.{Place, starts, begins, behind_text}
use Rattle.just_lang_read.specs.declared.error.ReadError.TheVariants.{Syntax}
use Rattle.just_lang_read.proofs.Laws.{choose, ok_value, ok_place}
use Rattle.just_lang_read.proofs.Laws.{past_le}
use Rattle.just_lang_syntax.specs.declared.ast.Name.{Name}
use Rattle.just_lang_read.specs.Characters.{is_blank, begins_name, in_name}
use Rattle.just_lang_read.specs.Lines.{skip, is_word, behind_word, IsToken, IsWord}
use Rattle.just_lang_syntax.specs.Places.{name_at, IsName}
use Rattle.just_lang_syntax.specs.Readers as reader
use Rattle.just_lang_read.specs.Tokens as tokens
use Rattle.just_lang_read.proofs.Laws.{and_true, behind_shorter}

-- a token that is read stands there
pub token_ok : (text : List ℕ) (p : Place) (u : Unit {0}) (q : Place) → tokens.token text p ≡ Ok (u, q) → IsToken text p q
unfolding tokens.token
token_ok text p u q h =
    ⊎_elim (λ (s : _). (s.0, sym (ok_place tt u (skip (behind_text text p)) q s.1)))
    (λ (s : _). absurd (let no : ⊥ = cc (s.1) in no))
    (choose (begins text p) (Ok (tt, skip (behind_text text p))) (Err Syntax) (Ok (u, q)) h)

-- a token that stands there is read
pub token_again : (text : List ℕ) (p q : Place) → IsToken text p q → tokens.token text p ≡ Ok (tt, q)
unfolding tokens.token
token_again text p q s = rw (s.0, s.1) refl

-- a token takes a character
pub token_lt : (c : ℕ) (text : List ℕ) (p q : Place) → IsToken (c ∷ text) p q → length q.rest < length p.rest
token_lt c text p q s = rw (s.1) (omega (arith, past_le is_blank (behind_text (c ∷ text) p), behind_shorter c text p s.0))

-- a word that is read stands there
pub word_ok : (text : List ℕ) (p : Place) (u : Unit {0}) (q : Place) → tokens.word text p ≡ Ok (u, q) → IsWord text p q
unfolding tokens.word
word_ok text p u q h =
    ⊎_elim (λ (s : _). (s.0, sym (ok_place tt u (skip (behind_text text p)) q s.1)))
    (λ (s : _). absurd (let no : ⊥ = cc (s.1) in no))
    (choose (is_word text p) (Ok (tt, skip (behind_text text p))) (Err Syntax) (Ok (u, q)) h)

-- a word that stands there is read
pub word_again : (text : List ℕ) (p q : Place) → IsWord text p q → tokens.word text p ≡ Ok (tt, q)
unfolding tokens.word
word_again text p q s = rw (s.0, s.1) refl

-- a word takes a character
pub word_lt : (c : ℕ) (text : List ℕ) (p q : Place) → IsWord (c ∷ text) p q → length q.rest < length p.rest
word_lt c text p q s =
    token_lt c text p q ((and_true (begins (c ∷ text) p) (not (starts in_name (behind_text (c ∷ text) p))) s.0).0, s.1)

-- a name that is read stands there
pub name_ok : (p : Place) (x : Name) (q : Place) → reader.name p ≡ Ok (x, q) → IsName p q x
unfolding reader.name
name_ok p x q h =
    ⊎_elim (λ (s : _). (s.0, sym (ok_place (name_at p) x (behind_word p) q s.1), sym (ok_value (name_at p) x (behind_word p) q s.1)))
    (λ (s : _). absurd (let no : ⊥ = cc (s.1) in no))
    (choose (starts begins_name p) (Ok (name_at p, behind_word p)) (Err Syntax) (Ok (x, q)) h)

-- a name that stands there is read
pub name_again : (p q : Place) (x : Name) → IsName p q x → reader.name p ≡ Ok (x, q)
unfolding reader.name
name_again p q x (b, e, z) = rw (b, e, z) refl
