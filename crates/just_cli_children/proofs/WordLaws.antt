-- Words of a text, one character at a time.
use Rattle.std.proofs.Common.{◌≡◌, ◌==◌, ◌++◌, ℕ, true, false, List, [], ◌∷◌, length, refl, sym, ◌∙◌, ap, append_assoc, append-nil, arith}
use Rattle.std.specs.Prelude.{if◌then◌else◌, encode_utf8}
use Rattle.std.specs.Char.{is_whitespace}
use Rattle.just_cli_children.specs.Words.{ended, words_from}

-- an empty word is none, and any other stands alone
pub ended_none : (words : List (List ℕ)) (word : List ℕ) → (length word == 0) ≡ true → words ≡ words ++ ended word []
ended_none words [] empty = sym (append-nil words)
ended_none words (b ∷ bs) empty = grind arith

pub ended_some : (words new : List (List ℕ)) (word : List ℕ) → (length word == 0) ≡ false → new ≡ words ++ word ∷ [] → new ≡ words ++ ended word []
ended_some words new [] some added = absurd (let no : ⊥ = cc in no)
ended_some words new (b ∷ bs) some added = added

-- a word that has ended stands in front of others
pub ended_behind : (word : List ℕ) (words : List (List ℕ)) → ended word [] ++ words ≡ ended word words
ended_behind [] words = refl
ended_behind (b ∷ bs) words = refl

-- one ends behind white space
pub word_ends : (old new : List (List ℕ)) (word next : List ℕ) (c : ℕ) → is_whitespace c ≡ true → new ≡ old ++ ended word [] → next ≡ [] → (rest : List ℕ) → new ++ words_from next rest ≡ old ++ words_from word (c ∷ rest)
word_ends old new word next c white added empty rest =
    ap (λ (l : List (List ℕ)). l ++ words_from next rest) added
    ∙ (ap (λ (n : List ℕ). (old ++ ended word []) ++ words_from n rest) empty
    ∙ (append_assoc old (ended word []) (words_from [] rest)
    ∙ (ap (λ (l : List (List ℕ)). old ++ l) (ended_behind word (words_from [] rest))
    ∙ ap (λ b. old ++ (if b then ended word (words_from [] rest) else words_from (word ++ encode_utf8 c) rest)) (sym white))))

-- or goes on
pub word_goes_on : (old : List (List ℕ)) (word next : List ℕ) (c : ℕ) → is_whitespace c ≡ false → next ≡ word ++ encode_utf8 c → (rest : List ℕ) → old ++ words_from next rest ≡ old ++ words_from word (c ∷ rest)
word_goes_on old word next c black longer rest =
    ap (λ (n : List ℕ). old ++ words_from n rest) longer
    ∙ ap (λ b. old ++ (if b then ended word (words_from [] rest) else words_from (word ++ encode_utf8 c) rest)) (sym black)
