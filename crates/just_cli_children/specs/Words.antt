-- The words of a text.
use Rattle.std.specs.Prelude.{ℕ, List, [], ◌∷◌, ◌++◌, if◌then◌else◌, chars, encode_utf8}
use Rattle.std.specs.Char.{is_whitespace}

-- a word that has ended, in front of others; it is none where it is empty
abbrev pub ended : List ℕ → List (List ℕ) → List (List ℕ)
ended [] words = words
ended (b ∷ bs) words = (b ∷ bs) ∷ words

-- the words of characters, the first of which goes on with that text
abbrev pub words_from : List ℕ → List ℕ → List (List ℕ)
words_from word [] = ended word []
words_from word (c ∷ cs) = if is_whitespace c then ended word (words_from [] cs) else words_from (word ++ encode_utf8 c) cs

-- the words of a text: what stands between its white space
abbrev pub words_in : List ℕ → List (List ℕ)
words_in text = words_from [] (chars text)
