-- What a cache saves of a path has the path's text between that in front and that behind.
use Rattle.std.proofs.Common.{◌≡◌, ℕ, ◌==◌, Bool, true, false, List, [], ◌∷◌, ◌++◌, append_assoc, codes, refl, sym, ap, ◌∙◌, arith}
use Rattle.std.specs.Prelude.{All, nat_lt}
use Rattle.std.specs.List.{list_all}
use Rattle.std.proofs.lemmas.Bool.{and_parts, eqb-true}
use Rattle.std.proofs.lemmas.Bool.Decides.{nat_tests}
use Rattle.std.proofs.lemmas.List.Elements.{All-head, All-tail}
use Rattle.json.specs.Print.{escape_byte, escape}
use Rattle.just_lang_read.specs.Characters.{in_name}
use Rattle.just_lang_types.specs.Names.{IsName}
use Rattle.just_cache.specs.Members.{path_text}
use Rattle.just_cache_clean.specs.EntryTexts.{IsPath, entry1, front1, back}
use Rattle.just_cache_clean.proofs.PathWalks.{behind}
use Rattle.just_cache_clean.proofs.Begins.{name_part}

-- ---- what stands in a string for the bytes of names

other_than : (x c : ℕ) → in_name x ≡ false → in_name c ≡ true → (c == x) ≡ false
other_than x c outside h = elim (c == x) as (λ b. (c == x) ≡ b → b ≡ false) [
  | true ↦ λ e. let is : c ≡ x = eqb-true c x e in sym h ∙ ap in_name is ∙ outside
  | false ↦ λ e. refl
] refl

no_control : (c : ℕ) → in_name c ≡ true → nat_lt c 32 ≡ false
no_control c h = grind (arith, nat_tests)

itself : (c : ℕ) → in_name c ≡ true → escape_byte c ≡ c ∷ []
unfolding escape_byte
itself c h =
    rw (other_than 34 c refl h, other_than 92 c refl h, other_than 8 c refl h, other_than 12 c refl h, other_than 10 c refl h, other_than 13 c refl h, other_than 9 c refl h, no_control c h) refl

colon : escape_byte 58 ≡ 58 ∷ []
unfolding escape_byte
colon = refl

word : escape (codes "recipe") ≡ codes "recipe"
unfolding escape_byte
word = refl

-- ---- names and paths stand as they are

name_stands : (x r : List ℕ) → list_all in_name x ≡ true → escape (x ++ r) ≡ x ++ escape r
name_stands [] r h = refl
name_stands (c ∷ cs) r h =
    let both = and_parts (in_name c) (list_all in_name cs) h in
    ap (λ (l : List ℕ). l ++ escape (cs ++ r)) (itself c both.0) ∙ ap (λ (l : List ℕ). c ∷ l) (name_stands cs r both.1)

others_stand : (xs : List (List ℕ)) → All IsName xs → escape (behind xs) ≡ behind xs
others_stand [] h = refl
others_stand (x ∷ xs) h =
    ap (λ (l : List ℕ). l ++ (l ++ escape (x ++ behind xs))) colon ∙ ap (λ (l : List ℕ). 58 ∷ 58 ∷ l) (name_stands x (behind xs) (name_part x (All-head IsName x xs h)))
    ∙ ap (λ (l : List ℕ). 58 ∷ 58 ∷ (x ++ l)) (others_stand xs (All-tail IsName x xs h))

path_stands : (path : List (List ℕ)) → IsPath path → escape (path_text path) ≡ path_text path
path_stands [] h = absurd h
path_stands (x ∷ xs) h =
    name_stands x (behind xs) (name_part x (All-head IsName x xs h)) ∙ ap (λ (l : List ℕ). x ++ l) (others_stand xs (All-tail IsName x xs h))

-- ---- the entry

pub entry1_is : (path : List (List ℕ)) → IsPath path → entry1 path ≡ front1 ++ (path_text path ++ back)
entry1_is path h =
    ap (λ (w : List ℕ). 123 ∷ 34 ∷ ((w ++ 34 ∷ []) ++ 58 ∷ 34 ∷ ((escape (path_text path) ++ 34 ∷ []) ++ 125 ∷ []))) word
    ∙ ap (λ (t : List ℕ). front1 ++ ((t ++ 34 ∷ []) ++ 125 ∷ [])) (path_stands path h) ∙ ap (λ (t : List ℕ). front1 ++ t) (append_assoc (path_text path) (34 ∷ []) (125 ∷ []))
