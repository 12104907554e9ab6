-- A path of names is read back from its text.
use Rattle.std.proofs.Common.{◌≡◌, ℕ, ◌==◌, cond, List, [], ◌∷◌, ◌++◌, append-nil, true, false, codes, refl, sym, ap, ◌∙◌}
use Rattle.std.specs.Prelude.{All, flat_map, ◌&&◌, ◌||◌}
use Rattle.std.specs.List.{list_all}
use Rattle.std.proofs.lemmas.Bool.{and_parts, eqb-true}
use Rattle.std.proofs.lemmas.List.Elements.{All-head, All-tail}
use Rattle.just_lang_read.specs.Characters.{in_name, is_digit}
use Rattle.just_lang_types.specs.Names.{IsName}
use Rattle.just_cache.specs.Members.{path_text}

-- a character in front of the first part
abbrev add_front : ℕ → List (List ℕ) → List (List ℕ)
add_front c [] = (c ∷ []) ∷ []
add_front c (p ∷ ps) = (c ∷ p) ∷ ps

-- what stands between colons
abbrev parts : List ℕ → List (List ℕ)
parts [] = [] ∷ []
parts (c ∷ cs) = cond (c == 58) ([] ∷ parts cs) (add_front c (parts cs))

abbrev every_other : List (List ℕ) → List (List ℕ)
every_other [] = []
every_other (p ∷ []) = p ∷ []
every_other (p ∷ (q ∷ ps)) = p ∷ every_other ps

abbrev names_in : List ℕ → List (List ℕ)
names_in [] = []
names_in (c ∷ cs) = every_other (parts (c ∷ cs))

no_colon : (c : ℕ) → in_name c ≡ true → (c == 58) ≡ false
no_colon c h = elim (c == 58) as (λ b. (c == 58) ≡ b → b ≡ false) [
  | true ↦ λ e. let is : c ≡ 58 = eqb-true c 58 e in sym h ∙ ap in_name is
  | false ↦ λ e. refl
] refl

-- a text in front of the first part
abbrev add_fronts : List ℕ → List (List ℕ) → List (List ℕ)
add_fronts [] ps = ps
add_fronts (c ∷ cs) ps = add_front c (add_fronts cs ps)

parts_behind : (x r : List ℕ) → list_all in_name x ≡ true → parts (x ++ r) ≡ add_fronts x (parts r)
parts_behind [] r h = refl
parts_behind (c ∷ cs) r h =
    let both = and_parts (in_name c) (list_all in_name cs) h in
    ap (λ b. cond b ([] ∷ parts (cs ++ r)) (add_front c (parts (cs ++ r)))) (no_colon c both.0) ∙ ap (add_front c) (parts_behind cs r both.1)

in_front : (x p : List ℕ) (ps : List (List ℕ)) → add_fronts x (p ∷ ps) ≡ (x ++ p) ∷ ps
in_front [] p ps = refl
in_front (c ∷ cs) p ps = ap (add_front c) (in_front cs p ps)

name_part : (x : List ℕ) → IsName x → list_all in_name x ≡ true
name_part [] h = absurd h
name_part (c ∷ cs) h = ap (λ b. (b || (is_digit c || c == 45)) && list_all in_name cs) h.0 ∙ h.1

abbrev behind : List (List ℕ) → List ℕ
behind xs = flat_map (λ y. codes "::" ++ y) xs

all_parts : (x : List ℕ) (xs : List (List ℕ)) → IsName x → All IsName xs → every_other (parts (x ++ behind xs)) ≡ x ∷ xs
all_parts x [] p h = ap every_other (parts_behind x [] (name_part x p) ∙ in_front x [] []) ∙ ap (λ y. y ∷ []) (append-nil x)
all_parts x (y ∷ ys) p h =
    let rest = parts (y ++ behind ys) in
    let cut : parts (x ++ behind (y ∷ ys)) ≡ (x ++ []) ∷ [] ∷ rest = parts_behind x (behind (y ∷ ys)) (name_part x p) ∙ in_front x [] ([] ∷ rest) in
    ap every_other cut ∙ ap (λ z. z ∷ every_other rest) (append-nil x) ∙ ap (λ l. x ∷ l) (all_parts y ys (All-head IsName y ys h) (All-tail IsName y ys h))

pub path_back : (path : List (List ℕ)) → All IsName path → names_in (path_text path) ≡ path
path_back [] h = refl
path_back ([] ∷ xs) h = absurd (All-head IsName [] xs h)
path_back ((c ∷ cs) ∷ xs) h = all_parts (c ∷ cs) xs (All-head IsName (c ∷ cs) xs h) (All-tail IsName (c ∷ cs) xs h)

pub same_path : (a b : List (List ℕ)) → All IsName a → All IsName b → path_text a ≡ path_text b → a ≡ b
same_path a b p q e = sym (path_back a p) ∙ ap names_in e ∙ path_back b q
