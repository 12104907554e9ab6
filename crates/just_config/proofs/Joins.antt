-- Names that `::` joins in one word, by the parts between its colons.
use Rattle.std.proofs.Common.{◌≡◌, ℕ, List, [], ◌∷◌, ◌++◌, length, ◌==◌, true, false, refl, sym, ap, ◌∙◌, append_assoc, arith}
use Rattle.std.specs.Prelude.{Option, Some, None}
use Rattle.just_config_words.specs.Cuts.{parts}
use Rattle.just_config.specs.ModulePaths.{colon, put_before, outer_parts}

-- names in front of those that follow
abbrev pub put_all : List (List ℕ) → Option (List (List ℕ)) → Option (List (List ℕ))
put_all ns None = None
put_all ns (Some ms) = Some (ns ++ ms)

pub put_none : (o : Option (List (List ℕ))) → put_all [] o ≡ o
put_none None = refl
put_none (Some ms) = refl

put_next : (ns : List (List ℕ)) (n : List ℕ) (o : Option (List (List ℕ))) → put_all (ns ++ (n ∷ [])) o ≡ put_all ns (put_before n o)
put_next ns n None = refl
put_next ns n (Some ms) = ap Some (append_assoc ns (n ∷ []) ms)

one_part : (n t : List ℕ) → outer_parts (n ∷ (t ∷ [])) ≡ None
one_part n [] = refl
one_part n (c ∷ cs) = refl

odd_part : (n t : List ℕ) (ts : List (List ℕ)) → (length t == 0) ≡ false → outer_parts (n ∷ (t ∷ ts)) ≡ None
odd_part n [] ts h = grind arith
odd_part n (c ∷ cs) ts h = refl

empty_is : (t : List ℕ) → (length t == 0) ≡ true → t ≡ []
empty_is [] h = refl
empty_is (c ∷ cs) h = grind arith

-- no second colon
pub alone : (t : List ℕ) → parts colon t ≡ t ∷ [] → (n : List ℕ) → outer_parts (n ∷ parts colon t) ≡ None
alone t h n = ap (λ (ps : List (List ℕ)). outer_parts (n ∷ ps)) h ∙ one_part n t

pub apart : (t part next : List ℕ) → parts colon t ≡ part ∷ parts colon next → (length part == 0) ≡ false → (n : List ℕ) → outer_parts (n ∷ parts colon t) ≡ None
apart t part next h e n = ap (λ (ps : List (List ℕ)). outer_parts (n ∷ ps)) h ∙ odd_part n part (parts colon next) e

-- a second colon
pub beside : (t part next : List ℕ) → parts colon t ≡ part ∷ parts colon next → (length part == 0) ≡ true → parts colon t ≡ [] ∷ parts colon next
beside t part next h e = h ∙ ap (λ (p : List ℕ). p ∷ parts colon next) (empty_is part e)

-- one more name
pub joined_next : (ns : List (List ℕ)) (n rest behind next : List ℕ) (o : Option (List (List ℕ))) → parts colon rest ≡ n ∷ parts colon behind → parts colon behind ≡ [] ∷ parts colon next
    → put_all ns (outer_parts (parts colon rest)) ≡ o → put_all (ns ++ (n ∷ [])) (outer_parts (parts colon next)) ≡ o
joined_next ns n rest behind next o h k e =
    put_next ns n (outer_parts (parts colon next))
    ∙ ap (λ (ps : List (List ℕ)). put_all ns (outer_parts (n ∷ ps))) (sym k)
    ∙ ap (λ (ps : List (List ℕ)). put_all ns (outer_parts ps)) (sym h)
    ∙ e

-- the last name
pub joined_end : (ns : List (List ℕ)) (rest : List ℕ) (o : Option (List (List ℕ))) → parts colon rest ≡ rest ∷ [] → put_all ns (outer_parts (parts colon rest)) ≡ o → Some (ns ++ (rest ∷ [])) ≡ o
joined_end ns rest o h e = ap (λ (ps : List (List ℕ)). put_all ns (outer_parts ps)) (sym h) ∙ e

-- a colon alone
pub joined_odd : (ns : List (List ℕ)) (n rest behind : List ℕ) (o : Option (List (List ℕ))) → parts colon rest ≡ n ∷ parts colon behind → outer_parts (n ∷ parts colon behind) ≡ None
    → put_all ns (outer_parts (parts colon rest)) ≡ o → None ≡ o
joined_odd ns n rest behind o h k e = ap (put_all ns) (sym k) ∙ ap (λ (ps : List (List ℕ)). put_all ns (outer_parts ps)) (sym h) ∙ e
