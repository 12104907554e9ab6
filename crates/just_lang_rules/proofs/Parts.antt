-- The first place of what the parts of a list give.
use Rattle.std.proofs.Common.{◌≡◌, List, Option, [], ◌∷◌, ◌++◌, ◌∙◌, ap, refl, sym, append_assoc}
use Rattle.std.specs.List.{flat_map}
use Rattle.just_lang_spots.specs.declared.spot.Spot.{Spot}
use Rattle.just_lang_spots.specs.Spots.{earlier, first_spot}
use Rattle.just_lang_spots.proofs.Spots.{first_spot_append}

-- what the parts of a list give is what the list gives
pub flat_map_append : {X Y : Type 0} (f : X → List Y) (xs ys : List X) → flat_map f (xs ++ ys) ≡ flat_map f xs ++ flat_map f ys
flat_map_append f [] ys = refl
flat_map_append f (x ∷ xs) ys = ap (λ k. f x ++ k) (flat_map_append f xs ys) ∙ sym (append_assoc (f x) (flat_map f xs) (flat_map f ys))

-- what lists give that are given themselves
pub flat_map_twice : {X Y Z : Type 0} (g : Y → List Z) (f : X → List Y) (xs : List X) → flat_map g (flat_map f xs) ≡ flat_map (λ x. flat_map g (f x)) xs
flat_map_twice g f [] = refl
flat_map_twice g f (x ∷ xs) = flat_map_append g (f x) (flat_map f xs) ∙ ap (λ k. flat_map g (f x) ++ k) (flat_map_twice g f xs)

pub of_both : {X : Type 0} (f : X → List Spot) (xs ys : List X) → first_spot (flat_map f (xs ++ ys)) ≡ earlier (first_spot (flat_map f xs)) (first_spot (flat_map f ys))
of_both f xs ys = ap first_spot (flat_map_append f xs ys) ∙ first_spot_append (flat_map f xs) (flat_map f ys)

pub of_each : {X Y : Type 0} (g : Y → List Spot) (f : X → List Y) (xs : List X) → first_spot (flat_map g (flat_map f xs)) ≡ first_spot (flat_map (λ x. flat_map g (f x)) xs)
of_each g f xs = ap first_spot (flat_map_twice g f xs)

-- the first place of two parts, and of four
pub joined_two : (xs ys : List Spot) (a b r : Option Spot) → r ≡ earlier a b → a ≡ first_spot xs → b ≡ first_spot ys → r ≡ first_spot (xs ++ ys)
joined_two xs ys a b r e h k = e ∙ ap (λ o. earlier o b) h ∙ ap (earlier (first_spot xs)) k ∙ sym (first_spot_append xs ys)

pub joined_four : (ws xs ys zs : List Spot) (a b c d p q r : Option Spot) → p ≡ earlier c d → q ≡ earlier b p → r ≡ earlier a q
    → a ≡ first_spot ws → b ≡ first_spot xs → c ≡ first_spot ys → d ≡ first_spot zs → r ≡ first_spot (ws ++ (xs ++ (ys ++ zs)))
joined_four ws xs ys zs a b c d p q r e f g ha hb hc hd =
    joined_two ws (xs ++ (ys ++ zs)) a q r g ha (joined_two xs (ys ++ zs) b p q f hb (joined_two ys zs c d p e hc hd))

-- the same of what the parts of a list give
pub given_two : {X : Type 0} (f : X → List Spot) (xs ys : List X) (a b r : Option Spot) → r ≡ earlier a b → a ≡ first_spot (flat_map f xs) → b ≡ first_spot (flat_map f ys)
    → r ≡ first_spot (flat_map f (xs ++ ys))
given_two f xs ys a b r e h k = joined_two (flat_map f xs) (flat_map f ys) a b r e h k ∙ ap first_spot (sym (flat_map_append f xs ys))

pub given_four : {X : Type 0} (f : X → List Spot) (ws xs ys zs : List X) (a b c d p q r : Option Spot) → p ≡ earlier c d → q ≡ earlier b p → r ≡ earlier a q
    → a ≡ first_spot (flat_map f ws) → b ≡ first_spot (flat_map f xs) → c ≡ first_spot (flat_map f ys) → d ≡ first_spot (flat_map f zs) → r ≡ first_spot (flat_map f (ws ++ (xs ++ (ys ++ zs))))
given_four f ws xs ys zs a b c d p q r e h g ha hb hc hd =
    given_two f ws (xs ++ (ys ++ zs)) a q r g ha (given_two f xs (ys ++ zs) b p q h hb (given_two f ys zs c d p e hc hd))

-- the first place of what the parts of things give
pub given_each : {X Y : Type 0} (g : Y → List Spot) (f : X → List Y) (xs ys : List X) (a : Option Spot) → a ≡ first_spot (flat_map (λ x. flat_map g (f x)) ys) → ys ≡ xs
    → a ≡ first_spot (flat_map g (flat_map f xs))
given_each g f xs ys a h e = h ∙ ap (λ zs. first_spot (flat_map (λ x. flat_map g (f x)) zs)) e ∙ sym (of_each g f xs)
