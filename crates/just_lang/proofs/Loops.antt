-- One more step of a loop over a list.
use Rattle.std.proofs.Common.{◌≡◌, List, [], ◌∷◌, ◌++◌, map, Option, refl, sym, ap, ◌∙◌}
use Rattle.std.specs.Prelude.{filter_map}
use Rattle.std.specs.Option.{option_map}
use Rattle.std.specs.List.{cons_option}
use Rattle.just_lang_spots.proofs.ListLaws.{map_end}
use Rattle.just_lang_rules.proofs.Loops.{map_option}

-- what was made of the front of a list
pub mapped_step : {A B : Type 0} (f : A → B) (y : A) (before after : List A) (old new : List B) (one : B)
    → after ≡ before ++ y ∷ [] → one ≡ f y → old ≡ map f before → new ≡ old ++ one ∷ [] → new ≡ map f after
mapped_step {A} {B} f y before after old new one e is o n =
    n ∙ ap (λ (ys : List B). ys ++ one ∷ []) o ∙ ap (λ (x : B). map f before ++ x ∷ []) is ∙ sym (map_end f before y) ∙ sym (ap (λ (xs : List A). map f xs) e)

-- what is made of what was picked is picked by what is made of it
pub map_picked : {A B C : Type 0} (g : B → C) (f : A → Option B) (xs : List A) → map g (filter_map f xs) ≡ filter_map (λ x. option_map g (f x)) xs
map_picked g f [] = refl
map_picked {A} {B} {C} g f (x ∷ xs) = map_option g (f x) (filter_map f xs) ∙ ap (λ (ys : List C). cons_option (option_map g (f x)) ys) (map_picked g f xs)
