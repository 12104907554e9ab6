-- Parts are added one after the other, and what is seen behind borrows.
use Rattle.std.proofs.Common.{◌≡◌, List, [], ◌∷◌, ◌++◌, map, Bor, refl, ap, ◌∙◌}
use Rattle.std.proofs.lemmas.List.{map-append}
use Rattle.just_print_lists.specs.Groups.{is_nil}
use Rattle.just_print_entries.specs.declared.part.Part.{Part}
use Rattle.just_print_entries.specs.Listings.{Piece}
use Rattle.just_print_entries.specs.Written.{piece_of}

-- one more part
pub one_part : (new old : List Part) (p : Part) (q : Piece) → new ≡ old ++ p ∷ [] → piece_of p ≡ q → map piece_of new ≡ map piece_of old ++ q ∷ []
one_part new old p q more is = ap (λ (l : List Part). map piece_of l) more ∙ map-append piece_of old (p ∷ []) ∙ ap (λ (x : Piece). map piece_of old ++ x ∷ []) is

-- as many are seen as there are borrows
pub seen_nil : {A : Type 0} (xs : List (Bor A)) → is_nil (map (λ (x : Bor A). x.now) xs) ≡ is_nil xs
seen_nil [] = refl
seen_nil (x ∷ xs) = refl
