-- Parts are put on a pile one by one, the last one first.
use Rattle.std.proofs.Common.{◌≡◌, List, [], ◌∷◌, ◌++◌, map, append-nil, append_assoc, reverse, refl, sym, ap, ◌∙◌}
use Rattle.std.proofs.lemmas.List.{reverse-append, map-append}

-- one more
pub one_turned : {A : Type 0} (ps us done new : List A) (p : A) → ps ≡ us ++ p ∷ [] → new ≡ done ++ p ∷ [] → new ++ reverse us ≡ done ++ reverse ps
one_turned ps us done new p is more =
    ap (λ l. l ++ reverse us) more ∙ append_assoc done (p ∷ []) (reverse us) ∙ sym (ap (λ l. done ++ l) (ap reverse is ∙ reverse-append us (p ∷ [])))

-- all
pub all_turned : {A : Type 0} (us done whole : List A) → us ≡ [] → done ++ reverse us ≡ whole → done ≡ whole
all_turned us done whole none h = sym (ap (λ l. done ++ reverse l) none ∙ append-nil done) ∙ h

map_reverse : {A B : Type 0} (f : A → B) (xs : List A) → map f (reverse xs) ≡ reverse (map f xs)
map_reverse f [] = refl
map_reverse f (x ∷ xs) =
    ap (map f) (reverse-append (x ∷ []) xs) ∙ map-append f (reverse xs) (x ∷ []) ∙ ap (λ l. l ++ f x ∷ []) (map_reverse f xs) ∙ sym (reverse-append (f x ∷ []) (map f xs))

-- what is made of the parts that are put there
pub made_turned : {A B : Type 0} (f : A → B) (done parts new : List A) (whole : List B) → new ≡ done ++ reverse parts → map f parts ≡ whole → map f new ≡ map f done ++ reverse whole
made_turned f done parts new whole is made = ap (map f) is ∙ map-append f done (reverse parts) ∙ ap (λ l. map f done ++ l) (map_reverse f parts ∙ ap reverse made)
