-- Items are kept one by one.
use Rattle.std.proofs.Common.{◌≡◌, Bool, true, false, cond, List, [], ◌∷◌, ◌++◌, map, Option, Some, None, Bor, append_assoc, append-nil, sym, ap, ◌∙◌}
use Rattle.std.proofs.lemmas.List.{map-append}
use Rattle.just_print_lists.specs.Order.{only_where, only_some}

-- one more, where it is wanted
pub kept_more : {A : Type 0} (kept : List A) (wanted : Bool) (x : A) (rest : List A) → (kept ++ only_where wanted x) ++ rest ≡ kept ++ cond wanted (x ∷ rest) rest
kept_more kept true x rest = append_assoc kept (x ∷ []) rest
kept_more kept false x rest = ap (λ l. l ++ rest) (append-nil kept)

-- one more behind borrows, where there is one
pub got_more : {A : Type 0} (old new : List (Bor A)) (item : Bor A) (o : Option A) → new ≡ old ++ item ∷ [] → Some item.now ≡ o → map (λ i. i.now) new ≡ map (λ i. i.now) old ++ only_some o
got_more {A} old new item o more is =
    ap (λ (l : List (Bor A)). map (λ i. i.now) l) more ∙ map-append (λ (i : Bor A). i.now) old (item ∷ []) ∙ ap (λ (p : Option A). map (λ (i : Bor A). i.now) old ++ only_some p) is

pub got_none : {A : Type 0} (old : List (Bor A)) (o : Option A) → o ≡ None → map (λ i. i.now) old ≡ map (λ i. i.now) old ++ only_some o
got_none {A} old o none = sym (append-nil (map (λ (i : Bor A). i.now) old)) ∙ ap (λ (p : Option A). map (λ (i : Bor A). i.now) old ++ only_some p) (sym none)
