-- What stands directly above items, one more at a time.
use Rattle.std.proofs.Common.{◌≡◌, ℕ, ◌+◌, ◌<◌, Bool, true, false, cond, ◌&&◌, List, [], ◌∷◌, ◌++◌, length, take, get_or, Option, Bor, Ordering, refl, sym, ap, ◌∙◌, arith}
use Rattle.std.specs.Prelude.{Some, None, nat_eq, option_map}
use Rattle.std.specs.Option.{option_copied}
use Rattle.std.specs.Ordering.{is_eq, nat_cmp, ordering_then}
use Rattle.std.specs.BTreeMap.{BTreeMap, get, Updates}
use Rattle.std.specs.Cmp.{tied_then}
use Rattle.std.proofs.lemmas.Bool.Decides.{nat_tests}
use Rattle.just_lang_syntax.specs.declared.ast.AstItem.{AstItem}
use Rattle.just_lang_syntax.specs.declared.ast.Name.{Name}
use Rattle.just_lang_spots.proofs.ListLaws.{take_here}
use Rattle.just_lang_shapes.specs.Comments.{said_in, is_at, is_place_of, or_here, above_from, found_at}

-- what the last one of some items says of the one below it
abbrev pub last_said : Option (List ℕ) → List AstItem → Option (List ℕ)
last_said above [] = above
last_said above (x ∷ xs) = last_said (said_in x) xs

last_more : (above : Option (List ℕ)) (xs : List AstItem) (x : AstItem) → last_said above (xs ++ x ∷ []) ≡ said_in x
last_more above [] x = refl
last_more above (y ∷ ys) x = last_more (said_in y) ys x

past : (b c : Bool) (above z : Option (List ℕ)) (o : Option (Option (List ℕ))) → or_here b above (cond c (Some z) o) ≡ cond c (Some z) (or_here b above o)
past b true above z o = refl
past b false above z o = refl

above_more : (above : Option (List ℕ)) (xs : List AstItem) (x : AstItem) (place : ℕ × ℕ)
    → above_from above (xs ++ x ∷ []) place ≡ cond (is_at place x) (Some (last_said above xs)) (above_from above xs place)
above_more above [] x place = refl
above_more above (y ∷ ys) x place =
    ap (or_here (is_at place y) above) (above_more (said_in y) ys x place)
    ∙ past (is_at place y) (is_at place x) above (last_said (said_in y) ys) (above_from (said_in y) ys place)

pub table_step : (items : List AstItem) (i : ℕ) (x : AstItem) (place : ℕ × ℕ) (above : Option (List ℕ)) (old new : Option (Option (List ℕ))) → i < length items → x ≡ get_or items i x
    → new ≡ cond (is_at place x) (Some above) old → old ≡ above_from None (take i items) place → above ≡ last_said None (take i items)
    → new ≡ above_from None (take (i + 1) items) place
table_step items i x place above old new lt e h k a =
    h ∙ ap (λ (o : Option (Option (List ℕ))). cond (is_at place x) (Some above) o) k
    ∙ ap (λ (z : Option (List ℕ)). cond (is_at place x) (Some z) (above_from None (take i items) place)) a
    ∙ sym (ap (λ (ys : List AstItem). above_from None ys place) (take_here items i x lt e) ∙ above_more None (take i items) x place)

pub said_step : (items : List AstItem) (i : ℕ) (x : AstItem) (r : Option (List ℕ)) → i < length items → x ≡ get_or items i x → r ≡ said_in x → r ≡ last_said None (take (i + 1) items)
said_step items i x r lt e h = h ∙ sym (ap (last_said None) (take_here items i x lt e) ∙ last_more None (take i items) x)

-- ---- the table

eq_numbers : (m n : ℕ) → is_eq (nat_cmp m n) ≡ nat_eq m n
eq_numbers m n = grind (arith, nat_tests)

same_place : (m n p q : ℕ) → is_eq (ordering_then (nat_cmp m n) (nat_cmp p q)) ≡ nat_eq m n && nat_eq p q
same_place m n p q = sym (tied_then (nat_cmp m n) (nat_cmp p q)) ∙ ap (λ b. b && is_eq (nat_cmp p q)) (eq_numbers m n) ∙ ap (λ b. nat_eq m n && b) (eq_numbers p q)

-- the order of places
abbrev pub place_cmp : ℕ × ℕ → ℕ × ℕ → Ordering
place_cmp x y = ordering_then (nat_cmp x.0 y.0) (nat_cmp x.1 y.1)

mapped : (b : Bool) (v : Option (Bor (List ℕ))) (o : Option (Option (Bor (List ℕ)))) → option_map option_copied (cond b (Some v) o) ≡ cond b (Some (option_copied v)) (option_map option_copied o)
mapped true v o = refl
mapped false v o = refl

-- with what stands above one more name
pub insert_step : (old new : BTreeMap (ℕ × ℕ) (Option (Bor (List ℕ)))) (n : Name) (v : Option (Bor (List ℕ))) (place : ℕ × ℕ) → Updates place_cmp old new (n.line, n.column) (Some v)
    → found_at new place ≡ cond (is_place_of place n) (Some (option_copied v)) (found_at old place)
insert_step old new n v place u =
    ap (option_map option_copied) (u.0 place) ∙ mapped (is_eq (place_cmp (n.line, n.column) place)) v (get place_cmp old place)
    ∙ ap (λ (b : Bool). cond b (Some (option_copied v)) (found_at old place)) (same_place n.line place.0 n.column place.1)
