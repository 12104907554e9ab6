-- Which items are beaten, by the table of pairs.
use Rattle.std.proofs.Common.{◌≡◌, ℕ, zero, suc, ◌+◌, ◌<◌, Bool, true, false, not, ◌&&◌, ◌||◌, cond, List, [], ◌∷◌, length, drop, get_or, refl, sym, ap, ◌∙◌, subst}
use Rattle.std.specs.Prelude.{nat_eq, filter}
use Rattle.std.specs.List.{list_any}
use Rattle.just_lang_syntax.specs.declared.ast.AstItem.{AstItem}
use Rattle.just_lang_spots.specs.declared.entries.Entry.{Entry}
use Rattle.just_lang_spots.specs.declared.winners.Pairs.{Pairs}
use Rattle.just_lang_spots.specs.Entries.{entry, entries}
use Rattle.just_lang_spots.specs.Standing.{has_name, is_beaten, unbeaten}
use Rattle.just_lang_spots.specs.Items.{item_name}
use Rattle.just_lang_spots.specs.Winners.{importers, is_imported, wins_in, has_pair, ArePairs, is_beaten_by}
use Rattle.just_lang_spots.proofs.ListLaws.{entries_drop}

either : {X : Type 0} (f g : X → Bool) (xs : List X) → list_any (λ x. f x || g x) xs ≡ list_any f xs || list_any g xs
either f g [] = refl
either f g (x ∷ xs) = ap (λ b. (f x || g x) || b) (either f g xs) ∙ turned (f x) (g x) (list_any f xs) (list_any g xs)
  where
    turned : (a b c d : Bool) → (a || b) || (c || d) ≡ (a || c) || (b || d)
    turned true b c d = refl
    turned false true true d = refl
    turned false true false d = refl
    turned false false c d = refl

never : {X : Type 0} (xs : List X) → list_any (λ x. false) xs ≡ false
never [] = refl
never (x ∷ xs) = never xs

same_for_all : {X : Type 0} (f g : X → Bool) (xs : List X) → ((x : X) → f x ≡ g x) → list_any f xs ≡ list_any g xs
same_for_all f g [] h = refl
same_for_all f g (x ∷ xs) h = ap (λ b. b || list_any f xs) (h x) ∙ ap (λ b. g x || b) (same_for_all f g xs h)

-- what holds beside the test of each
beside : (n : ℕ) (b : Bool) (fs : List ℕ) → list_any (λ f. nat_eq n f && b) fs ≡ b && list_any (nat_eq n) fs
beside n true [] = refl
beside n false [] = refl
beside n true (f ∷ fs) = with_true (nat_eq n f) (list_any (λ f. nat_eq n f && true) fs) (list_any (nat_eq n) fs) (beside n true fs)
  where
    with_true : (a b c : Bool) → b ≡ c → (a && true) || b ≡ a || c
    with_true true b c e = refl
    with_true false b c e = e
beside n false (f ∷ fs) = with_false (nat_eq n f) (list_any (λ f. nat_eq n f && false) fs) (beside n false fs)
  where
    with_false : (a b : Bool) → b ≡ false → (a && false) || b ≡ false
    with_false true b e = e
    with_false false b e = e

-- one of the files has one of the items with the name, exactly where an item of the name is in one of the files
exchanged : (q : List ℕ) (fs : List ℕ) (ys : List (ℕ × AstItem))
    → list_any (λ f. list_any (λ y. nat_eq y.0 f && has_name item_name q y) ys) fs ≡ list_any (λ y. has_name item_name q y && list_any (nat_eq y.0) fs) ys
exchanged q fs [] = never fs
exchanged q fs (y ∷ ys) =
    either (λ f. nat_eq y.0 f && has_name item_name q y) (λ f. list_any (λ y. nat_eq y.0 f && has_name item_name q y) ys) fs
    ∙ ap (λ b. b || list_any (λ f. list_any (λ y. nat_eq y.0 f && has_name item_name q y) ys) fs) (beside y.0 (has_name item_name q y) fs)
    ∙ ap (λ b. (has_name item_name q y && list_any (nat_eq y.0) fs) || b) (exchanged q fs ys)

-- by the table of pairs an item is beaten exactly where one of the same name stands in a file that imports its file
pub beaten_by_is : (winners : List (List ℕ)) (pairs : Pairs) (xs : List (ℕ × AstItem)) (x : ℕ × AstItem) → ArePairs xs pairs
    → is_beaten_by winners pairs x ≡ is_beaten item_name (wins_in winners) xs x
beaten_by_is winners pairs xs x are =
    same_for_all (λ f. has_pair pairs f (item_name x.1)) (λ f. list_any (λ y. nat_eq y.0 f && has_name item_name (item_name x.1) y) xs) (importers winners x.0) (λ f. are f (item_name x.1))
    ∙ exchanged (item_name x.1) (importers winners x.0) xs

-- those from a place on that no other one beats: the one there, unless the table says that it is beaten, and those behind it
pub unbeaten_here : (winners : List (List ℕ)) (pairs : Pairs) (items : List Entry) (i : ℕ) (x : Entry) → ArePairs (entries items) pairs → i < length items → x ≡ get_or items i x
    → filter (λ y. not (is_beaten item_name (wins_in winners) (entries items) y)) (entries (drop i items))
    ≡ cond (not (is_beaten_by winners pairs (entry x)))
    (entry x ∷ filter (λ y. not (is_beaten item_name (wins_in winners) (entries items) y)) (entries (drop (i + 1) items)))
    (filter (λ y. not (is_beaten item_name (wins_in winners) (entries items) y)) (entries (drop (i + 1) items)))
unbeaten_here winners pairs items i x are lt e =
    ap (filter (λ y. not (is_beaten item_name (wins_in winners) (entries items) y))) (entries_drop items i x lt e)
    ∙ ap (λ b. cond (not b)
    (entry x ∷ filter (λ y. not (is_beaten item_name (wins_in winners) (entries items) y)) (entries (drop (i + 1) items)))
    (filter (λ y. not (is_beaten item_name (wins_in winners) (entries items) y)) (entries (drop (i + 1) items))))
    (sym (beaten_by_is winners pairs (entries items) (entry x) are))

-- the same by what the table told of the one there
pub unbeaten_by : (winners : List (List ℕ)) (pairs : Pairs) (items : List Entry) (i : ℕ) (x : Entry) (r : Bool) → ArePairs (entries items) pairs → i < length items → x ≡ get_or items i x
    → r ≡ is_beaten_by winners pairs (entry x)
    → filter (λ y. not (is_beaten item_name (wins_in winners) (entries items) y)) (entries (drop i items))
    ≡ cond (not r)
    (entry x ∷ filter (λ y. not (is_beaten item_name (wins_in winners) (entries items) y)) (entries (drop (i + 1) items)))
    (filter (λ y. not (is_beaten item_name (wins_in winners) (entries items) y)) (entries (drop (i + 1) items)))
unbeaten_by winners pairs items i x r are lt e t =
    unbeaten_here winners pairs items i x are lt e
    ∙ ap (λ b. cond (not b)
    (entry x ∷ filter (λ y. not (is_beaten item_name (wins_in winners) (entries items) y)) (entries (drop (i + 1) items)))
    (filter (λ y. not (is_beaten item_name (wins_in winners) (entries items) y)) (entries (drop (i + 1) items)))) (sym t)

-- where no file is imported, none has importers
alone : (winners : List (List ℕ)) (file : ℕ) → list_any is_imported winners ≡ false → importers winners file ≡ []
alone [] file e = refl
alone ([] ∷ ws) zero e = refl
alone ((f ∷ fs) ∷ ws) zero e = absurd (cc)
alone ([] ∷ ws) (suc n) e = alone ws n e
alone ((f ∷ fs) ∷ ws) (suc n) e = absurd (cc)

untouched : (q : List ℕ) (fs : List ℕ) (ys : List (ℕ × AstItem)) → fs ≡ [] → list_any (λ y. has_name item_name q y && list_any (nat_eq y.0) fs) ys ≡ false
untouched q fs ys e = subst (λ f. list_any (λ y. has_name item_name q y && list_any (nat_eq y.0) f) ys ≡ false) (sym e) (same_for_all (λ y. has_name item_name q y && false) (λ y. false) ys (λ y. with (has_name item_name q y)) ∙ never ys)
  where
    with : (b : Bool) → b && false ≡ false
    with true = refl
    with false = refl

kept_all : {X : Type 0} (p : X → Bool) (xs : List X) → ((x : X) → p x ≡ true) → filter p xs ≡ xs
kept_all p [] h = refl
kept_all p (x ∷ xs) h = ap (λ b. cond b (x ∷ filter p xs) (filter p xs)) (h x) ∙ ap (λ ys. x ∷ ys) (kept_all p xs h)

-- where no file is imported, no item is beaten
pub unbeaten_alone : (winners : List (List ℕ)) (xs : List (ℕ × AstItem)) → list_any is_imported winners ≡ false → unbeaten item_name (wins_in winners) xs ≡ xs
unbeaten_alone winners xs e =
    kept_all (λ x. not (is_beaten item_name (wins_in winners) xs x)) xs (λ x. ap not (untouched (item_name x.1) (importers winners x.0) xs (alone winners x.0 e)))
