-- The last ones of their names among items, found from the last item on.
use Rattle.std.proofs.Common.{◌≡◌, ℕ, Bool, true, false, List, [], ◌∷◌, ◌++◌, reverse, not, cond, ◌||◌, refl, ap, sym, ◌∙◌}
use denote.Ref.{Bor}
use Rattle.std.specs.HashSet.{HashSet, contains, Updates}
use Rattle.std.specs.List.{list_any}
use Rattle.std.specs.Str.{bytes_eq}
use Rattle.std.proofs.lemmas.List.{append-nil, reverse-append}
use Rattle.just_lang_syntax.specs.declared.ast.AstItem.{AstItem}
use Rattle.just_lang_spots.specs.declared.entries.Entry.{Entry}
use Rattle.just_lang_spots.specs.Entries.{entry, entries}
use Rattle.just_lang_spots.specs.Items.{item_name}
use Rattle.just_lang_spots.specs.Standing.{has_name}
use Rattle.just_lang_spots.proofs.ListLaws.{entries_end}
use Rattle.just_lang_spots.proofs.Seen.{text_eq}

pub entries_reverse : (xs : List Entry) → entries (reverse xs) ≡ reverse (entries xs)
entries_reverse [] = refl
entries_reverse (x ∷ xs) =
    ap entries (reverse-append (x ∷ []) xs) ∙ entries_end (reverse xs) x ∙ ap (λ ys. ys ++ entry x ∷ []) (entries_reverse xs)
    ∙ sym (reverse-append (entry x ∷ []) (entries xs))

-- one more in front of the last ones, unless its name is found
pub last_kept : (old new last : List (ℕ × AstItem)) (test found : Bool) (y : ℕ × AstItem) → new ≡ old ++ cond test (y ∷ []) [] → test ≡ not found → reverse old ≡ last
    → reverse new ≡ cond found last (y ∷ last)
last_kept old new last test true y grew is same =
    ap (λ (xs : List (ℕ × AstItem)). reverse xs) (grew ∙ ap (λ b. old ++ cond b (y ∷ []) []) is ∙ append-nil old) ∙ same
last_kept old new last test false y grew is same =
    ap (λ (xs : List (ℕ × AstItem)). reverse xs) (grew ∙ ap (λ b. old ++ cond b (y ∷ []) []) is) ∙ reverse-append old (y ∷ []) ∙ ap (λ xs. y ∷ xs) same

or_cond : (b c : Bool) → cond b true c ≡ (b || c)
or_cond true c = refl
or_cond false c = refl

-- a set that gained the name of one more
pub sees_front : {S : Type 0} (q : Bor (List ℕ)) (k : Bor (List ℕ)) (old new : HashSet (Bor (List ℕ)) S) (x : Entry) (rest : List (ℕ × AstItem)) → Updates text_eq old new k true → k.now ≡ item_name x.item.now
    → contains text_eq old q ≡ list_any (has_name item_name q.now) rest → contains text_eq new q ≡ list_any (has_name item_name q.now) (entry x ∷ rest)
sees_front q k old new x rest h is same =
    h.0 q ∙ ap (λ n. cond (bytes_eq n q.now) true (contains text_eq old q)) is ∙ ap (λ b. cond (bytes_eq (item_name x.item.now) q.now) true b) same
    ∙ or_cond (bytes_eq (item_name x.item.now) q.now) (list_any (has_name item_name q.now) rest)
