-- Entries: what the code reads is what the grammar says, so one stands at a place, and it takes a character.
use Rattle.std.proofs.Common.{◌≡◌, ℕ, ◌<◌, false, List, length, Option, Some, None, Ok, refl, sym, ap, ◌∙◌, subst, ⊎_elim}
use Rattle.just_lang_read.specs.Place.{Place}
use Rattle.just_lang_read.specs.Reader.{and_then, pure}
use Rattle.just_lang_read.proofs.Laws.{bind_ok, choose, ok_value, ok_place}
use Rattle.just_lang_syntax.specs.declared.entry.Entry.{Entry}
use Rattle.just_lang_syntax.specs.declared.entry.Entry.TheVariants as entry
use Rattle.just_lang_syntax.specs.declared.entry.Body.{Body}
use Rattle.just_lang_syntax.specs.declared.entry.Body.TheVariants as body
use Rattle.just_lang_read.specs.Lines.{is_blank_line, IsBlankLine}
use Rattle.just_lang_syntax.specs.Bodies.{is_body_line, IsBodyLine}
use Rattle.just_lang_syntax.specs.Items.{IsItem}
use Rattle.just_lang_syntax.specs.File.{indentation_at, goes_into, is_in_body, behind_blank, behind_item, IsEntry}
use Rattle.just_lang_syntax.specs.File.IsEntry.{blank, body_line, further}
use Rattle.just_lang_syntax.specs.ItemReaders as item
use Rattle.just_lang_read.specs.Tokens as tokens
use Rattle.just_lang_syntax.proofs.LineLaws.{blank_line_ok, blank_line_again, blank_line_lt}
use Rattle.just_lang_syntax.proofs.BodySound.{body_line_ok}
use Rattle.just_lang_syntax.proofs.BodyComplete.{body_line_again, body_line_begins}
use Rattle.just_lang_syntax.proofs.BodyShorter.{body_line_lt}
use Rattle.just_lang_syntax.proofs.ItemSound.{item_ok}
use Rattle.just_lang_syntax.proofs.ItemComplete.{item_again}
use Rattle.just_lang_syntax.proofs.ItemShorter.{item_takes}

-- ---- what is read stands there

-- an item that is read where no line of a body begins is an entry
entry_item_ok : (b : Body) (p q : Place) (x : Entry) (c : Body) → is_blank_line p ≡ false → is_in_body b p ≡ false → item.entry_item p ≡ Ok ((x, c), q) → IsEntry b p q x c
entry_item_ok b p q x c n m h =
    let (y, r, h1, k1) = bind_ok (item.item_at p) (λ y. pure (y, behind_item y)) (x, c) q h in
    let both : (y, behind_item y) ≡ (x, c) = ok_value (y, behind_item y) (x, c) r q k1 in
    let same : y ≡ x = ap (λ (s : Entry × Body). s.0) both in
    further n m (subst (λ (z : Entry). IsItem p q z) same (subst (λ (o : Place). IsItem p o y) (ok_place (y, behind_item y) (x, c) r q k1) (item_ok p r y h1)))
    (sym (ap (λ (s : Entry × Body). s.1) both) ∙ ap behind_item same)

-- an entry that is read where a body may go on, and no blank line stands, stands there
in_body_ok : (i : Option (List ℕ)) (b : Body) (p q : Place) (x : Entry) (c : Body) → indentation_at b p ≡ i → is_blank_line p ≡ false
    → item.in_body i p ≡ Ok ((x, c), q) → IsEntry b p q x c
in_body_ok None b p q x c e n h = entry_item_ok b p q x c n (ap (λ (i : Option (List ℕ)). goes_into i p) e) h
in_body_ok (Some indentation) b p q x c e n h =
    ⊎_elim
    (λ (s : _).
    let (y, r, h1, k1) = bind_ok (item.body_line indentation p) (λ y. pure (entry.Line y, body.Open indentation)) (x, c) q s.1 in
    let both : (entry.Line y, body.Open indentation) ≡ (x, c) = ok_value (entry.Line y, body.Open indentation) (x, c) r q k1 in
    body_line indentation y n e
    (subst (λ (o : Place). IsBodyLine indentation p o y) (ok_place (entry.Line y, body.Open indentation) (x, c) r q k1) (body_line_ok indentation p r y s.0 h1))
    (sym (ap (λ (s : Entry × Body). s.0) both)) (sym (ap (λ (s : Entry × Body). s.1) both)))
    (λ (s : _). entry_item_ok b p q x c n (ap (λ (i : Option (List ℕ)). goes_into i p) e ∙ s.0) s.1)
    (choose (is_body_line indentation p) (and_then (item.body_line indentation p) (λ y. pure (entry.Line y, body.Open indentation))) (item.entry_item p) (Ok ((x, c), q)) h)

-- an entry that is read stands there
pub entry_ok : (b : Body) (p q : Place) (x : Entry) (c : Body) → item.entry_at b p ≡ Ok ((x, c), q) → IsEntry b p q x c
unfolding item.entry_at
entry_ok b p q x c h =
    ⊎_elim
    (λ (s : _).
    let (u, r, h1, k1) = bind_ok (tokens.blank_line p) (λ _. pure (entry.Blank p.line, behind_blank b)) (x, c) q s.1 in
    let both : (entry.Blank p.line, behind_blank b) ≡ (x, c) = ok_value (entry.Blank p.line, behind_blank b) (x, c) r q k1 in
    blank (subst (λ (o : Place). IsBlankLine p o) (ok_place (entry.Blank p.line, behind_blank b) (x, c) r q k1) (blank_line_ok p r u s.0 h1))
    (sym (ap (λ (s : Entry × Body). s.0) both)) (sym (ap (λ (s : Entry × Body). s.1) both)))
    (λ (s : _). in_body_ok (indentation_at b p) b p q x c refl s.0 s.1)
    (choose (is_blank_line p) (and_then (tokens.blank_line p) (λ _. pure (entry.Blank p.line, behind_blank b))) (item.in_body (indentation_at b p) p) (Ok ((x, c), q)) h)

-- ---- what stands there is read

-- an item that stands where no line of a body begins is read
in_body_again : (i : Option (List ℕ)) (p q : Place) (x : Entry) → goes_into i p ≡ false → item.item_at p ≡ Ok (x, q) → item.in_body i p ≡ Ok ((x, behind_item x), q)
in_body_again None p q x n h = rw h refl
in_body_again (Some indentation) p q x n h = rw (n, h) refl

-- an entry that stands there is read
pub entry_again : (b : Body) (p q : Place) (x : Entry) (c : Body) → IsEntry b p q x c → item.entry_at b p ≡ Ok ((x, c), q)
unfolding item.entry_at
entry_again b p q x c (blank i z w) = let (t, h) = blank_line_again p q i in rw (t, h, z, w) refl
entry_again b p q x c (body_line indentation y n e i z w) =
    rw (n, e, body_line_begins indentation p q y i, body_line_again indentation p q y i, z, w) refl
entry_again b p q x c (further n m i w) = rw (n, w) (in_body_again (indentation_at b p) p q x m (item_again p q x i))

-- ---- so one stands there

-- entries from one place, where one body may go on, are one entry, with one body and one place behind it
pub one_entry : (b : Body) (p q r : Place) (x y : Entry) (c d : Body) → IsEntry b p q x c → IsEntry b p r y d → (x ≡ y) × (c ≡ d) × (q ≡ r)
one_entry b p q r x y c d i j =
    let k : pure (x, c) q ≡ Ok ((y, d), r) = sym (entry_again b p q x c i) ∙ entry_again b p r y d j in
    let both : (x, c) ≡ (y, d) = ok_value (x, c) (y, d) q r k in
    (ap (λ (s : Entry × Body). s.0) both, ap (λ (s : Entry × Body). s.1) both, ok_place (x, c) (y, d) q r k)

-- an entry takes a character
pub entry_takes : (b : Body) (p q : Place) (x : Entry) (c : Body) → IsEntry b p q x c → length q.rest < length p.rest
entry_takes b p q x c (blank i z w) = blank_line_lt p q i
entry_takes b p q x c (body_line indentation y n e i z w) =
    body_line_lt indentation p q y (body_line_begins indentation p q y i) (body_line_again indentation p q y i)
entry_takes b p q x c (further n m i w) = item_takes p q x i

-- an entry that is read takes a character
pub entry_lt : (b : Body) (p q : Place) (x : Entry) (c : Body) → item.entry_at b p ≡ Ok ((x, c), q) → length q.rest < length p.rest
entry_lt b p q x c h = entry_takes b p q x c (entry_ok b p q x c h)
