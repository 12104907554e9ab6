-- Entries gathered into items, from the last one on.
use Rattle.std.proofs.Common.{◌≡◌, ℕ, List, [], ◌∷◌, ◌++◌, reverse, refl, sym, ap, ◌∙◌}
use Rattle.std.proofs.lemmas.List.{reverse-append}
use Rattle.just_lang_syntax.specs.declared.ast.Line.{Line}
use Rattle.just_lang_syntax.specs.declared.ast.AstItem.{AstItem}
use Rattle.just_lang_syntax.specs.declared.ast.AstItem.TheVariants as item
use Rattle.just_lang_syntax.specs.declared.entry.Entry.{Entry}
use Rattle.just_lang_syntax.specs.File.{blank_line, gather_blank, gather_one, gathered}

-- entries in front of what was gathered behind them
unfoldable pub onto : List Entry → List Line → List AstItem → List Line × List AstItem
onto [] lines items = (lines, items)
onto (x ∷ xs) lines items = gather_one x (onto xs lines items).0 (onto xs lines items).1

-- entries in front of nothing are gathered alone
pub gather_begin : (xs : List Entry) → onto xs [] [] ≡ gathered xs
unfolding onto
gather_begin [] = refl
gather_begin (x ∷ xs) = ap (λ (s : List Line × List AstItem). gather_one x s.0 s.1) (gather_begin xs)

-- the last entry is gathered first
pub gather_last : (xs : List Entry) (x : Entry) (lines : List Line) (items : List AstItem)
    → onto (xs ++ x ∷ []) lines items ≡ onto xs (gather_one x lines items).0 (gather_one x lines items).1
unfolding onto
gather_last [] x lines items = refl
gather_last (y ∷ xs) x lines items = ap (λ (s : List Line × List AstItem). gather_one y s.0 s.1) (gather_last xs x lines items)

-- no entries in front leave what was gathered
pub gather_end : (lines : List Line) (items : List AstItem) → onto [] lines items ≡ (lines, items)
unfolding onto
gather_end lines items = refl

-- ---- lists that are turned round

-- the last one comes first in a list that is turned round
pub reverse_last : {A : Type 0} (xs : List A) (x : A) → reverse (xs ++ x ∷ []) ≡ x ∷ reverse xs
reverse_last xs x = reverse-append xs (x ∷ [])

-- ---- blank lines

-- a blank line with no line of a body behind it is an item
pub blank_item : (number : ℕ) (lines : List Line) (items : List AstItem) → lines ≡ []
    → (reverse lines, reverse (items ++ item.Blank ∷ [])) ≡ gather_blank number (reverse lines) (reverse items)
blank_item number lines items e = rw (e, reverse_last items item.Blank) refl

-- and with lines behind it one of these
blank_again : (number : ℕ) (lines : List Line) (items : List AstItem) → (lines ≡ [] → ⊥) → (blank_line number ∷ lines, items) ≡ gather_blank number lines items
blank_again number [] items n = absurd (n refl)
blank_again number (x ∷ lines) items n = refl

-- a list that is turned round is as empty as before
reverse_some : (lines : List Line) → (lines ≡ [] → ⊥) → reverse lines ≡ [] → ⊥
reverse_some [] n e = n refl
reverse_some (x ∷ lines) n e = not_nil (reverse lines) x (sym (reverse_cons x lines) ∙ e)
  where
    not_nil : (xs : List Line) (x : Line) → xs ++ x ∷ [] ≡ [] → ⊥
    not_nil [] x e = let no : ⊥ = cc in no
    not_nil (y ∷ xs) x e = let no : ⊥ = cc in no

    reverse_cons : (x : Line) (xs : List Line) → reverse (x ∷ xs) ≡ reverse xs ++ x ∷ []
    reverse_cons x xs = reverse-append (x ∷ []) xs

-- a blank line goes to the lines that are turned round as to those that aren't
pub blank_line_more : (number : ℕ) (lines : List Line) (items : List AstItem) → (lines ≡ [] → ⊥)
    → (reverse (lines ++ blank_line number ∷ []), reverse items) ≡ gather_blank number (reverse lines) (reverse items)
blank_line_more number lines items n = rw (reverse_last lines (blank_line number)) (blank_again number (reverse lines) (reverse items) (reverse_some lines n))
