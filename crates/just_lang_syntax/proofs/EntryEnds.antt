-- Entries end where lines do: the next line begins there in the first column, or the text ends.
use Rattle.std.proofs.Common.{◌≡◌, ℕ, ◌==◌, true, ◌⊎◌, inl, inr, List, [], ◌∷◌, Option, refl, sym, ap, ◌∙◌, subst, ⊎_elim}
use Rattle.std.proofs.lemmas.Bool.{false≢true}
use Rattle.just_lang_read.specs.Place.{Place, start, next, next_in, passes, first_in, sees, is_end}
use Rattle.just_lang_syntax.specs.declared.entry.Entry.{Entry}
use Rattle.just_lang_syntax.specs.declared.entry.Body.{Body}
use Rattle.just_lang_syntax.specs.declared.entry.Body.TheVariants as body
use Rattle.just_lang_read.specs.Lines.{IsNewline}
use Rattle.just_lang_syntax.specs.Places.{IsRest}
use Rattle.just_lang_read.specs.Lines.IsNewline.{last, feed, return_feed}
use Rattle.just_lang_syntax.specs.Places.IsRest.{ended, commented}
use Rattle.just_lang_syntax.specs.Recipes.IsRecipeLine.{line as recipe_line}
use Rattle.just_lang_syntax.specs.Bodies.IsBodyLine.{line as line_of_body}
use Rattle.just_lang_syntax.specs.Items.{IsItem}
use Rattle.just_lang_syntax.specs.Items.IsItem.{comment as comment_item, alias as alias_item, import as import_item, module_alone, assignment as assignment_item, export as export_item, unexport as unexport_item, setting_item, attributed_module, recipe as recipe_item}
use Rattle.just_lang_syntax.specs.File.{IsEntry, AreEntries, Stops}
use Rattle.just_lang_syntax.specs.File.IsEntry.{blank, body_line, further}
use Rattle.just_lang_read.proofs.Laws.{begins_starts}
use Rattle.just_lang_syntax.proofs.Beginnings.{begins_next}

-- the place is in the first column, or the text ends there
abbrev pub IsLineStart : Place → Type 0
IsLineStart p = (p.column ≡ 1) ⊎ (is_end p ≡ true)

-- behind a line feed that comes first in a text
feed_of : (rest : List ℕ) (line column : ℕ) → passes (λ d. d == 10) (first_in rest) ≡ true → (next_in rest line column).column ≡ 1
feed_of [] line column h = absurd (false≢true h)
feed_of (c ∷ rest) line column h = rw h refl

-- behind a line feed a line begins
behind_feed : (p : Place) → sees 10 p ≡ true → (next p).column ≡ 1
unfolding next
behind_feed p h = feed_of p.rest p.line p.column h

-- behind the end of a line a line begins, or the text ends
newline_start : (p q : Place) → IsNewline p q → IsLineStart q
newline_start p q (last e z) = inr (ap is_end z ∙ e)
newline_start p q (feed s) = inl (ap (λ (r : Place). r.column) (s.1) ∙ behind_feed p s.0)
newline_start p q (return_feed b z) =
    inl (ap (λ (r : Place). r.column) z ∙ behind_feed (next p) (begins_starts (λ d. d == 10) 10 [] (next p) (begins_next 13 (10 ∷ []) p b)))

-- so it does behind what stands behind an item
rest_start : (p q : Place) (c : Option (List ℕ)) → IsRest p q c → IsLineStart q
rest_start p q c (ended i z) = newline_start p q i
rest_start p q c (commented t (s, e, i) z) = newline_start _ q i

-- behind an item
item_start : (p q : Place) (x : Entry) → IsItem p q x → IsLineStart q
item_start p q x (comment_item t e (s, w, i) z) = newline_start _ q i
item_start p q x (alias_item y e (m, n, o, r, name, target, c, a, i, t, ns, re, w) z) = rest_start r q c re
item_start p q x (import_item y e (m, n, o, optional, s, c, a, b, st, re, w) z) = rest_start o q c re
item_start p q x (module_alone y e (m, n, o, r, optional, name, s, c, a, b, i, ps, re, w) z) = rest_start r q c re
item_start p q x (assignment_item y e (m, n, o, name, v, c, i, t, k, re, w) z) = rest_start o q c re
item_start p q x (export_item l y e u (m, n, o, name, v, c, i, t, k, re, w) z) = rest_start o q c re
item_start p q x (unexport_item y e (m, n, name, c, a, i, re, w) z) = rest_start n q c re
item_start p q x (setting_item y e (m, n, o, name, v, c, a, i, k, re, w) z) = rest_start o q c re
item_start p q x (attributed_module l xs y e are h (m, n, o, r, optional, name, s, c, a, b, i, ps, re, w) z) = rest_start r q c re
item_start p q x (recipe_item l xs y e are h (recipe_line m n o r s t quiet name parameters priors subsequents c a b d f g i re w) z) = rest_start t q c re

-- behind an entry
entry_start : (b : Body) (p q : Place) (x : Entry) (c : Body) → IsEntry b p q x c → IsLineStart q
entry_start b p q x c (blank (n, i) z w) = newline_start _ q i
entry_start b p q x c (body_line indentation y n e (line_of_body m fragments h are d i k) z w) = newline_start m q i
entry_start b p q x c (further n m i w) = item_start p q x i

-- behind entries from the start of a line on
entries_start : (b : Body) (p q : Place) (c : Body) (xs : List Entry) → IsLineStart p → AreEntries b p q c xs → IsLineStart q
entries_start b p q c [] s i = subst (λ (r : Place). IsLineStart r) (sym i.0) s
entries_start b p q c (x ∷ xs) s (m, a, i, are) = entries_start a m q c xs (entry_start b p m x a i) are

-- a text stops in the first column
pub stop_column : (text : List ℕ) (p : Place) (b : Body) → Stops text p b → p.column ≡ 1
stop_column text p b s =
    ⊎_elim (λ (c : _). c) (λ (e : _). absurd (false≢true (sym s.goes_on ∙ e))) (entries_start body.Closed (start text) p b s.entries (inl refl) s.are)
