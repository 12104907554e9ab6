-- Texts whole: one list of entries leads to the end of a text, or to the one place where it stops.
use Rattle.std.proofs.Common.{◌≡◌, ℕ, true, false, List, [], ◌∷◌, ◌++◌, refl, sym, ap, ◌∙◌, subst, arith}
use Rattle.std.proofs.lemmas.Bool.{false≢true}
use Rattle.just_lang_read.specs.Place.{Place, start, is_end}
use Rattle.just_lang_read.proofs.Laws.{length_at_end}
use Rattle.just_lang_syntax.specs.declared.ast.AstItem.{AstItem}
use Rattle.just_lang_syntax.specs.declared.entry.Entry.{Entry}
use Rattle.just_lang_syntax.specs.declared.entry.Body.{Body}
use Rattle.just_lang_syntax.specs.declared.entry.Body.TheVariants as body
use Rattle.just_lang_syntax.specs.File.{IsEntry, AreEntries, IsFile, Stops, items_of}
use Rattle.just_lang_syntax.proofs.EntryLaws.{one_entry, entry_takes}

-- behind the end of the text no entry stands
end_has_none : (b : Body) (p q : Place) (x : Entry) (c : Body) → is_end p ≡ true → IsEntry b p q x c → ⊥
end_has_none b p q x c e i = absurd (omega (arith, length_at_end p e, entry_takes b p q x c i))

-- two lists of entries that begin alike go on alike
same_rest : (b : Body) (p m n : Place) (x y : Entry) (a d : Body) → IsEntry b p m x a → IsEntry b p n y d → (X : Place → Body → Type 0) → X n d → X m a
same_rest b p m n x y a d i j X t =
    let (z, c, e) = one_entry b p m n x y a d i j in
    subst (λ (r : Place). X r a) (sym e) (subst (λ (f : Body). X n f) (sym c) t)

-- one list of entries leads from a place to the end
one_list : (b : Body) (p q r : Place) (c d : Body) (xs ys : List Entry) → AreEntries b p q c xs → AreEntries b p r d ys → is_end q ≡ true → is_end r ≡ true → xs ≡ ys
one_list b p q r c d [] [] i j e f = refl
one_list b p q r c d [] (y ∷ ys) i (n, a, s, are) e f = absurd (end_has_none b p n y a (ap is_end (sym i.0) ∙ e) s)
one_list b p q r c d (x ∷ xs) [] (m, a, s, are) j e f = absurd (end_has_none b p m x a (ap is_end (sym j.0) ∙ f) s)
one_list b p q r c d (x ∷ xs) (y ∷ ys) (m, a, s, are) (n, g, t, others) e f =
    let (z, u, v) = one_entry b p m n x y a g s t in
    let rest : xs ≡ ys = one_list a m q r c d xs ys are (same_rest b p m n x y a g s t (λ o h. AreEntries h o r d ys) others) e f in
    rw (z, rest) refl

-- no list of entries leads to the end where one leads to a place where no entry stands
no_list : (b : Body) (p q r : Place) (c d : Body) (xs ys : List Entry) → AreEntries b p q c xs → is_end q ≡ true
    → AreEntries b p r d ys → is_end r ≡ false → ((o : Place) (z : Entry) (f : Body) → IsEntry d r o z f → ⊥) → ⊥
no_list b p q r c d [] [] i e j g none = false≢true (sym g ∙ (ap is_end (j.0 ∙ sym i.0) ∙ e))
no_list b p q r c d [] (y ∷ ys) i e (n, a, s, are) g none = end_has_none b p n y a (ap is_end (sym i.0) ∙ e) s
no_list b p q r c d (x ∷ xs) [] (m, a, s, are) e j g none =
    none m x a (subst (λ (o : Place). IsEntry d o m x a) (sym j.0) (subst (λ (h : Body). IsEntry h p m x a) (sym j.1) s))
no_list b p q r c d (x ∷ xs) (y ∷ ys) (m, a, s, are) e (n, h, t, others) g none =
    no_list a m q r c d xs ys are e (same_rest b p m n x y a h s t (λ o l. AreEntries l o r d ys) others) g none

-- entries lead to one place where no entry stands
one_stop : (b : Body) (p q r : Place) (c d : Body) (xs ys : List Entry)
    → AreEntries b p q c xs → ((o : Place) (z : Entry) (f : Body) → IsEntry c q o z f → ⊥)
    → AreEntries b p r d ys → ((o : Place) (z : Entry) (f : Body) → IsEntry d r o z f → ⊥) → (q ≡ r) × (c ≡ d)
one_stop b p q r c d [] [] i none j others_none = (i.0 ∙ sym j.0, i.1 ∙ sym j.1)
one_stop b p q r c d [] (y ∷ ys) i none (n, a, s, are) others_none =
    absurd (none n y a (subst (λ (o : Place). IsEntry c o n y a) (sym i.0) (subst (λ (h : Body). IsEntry h p n y a) (sym i.1) s)))
one_stop b p q r c d (x ∷ xs) [] (m, a, s, are) none j others_none =
    absurd (others_none m x a (subst (λ (o : Place). IsEntry d o m x a) (sym j.0) (subst (λ (h : Body). IsEntry h p m x a) (sym j.1) s)))
one_stop b p q r c d (x ∷ xs) (y ∷ ys) (m, a, s, are) none (n, h, t, others) others_none =
    one_stop a m q r c d xs ys are none (same_rest b p m n x y a h s t (λ o l. AreEntries l o r d ys) others) others_none

-- ---- texts

-- a text has one tree at most
pub one_tree : (text : List ℕ) (xs ys : List AstItem) → IsFile text xs → IsFile text ys → xs ≡ ys
one_tree text xs ys f g =
    f.made ∙ (ap items_of (one_list body.Closed (start text) f.end g.end f.last g.last f.entries g.entries f.are g.are f.whole g.whole) ∙ sym g.made)

-- a text that has a tree stops nowhere
pub tree_or_stops : (text : List ℕ) (xs : List AstItem) (p : Place) (b : Body) → IsFile text xs → Stops text p b → ⊥
tree_or_stops text xs p b f s =
    no_list body.Closed (start text) f.end p f.last b f.entries s.entries f.are f.whole s.are s.goes_on s.no_entry

-- a text stops at one place
pub stops_once : (text : List ℕ) (p q : Place) (b c : Body) → Stops text p b → Stops text q c → (p ≡ q) × (b ≡ c)
stops_once text p q b c s t =
    one_stop body.Closed (start text) p q b c s.entries t.entries s.are s.no_entry t.are t.no_entry

-- ---- entries one behind the other

-- behind entries stands one more
pub one_more : (b : Body) (p q r : Place) (c d : Body) (xs : List Entry) (x : Entry) → AreEntries b p q c xs → IsEntry c q r x d → AreEntries b p r d (xs ++ x ∷ [])
one_more b p q r c d [] x i s =
    (r, d, subst (λ (o : Place). IsEntry b o r x d) i.0 (subst (λ (h : Body). IsEntry h q r x d) i.1 s), (refl, refl))
one_more b p q r c d (y ∷ ys) x (m, a, t, are) s = (m, a, t, one_more a m q r c d ys x are s)
