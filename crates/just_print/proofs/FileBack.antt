-- A printed tree is read again as a tree of the same shape.
use lib.Utf8.{scalars}
use Rattle.std.proofs.Common.{◌≡◌, ℕ, Bool, true, false, not, if◌then◌else◌, List, [], ◌∷◌, ◌++◌, Some, None, chars, encode_utf8_all, IsUtf8, refl, sym, ap, ◌∙◌, subst}
use Rattle.std.proofs.lemmas.Bool.{false≢true}
use Rattle.std.proofs.lemmas.Str.{chars_from_encodes}
use Rattle.std.specs.List.{flat_map, list_all}
use Rattle.just_lang_read.specs.Place.{Place, start, run, first_in, passes, starts, behind_text}
use Rattle.just_lang_read.proofs.Laws.{past_ends}
use Rattle.just_lang_syntax.specs.declared.ast.Attribute.{Attribute}
use Rattle.just_lang_syntax.specs.declared.ast.AstRecipe.{AstRecipe}
use Rattle.just_lang_syntax.specs.declared.ast.AstItem.{AstItem}
use Rattle.just_lang_syntax.specs.declared.ast.Line.{Line}
use Rattle.just_lang_syntax.specs.declared.entry.Entry.{Entry}
use Rattle.just_lang_syntax.specs.declared.entry.Entry.TheVariants as entry
use Rattle.just_lang_syntax.specs.declared.entry.Body.{Body}
use Rattle.just_lang_syntax.specs.declared.entry.Body.TheVariants as body
use Rattle.just_lang_syntax.specs.declared.item.Opening.TheVariants as opening
use Rattle.just_lang_read.specs.Characters.{is_blank}
use Rattle.just_lang_read.specs.Lines.{skip}
use Rattle.just_lang_syntax.specs.Bodies.{IsBodyLine}
use Rattle.just_lang_syntax.specs.Bodies.IsBodyLine.{line}
use Rattle.just_lang_syntax.specs.Attributes.{AreAttributes}
use Rattle.just_lang_syntax.specs.Recipes.{IsRecipeLine}
use Rattle.just_lang_syntax.specs.Items.{opening_at, opens_module, IsAlias, IsImport, IsModule, IsAssignment, IsUnexport, IsSetting, IsItem}
use Rattle.just_lang_syntax.specs.Items.IsItem.{comment, alias, import, module_alone, assignment, export, unexport, setting_item, attributed_module, recipe}
use Rattle.just_lang_syntax.specs.File.{indentation_at, behind_blank, behind_item, AreEntries, IsFile, gather_blank, gather_one, gathered, items_of}
use Rattle.just_lang_syntax.specs.File.IsEntry.{blank, body_line, further}
use Rattle.just_print.specs.Printed.{printed, printed_line, is_blank_item}
use Rattle.just_print.specs.Shapes.{shape, SameShape}
use Rattle.just_print.specs.Law.{IsIndentation, line_returns, has_no_return, NoReturnAtEnd}
use Rattle.just_print.specs.Entries.{is_outside}
use Rattle.just_print.proofs.Places.{beyond, past_rest, behind_front, and_true}
use Rattle.just_print.proofs.FragmentsBack.{fragments_keep}
use Rattle.just_print.proofs.Scalars.{Keeps, text_keeps, past_keeps}
use Rattle.just_print.proofs.ItemScalars.{newline_keeps, item_keeps}
use Rattle.just_print.proofs.BodiesBack.{LineBack, line_back}
use Rattle.just_print.proofs.OutsideBack.{comment_outside, assignment_outside, export_outside, alias_outside, unexport_outside}
use Rattle.just_print.proofs.SettingsOutside.{setting_outside}
use Rattle.just_print.proofs.ImportsOutside.{import_outside}
use Rattle.just_print.proofs.ModulesOutside.{module_outside}
use Rattle.just_print.proofs.EntriesBack.{Rest, OutsideBack, nothing_back, blank_back, line_more, renewed, item_more, recipe_more}

-- ---- items are no blank lines

alias_not_blank : (p q : Place) (y : AstItem) → IsAlias p q y → is_blank_item y ≡ false
alias_not_blank p q y (m, n, o, r, name, target, c, t, k, u, i, w, z) = ap is_blank_item z

import_not_blank : (p q : Place) (y : AstItem) → IsImport p q y → is_blank_item y ≡ false
import_not_blank p q y (m, n, o, optional, path, c, t, k, i, w, z) = ap is_blank_item z

module_not_blank : (attributes : List Attribute) (p q : Place) (y : AstItem) → IsModule attributes p q y → is_blank_item y ≡ false
module_not_blank attributes p q y (m, n, o, r, optional, name, path, c, t, k, u, i, w, z) = ap is_blank_item z

assignment_not_blank : (exported : Bool) (p q : Place) (y : AstItem) → IsAssignment exported p q y → is_blank_item y ≡ false
assignment_not_blank exported p q y (m, n, o, name, value, c, k, u, i, w, z) = ap is_blank_item z

unexport_not_blank : (p q : Place) (y : AstItem) → IsUnexport p q y → is_blank_item y ≡ false
unexport_not_blank p q y (m, n, name, c, t, k, w, z) = ap is_blank_item z

setting_not_blank : (p q : Place) (y : AstItem) → IsSetting p q y → is_blank_item y ≡ false
setting_not_blank p q y (m, n, o, name, value, c, t, k, i, w, z) = ap is_blank_item z

outside_of : (x : Entry) (y : AstItem) → x ≡ entry.Item y → is_blank_item y ≡ false → is_outside x ≡ true
outside_of x y z h = ap is_outside z ∙ ap not h

-- an item that stands outside bodies isn't blank
pub item_outside : (p q : Place) (x : Entry) → IsItem p q x → is_outside x ≡ true
item_outside p q x (comment text o i z) = ap is_outside z
item_outside p q x (alias y o i z) = outside_of x y z (alias_not_blank p q y i)
item_outside p q x (import y o i z) = outside_of x y z (import_not_blank p q y i)
item_outside p q x (module_alone y o i z) = outside_of x y z (module_not_blank [] p q y i)
item_outside p q x (assignment y o i z) = outside_of x y z (assignment_not_blank false p q y i)
item_outside p q x (export m y o t i z) = outside_of x y z (assignment_not_blank true m q y i)
item_outside p q x (unexport y o i z) = outside_of x y z (unexport_not_blank p q y i)
item_outside p q x (setting_item y o i z) = outside_of x y z (setting_not_blank p q y i)
item_outside p q x (attributed_module m attributes y o a k i z) = outside_of x y z (module_not_blank attributes m q y i)
item_outside p q x (recipe m attributes y o a k i z) = ap is_outside z

-- ---- what entries gather

-- outside a body no lines wait for a recipe
closed_lines : (p q : Place) (c : Body) (xs : List Entry) → AreEntries body.Closed p q c xs → (gathered xs).0 ≡ []
closed_lines p q c [] are = refl
closed_lines p q c (x ∷ xs) (m, a, blank i z w, are) =
    ap (λ (e : Entry). (gather_one e (gathered xs).0 (gathered xs).1).0) z
    ∙ ap (λ (l : List Line). (gather_blank p.line l (gathered xs).1).0) (closed_lines m q c xs (subst (λ (d : Body). AreEntries d m q c xs) w are))
closed_lines p q c (x ∷ xs) (m, a, body_line old y n at_old i z w, are) = absurd (let no : ⊥ = cc (at_old) in no)
closed_lines p q c (entry.Blank number ∷ xs) (m, a, further n b i w, are) = absurd (false≢true (item_outside p m (entry.Blank number) i))
closed_lines p q c (entry.Item x ∷ xs) (m, a, further n b i w, are) = closed_lines m q c xs (subst (λ (d : Body). AreEntries d m q c xs) w are)
closed_lines p q c (entry.Recipe x ∷ xs) (m, a, further n b i w, are) = refl
closed_lines p q c (entry.Line x ∷ xs) (m, a, further n b i w, are) = absurd (false≢true (item_outside p m (entry.Line x) i))

-- whether a line ends in no carriage return
abbrev no_return : Line → Bool
no_return x = not (line_returns x.fragments)

blank_lines : (number : ℕ) (lines : List Line) (items : List AstItem) → list_all no_return (gather_blank number lines items).0 ≡ true → list_all no_return lines ≡ true
blank_lines number [] items h = refl
blank_lines number (l ∷ lines) items h = h

blank_items : (number : ℕ) (lines : List Line) (items : List AstItem) → list_all has_no_return (gather_blank number lines items).1 ≡ true → list_all has_no_return items ≡ true
blank_items number [] items h = h
blank_items number (l ∷ lines) items h = h

further_none : (x : Entry) (lines : List Line) (items : List AstItem) → is_outside x ≡ true → list_all no_return (gather_one x lines items).0 ≡ true
    → list_all has_no_return (gather_one x lines items).1 ≡ true → (list_all no_return lines ≡ true) × (list_all has_no_return items ≡ true)
further_none (entry.Blank number) lines items o h k = absurd (false≢true o)
further_none (entry.Item x) lines items o h k = (h, (and_true (has_no_return x) (list_all has_no_return items) k).1)
further_none (entry.Recipe x) lines items o h k = and_true (list_all no_return lines) (list_all has_no_return items) k
further_none (entry.Line x) lines items o h k = absurd (false≢true o)

-- ---- bodies

-- whether the indentation of a body is blanks
abbrev is_kept : Body → Bool
is_kept body.Closed = true
is_kept body.Begins = true
is_kept (body.Open old) = list_all is_blank old

blank_kept : (b : Body) → is_kept b ≡ true → is_kept (behind_blank b) ≡ true
blank_kept body.Closed h = refl
blank_kept body.Begins h = refl
blank_kept (body.Open old) h = h

item_kept : (x : Entry) → is_kept (behind_item x) ≡ true
item_kept (entry.Blank number) = refl
item_kept (entry.Item x) = refl
item_kept (entry.Recipe x) = refl
item_kept (entry.Line x) = refl

blank_twice : (b : Body) → behind_blank (behind_blank b) ≡ behind_blank b
blank_twice body.Closed = refl
blank_twice body.Begins = refl
blank_twice (body.Open old) = refl

renewed_blank : (new : List ℕ) (b : Body) → renewed new (behind_blank b) ≡ behind_blank (renewed new b)
renewed_blank new body.Closed = refl
renewed_blank new body.Begins = refl
renewed_blank new (body.Open old) = refl

-- ---- the blanks in front of a body line

run_by : (b : Bool) (t : ℕ → Bool) (c : ℕ) (list : List ℕ) → t c ≡ b → run t list ++ beyond t list ≡ list → run t (c ∷ list) ++ beyond t (c ∷ list) ≡ c ∷ list
run_by true t c list h k = rw h (ap (λ (l : List ℕ). c ∷ l) k)
run_by false t c list h k = rw h refl

-- a text is a run and what is left behind it
run_beyond : (t : ℕ → Bool) (list : List ℕ) → run t list ++ beyond t list ≡ list
run_beyond t [] = refl
run_beyond t (c ∷ list) = run_by (t c) t c list refl (run_beyond t list)

all_by : (b : Bool) (t : ℕ → Bool) (c : ℕ) (list : List ℕ) → t c ≡ b → list_all t (run t list) ≡ true → list_all t (run t (c ∷ list)) ≡ true
all_by true t c list h k = rw (h, h, k) refl
all_by false t c list h k = rw h refl

-- all characters of a run pass
all_run : (t : ℕ → Bool) (list : List ℕ) → list_all t (run t list) ≡ true
all_run t [] = refl
all_run t (c ∷ list) = all_by (t c) t c list refl (all_run t list)

-- behind the blanks no blank stands
none_behind : (p : Place) → starts is_blank (behind_text (run is_blank p.rest) p) ≡ false
none_behind p =
    ap (λ (l : List ℕ). passes is_blank (first_in l))
    (behind_front (run is_blank p.rest) (beyond is_blank p.rest) p (sym (run_beyond is_blank p.rest)) ∙ sym (past_rest is_blank p))
    ∙ past_ends is_blank p

begins_by : (b : Bool) (blanks old : List ℕ) → (if b then Some blanks else None) ≡ Some old → blanks ≡ old
begins_by true blanks old h = cc (h)
begins_by false blanks old h = absurd (let no : ⊥ = cc (h) in no)

-- an indentation is blanks
old_blanks : (b : Body) (p : Place) (old : List ℕ) → indentation_at b p ≡ Some old → is_kept b ≡ true → list_all is_blank old ≡ true
old_blanks body.Closed p old h k = absurd (let no : ⊥ = cc (h) in no)
old_blanks body.Begins p old h k = ap (list_all is_blank) (sym (begins_by (starts is_blank p) (run is_blank p.rest) old h)) ∙ all_run is_blank p.rest
old_blanks (body.Open blanks) p old h k = let e : blanks ≡ old = cc (h) in ap (list_all is_blank) (sym e) ∙ k

-- a line gets the new indentation wherever it is printed
new_at : (b : Body) (old new : List ℕ) (p : Place) (x : Line) (f : LineBack old new p x) → indentation_at b p ≡ Some old
    → (r : Place) (rest : List ℕ) → r.rest ≡ f.letters ++ rest → indentation_at (renewed new b) r ≡ Some new
new_at body.Closed old new p x f h r rest k = absurd (let no : ⊥ = cc (h) in no)
new_at body.Begins old new p x f h r rest k =
    let e : run is_blank p.rest ≡ old = begins_by (starts is_blank p) (run is_blank p.rest) old h in
    let (a, b) = f.blanks (ap (λ (l : List ℕ). starts is_blank (behind_text l p)) (sym e) ∙ none_behind p) rest in
    let begun : starts is_blank r ≡ true = ap (λ (l : List ℕ). passes is_blank (first_in l)) k ∙ a in
    let whole : run is_blank r.rest ≡ new = ap (run is_blank) k ∙ b in
    rw (begun, whole) refl
new_at (body.Open blanks) old new p x f h r rest k = refl

not_true : (b : Bool) → not b ≡ true → b ≡ false
not_true true h = absurd (false≢true h)
not_true false h = refl

-- an item or a recipe's line before others
further_back : (new : List ℕ) (behind : Bool) (b : Body) (x : Entry) (lines : List Line) (items : List AstItem) → IsIndentation new → is_outside x ≡ true
    → OutsideBack new x → (behind_item x ≡ body.Closed → lines ≡ []) → Rest new false (renewed new (behind_item x)) lines items
    → Rest new behind (renewed new b) (gather_one x lines items).0 (gather_one x lines items).1
further_back new behind b (entry.Blank number) lines items i o f none others = absurd (false≢true o)
further_back new behind b (entry.Item x) lines items i o f none others =
    subst (λ (l : List Line). Rest new behind (renewed new b) l (x ∷ items)) (sym (none refl))
    (item_more new behind b x items i (not_true (is_blank_item x) o) f (subst (λ (l : List Line). Rest new false body.Closed l items) (none refl) others))
further_back new behind b (entry.Recipe x) lines items i o f none others = recipe_more new behind b x lines items i f others
further_back new behind b (entry.Line x) lines items i o f none others = absurd (false≢true o)

-- behind a body line
line_keeps : (old : List ℕ) (p q : Place) (x : Line) → IsBodyLine old p q x → Keeps p q
line_keeps old p q x (line m fs b are end nl z) s = newline_keeps m q nl (fragments_keep (behind_text old p) m fs are (text_keeps old p s))

-- what is known of attributes and of recipes: what is printed of a module behind attributes, and of a recipe's line behind its attributes, is read again
module _ (attributed_outside : (new : List ℕ) (p m q : Place) (attributes : List Attribute) (y : AstItem) → opening_at p ≡ opening.Recipe → AreAttributes p m attributes
    → opens_module m ≡ true → IsModule attributes m q y → OutsideBack new (entry.Item y))
    (recipe_outside : (new : List ℕ) (p m q : Place) (attributes : List Attribute) (y : AstRecipe) → opening_at p ≡ opening.Recipe → AreAttributes p m attributes
    → opens_module m ≡ false → IsRecipeLine attributes m q y → OutsideBack new (entry.Recipe y)) where
  -- what is printed of an item, or of the line of a recipe, is read again
  outside_back : (new : List ℕ) (p q : Place) (x : Entry) → IsItem p q x → OutsideBack new x
  outside_back new p q x (comment text o i z) = subst (OutsideBack new) (sym z) (comment_outside new p q text i)
  outside_back new p q x (alias y o i z) = subst (OutsideBack new) (sym z) (alias_outside new p q y i)
  outside_back new p q x (import y o i z) = subst (OutsideBack new) (sym z) (import_outside new p q y i)
  outside_back new p q x (module_alone y o i z) = subst (OutsideBack new) (sym z) (module_outside new p q y i)
  outside_back new p q x (assignment y o i z) = subst (OutsideBack new) (sym z) (assignment_outside new p q y i)
  outside_back new p q x (export m y o t i z) = subst (OutsideBack new) (sym z) (export_outside new m q y i)
  outside_back new p q x (unexport y o i z) = subst (OutsideBack new) (sym z) (unexport_outside new p q y i)
  outside_back new p q x (setting_item y o i z) = subst (OutsideBack new) (sym z) (setting_outside new p q y i)
  outside_back new p q x (attributed_module m attributes y o a k i z) = subst (OutsideBack new) (sym z) (attributed_outside new p m q attributes y o a k i)
  outside_back new p q x (recipe m attributes y o a k i z) = subst (OutsideBack new) (sym z) (recipe_outside new p m q attributes y o a k i)

  -- the entries from a place to the end are printed and read with the same shape
  entries_back : (new : List ℕ) (behind : Bool) (b : Body) (p q : Place) (c : Body) (xs : List Entry) → IsIndentation new → AreEntries b p q c xs
      → scalars p.rest ≡ true → is_kept b ≡ true → (behind ≡ true → behind_blank b ≡ b) → list_all no_return (gathered xs).0 ≡ true
      → list_all has_no_return (gathered xs).1 ≡ true → Rest new behind (renewed new b) (gathered xs).0 (gathered xs).1
  entries_back new behind b p q c [] i are s k stays g h = nothing_back new behind (renewed new b)
  entries_back new behind b p q c (x ∷ xs) i (m, a, blank e z w, are) s k stays g h =
      let lines : List Line = (gathered xs).0 in
      let items : List AstItem = (gathered xs).1 in
      let g2 : list_all no_return (gather_blank p.line lines items).0 ≡ true = ap (λ (y : Entry). list_all no_return (gather_one y lines items).0) (sym z) ∙ g in
      let h2 : list_all has_no_return (gather_blank p.line lines items).1 ≡ true = ap (λ (y : Entry). list_all has_no_return (gather_one y lines items).1) (sym z) ∙ h in
      let others : (v : Bool) → Rest new v (behind_blank (renewed new b)) lines items = λ v.
      subst (λ (d : Body). Rest new v d lines items) (renewed_blank new b)
      (entries_back new v (behind_blank b) m q c xs i (subst (λ (d : Body). AreEntries d m q c xs) w are) (newline_keeps (skip p) m e.1 (past_keeps is_blank p s))
      (blank_kept b k) (λ _. blank_twice b) (blank_lines p.line lines items g2) (blank_items p.line lines items h2)) in
      subst (λ (y : Entry). Rest new behind (renewed new b) (gather_one y lines items).0 (gather_one y lines items).1) (sym z)
      (blank_back new behind (renewed new b) p.line lines items (λ t. sym (renewed_blank new b) ∙ ap (renewed new) (stays t)) others)
  entries_back new behind b p q c (x ∷ xs) i (m, a, body_line old y n at_old is z w, are) s k stays g h =
      let lines : List Line = (gathered xs).0 in
      let items : List AstItem = (gathered xs).1 in
      let g2 : list_all no_return (y ∷ lines) ≡ true = ap (λ (v : Entry). list_all no_return (gather_one v lines items).0) (sym z) ∙ g in
      let h2 : list_all has_no_return items ≡ true = ap (λ (v : Entry). list_all has_no_return (gather_one v lines items).1) (sym z) ∙ h in
      let (one, more) = and_true (no_return y) (list_all no_return lines) g2 in
      let all : list_all is_blank old ≡ true = old_blanks b p old at_old k in
      let f : LineBack old new p y = line_back old new p m y i all s (not_true (line_returns y.fragments) one) is in
      let others : Rest new behind (body.Open new) lines items =
      entries_back new behind (body.Open old) m q c xs i (subst (λ (d : Body). AreEntries d m q c xs) w are) (line_keeps old p m y is s) all (λ _. refl) more h2 in
      subst (λ (v : Entry). Rest new behind (renewed new b) (gather_one v lines items).0 (gather_one v lines items).1) (sym z)
      (line_more old new behind (renewed new b) p y lines items f (new_at b old new p y f at_old) others)
  entries_back new behind b p q c (x ∷ xs) i (m, a, further n o is w, are) s k stays g h =
      let lines : List Line = (gathered xs).0 in
      let items : List AstItem = (gathered xs).1 in
      let out : is_outside x ≡ true = item_outside p m x is in
      let (g2, h2) = further_none x lines items out g h in
      let others : Rest new false (renewed new (behind_item x)) lines items =
      entries_back new false (behind_item x) m q c xs i (subst (λ (d : Body). AreEntries d m q c xs) w are) (item_keeps p m x is s) (item_kept x)
      (λ t. absurd (false≢true t)) g2 h2 in
      further_back new behind b x lines items i out (outside_back new p m x is)
      (λ e. closed_lines m q c xs (subst (λ (d : Body). AreEntries d m q c xs) (w ∙ e) are)) others

  -- what is printed of a text's tree is a text whose tree has the same shape, for an indentation of one or more blanks, where no line of a body ends in
  -- a carriage return
  pub reads_back : (text : List ℕ) (items : List AstItem) (indentation : List ℕ) → IsFile text items → scalars text ≡ true → IsIndentation indentation
      → NoReturnAtEnd items → IsUtf8 (printed items indentation) → (ys : List AstItem) × IsFile (chars (printed items indentation)) ys × SameShape items ys
  reads_back text items new file s i n u =
      let none : (gathered file.entries).0 ≡ [] = closed_lines (start text) file.end file.last file.entries file.are in
      let rest : Rest new false body.Closed (gathered file.entries).0 (gathered file.entries).1 =
      entries_back new false body.Closed (start text) file.end file.last file.entries i file.are s refl (λ t. absurd (false≢true t))
      (ap (list_all no_return) none) (ap (list_all has_no_return) (sym file.made) ∙ n) in
      let made : printed items new ≡ encode_utf8_all rest.letters =
      ap (λ (l : List AstItem). printed l new) file.made
      ∙ (ap (λ (l : List Line). flat_map (printed_line new) l ++ printed (items_of file.entries) new) (sym none) ∙ rest.encoded) in
      let letters : rest.letters ≡ chars (printed items new) = chars_from_encodes rest.letters (printed items new) u (sym made) in
      let g = rest.again (start (chars (printed items new))) (sym letters) in (
        items_of g.entries,
        record { entries = g.entries; end = g.end; last = g.last; are = g.are; whole = g.whole; made = refl },
        ap shape file.made ∙ sym g.same_items,
      )
