-- Entries that are printed and read again: what the file needs to know of each.
use Rattle.std.proofs.Common.{◌≡◌, ℕ, ◌==◌, Bool, true, false, not, ◌&&◌, ◌||◌, List, [], ◌∷◌, ◌++◌, map, Some, encode_utf8_all, refl, sym, ap, ◌∙◌, subst, append_assoc}
use Rattle.std.proofs.lemmas.Bool.{false≢true, eqb-true}
use Rattle.std.specs.List.{flat_map, list_all}
use Rattle.just_lang_read.specs.Place.{Place, next, first_in, passes, starts, begins, begins_in, is_empty, is_end}
use Rattle.just_lang_syntax.specs.declared.ast.AstRecipe.{AstRecipe}
use Rattle.just_lang_syntax.specs.declared.ast.AstItem.{AstItem}
use Rattle.just_lang_syntax.specs.declared.ast.AstItem.TheVariants as tree
use Rattle.just_lang_syntax.specs.declared.ast.Line.{Line}
use Rattle.just_lang_syntax.specs.declared.entry.Entry.{Entry}
use Rattle.just_lang_syntax.specs.declared.entry.Entry.TheVariants as entry
use Rattle.just_lang_syntax.specs.declared.entry.Body.{Body}
use Rattle.just_lang_syntax.specs.declared.entry.Body.TheVariants as body
use Rattle.just_lang_read.specs.Characters.{is_blank}
use Rattle.just_lang_read.specs.Lines.{skip, ends_line, is_blank_line, IsBlankLine}
use Rattle.just_lang_syntax.specs.Items.{IsItem}
use Rattle.just_lang_syntax.specs.File.{indentation_at, is_in_body, behind_blank, IsEntry, AreEntries, blank_line, gather_blank, gathered}
use Rattle.just_print.specs.Printed.{newline, printed_line, printed_item, printed_attributes, printed_recipe_line, is_blank_item, one_blank}
use Rattle.just_print.specs.Shapes.{bare_line, bare_recipe, bare_item}
use Rattle.just_print.specs.Law.{IsIndentation}
use Rattle.just_print.specs.Entries.{printed_entry, bare_entry}
use Rattle.just_print.proofs.Places.{beyond, past_rest, closes, and_true}
use Rattle.just_print.proofs.WordsBack.{joined_text, plain_text}
use Rattle.just_print.proofs.LinesBack.{newline_back}
use Rattle.just_print.proofs.TextsBack.{ends_in}
use Rattle.just_print.proofs.BodiesBack.{LineBack}

-- ---- what is read of what was printed

-- entries from a place to the end of the text that make lines of a body and items behind it of these shapes
pub record Reread (behind : Bool) (b : Body) (r : Place) (lines : List Line) (items : List AstItem) : Type 0 where
  pub entries : List Entry
  pub end : Place
  pub last : Body
  pub are : AreEntries b r end last entries
  pub whole : is_end end ≡ true
  pub same_lines : map bare_line (gathered entries).0 ≡ map bare_line lines
  pub same_items : map bare_item (one_blank behind (gathered entries).1) ≡ map bare_item (one_blank behind items)

-- lines of a body and the items behind it: what is printed of them, and that it is read again where b may go on
pub record Rest (new : List ℕ) (behind : Bool) (b : Body) (lines : List Line) (items : List AstItem) : Type 0 where
  pub letters : List ℕ
  pub encoded : flat_map (printed_line new) lines ++ flat_map (printed_item new) (one_blank behind items) ≡ encode_utf8_all letters
  pub again : (r : Place) → r.rest ≡ letters → Reread behind b r lines items

-- nothing is left
pub nothing_back : (new : List ℕ) (behind : Bool) (b : Body) → Rest new behind b [] []
nothing_back new behind b =
    record {
      letters = [];
      encoded = refl;
      again = λ r h. record { entries = []; end = r; last = b; are = (refl, refl); whole = ap is_empty h; same_lines = refl; same_items = refl };
    }

-- ---- blank lines

not_empty : (list rest : List ℕ) (c : ℕ) → list ≡ c ∷ rest → is_empty list ≡ false
not_empty list rest c h = ap is_empty h

-- a line feed is a blank line
blank_stands : (r : Place) (rest : List ℕ) → r.rest ≡ 10 ∷ rest → IsBlankLine r (next (skip r)) × ((next (skip r)).rest ≡ rest)
blank_stands r rest h =
    let (ends, left) = newline_back (skip r) rest (past_rest is_blank r ∙ ap (beyond is_blank) h) in ((not_empty r.rest rest 10 h, ends), left)

gather_more : (number : ℕ) (ls : List Line) (items : List AstItem) (line : Line) (lines : List Line) → map bare_line ls ≡ map bare_line (line ∷ lines)
    → gather_blank number ls items ≡ (blank_line number ∷ ls, items)
gather_more number [] items line lines h = absurd (let no : ⊥ = cc (h) in no)
gather_more number (l ∷ ls) items line lines h = refl

gather_none : (number : ℕ) (ls : List Line) (items : List AstItem) → map bare_line ls ≡ [] → gather_blank number ls items ≡ ([], tree.Blank ∷ items)
gather_none number [] items h = refl
gather_none number (l ∷ ls) items h = absurd (let no : ⊥ = cc (h) in no)

-- a blank line of a body, before a further line
blank_inside : (new : List ℕ) (behind : Bool) (b : Body) (number : ℕ) (line : Line) (lines : List Line) (items : List AstItem)
    → Rest new behind (behind_blank b) (line ∷ lines) items → Rest new behind b (blank_line number ∷ line ∷ lines) items
blank_inside new behind b number line lines items f =
    record {
      letters = newline ++ f.letters;
      encoded = joined_text newline (flat_map (printed_line new) (line ∷ lines) ++ flat_map (printed_item new) (one_blank behind items)) newline f.letters (plain_text newline refl) f.encoded;
      again = λ r h.
          let (is, left) = blank_stands r f.letters h in
          let g = f.again (next (skip r)) left in
          let made = gather_more r.line (gathered g.entries).0 (gathered g.entries).1 line lines g.same_lines in
          record {
            entries = entry.Blank r.line ∷ g.entries;
            end = g.end;
            last = g.last;
            are = (next (skip r), behind_blank b, IsEntry.blank is refl refl, g.are);
            whole = g.whole;
            same_lines = ap (λ (s : List Line × List AstItem). map bare_line s.0) made ∙ ap (λ (l : List Line). bare_line (blank_line number) ∷ l) g.same_lines;
            same_items = ap (λ (s : List Line × List AstItem). map bare_item (one_blank behind s.1)) made ∙ g.same_items;
          };
    }

-- a blank item
blank_outside : (new : List ℕ) (b : Body) (items : List AstItem) → Rest new true (behind_blank b) [] items → Rest new false b [] (tree.Blank ∷ items)
blank_outside new b items f =
    record {
      letters = newline ++ f.letters;
      encoded = joined_text newline (flat_map (printed_item new) (one_blank true items)) newline f.letters (plain_text newline refl) f.encoded;
      again = λ r h.
          let (is, left) = blank_stands r f.letters h in
          let g = f.again (next (skip r)) left in
          let made = gather_none r.line (gathered g.entries).0 (gathered g.entries).1 g.same_lines in
          record {
            entries = entry.Blank r.line ∷ g.entries;
            end = g.end;
            last = g.last;
            are = (next (skip r), behind_blank b, IsEntry.blank is refl refl, g.are);
            whole = g.whole;
            same_lines = ap (λ (s : List Line × List AstItem). map bare_line s.0) made;
            same_items = ap (λ (s : List Line × List AstItem). map bare_item (one_blank false s.1)) made ∙ ap (λ (l : List AstItem). tree.Blank ∷ l) g.same_items;
          };
    }

-- a blank item behind another one isn't printed
blank_dropped : (new : List ℕ) (b : Body) (items : List AstItem) → Rest new true b [] items → Rest new true b [] (tree.Blank ∷ items)
blank_dropped new b items f =
    record {
      letters = f.letters;
      encoded = f.encoded;
      again = λ r h.
          let g = f.again r h in
          record { entries = g.entries; end = g.end; last = g.last; are = g.are; whole = g.whole; same_lines = g.same_lines; same_items = g.same_items };
    }

-- a blank line
pub blank_back : (new : List ℕ) (behind : Bool) (b : Body) (number : ℕ) (lines : List Line) (items : List AstItem) → (behind ≡ true → behind_blank b ≡ b)
    → ((g : Bool) → Rest new g (behind_blank b) lines items) → Rest new behind b (gather_blank number lines items).0 (gather_blank number lines items).1
blank_back new behind b number (line ∷ lines) items k f = blank_inside new behind b number line lines items (f behind)
blank_back new true b number [] items k f = blank_dropped new b items (subst (λ (c : Body). Rest new true c [] items) (k refl) (f true))
blank_back new false b number [] items k f = blank_outside new b items (f true)

-- ---- body lines

-- a line of a body that has this indentation at its old place, and gets the new one at its new place
pub line_more : (old new : List ℕ) (behind : Bool) (b : Body) (p : Place) (x : Line) (lines : List Line) (items : List AstItem) (f : LineBack old new p x)
    → ((r : Place) (rest : List ℕ) → r.rest ≡ f.letters ++ rest → indentation_at b r ≡ Some new)
    → Rest new behind (body.Open new) lines items → Rest new behind b (x ∷ lines) items
line_more old new behind b p x lines items f at_new others =
    record {
      letters = f.letters ++ others.letters;
      encoded = append_assoc (printed_line new x) (flat_map (printed_line new) lines) (flat_map (printed_item new) (one_blank behind items))
          ∙ joined_text (printed_line new x) (flat_map (printed_line new) lines ++ flat_map (printed_item new) (one_blank behind items)) f.letters others.letters f.encoded others.encoded;
      again = λ r h.
          let (s, y, lit, is, left, shape) = f.again r others.letters h in
          let g = others.again s left in
          record {
            entries = entry.Line y ∷ g.entries;
            end = g.end;
            last = g.last;
            are = (s, body.Open new, IsEntry.body_line new y lit (at_new r others.letters h) is refl refl, g.are);
            whole = g.whole;
            same_lines = ap (λ (l : Line). l ∷ map bare_line (gathered g.entries).0) shape ∙ ap (λ (l : List Line). bare_line x ∷ l) g.same_lines;
            same_items = g.same_items;
          };
    }

-- ---- items and the lines of recipes

-- an item or a recipe's line: what is printed of it begins with neither a blank nor a line's end, and is read again
pub record OutsideBack (new : List ℕ) (x : Entry) : Type 0 where
  pub letters : List ℕ
  pub head : ℕ
  pub tail : List ℕ
  pub encoded : printed_entry new x ≡ encode_utf8_all letters
  pub begins_so : letters ≡ head ∷ tail
  pub dark_head : is_blank head ≡ false
  pub goes_on : closes (head ∷ []) ≡ false
  pub again : (r : Place) (rest : List ℕ) → r.rest ≡ letters ++ rest → (s : Place) × (y : Entry) × IsItem r s y × (s.rest ≡ rest) × (bare_entry y ≡ bare_entry x)

no_end_by : (a b d : Bool) → (a || b) ≡ false → (false || (a || (b && d))) ≡ false
no_end_by true b d h = absurd (false≢true (sym h))
no_end_by false true d h = absurd (false≢true (sym h))
no_end_by false false d h = refl

and_false : (a b : Bool) → b ≡ false → (a && b) ≡ false
and_false true b h = h
and_false false b h = refl

-- no blank line stands where such a character comes first
no_blank_line : (r : Place) (c : ℕ) (rest : List ℕ) → r.rest ≡ c ∷ rest → is_blank c ≡ false → closes (c ∷ []) ≡ false → is_blank_line r ≡ false
no_blank_line r c rest h d k =
    let at_first : beyond is_blank (c ∷ rest) ≡ c ∷ rest = rw d refl in
    and_false (not (is_end r)) (ends_line (skip r))
    (ap ends_in (past_rest is_blank r ∙ (ap (beyond is_blank) h ∙ at_first)) ∙ no_end_by (c == 10) (c == 13) (begins_in (10 ∷ []) rest) k)

differs_by : (b : Bool) (c d : ℕ) → (c == d) ≡ b → is_blank c ≡ false → is_blank d ≡ true → b ≡ false
differs_by true c d e h k = absurd (false≢true (sym h ∙ (ap is_blank (eqb-true c d e) ∙ k)))
differs_by false c d e h k = refl

-- no indentation stands there
no_indentation : (new list rest : List ℕ) (c : ℕ) → IsIndentation new → list ≡ c ∷ rest → is_blank c ≡ false → begins_in new list ≡ false
no_indentation [] list rest c i h d = absurd (false≢true (sym i.0))
no_indentation (e ∷ new) list rest c i h d =
    let (a, more) = and_true (is_blank e) (list_all is_blank new) i.1 in
    let no : (c == e) ≡ false = differs_by (c == e) c e refl d a in
    ap (begins_in (e ∷ new)) h ∙ rw no refl

-- the body to which a line may belong behind the same text with the new indentation
abbrev pub renewed : List ℕ → Body → Body
renewed new body.Closed = body.Closed
renewed new body.Begins = body.Begins
renewed new (body.Open old) = body.Open new

-- nor a line of a body
no_line : (new : List ℕ) (b : Body) (r : Place) (rest : List ℕ) (c : ℕ) → IsIndentation new → r.rest ≡ c ∷ rest → is_blank c ≡ false → is_in_body (renewed new b) r ≡ false
no_line new body.Closed r rest c i h d = refl
no_line new body.Begins r rest c i h d =
    let no : starts is_blank r ≡ false = ap (λ (l : List ℕ). passes is_blank (first_in l)) h ∙ d in rw no refl
no_line new (body.Open old) r rest c i h d =
    let no : begins new r ≡ false = no_indentation new r.rest rest c i h d in rw no refl

item_of : (y : Entry) (x : AstItem) → bare_entry y ≡ entry.Item x → (z : AstItem) × (y ≡ entry.Item z) × (bare_item z ≡ x)
item_of (entry.Blank n) x h = absurd (let no : ⊥ = cc (h) in no)
item_of (entry.Item z) x h = (z, refl, cc (h))
item_of (entry.Recipe z) x h = absurd (let no : ⊥ = cc (h) in no)
item_of (entry.Line z) x h = absurd (let no : ⊥ = cc (h) in no)

recipe_of : (y : Entry) (x : AstRecipe) → bare_entry y ≡ entry.Recipe x → (z : AstRecipe) × (y ≡ entry.Recipe z) × (bare_recipe z ≡ x)
recipe_of (entry.Blank n) x h = absurd (let no : ⊥ = cc (h) in no)
recipe_of (entry.Item z) x h = absurd (let no : ⊥ = cc (h) in no)
recipe_of (entry.Recipe z) x h = (z, refl, cc (h))
recipe_of (entry.Line z) x h = absurd (let no : ⊥ = cc (h) in no)

-- items behind an item
one_item : (behind : Bool) (x : AstItem) (xs : List AstItem) → is_blank_item x ≡ false → one_blank behind (x ∷ xs) ≡ x ∷ one_blank false xs
one_item behind x xs h = rw h refl

-- whether an item is blank doesn't depend on places
bare_blank : (x : AstItem) → is_blank_item (bare_item x) ≡ is_blank_item x
bare_blank tree.Blank = refl
bare_blank (tree.Comment text) = refl
bare_blank (tree.Alias name target comment) = refl
bare_blank (tree.Import optional path comment) = refl
bare_blank (tree.Module attributes optional name path comment) = refl
bare_blank (tree.Assignment export name value comment) = refl
bare_blank (tree.Unexport name comment) = refl
bare_blank (tree.Setting name value comment) = refl
bare_blank (tree.Recipe x) = refl

-- an item before others, outside bodies
pub item_more : (new : List ℕ) (behind : Bool) (b : Body) (x : AstItem) (items : List AstItem) → IsIndentation new → is_blank_item x ≡ false
    → OutsideBack new (entry.Item x) → Rest new false body.Closed [] items → Rest new behind (renewed new b) [] (x ∷ items)
item_more new behind b x items i n f others =
    record {
      letters = f.letters ++ others.letters;
      encoded = ap (λ (l : List AstItem). flat_map (printed_item new) l) (one_item behind x items n)
          ∙ joined_text (printed_item new x) (flat_map (printed_item new) (one_blank false items)) f.letters others.letters f.encoded others.encoded;
      again = λ r h.
          let (s, y, is, left, shape) = f.again r others.letters h in
          let (z, e, same) = item_of y (bare_item x) shape in
          let g = others.again s left in
          let from : r.rest ≡ f.head ∷ (f.tail ++ others.letters) = h ∙ ap (λ (l : List ℕ). l ++ others.letters) f.begins_so in
          let here : IsItem r s (entry.Item z) = subst (λ (w : Entry). IsItem r s w) e is in
          let not_blank : is_blank_item z ≡ false = sym (bare_blank z) ∙ (ap is_blank_item same ∙ (bare_blank x ∙ n)) in
          record {
            entries = entry.Item z ∷ g.entries;
            end = g.end;
            last = g.last;
            are = (
              s,
              body.Closed,
              IsEntry.further (no_blank_line r f.head (f.tail ++ others.letters) from f.dark_head f.goes_on)
                  (no_line new b r (f.tail ++ others.letters) f.head i from f.dark_head) here refl,
              g.are,
            );
            whole = g.whole;
            same_lines = g.same_lines;
            same_items = ap (λ (l : List AstItem). map bare_item l) (one_item behind z (gathered g.entries).1 not_blank)
                ∙ (ap (λ (w : AstItem). w ∷ map bare_item (one_blank false (gathered g.entries).1)) same
                ∙ (ap (λ (l : List AstItem). bare_item x ∷ l) g.same_items ∙ sym (ap (λ (l : List AstItem). map bare_item l) (one_item behind x items n))));
          };
    }

-- a recipe with its body
abbrev pub with_body : AstRecipe → List Line → AstRecipe
with_body x lines = record x { body = lines }

-- the line of a recipe before its body and others
pub recipe_more : (new : List ℕ) (behind : Bool) (b : Body) (x : AstRecipe) (lines : List Line) (items : List AstItem) → IsIndentation new
    → OutsideBack new (entry.Recipe x) → Rest new false body.Begins lines items → Rest new behind (renewed new b) [] (tree.Recipe (with_body x lines) ∷ items)
recipe_more new behind b x lines items i f others =
    let lines_text : List ℕ = flat_map (printed_line new) lines in
    let items_text : List ℕ = flat_map (printed_item new) (one_blank false items) in
    let attributes_text : List ℕ = printed_attributes x.attributes in
    let moved : (attributes_text ++ (printed_recipe_line x ++ lines_text)) ++ items_text ≡ (attributes_text ++ printed_recipe_line x) ++ (lines_text ++ items_text) =
    ap (λ (l : List ℕ). l ++ items_text) (sym (append_assoc attributes_text (printed_recipe_line x) lines_text))
    ∙ append_assoc (attributes_text ++ printed_recipe_line x) lines_text items_text in
    record {
      letters = f.letters ++ others.letters;
      encoded = moved ∙ joined_text (attributes_text ++ printed_recipe_line x) (lines_text ++ items_text) f.letters others.letters f.encoded others.encoded;
      again = λ r h.
          let (s, y, is, left, shape) = f.again r others.letters h in
          let (z, e, same) = recipe_of y (bare_recipe x) shape in
          let g = others.again s left in
          let from : r.rest ≡ f.head ∷ (f.tail ++ others.letters) = h ∙ ap (λ (l : List ℕ). l ++ others.letters) f.begins_so in
          let here : IsItem r s (entry.Recipe z) = subst (λ (w : Entry). IsItem r s w) e is in
          record {
            entries = entry.Recipe z ∷ g.entries;
            end = g.end;
            last = g.last;
            are = (
              s,
              body.Begins,
              IsEntry.further (no_blank_line r f.head (f.tail ++ others.letters) from f.dark_head f.goes_on)
                  (no_line new b r (f.tail ++ others.letters) f.head i from f.dark_head) here refl,
              g.are,
            );
            whole = g.whole;
            same_lines = refl;
            same_items = ap (λ (w : AstRecipe). tree.Recipe (record w { body = map bare_line (gathered g.entries).0 }) ∷ map bare_item (one_blank false (gathered g.entries).1)) same
                ∙ (ap (λ (l : List Line). tree.Recipe (record (bare_recipe x) { body = l }) ∷ map bare_item (one_blank false (gathered g.entries).1)) g.same_lines
                ∙ ap (λ (l : List AstItem). tree.Recipe (bare_recipe (with_body x lines)) ∷ l) g.same_items);
          };
    }
