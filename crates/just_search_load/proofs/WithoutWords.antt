-- A source in whose text neither `import` nor `mod` stands names no file.
use Rattle.std.proofs.Common.{◌≡◌, inl, inr, ℕ, true, false, List, [], ◌∷◌, ◌++◌, Option, append_assoc, codes, refl, sym, ap, ◌∙◌, subst, ◌==◌}
use Rattle.std.specs.Prelude.{chars, Ok, None}
use Rattle.std.specs.Str.{IsUtf8}
use Rattle.std.specs.Str.Iter.{HasSubslice}
use Rattle.std.specs.Str.Pattern.{FindsText}
use Rattle.std.proofs.Math.Utf8.{encode, encodes}
use Rattle.std.proofs.lemmas.Bool.{false≢true}
use Rattle.std.proofs.lemmas.Str.{encodes-chars, encodes-append}
use Rattle.std.proofs.lemmas.Str.Pattern.{contains_text}
use Rattle.just_lang_read.specs.Place.{Place, start, begins_in}
use Rattle.just_lang_read.specs.Lines.{IsToken}
use Rattle.just_lang_read.proofs.Laws.{and_true, is_of}
use Rattle.just_lang_syntax.specs.declared.ast.Line.{Line}
use Rattle.just_lang_syntax.specs.declared.ast.AstItem.{AstItem}
use Rattle.just_lang_syntax.specs.declared.ast.AstItem.TheVariants as item
use Rattle.just_lang_syntax.specs.declared.entry.Entry.{Entry}
use Rattle.just_lang_syntax.specs.declared.entry.Entry.TheVariants as entry
use Rattle.just_lang_syntax.specs.declared.entry.Body.{Body}
use Rattle.just_lang_syntax.specs.declared.entry.Body.TheVariants as body
use Rattle.just_lang_syntax.specs.Items.{IsItem}
use Rattle.just_lang_syntax.specs.Items.IsItem.{comment as comment_item, alias as alias_item, import as import_item, module_alone, assignment as assignment_item, export as export_item, unexport as unexport_item, setting_item, attributed_module, recipe as recipe_item}
use Rattle.just_lang_syntax.specs.File.{IsEntry, AreEntries, gather_one, gathered, items_of}
use Rattle.just_lang_syntax.specs.File.IsEntry.{blank, body_line, further}
use Rattle.just_lang_types.specs.declared.source.Source.{Source}
use Rattle.just_lang_layout.specs.Paths.{Pairs}
use Rattle.just_host_record.specs.World.{World}
use Rattle.just_search_load.specs.Gathers.{Gathers, Adds}
use Rattle.just_search_load.specs.Named.{ItemNames, SourceNames}
use Rattle.just_search_load.proofs.Naming.{adds_nothing}
use Rattle.just_search_load.proofs.Behind.{IsBehind}
use Rattle.just_search_load.proofs.BehindItems.{attributes_behind, entry_behind}
use Rattle.just_search_load.proofs.TreeOrFault.{HasTreeOrFault, tree_or_fault}

-- ---- words

-- the word doesn't stand in the text from the place on
abbrev pub Lacks : List ℕ → Place → Type 0
Lacks word p = (front back : List ℕ) → p.rest ≡ front ++ (word ++ back) → ⊥

-- nor does it from a place behind that one
lacks_behind : (word : List ℕ) (p q : Place) → IsBehind p q → Lacks word p → Lacks word q
lacks_behind word p q i lacks front back e = lacks (i.front ++ front) back (i.is ∙ (ap (λ (t : List ℕ). i.front ++ t) e ∙ sym (append_assoc i.front front (word ++ back))))

-- a text that begins with a word is that word and what follows it
begins_is : (word rest : List ℕ) → begins_in word rest ≡ true → (back : List ℕ) × (rest ≡ word ++ back)
begins_is [] rest h = (rest, refl)
begins_is (c ∷ word) [] h = absurd (false≢true h)
begins_is (c ∷ word) (d ∷ rest) h =
    let (first, others) = and_true (d == c) (begins_in word rest) h in
    let (back, is) = begins_is word rest others in
    (back, ap (λ (e : ℕ). e ∷ rest) (is_of d c first) ∙ ap (λ (t : List ℕ). c ∷ t) is)

-- so the word isn't read there
not_token : (word : List ℕ) (p q : Place) → Lacks word p → IsToken word p q → ⊥
not_token word p q lacks t = let (back, is) = begins_is word p.rest t.0 in lacks [] back is

-- a word that doesn't stand in the bytes of a text doesn't stand in its characters
characters_lack : (word text : List ℕ) → encodes word ≡ word → IsUtf8 text → (HasSubslice text word → ⊥) → Lacks word (start (chars text))
characters_lack word text same utf8 lacks front back e =
    let after : encodes (word ++ back) ≡ word ++ encodes back = encodes-append word back ∙ ap (λ (t : List ℕ). t ++ encodes back) same in
    let whole : encodes (chars text) ≡ encodes front ++ (word ++ encodes back) = ap encodes e ∙ (encodes-append front (word ++ back) ∙ ap (λ (t : List ℕ). encodes front ++ t) after) in
    lacks (encodes front, encodes back, sym (encodes-chars text utf8) ∙ whole)

-- nor does a word that isn't found in it
not_found : (word text own : List ℕ) → encodes word ≡ word → text ≡ own → IsUtf8 text → FindsText word text None → Lacks word (start (chars own))
not_found word text own same is utf8 nowhere =
    subst (λ (t : List ℕ). Lacks word (start (chars t))) is (characters_lack word text same utf8 (λ h. false≢true ((contains_text false word text nowhere).1 h)))

-- ---- items

module _ (told : Option World) (environ : Pairs) (root : List ℕ) where
  -- an entry makes no item that names a file
  abbrev NamesNone : Entry → Type 0
  NamesNone (entry.Blank number) = Unit {0}
  NamesNone (entry.Item x) = ItemNames told environ root x (Ok [])
  NamesNone (entry.Recipe x) = Unit {0}
  NamesNone (entry.Line x) = Unit {0}

  -- an item where neither word stands names none
  item_names_none : (p q : Place) (x : Entry) → Lacks (codes "import") p → Lacks (codes "mod") p → IsItem p q x → NamesNone x
  item_names_none p q x no_import no_mod (comment_item t e i z) = rw z refl
  item_names_none p q x no_import no_mod (alias_item y e (m, n, o, r, name, target, c, a, i, t, ns, re, w) z) = rw (z, w) refl
  item_names_none p q x no_import no_mod (import_item y e (m, n, o, optional, s, c, a, b, st, re, w) z) = absurd (not_token (codes "import") p m no_import a)
  item_names_none p q x no_import no_mod (module_alone y e (m, n, o, r, optional, name, s, c, a, b, i, ps, re, w) z) = absurd (not_token (codes "mod") p m no_mod a)
  item_names_none p q x no_import no_mod (assignment_item y e (m, n, o, name, v, c, i, t, k, re, w) z) = rw (z, w) refl
  item_names_none p q x no_import no_mod (export_item l y e u (m, n, o, name, v, c, i, t, k, re, w) z) = rw (z, w) refl
  item_names_none p q x no_import no_mod (unexport_item y e (m, n, name, c, a, i, re, w) z) = rw (z, w) refl
  item_names_none p q x no_import no_mod (setting_item y e (m, n, o, name, v, c, a, i, k, re, w) z) = rw (z, w) refl
  item_names_none p q x no_import no_mod (attributed_module l xs y e are h (m, n, o, r, optional, name, s, c, a, b, i, ps, re, w) z) =
      absurd (not_token (codes "mod") l m (lacks_behind (codes "mod") p l (attributes_behind p l xs are) no_mod) a)
  item_names_none p q x no_import no_mod (recipe_item l xs y e are h i z) = rw z tt

  entry_names_none : (b : Body) (p q : Place) (x : Entry) (c : Body) → Lacks (codes "import") p → Lacks (codes "mod") p → IsEntry b p q x c → NamesNone x
  entry_names_none b p q x c no_import no_mod (blank i z w) = rw z tt
  entry_names_none b p q x c no_import no_mod (body_line indentation y n e i z w) = rw z tt
  entry_names_none b p q x c no_import no_mod (further n m i w) = item_names_none p q x no_import no_mod i

  -- such an entry in front of items that name none
  gather_names_none : (x : Entry) (lines : List Line) (items : List AstItem) → NamesNone x → Gathers (ItemNames told environ root) items (Ok [])
      → Gathers (ItemNames told environ root) (gather_one x lines items).1 (Ok [])
  gather_names_none (entry.Blank number) [] items none g = Gathers.more item.Blank items [] [] refl g
  gather_names_none (entry.Blank number) (line ∷ lines) items none g = g
  gather_names_none (entry.Item x) lines items none g = Gathers.more x items [] [] none g
  gather_names_none (entry.Recipe x) lines items none g = Gathers.more (item.Recipe (record x { body = lines })) items [] [] refl g
  gather_names_none (entry.Line x) lines items none g = g

  -- the items of entries where neither word stands
  entries_name_none : (b : Body) (p q : Place) (c : Body) (xs : List Entry) → Lacks (codes "import") p → Lacks (codes "mod") p → AreEntries b p q c xs
      → Gathers (ItemNames told environ root) (items_of xs) (Ok [])
  entries_name_none b p q c [] no_import no_mod are = Gathers.nothing
  entries_name_none b p q c (x ∷ xs) no_import no_mod (m, a, i, are) =
      let step : IsBehind p m = entry_behind b p m x a i in
      gather_names_none x (gathered xs).0 (gathered xs).1 (entry_names_none b p m x a no_import no_mod i)
      (entries_name_none a m q c xs (lacks_behind (codes "import") p m step no_import) (lacks_behind (codes "mod") p m step no_mod) are)

-- ---- sources

-- whether the text has a tree or a fault
either_names_none : (told : Option World) (environ : Pairs) (s : Source) → Lacks (codes "import") (start (chars s.text)) → Lacks (codes "mod") (start (chars s.text))
    → HasTreeOrFault (chars s.text) → SourceNames told environ s (Ok [])
either_names_none told environ s no_import no_mod (inl (items, is, first)) =
    SourceNames.of_items items (is, first)
    (subst (λ (xs : List AstItem). Gathers (ItemNames told environ s.root) xs (Ok [])) (sym is.made)
    (entries_name_none told environ s.root body.Closed (start (chars s.text)) is.end is.last is.entries no_import no_mod is.are))
either_names_none told environ s no_import no_mod (inr (f, refuses)) = SourceNames.of_no_text f refuses refl

-- a source in whose text neither word is found names no file, so nothing is added
pub adds_none : (told : Option World) (environ : Pairs) (s : Source) (text : List ℕ) (old : List (List ℕ)) → text ≡ s.text → IsUtf8 text → FindsText (codes "import") text None
    → FindsText (codes "mod") text None → Adds (SourceNames told environ s) old old (Ok tt)
unfolding encode
adds_none told environ s text old is utf8 no_import no_mod =
    adds_nothing (SourceNames told environ s) old
    (either_names_none told environ s (not_found (codes "import") text s.text refl is utf8 no_import) (not_found (codes "mod") text s.text refl is utf8 no_mod) (tree_or_fault (chars s.text)))
