-- Refusals of a text: one fault at most, none where the text has a tree, and what the code tells is right.
use Rattle.std.proofs.Common.{◌≡◌, ◌≢◌, ◌↔◌, ℕ, ◌<◌, true, false, List, [], ◌∷◌, ◌++◌, length, Option, Some, None, Ok, Err, refl, sym, ap, ◌∙◌, subst}
use Rattle.just_lang_read.specs.Place.{Place, start, is_end}
use Rattle.just_lang_read.specs.Reader.{Outcome}
use Rattle.just_lang_read.specs.declared.error.ReadError.{ReadError}
use Rattle.just_lang_read.specs.declared.error.ReadError.TheVariants as reason
use Rattle.just_lang_syntax.specs.declared.ast.Name.{Name}
use Rattle.just_lang_syntax.specs.declared.ast.AstItem.{AstItem}
use Rattle.just_lang_syntax.specs.declared.entry.Entry.{Entry}
use Rattle.just_lang_syntax.specs.declared.entry.Body.{Body}
use Rattle.just_lang_syntax.specs.declared.entry.Body.TheVariants as body
use Rattle.just_lang_syntax.specs.declared.error.FaultKind.{FaultKind}
use Rattle.just_lang_syntax.specs.declared.error.FaultKind.TheVariants.{Syntax, Unsupported, Depth}
use Rattle.just_lang_syntax.specs.declared.error.Fault.{Fault}
use Rattle.just_lang_syntax.specs.declared.error.ParseError.{ParseError}
use Rattle.just_lang_syntax.specs.declared.error.ParseError.TheVariants as error
use Rattle.just_lang_syntax.specs.File.{AreEntries, IsFile, Stops, items_of, first_left_out}
use Rattle.just_lang_syntax.specs.Faults.{IsFaultAt, IsLeftOut, TellsFault, Refuses}
use Rattle.just_lang_syntax.specs.Deep.{IsDeepEntry}
use Rattle.just_lang_syntax.specs.ItemReaders as item
use Rattle.just_lang_syntax.specs.EntryReaders.{fault_at, or_fault, entry_or_fault}
use Rattle.just_lang_syntax.proofs.EntryLaws.{entry_ok, entry_again, entry_lt}
use Rattle.just_lang_syntax.proofs.FileLaws.{one_tree, tree_or_stops, stops_once, one_more}
use Rattle.just_lang_syntax.proofs.DeepItems.{entry_deep_ok, entry_deep_again}

-- ---- one refusal

-- a text that has a tree stops nowhere
pub no_fault : (text : List ℕ) (xs : List AstItem) (f : Fault) (p : Place) (b : Body) → IsFile text xs → IsFaultAt text f p b → ⊥
no_fault text xs f p b is at = tree_or_stops text xs p b is at.stops

-- two faults where a text stops are at one place, and both of them too deep or neither
pub same_stop : (text : List ℕ) (f g : Fault) (p q : Place) (b c : Body) → IsFaultAt text f p b → IsFaultAt text g q c
    → (f.line ≡ g.line) × (f.column ≡ g.column) × ((f.kind ≡ Depth) ↔ (g.kind ≡ Depth))
same_stop text f g p q b c i k =
    let (e, h) = stops_once text p q b c i.stops k.stops in (
      i.line ∙ (ap (λ (r : Place). r.line) e ∙ sym k.line),
      i.column ∙ (ap (λ (r : Place). r.column) e ∙ sym k.column),
      (
        (λ d. k.deep.1 (subst (λ (r : Place). IsDeepEntry c r) e (subst (λ (l : Body). IsDeepEntry l p) h (i.deep.0 d)))),
        (λ d. i.deep.1 (subst (λ (r : Place). IsDeepEntry b r) (sym e) (subst (λ (l : Body). IsDeepEntry l q) (sym h) (k.deep.0 d)))),
      ),
    )

-- faults of one kind, line and column are one
same_fault : (f g : Fault) → f.kind ≡ g.kind → f.line ≡ g.line → f.column ≡ g.column → f ≡ g
same_fault f g k l c = rw (k, l, c) refl

-- what two equal options hold is one name
same_name : (a b : Option Name) (x y : Name) → a ≡ Some x → b ≡ Some y → a ≡ b → x ≡ y
same_name a b x y h k e = let both : Some x ≡ Some y = sym h ∙ (e ∙ k) in cc

-- two left-out names that are the first of one text's tree are one
one_left_out : (text : List ℕ) (f g : Fault) → f.kind ≡ g.kind → IsLeftOut text f → IsLeftOut text g → f ≡ g
one_left_out text f g e i k =
    let same : i.name ≡ k.name = same_name (first_left_out i.items) (first_left_out k.items) i.name k.name i.first k.first
    (ap first_left_out (one_tree text i.items k.items i.file k.file)) in
    same_fault f g e (i.line ∙ (ap (λ (n : Name). n.line) same ∙ sym k.line)) (i.column ∙ (ap (λ (n : Name). n.column) same ∙ sym k.column))

-- faults of any two kinds that refuse one text are one
one_kind : (text : List ℕ) (f g : Fault) (a b : FaultKind) → f.kind ≡ a → g.kind ≡ b → TellsFault text f a → TellsFault text g b → f ≡ g
one_kind text f g Syntax Syntax i j (p, b, s) (q, c, t) = let (l, m, d) = same_stop text f g p q b c s t in same_fault f g (i ∙ sym j) l m
one_kind text f g Syntax Depth i j (p, b, s) (q, c, t) = let (l, m, d) = same_stop text f g p q b c s t in let e = d.1 j in let no : Syntax ≡ Depth = sym i ∙ e in absurd (let none : ⊥ = cc (no) in none)
one_kind text f g Depth Syntax i j (p, b, s) (q, c, t) = let (l, m, d) = same_stop text f g p q b c s t in let e = d.0 i in let no : Syntax ≡ Depth = sym j ∙ e in absurd (let none : ⊥ = cc (no) in none)
one_kind text f g Depth Depth i j (p, b, s) (q, c, t) = let (l, m, d) = same_stop text f g p q b c s t in same_fault f g (i ∙ sym j) l m
one_kind text f g Unsupported Unsupported i j s t = one_left_out text f g (i ∙ sym j) s t
one_kind text f g Unsupported Syntax i j s (q, c, t) = absurd (no_fault text s.items g q c s.file t)
one_kind text f g Unsupported Depth i j s (q, c, t) = absurd (no_fault text s.items g q c s.file t)
one_kind text f g Syntax Unsupported i j (p, b, s) t = absurd (no_fault text t.items f p b t.file s)
one_kind text f g Depth Unsupported i j (p, b, s) t = absurd (no_fault text t.items f p b t.file s)

-- a text is refused with one fault at most
pub same_refusal : (text : List ℕ) (f g : Fault) → Refuses text (error.Fault f) → Refuses text (error.Fault g) → f ≡ g
same_refusal text f g r s = one_kind text f g f.kind g.kind refl refl r s

-- no option is none and holds a name
not_both : (a b : Option Name) (x : Name) → a ≡ None → b ≡ Some x → a ≡ b → ⊥
not_both a b x h k e = let both : None ≡ Some x = sym h ∙ (e ∙ k) in let no : ⊥ = cc (both) in no

-- no kind of fault is told of a text that has a tree without a left-out name
not_told : (text : List ℕ) (xs : List AstItem) (f : Fault) (a : FaultKind) → IsFile text xs → first_left_out xs ≡ None → TellsFault text f a → ⊥
not_told text xs f Syntax is none (p, b, s) = no_fault text xs f p b is s
not_told text xs f Depth is none (p, b, s) = no_fault text xs f p b is s
not_told text xs f Unsupported is none s =
    not_both (first_left_out xs) (first_left_out s.items) s.name none s.first (ap first_left_out (one_tree text xs s.items is s.file))

-- a text that has a tree without a left-out name isn't refused
pub not_refused : (text : List ℕ) (xs : List AstItem) (f : Fault) → IsFile text xs → first_left_out xs ≡ None → Refuses text (error.Fault f) → ⊥
not_refused text xs f is none r = not_told text xs f f.kind is none r

-- the only error of a text that has such a tree is want of memory
pub only_memory : (text : List ℕ) (e : ParseError) → Refuses text e → (xs : List AstItem) → IsFile text xs → first_left_out xs ≡ None → e ≡ error.NoMemory
only_memory text (error.Fault f) r xs is none = absurd (not_refused text xs f is none r)
only_memory text error.NoMemory r xs is none = refl

-- and its only answer is its tree
pub only_tree : (text : List ℕ) (xs : List AstItem) → IsFile text xs → (ys : List AstItem) → IsFile text ys → first_left_out ys ≡ None → xs ≡ ys
only_tree text xs f ys g none = one_tree text xs ys f g

-- ---- what the code tells

-- the entry that is read
read_entry : (p : Place) (o : Outcome (Entry × Body)) (s : (Entry × Body) × Place) → or_fault p o ≡ Ok s → o ≡ Ok s
read_entry p (Ok t) s h = let same : t ≡ s = cc in ap Ok same
read_entry p (Err e) s h = absurd (let no : ⊥ = cc (h) in no)

-- an entry that is read follows those in front of it
pub entries_more : (text : List ℕ) (p q : Place) (b c : Body) (xs : List Entry) (x : Entry) → AreEntries body.Closed (start text) p b xs
    → entry_or_fault b p ≡ Ok ((x, c), q) → AreEntries body.Closed (start text) q c (xs ++ x ∷ [])
unfolding entry_or_fault
entries_more text p q b c xs x are h =
    one_more body.Closed (start text) p q b c xs x are (entry_ok b p q x c (read_entry p (item.entry_at b p) ((x, c), q) h))

-- and takes a character
pub entry_shorter : (p q : Place) (b c : Body) (x : Entry) → entry_or_fault b p ≡ Ok ((x, c), q) → length q.rest < length p.rest
unfolding entry_or_fault
entry_shorter p q b c x h = entry_lt b p q x c (read_entry p (item.entry_at b p) ((x, c), q) h)

-- entries up to the end are a tree
pub entries_end : (text : List ℕ) (p : Place) (b : Body) (xs : List Entry) → AreEntries body.Closed (start text) p b xs → is_end p ≡ true → IsFile text (items_of xs)
entries_end text p b xs are e = record { entries = xs; end = p; last = b; are = are; whole = e; made = refl }

-- where no entry is read the text stops
stops_at : (text : List ℕ) (p : Place) (b : Body) (xs : List Entry) (e : ReadError) → AreEntries body.Closed (start text) p b xs → is_end p ≡ false
    → item.entry_at b p ≡ Err e → Stops text p b
stops_at text p b xs e are goes h =
    record { entries = xs; are = are; goes_on = goes; no_entry = λ q x c i. let no : Err e ≡ Ok ((x, c), q) = sym h ∙ entry_again b p q x c i in let none : ⊥ = cc (no) in none }

-- the fault at the place where no entry is read refuses the text
tells : (text : List ℕ) (p : Place) (b : Body) (xs : List Entry) (e : ReadError) → AreEntries body.Closed (start text) p b xs → is_end p ≡ false
    → item.entry_at b p ≡ Err e → Refuses text (fault_at p e)
tells text p b xs reason.Syntax are goes h = (
  p,
  b,
  record {
    stops = stops_at text p b xs reason.Syntax are goes h;
    line = refl;
    column = refl;
    deep = (
      (λ k. absurd (let no : ⊥ = cc (k) in no)),
      (λ d. absurd (let no : Err reason.Syntax ≡ Err reason.Depth = sym h ∙ entry_deep_again b p d in let none : ⊥ = cc (no) in none)),
    );
  },
)
tells text p b xs reason.Depth are goes h =
    (p, b, record { stops = stops_at text p b xs reason.Depth are goes h; line = refl; column = refl; deep = ((λ k. entry_deep_ok b p h), (λ d. refl)) })
tells text p b xs reason.NoMemory are goes h = tt

-- the fault that is told where no entry is read refuses the text
pub stop_refuses : (text : List ℕ) (p : Place) (b : Body) (xs : List Entry) (e : ParseError) → AreEntries body.Closed (start text) p b xs → is_end p ≡ false
    → (e ≢ error.NoMemory → entry_or_fault b p ≡ Err e) → Refuses text e
unfolding entry_or_fault
stop_refuses text p b xs error.NoMemory are goes h = tt
stop_refuses text p b xs (error.Fault f) are goes h = told (item.entry_at b p) refl (h (λ k. let no : ⊥ = cc (k) in no))
  where
    told : (o : Outcome (Entry × Body)) → item.entry_at b p ≡ o → or_fault p o ≡ Err (error.Fault f) → Refuses text (error.Fault f)
    told (Ok s) e k = absurd (let no : ⊥ = cc (k) in no)
    told (Err r) e k =
        let same : fault_at p r ≡ error.Fault f = cc in
        subst (λ (t : ParseError). Refuses text t) same (tells text p b xs r are goes e)

-- a left-out name in the tree refuses the text
pub left_out_refuses : (text : List ℕ) (xs : List AstItem) (n : Name) → IsFile text xs → first_left_out xs ≡ Some n
    → Refuses text (error.Fault (record { kind = Unsupported; line = n.line; column = n.column }))
left_out_refuses text xs n is first = record { items = xs; name = n; file = is; first = first; line = refl; column = refl }

-- so such a text has no tree without one
pub only_left_out : (text : List ℕ) (xs : List AstItem) (n : Name) → IsFile text xs → first_left_out xs ≡ Some n → (ys : List AstItem) → IsFile text ys
    → first_left_out ys ≡ None → error.Fault (record { kind = Unsupported; line = n.line; column = n.column }) ≡ error.NoMemory
only_left_out text xs n is first ys g none = only_memory text _ (left_out_refuses text xs n is first) ys g none
