-- Each text has a tree without a left-out name, or a fault for which it is refused.
use Rattle.std.proofs.Common.{◌≡◌, ◌⊎◌, inl, inr, ℕ, zero, suc, ◌<◌, Bool, true, false, List, [], ◌∷◌, ◌++◌, length, Option, Some, None, Ok, Err, refl, sym, ◌∙◌, arith}
use Rattle.just_lang_read.specs.Place.{Place, start, is_end}
use Rattle.just_lang_read.specs.Reader.{Outcome}
use Rattle.just_lang_read.specs.declared.error.ReadError.{ReadError}
use Rattle.just_lang_read.specs.declared.error.ReadError.TheVariants as reason
use Rattle.just_lang_syntax.specs.declared.ast.Name.{Name}
use Rattle.just_lang_syntax.specs.declared.ast.AstItem.{AstItem}
use Rattle.just_lang_syntax.specs.declared.entry.Entry.{Entry}
use Rattle.just_lang_syntax.specs.declared.entry.Body.{Body}
use Rattle.just_lang_syntax.specs.declared.entry.Body.TheVariants as body
use Rattle.just_lang_syntax.specs.declared.error.FaultKind.TheVariants.{Syntax, Unsupported, Depth}
use Rattle.just_lang_syntax.specs.declared.error.Fault.{Fault}
use Rattle.just_lang_syntax.specs.declared.error.ParseError.TheVariants as error
use Rattle.just_lang_syntax.specs.File.{AreEntries, IsFile, Stops, items_of, first_left_out}
use Rattle.just_lang_syntax.specs.Faults.{Refuses}
use Rattle.just_lang_syntax.specs.Deep.{IsDeepEntry}
use Rattle.just_lang_syntax.specs.ItemReaders as item
use Rattle.just_lang_syntax.proofs.EntryLaws.{entry_ok, entry_again, entry_lt}
use Rattle.just_lang_syntax.proofs.FileLaws.{one_more}
use Rattle.just_lang_syntax.proofs.FileFaults.{entries_end, left_out_refuses}
use Rattle.just_lang_syntax.proofs.DeepItems.{entry_deep_ok, entry_deep_again}

-- the text has a tree without a left-out name, or is refused
abbrev pub HasTreeOrFault : List ℕ → Type 0
HasTreeOrFault text = ((items : List AstItem) × IsFile text items × (first_left_out items ≡ None)) ⊎ ((f : Fault) × Refuses text (error.Fault f))

-- a text that is entries to its end has a tree, with a left-out name or without one
ends : (text : List ℕ) (items : List AstItem) (o : Option Name) → first_left_out items ≡ o → IsFile text items → HasTreeOrFault text
ends text items None first is = inl (items, is, first)
ends text items (Some name) first is = inr (record { kind = Unsupported; line = name.line; column = name.column }, left_out_refuses text items name is first)

-- where no entry is read the text stops
stops : (text : List ℕ) (p : Place) (b : Body) (xs : List Entry) (e : ReadError) → AreEntries body.Closed (start text) p b xs → is_end p ≡ false → item.entry_at b p ≡ Err e → Stops text p b
stops text p b xs e are goes h =
    record { entries = xs; are = are; goes_on = goes; no_entry = λ q x c i. let no : Err e ≡ Ok ((x, c), q) = sym h ∙ entry_again b p q x c i in let none : ⊥ = cc (no) in none }

-- that isn't too deep
shallow : (text : List ℕ) (p : Place) (b : Body) → Stops text p b → (IsDeepEntry b p → ⊥) → HasTreeOrFault text
shallow text p b s not_deep =
    inr (
      record { kind = Syntax; line = p.line; column = p.column },
      (p, b, record { stops = s; line = refl; column = refl; deep = ((λ k. absurd (let no : ⊥ = cc (k) in no)), (λ d. absurd (not_deep d))) }),
    )

-- so it has a fault there
refused : (text : List ℕ) (p : Place) (b : Body) (xs : List Entry) (e : ReadError) → AreEntries body.Closed (start text) p b xs → is_end p ≡ false → item.entry_at b p ≡ Err e → HasTreeOrFault text
refused text p b xs reason.Depth are goes h =
    inr (
      record { kind = Depth; line = p.line; column = p.column },
      (p, b, record { stops = stops text p b xs reason.Depth are goes h; line = refl; column = refl; deep = ((λ k. entry_deep_ok b p h), (λ d. refl)) }),
    )
refused text p b xs reason.Syntax are goes h =
    shallow text p b (stops text p b xs reason.Syntax are goes h)
    (λ d. let no : Err reason.Syntax ≡ Err reason.Depth = sym h ∙ entry_deep_again b p d in let none : ⊥ = cc (no) in none)
refused text p b xs reason.NoMemory are goes h =
    shallow text p b (stops text p b xs reason.NoMemory are goes h)
    (λ d. let no : Err reason.NoMemory ≡ Err reason.Depth = sym h ∙ entry_deep_again b p d in let none : ⊥ = cc (no) in none)

-- from any place on to which entries lead, and where fewer than so many characters are left
abbrev From : List ℕ → ℕ → Type 0
From text n = (p : Place) (b : Body) (xs : List Entry) → length p.rest < n → AreEntries body.Closed (start text) p b xs → HasTreeOrFault text

-- an entry takes a character, so fewer are left behind it
from_entry : (text : List ℕ) (n : ℕ) → From text n → (p : Place) (b : Body) (xs : List Entry) (o : Outcome (Entry × Body)) → length p.rest < suc n
    → AreEntries body.Closed (start text) p b xs → is_end p ≡ false → item.entry_at b p ≡ o → HasTreeOrFault text
from_entry text n further p b xs (Ok ((x, c), q)) less are e h =
    further q c (xs ++ x ∷ []) (omega (arith, less, entry_lt b p q x c h)) (one_more body.Closed (start text) p q b c xs x are (entry_ok b p q x c h))
from_entry text n further p b xs (Err r) less are e h = refused text p b xs r are e h

from_end : (text : List ℕ) (n : ℕ) → From text n → (p : Place) (b : Body) (xs : List Entry) (e : Bool) → length p.rest < suc n → AreEntries body.Closed (start text) p b xs
    → is_end p ≡ e → HasTreeOrFault text
from_end text n further p b xs true less are e = ends text (items_of xs) (first_left_out (items_of xs)) refl (entries_end text p b xs are e)
from_end text n further p b xs false less are e = from_entry text n further p b xs (item.entry_at b p) less are e refl

from_place : (text : List ℕ) (n : ℕ) → From text n
from_place text zero p b xs less are = absurd (omega (arith, less))
from_place text (suc n) p b xs less are = from_end text n (from_place text n) p b xs (is_end p) less are refl

-- each text has a tree, or a fault
pub tree_or_fault : (text : List ℕ) → HasTreeOrFault text
tree_or_fault text = from_place text (suc (length text)) (start text) body.Closed [] (omega arith) (refl, refl)
