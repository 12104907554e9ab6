-- What the crate offers to the proofs of crates above: a text has one tree at most, and one refusal.
use Rattle.std.proofs.Common.{◌≡◌, ◌↔◌, ◌∙◌, ℕ, List, None}
use Rattle.just_lang_read.specs.Place.{Place}
use Rattle.just_lang_syntax.specs.declared.ast.AstItem.{AstItem}
use Rattle.just_lang_syntax.specs.declared.entry.Body.{Body}
use Rattle.just_lang_syntax.specs.declared.error.FaultKind.TheVariants.{Depth}
use Rattle.just_lang_syntax.specs.declared.error.Fault.{Fault}
use Rattle.just_lang_syntax.specs.declared.error.ParseError.TheVariants as error
use Rattle.just_lang_syntax.specs.File.{IsFile, first_left_out}
use Rattle.just_lang_syntax.specs.Faults.{IsFaultAt, Refuses}
use Rattle.just_lang_syntax.proofs.EntryEnds as ends
use Rattle.just_lang_syntax.proofs.FileLaws as file
use Rattle.just_lang_syntax.proofs.FileFaults as faults

-- a text has one tree at most
pub one_file : (text : List ℕ) (xs ys : List AstItem) → IsFile text xs → IsFile text ys → xs ≡ ys
one_file = file.one_tree

-- a text that has a tree stops nowhere
pub file_or_stops : (text : List ℕ) (xs : List AstItem) (f : Fault) (p : Place) (b : Body) → IsFile text xs → IsFaultAt text f p b → ⊥
file_or_stops = faults.no_fault

-- two faults where a text stops are at one place, and both of them too deep or neither
pub one_fault : (text : List ℕ) (f g : Fault) (p q : Place) (b c : Body) → IsFaultAt text f p b → IsFaultAt text g q c
    → (f.line ≡ g.line) × (f.column ≡ g.column) × ((f.kind ≡ Depth) ↔ (g.kind ≡ Depth))
one_fault = faults.same_stop

-- a text is refused with one fault at most
pub one_refusal : (text : List ℕ) (f g : Fault) → Refuses text (error.Fault f) → Refuses text (error.Fault g) → f ≡ g
one_refusal = faults.same_refusal

-- a text that has a tree without a left-out name isn't refused
pub found_or_refused : (text : List ℕ) (xs : List AstItem) (f : Fault) → IsFile text xs → first_left_out xs ≡ None → Refuses text (error.Fault f) → ⊥
found_or_refused = faults.not_refused

-- a fault where a text stops is in the first column of its line
pub fault_column : (text : List ℕ) (f : Fault) (p : Place) (b : Body) → IsFaultAt text f p b → f.column ≡ 1
fault_column text f p b at = at.column ∙ ends.stop_column text p b at.stops
