-- The files that items name, from an item on.
use Rattle.std.proofs.Common.{◌≡◌, ℕ, ◌+◌, ◌<◌, List, [], ◌∷◌, ◌++◌, length, drop, get_or, Some, None, sym, ap, ◌∙◌, append_assoc}
use Rattle.std.specs.List.{cons_option}
use Rattle.just_lang_syntax.specs.declared.ast.AstItem.{AstItem}
use Rattle.just_lang_types.specs.declared.reference.FileRef.{FileRef}
use Rattle.just_lang_types.specs.References.{reference_in, references_of}
use Rattle.just_lang_types.proofs.Lists.{item_front}

-- an item that names no file
pub go_none : (items : List AstItem) (found : List FileRef) (i : ℕ) (x : AstItem) → i < length items → x ≡ get_or items i x → reference_in x ≡ None → found ++ references_of (drop i items) ≡ references_of items → found ++ references_of (drop (i + 1) items) ≡ references_of items
go_none items found i x h e n s = ap (λ o. found ++ cons_option o (references_of (drop (i + 1) items))) (sym n) ∙ ap (λ xs. found ++ references_of xs) (sym (item_front items i x h e)) ∙ s

-- a file that is named
pub go_some : (items : List AstItem) (found : List FileRef) (i : ℕ) (x : AstItem) (r : FileRef) → i < length items → x ≡ get_or items i x → reference_in x ≡ Some r → found ++ references_of (drop i items) ≡ references_of items → (found ++ r ∷ []) ++ references_of (drop (i + 1) items) ≡ references_of items
go_some items found i x r h e n s = append_assoc found (r ∷ []) (references_of (drop (i + 1) items)) ∙ ap (λ o. found ++ cons_option o (references_of (drop (i + 1) items))) (sym n) ∙ ap (λ xs. found ++ references_of xs) (sym (item_front items i x h e)) ∙ s
