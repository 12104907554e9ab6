-- Items one by one, without a blank line behind another.
use Rattle.std.proofs.Common.{◌≡◌, ℕ, Bool, true, false, not, ◌&&◌, List, ◌∷◌, ◌++◌, refl, append_assoc, append-nil}
use Rattle.std.specs.List.{flat_map}
use Rattle.just_lang_syntax.specs.declared.ast.AstItem.{AstItem}
use Rattle.just_print.specs.Printed.{only_if, is_blank_item, one_blank, printed_item}

more_by : (out indentation : List ℕ) (blank behind : Bool) (x : AstItem) (xs : List AstItem) → is_blank_item x ≡ blank
    → (out ++ only_if (not (blank && behind)) (printed_item indentation x)) ++ flat_map (printed_item indentation) (one_blank blank xs)
    ≡ out ++ flat_map (printed_item indentation) (one_blank behind (x ∷ xs))
more_by out i true true x xs h = rw (h, append-nil out) refl
more_by out i true false x xs h = rw (h, append_assoc) refl
more_by out i false behind x xs h = rw (h, append_assoc) refl

-- one more item
pub item_more : (out indentation : List ℕ) (behind : Bool) (x : AstItem) (xs : List AstItem)
    → (out ++ only_if (not (is_blank_item x && behind)) (printed_item indentation x)) ++ flat_map (printed_item indentation) (one_blank (is_blank_item x) xs)
    ≡ out ++ flat_map (printed_item indentation) (one_blank behind (x ∷ xs))
item_more out i behind x xs = more_by out i (is_blank_item x) behind x xs refl
