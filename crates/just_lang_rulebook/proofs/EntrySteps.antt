-- One more of some items.
use Rattle.std.proofs.Common.{◌≡◌, ℕ, ◌+◌, ◌<◌, List, drop, length, get_or, Option, sym, ap, ◌∙◌}
use Rattle.std.specs.List.{flat_map}
use Rattle.just_lang_syntax.specs.declared.ast.AstItem.{AstItem}
use Rattle.just_lang_spots.specs.declared.spot.Spot.{Spot}
use Rattle.just_lang_spots.specs.declared.entries.Entry.{Entry}
use Rattle.just_lang_spots.specs.Spots.{earlier, first_spot}
use Rattle.just_lang_spots.specs.Entries.{entries}
use Rattle.just_lang_spots.proofs.Spots.{first_behind}
use Rattle.just_lang_spots.proofs.ListLaws.{entries_drop}

-- one more item: what was found behind it, and what is still to come
pub items_step : (f : ℕ → AstItem → List Spot) (found here next : Option Spot) (items : List Entry) (i : ℕ) (x : Entry) → i < length items → x ≡ get_or items i x
    → here ≡ first_spot (f x.file x.item.now) → next ≡ earlier found here
    → earlier next (first_spot (flat_map (λ y. f y.0 y.1) (entries (drop (i + 1) items)))) ≡ earlier found (first_spot (flat_map (λ y. f y.0 y.1) (entries (drop i items))))
items_step f found here next items i x less is h k =
    ap (λ (o : Option Spot). earlier o (first_spot (flat_map (λ y. f y.0 y.1) (entries (drop (i + 1) items))))) (k ∙ ap (earlier found) h)
    ∙ sym (first_behind found (f x.file x.item.now) (flat_map (λ y. f y.0 y.1) (entries (drop (i + 1) items))))
    ∙ ap (λ (ys : List (ℕ × AstItem)). earlier found (first_spot (flat_map (λ y. f y.0 y.1) ys))) (sym (entries_drop items i x less is))
