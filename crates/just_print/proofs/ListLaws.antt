-- The items of a list from a place on are the one there and those behind it.
use Rattle.std.proofs.Common.{◌≡◌, ℕ, ◌+◌, ◌<◌, List, [], ◌∷◌, ◌++◌, length, drop, drop-cons, add-one, append_assoc, get_or, encode_utf8, refl, sym, ap, ◌∙◌}
use Rattle.just_print.specs.SmallTexts.{before_item, ticked, items_from, item_text, seen, shown_all}

pub item_here : (word : List ℕ) (at : ℕ) (items : List (List ℕ)) → at < length items
    → items_from word (length items) at (drop at items) ≡ item_text word items at ++ items_from word (length items) (at + 1) (drop (at + 1) items)
item_here word at items h =
    (rw (add-one, drop-cons items at []) refl)
    ∙ sym (append_assoc (before_item word (length items) at) (ticked (get_or items at [])) (items_from word (length items) (at + 1) (drop (at + 1) items)))

-- characters from a place on are shown as the one there and those behind it
pub character_here : (at d : ℕ) (characters : List ℕ) → at < length characters
    → shown_all (drop at characters) ≡ encode_utf8 (seen (get_or characters at d)) ++ shown_all (drop (at + 1) characters)
character_here at d characters h = rw (add-one, drop-cons characters at d) refl
