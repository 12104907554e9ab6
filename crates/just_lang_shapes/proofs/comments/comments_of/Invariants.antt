-- The table has the places of the items so far, and what the last of them says.
use Rattle.std.proofs.Common.{◌≡◌, ℕ, take}
use Rattle.std.specs.Prelude.{None}
use Rattle.std.specs.Option.{option_copied}
use Rattle.just_lang_shapes.specs.Comments.{found_at, above_from}
use Rattle.just_lang_shapes.proofs.Above.{last_said}
use Rattle.just_lang_shapes.proofs.comments.comments_of.Given as goal

abbrev pub invariant-items : goal.invariant-items
invariant-items l =
    record {
      table : (place : ℕ × ℕ) → found_at l.table place ≡ above_from None (take l.item-index l.items) place;
      above : option_copied l.above ≡ last_said None (take l.item-index l.items);
    }
