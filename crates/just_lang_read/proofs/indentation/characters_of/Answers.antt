-- Characters that are collected in order are those of the text.
use Rattle.std.proofs.Common.{rules, ◌≡◌, ℕ, List, [], ◌∷◌, ◌++◌, ◌∙◌, length, append_assoc, refl, sym, ap, arith}
use Rattle.std.proofs.lemmas.List.{append-nil}
use Rattle.std.proofs.lemmas.Str.{chars_from_encodes, encodes-append}
use lib.Utf8.{encodes}
use Rattle.just_lang_read.proofs.indentation.characters_of.Goals as goal

none_left : (text : List ℕ) → length text ≡ 0 → text ≡ []
none_left [] e = refl
none_left (c ∷ text) e = absurd (omega (arith, e))

pub characters-preserved : goal.characters-preserved
characters-preserved c = search (rules, append_assoc, encodes-append)

pub returns : goal.returns
returns c =
    let items = c.characters.characters.items in
    let none : c.characters.character-iterator.rest.now ≡ [] = none_left c.characters.character-iterator.rest.now c.in-None.ensures.steps.0.0 in
    chars_from_encodes items c.args.text.now c.utf8.text (sym (append-nil (encodes items)) ∙ ap (λ r. encodes items ++ r) (sym none) ∙ c.characters.invariant)
