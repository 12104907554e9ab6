-- A child whose word has no ending with effects leaves the files alone, and the endings that are left say so of each word that they said it of.
use Rattle.std.proofs.Common.{ℕ, suc, arith, ◌+◌, ◌≡◌, ◌||◌, ◌&&◌, not, Bool, true, false, cond, List, [], ◌∷◌, Option, Some, None, refl, sym, ap, ◌∙◌}
use Rattle.std.specs.List.{find, remove, position_or_len}
use Rattle.std.specs.Str.{bytes_eq}
use Rattle.just_host_record.specs.declared.tree.Thing.{Thing}
use Rattle.just_host_record.specs.Sights.{Tree}
use Rattle.just_host_memory.specs.declared.plot.Ending.{Ending}
use Rattle.just_host_memory.specs.Playing.{are_none, does_nothing, leave_alone, ending_of, others, after_effects, tree_after}

front : (a b : Bool) → (a && b) ≡ true → a ≡ true
front true b h = refl
front false b h = absurd cc

back : (a b : Bool) → (a && b) ≡ true → b ≡ true
back true b h = h
back false b h = absurd cc

both : (a b : Bool) → a ≡ true → b ≡ true → (a && b) ≡ true
both true b one two = two
both false b one two = absurd cc

-- an ending of the word has no effects, where it does nothing
of_word : (same none : Bool) → same ≡ true → (not same || none) ≡ true → none ≡ true
of_word true none e h = h
of_word false none e h = absurd cc

no_effects : (folder : List ℕ) (tree : Tree) (es : List (List ℕ × Option Thing)) → are_none es ≡ true → after_effects folder tree es ≡ tree
no_effects folder tree [] h = refl
no_effects folder tree (e ∷ es) h = absurd cc

-- an ending without effects does nothing, whatever the word
nothing : (same none : Bool) → none ≡ true → (not same || none) ≡ true
nothing true none h = h
nothing false none h = refl

-- one place further from the front
one_more : (n : ℕ) → 1 + n ≡ suc n
one_more n = omega arith

behind : (e : Ending) (es : List Ending) (n : ℕ) → remove (e ∷ es) (1 + n) ≡ e ∷ remove es n
behind e es n = ap (λ k. remove (e ∷ es) k) (one_more n)

module _ (word : List ℕ) where
  abbrev is_of : Ending → Bool
  is_of e = bytes_eq e.word word

  -- the first ending of the word has no effects
  first_none : (e : Ending) (es : List Ending) → is_of e ≡ true → leave_alone (e ∷ es) word ≡ true → are_none e.effects.items ≡ true
  first_none e es is h = of_word (is_of e) (are_none e.effects.items) is (front (does_nothing word e) (leave_alone es word) h)

  the_others : (e : Ending) (es : List Ending) → leave_alone (e ∷ es) word ≡ true → leave_alone es word ≡ true
  the_others e es h = back (does_nothing word e) (leave_alone es word) h

  alone_from : (folder : List ℕ) (tree : Tree) (e : Ending) (es : List Ending) (b : Bool) → is_of e ≡ b → leave_alone (e ∷ es) word ≡ true
      → tree_after folder tree (ending_of word es) ≡ tree → tree_after folder tree (ending_of word (e ∷ es)) ≡ tree
  alone_from folder tree e es true is h rest =
      ap (λ b. tree_after folder tree (cond b (Some e) (ending_of word es))) is ∙ no_effects folder tree e.effects.items (first_none e es is h)
  alone_from folder tree e es false is h rest = ap (λ b. tree_after folder tree (cond b (Some e) (ending_of word es))) is ∙ rest

  -- the files behind the first ending of the word
  pub left_alone : (folder : List ℕ) (tree : Tree) (es : List Ending) → leave_alone es word ≡ true → tree_after folder tree (ending_of word es) ≡ tree
  left_alone folder tree [] h = refl
  left_alone folder tree (e ∷ es) h = alone_from folder tree e es (is_of e) refl h (left_alone folder tree es (the_others e es h))

  -- the endings that are left, where the first one is of the word or isn't
  abbrev left : Bool → Ending → List Ending → List Ending
  left b e es = remove (e ∷ es) (cond (not b) (1 + position_or_len is_of es) 0)

  as_before_from : (w : List ℕ) (e : Ending) (es : List Ending) (b : Bool) → is_of e ≡ b → leave_alone (e ∷ es) word ≡ true
      → leave_alone (others word es) w ≡ leave_alone es w → leave_alone (others word (e ∷ es)) w ≡ leave_alone (e ∷ es) w
  as_before_from w e es true is h rest =
      ap (λ b. leave_alone (left b e es) w) is
      ∙ ap (λ b. b && leave_alone es w) (sym (nothing (bytes_eq e.word w) (are_none e.effects.items) (first_none e es is h)))
  as_before_from w e es false is h rest =
      ap (λ b. leave_alone (left b e es) w) is ∙ ap (λ xs. leave_alone xs w) (behind e es (position_or_len is_of es)) ∙ ap (λ b. does_nothing w e && b) rest

  -- what the other endings say of any word they said with that one
  pub as_before : (w : List ℕ) (es : List Ending) → leave_alone es word ≡ true → leave_alone (others word es) w ≡ leave_alone es w
  as_before w [] h = refl
  as_before w (e ∷ es) h = as_before_from w e es (is_of e) refl h (as_before w es (the_others e es h))

  stay_from : (w : List ℕ) (e : Ending) (es : List Ending) (b : Bool) → is_of e ≡ b → leave_alone (e ∷ es) w ≡ true
      → leave_alone (others word es) w ≡ true → leave_alone (others word (e ∷ es)) w ≡ true
  stay_from w e es true is h rest = ap (λ b. leave_alone (left b e es) w) is ∙ back (does_nothing w e) (leave_alone es w) h
  stay_from w e es false is h rest =
      ap (λ b. leave_alone (left b e es) w) is ∙ ap (λ xs. leave_alone xs w) (behind e es (position_or_len is_of es))
      ∙ both (does_nothing w e) (leave_alone (others word es) w) (front (does_nothing w e) (leave_alone es w) h) rest

  -- whatever the first ending of the word does, the others do nothing for a word for which none did anything
  pub stay_alone : (w : List ℕ) (es : List Ending) → leave_alone es w ≡ true → leave_alone (others word es) w ≡ true
  stay_alone w [] h = refl
  stay_alone w (e ∷ es) h = stay_from w e es (is_of e) refl h (stay_alone w es (back (does_nothing w e) (leave_alone es w) h))
