-- A loop that collects what a reader gives: what is still to come, behind what was found.
use Rattle.std.proofs.Common.{◌≡◌, ◌<◌, Bool, true, false, List, [], ◌∷◌, ◌++◌, length, Ok, Err, append-nil, append_assoc, refl, ap, ◌∙◌}
use Rattle.just_lang_read.specs.Place.{Place}
use Rattle.just_lang_read.specs.Reader.{Outcome, Reader, and_then, pure, many}
use Rattle.just_lang_read.specs.declared.error.ReadError.{ReadError}
use Rattle.just_lang_read.proofs.Laws.{many_end, many_more, many_wrong}

-- the values that were found, and those that the loop is still to read
unfoldable pub to_come : {A : Type 0} → (Place → Bool) → Reader A → List A → Reader (List A)
to_come more one found = λ p. and_then (many more one p) (λ xs. pure (found ++ xs))

-- a value is found, or still to come
further : {A : Type 0} (o : Outcome (List A)) (found : List A) (x : A)
    → and_then (and_then o (λ xs. pure (x ∷ xs))) (λ xs. pure (found ++ xs)) ≡ and_then o (λ xs. pure ((found ++ x ∷ []) ++ xs))
further (Err e) found x = refl
further {A} (Ok s) found x = rw (append_assoc found (x ∷ []) s.0) refl

module _ {A : Type 0} (more : Place → Bool) (one : Reader A)
    (shorter : (p q : Place) (x : A) → more p ≡ true → one p ≡ Ok (x, q) → length q.rest < length p.rest) where
  -- a further value that is read is one that was found
  pub more_is : (p q : Place) (x : A) (found : List A) → more p ≡ true → one p ≡ Ok (x, q) → to_come more one found p ≡ to_come more one (found ++ x ∷ []) q
  unfolding to_come
  more_is p q x found m o =
      ap (λ (r : Outcome (List A)). and_then r (λ xs. pure (found ++ xs))) (many_more more one shorter p q x m o) ∙ further (many more one q) found x

  -- where no further one begins, all were found
  pub end_is : (p : Place) (found : List A) → more p ≡ false → to_come more one found p ≡ Ok (found, p)
  unfolding to_come
  end_is p found m =
      ap (λ (r : Outcome (List A)). and_then r (λ xs. pure (found ++ xs))) (many_end more one shorter p m) ∙ rw (append-nil found) refl

  -- where a further one begins that isn't read, the loop is refused as it is
  pub wrong_is : (p : Place) (found : List A) (e : ReadError) → more p ≡ true → one p ≡ Err e → to_come more one found p ≡ Err e
  unfolding to_come
  wrong_is p found e m o = ap (λ (r : Outcome (List A)). and_then r (λ xs. pure (found ++ xs))) (many_wrong more one shorter p e m o)
