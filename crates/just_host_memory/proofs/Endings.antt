-- The ending that a word is looked up by is the first one of that word.
use Rattle.std.proofs.Common.{◌≡◌, ℕ, zero, suc, ◌<◌, ◌≤◌, Bool, true, false, cond, ltb, List, [], ◌∷◌, length, get_or, Option, Some, None, refl, ap, ◌∙◌, arith}
use Rattle.std.specs.List.{position, position_or_len, slice_get}
use Rattle.std.specs.Str.{bytes_eq}
use Rattle.std.proofs.lemmas.Bool.Decides.{nat_tests}
use Rattle.std.proofs.lemmas.Option.{slice_get_read}
use Rattle.std.proofs.lemmas.List.Folds.{find_at}
use Rattle.just_host_memory.specs.declared.plot.Ending.{Ending}
use Rattle.just_host_memory.specs.Playing.{ending_of}

-- the place of the first ending, where there is one
first_place : (b : Bool) (n i : ℕ) → ◌≡◌ {A = Option ℕ} (cond b (Some n) None) (Some i) → (b ≡ true) × (n ≡ i)
first_place true n i e = (refl, cc)
first_place false n i e = absurd cc

-- where no place is answered, the test doesn't hold
no_place : (b : Bool) (n : ℕ) → ◌≡◌ {A = Option ℕ} (cond b (Some n) None) None → b ≡ false
no_place true n e = absurd cc
no_place false n e = refl

-- behind the end of a list nothing is found
past_end : {X : Type 0} (xs : List X) (n : ℕ) → length xs ≤ n → slice_get xs n ≡ None
past_end [] n h = refl
past_end (x ∷ xs) zero h = absurd (omega arith)
past_end (x ∷ xs) (suc n) h = past_end xs n (omega arith)

-- the ending at the place that was found is the first of its word
pub found : (word : List ℕ) (es : List Ending) (i : ℕ) (e : Ending) → position (λ x. bytes_eq x.word word) es ≡ Some i → e ≡ get_or es i e → ending_of word es ≡ Some e
found word es i e at is =
    let place = first_place (ltb (position_or_len (λ x. bytes_eq x.word word) es) (length es)) (position_or_len (λ x. bytes_eq x.word word) es) i at in
    let inside : i < length es = grind (arith, nat_tests, place.0, place.1) in
    find_at (λ x. bytes_eq x.word word) es ∙ ap (slice_get es) place.1 ∙ slice_get_read es (length es) i e refl inside is

-- what is read at that place twice is the same ending
pub same_ending : (word : List ℕ) (es : List Ending) (i : ℕ) (e f : Ending) → position (λ x. bytes_eq x.word word) es ≡ Some i → e ≡ get_or es i e → f ≡ get_or es i f → e ≡ f
same_ending word es i e f at is too =
    let one : ending_of word es ≡ Some e = found word es i e at is in
    let two : ending_of word es ≡ Some f = found word es i f at too in
    cc

-- where no place was found, no ending has the word
pub not_found : (word : List ℕ) (es : List Ending) → position (λ x. bytes_eq x.word word) es ≡ None → ending_of word es ≡ None
not_found word es at =
    let past = no_place (ltb (position_or_len (λ x. bytes_eq x.word word) es) (length es)) (position_or_len (λ x. bytes_eq x.word word) es) at in
    let outside : length es ≤ position_or_len (λ x. bytes_eq x.word word) es = grind (arith, nat_tests, past) in
    find_at (λ x. bytes_eq x.word word) es ∙ past_end es _ outside
