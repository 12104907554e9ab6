-- Lines of a text, and the blanks that they share, as loops find them.
use Rattle.std.proofs.Common.{◌≡◌, ℕ, zero, suc, ◌+◌, ◌-◌, ◌<◌, ◌≤◌, ◌==◌, Bool, true, false, not, ◌&&◌, if◌then◌else◌, List, [], ◌∷◌, length, take, drop, get_or, drop-cons, add-one, refl, sym, ap, ◌∙◌, arith}
use Rattle.std.proofs.lemmas.List.{take_all, length-drop}
use Rattle.just_lang_read.specs.Place.{run}
use Rattle.just_lang_read.specs.Characters.{is_blank}
use Rattle.just_lang_read.specs.Indentation.{joined_line, lines_of, common, has_more, first_length}

-- a text from one of its letters on
drop_next : (i : ℕ) (text : List ℕ) → i < length text → drop i text ≡ get_or text i 0 ∷ drop (i + 1) text
drop_next i text h = drop-cons text i 0 h ∙ ap (λ (n : ℕ). get_or text i 0 ∷ drop n text) (sym (add-one i))

-- ---- the first line

-- a first line with a character has a length
first_if : (b : Bool) (n : ℕ) → 0 < (if b then 1 else n + 1)
first_if true n = omega arith
first_if false n = omega arith

-- a text that isn't empty has a first line that isn't
pub first_some : (text : List ℕ) → 0 < length text → 0 < first_length text
first_some [] h = absurd (omega arith)
first_some (c ∷ text) h = first_if (c == 10) (first_length text)

-- a character more is one more at most
le_if : (b : Bool) (n m : ℕ) → n ≤ m → (if b then 1 else n + 1) ≤ suc m
le_if true n m h = omega arith
le_if false n m h = omega arith

-- the first line is no longer than the text
pub first_le : (text : List ℕ) → first_length text ≤ length text
first_le [] = omega arith
first_le (c ∷ text) = le_if (c == 10) (first_length text) (length text) (first_le text)

-- cut behind its first line, a text has the other lines left, by its first character
cut_if : (b : Bool) (c : ℕ) (text : List ℕ) (lines : List (List ℕ)) (n : ℕ) → lines ≡ lines_of text
    → (0 < length text → lines_of text ≡ take n text ∷ lines_of (drop n text)) → (length text ≡ 0 → n ≡ 0)
    → (if b then (c ∷ []) ∷ lines_of text else joined_line c lines)
    ≡ take (if b then 1 else n + 1) (c ∷ text) ∷ lines_of (drop (if b then 1 else n + 1) (c ∷ text))
cut_if true c text lines n e h z = refl
cut_if false c [] lines n e h z = let k : n ≡ 0 = z refl in rw (e, k) refl
cut_if false c (d ∷ text) lines n e h z = rw (e, add-one, h (omega arith)) refl

-- an empty text has no first line
none_first : (text : List ℕ) → length text ≡ 0 → first_length text ≡ 0
none_first [] h = refl
none_first (c ∷ text) h = absurd (omega arith)

-- the lines of a text are its first one and those behind it
pub lines_cut : (text : List ℕ) → 0 < length text → lines_of text ≡ take (first_length text) text ∷ lines_of (drop (first_length text) text)
lines_cut [] h = absurd (omega arith)
lines_cut (c ∷ text) h = cut_if (c == 10) c text (lines_of text) (first_length text) refl (lines_cut text) (none_first text)

-- a line feed ends a line of one character
pub length_feed : (i : ℕ) (text : List ℕ) → i < length text → get_or text i 0 ≡ 10 → first_length (drop i text) ≡ 1
length_feed i text h e = rw (drop-cons text i 0, e) refl

-- any other character makes the line one longer
pub length_more : (i : ℕ) (text : List ℕ) → i < length text → (get_or text i 0 ≡ 10 → ⊥) → first_length (drop i text) ≡ first_length (drop (i + 1) text) + 1
length_more i text h n = let k : (get_or text i 0 == 10) ≡ false = grind (arith) in rw (drop_next i text h, k) refl

-- at the end of the text no line begins
pub length_end : (text : List ℕ) → first_length (drop (length text) text) ≡ 0
length_end text = ap first_length (drop_all text)
  where
    -- behind its last character nothing of a text is left
    drop_all : (text : List ℕ) → drop (length text) text ≡ []
    drop_all [] = refl
    drop_all (c ∷ text) = drop_all text

-- a character in front of lines makes a line
joined_more : (c : ℕ) (lines : List (List ℕ)) → has_more (joined_line c lines) ≡ true
joined_more c [] = refl
joined_more c (line ∷ lines) = refl

-- a text with a character has a line, by that character
more_if : (b : Bool) (c : ℕ) (text : List ℕ) → has_more (if b then (c ∷ []) ∷ lines_of text else joined_line c (lines_of text)) ≡ true
more_if true c text = refl
more_if false c text = joined_more c (lines_of text)

-- a text has lines where it isn't empty
pub more_lines : (text : List ℕ) → (text ≡ [] → ⊥) → has_more (lines_of text) ≡ true
more_lines [] n = absurd (n refl)
more_lines (c ∷ text) n = more_if (c == 10) c text

-- a test beside one that holds
more_lines_of : (b : Bool) (m : Bool) → m ≡ true → b ≡ (b && m)
more_lines_of true m e = sym e
more_lines_of false m e = refl

-- nothing and a falsehood hold together
none_of : (b : Bool) → false ≡ (b && false)
none_of true = refl
none_of false = refl

-- whether a line is neither the first nor the last
pub inner_some : (b : Bool) (text : List ℕ) → (text ≡ [] → ⊥) → not b ≡ (not b && has_more (lines_of text))
inner_some b text n = more_lines_of (not b) (has_more (lines_of text)) (more_lines text n)

-- an empty text has no inner line
pub inner_none : (b : Bool) (text : List ℕ) → text ≡ [] → false ≡ (not b && has_more (lines_of text))
inner_none b text e = rw e (none_of (not b))

-- ---- blanks in front

-- a run is the front of the list, by its first character
run_if : (b : Bool) (t : ℕ → Bool) (c : ℕ) (rest : List ℕ) → take (length (run t rest)) rest ≡ run t rest
    → take (length (if b then c ∷ run t rest else [])) (c ∷ rest) ≡ (if b then c ∷ run t rest else [])
run_if true t c rest h = ap (λ (r : List ℕ). c ∷ r) h
run_if false t c rest h = refl

-- a run is the front of its text
pub take_run : (t : ℕ → Bool) (text : List ℕ) → take (length (run t text)) text ≡ run t text
take_run t [] = refl
take_run t (c ∷ text) = run_if (t c) t c text (take_run t text)

-- a character more is one more at most, where the run goes on
run_le_if : (b : Bool) (c : ℕ) (r : List ℕ) (n : ℕ) → length r ≤ n → length (if b then c ∷ r else []) ≤ suc n
run_le_if true c r n h = omega arith
run_le_if false c r n h = omega arith

-- a run is no longer than its text
pub run_le : (t : ℕ → Bool) (text : List ℕ) → length (run t text) ≤ length text
run_le t [] = omega arith
run_le t (c ∷ text) = run_le_if (t c) c (run t text) (length text) (run_le t text)

-- a blank makes the run one longer
pub run_more : (i : ℕ) (text : List ℕ) → i < length text → is_blank (get_or text i 0) ≡ true → length (run is_blank (drop i text)) ≡ length (run is_blank (drop (i + 1) text)) + 1
run_more i text h b = rw (drop_next i text h, b) (omega arith)

-- any other character ends it
pub run_stop : (i : ℕ) (text : List ℕ) → i < length text → is_blank (get_or text i 0) ≡ false → length (run is_blank (drop i text)) ≡ 0
run_stop i text h b = rw (drop-cons text i 0, b) refl

-- at the end of the text no run begins
pub run_end : (text : List ℕ) → length (run is_blank (drop (length text) text)) ≡ 0
run_end text = ap (λ (r : List ℕ). length (run is_blank r)) (drop_all text)
  where
    -- behind its last character nothing of a text is left
    drop_all : (text : List ℕ) → drop (length text) text ≡ []
    drop_all [] = refl
    drop_all (c ∷ text) = drop_all text

-- ---- fronts that two texts share

-- what two texts share is the front of the first, by their first characters
common_if : (b : Bool) (c : ℕ) (r rest : List ℕ) → take (length r) rest ≡ r → take (length (if b then c ∷ r else [])) (c ∷ rest) ≡ (if b then c ∷ r else [])
common_if true c r rest h = ap (λ (x : List ℕ). c ∷ x) h
common_if false c r rest h = refl

-- what two texts share is the front of the first
pub take_common : (one other : List ℕ) → take (length (common one other)) one ≡ common one other
take_common [] other = refl
take_common (c ∷ one) [] = refl
take_common (c ∷ one) (d ∷ other) = common_if (c == d) c (common one other) one (take_common one other)

-- and no longer than it
pub common_le : (one other : List ℕ) → length (common one other) ≤ length one
common_le [] other = omega arith
common_le (c ∷ one) [] = omega arith
common_le (c ∷ one) (d ∷ other) = run_le_if (c == d) c (common one other) (length one) (common_le one other)

-- an equal character makes what is shared one longer
pub common_more : (i : ℕ) (one other : List ℕ) → i < length one → i < length other → get_or one i 0 ≡ get_or other i 0
    → length (common (drop i one) (drop i other)) ≡ length (common (drop (i + 1) one) (drop (i + 1) other)) + 1
common_more i one other h k e =
    let b : (get_or one i 0 == get_or other i 0) ≡ true = grind (arith) in
    rw (drop_next i one h, drop_next i other k, b) (omega arith)

-- a different one ends it
pub common_stop : (i : ℕ) (one other : List ℕ) → i < length one → i < length other → (get_or one i 0 ≡ get_or other i 0 → ⊥)
    → length (common (drop i one) (drop i other)) ≡ 0
common_stop i one other h k e =
    let b : (get_or one i 0 == get_or other i 0) ≡ false = grind (arith) in
    rw (drop-cons one i 0, drop-cons other i 0, b) refl

-- behind the end of a text nothing is left
drop_past : (i : ℕ) (text : List ℕ) → length text ≤ i → drop i text ≡ []
drop_past zero [] h = refl
drop_past zero (c ∷ text) h = absurd (omega arith)
drop_past (suc i) [] h = refl
drop_past (suc i) (c ∷ text) h = drop_past i text (omega arith)

-- where the second text ends, no more is shared
pub common_short : (i : ℕ) (one other : List ℕ) → i < length one → length other ≤ i → length (common (drop i one) (drop i other)) ≡ 0
common_short i one other h k = rw (drop-cons one i 0, drop_past i other k) refl

-- nor where the first ends
pub common_end : (one other : List ℕ) → length (common (drop (length one) one) (drop (length one) other)) ≡ 0
common_end one other = rw (drop_past (length one) one (omega arith)) refl

-- ---- a line cut off

-- a text that isn't empty has a length
some_length : (text : List ℕ) → (text ≡ [] → ⊥) → 0 < length text
some_length [] n = absurd (n refl)
some_length (c ∷ text) n = omega arith

-- a line that is cut off, and what is left
pub split_is : (text : List ℕ) (n : ℕ) → (text ≡ [] → ⊥) → n ≡ first_length text
    → (length (take (length text - n) (drop n text)) < length text) × (lines_of text ≡ take n text ∷ lines_of (take (length text - n) (drop n text)))
split_is text n h e =
    let some : 0 < length text = some_length text h in
    let rest : take (length text - n) (drop n text) ≡ drop n text = take_all (length text - n) (drop n text) (omega (arith, length-drop n text)) in
    let first : 0 < n = rw e (first_some text some) in
    rw rest (omega (arith, length-drop n text), rw e (lines_cut text some))
