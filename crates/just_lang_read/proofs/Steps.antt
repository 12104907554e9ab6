-- Steps of a place: over one character, and along a run.
use Rattle.std.proofs.Common.{◌≡◌, ℕ, ◌+◌, ◌<◌, ◌≤◌, ◌==◌, Bool, true, false, if◌then◌else◌, List, [], ◌∷◌, ◌++◌, length, Some, None, encode_utf8_all, encode_utf8, append-nil, append_assoc, drop, drop-cons, add-one, refl, sym, ap, ◌∙◌, arith}
use Rattle.std.proofs.lemmas.Bool.{false≢true}
use Rattle.just_lang_read.specs.Place.{Place, at, next, next_in, past, past_in, run, first, first_in, passes, starts, sees, is_empty, is_end, IsCharacter, begins_in, behind_text}

-- behind a line feed stands the first column of the next line
pub next_line : (p : Place) (c : ℕ) (rest : List ℕ) → p.rest ≡ c ∷ rest → c ≡ 10 → next p ≡ at rest (p.line + 1) 1
unfolding next
next_line p c rest e l = rw (e, l) refl

-- behind any other character stands the next column of its line
pub next_column : (p : Place) (c : ℕ) (rest : List ℕ) → p.rest ≡ c ∷ rest → (c ≡ 10 → ⊥) → next p ≡ at rest p.line (p.column + 1)
unfolding next
next_column p c rest e n = let t : (c == 10) ≡ false = grind (arith) in rw (e, t) refl

-- at the end the next place is this one
pub next_end : (p : Place) → p.rest ≡ [] → next p ≡ p
unfolding next
next_end p e = rw e refl

-- whatever the character was, what is left behind it is left
behind_rest : (b : Bool) (rest : List ℕ) (l c : ℕ) → (if b then at rest (l + 1) 1 else at rest l (c + 1)).rest ≡ rest
behind_rest true rest l c = refl
behind_rest false rest l c = refl

-- behind the first character of a list the others are left
next_in_rest : (list : List ℕ) (c : ℕ) (rest : List ℕ) (l k : ℕ) → list ≡ c ∷ rest → (next_in list l k).rest ≡ rest
next_in_rest list c rest l k e = rw e (behind_rest (c == 10) rest l k)

-- behind the first character the others are left
pub next_rest : (p : Place) (c : ℕ) (rest : List ℕ) → p.rest ≡ c ∷ rest → (next p).rest ≡ rest
unfolding next
next_rest p c rest e = next_in_rest p.rest c rest p.line p.column e

-- a list that has a first character begins with it
some_first : (list : List ℕ) (c : ℕ) → first_in list ≡ Some c → (rest : List ℕ) × (list ≡ c ∷ rest)
some_first [] c e = let no : ⊥ = cc in absurd no
some_first (d ∷ rest) c e = (rest, (cc))

-- the text from here is the first character and what is left behind it
pub first_is : (p : Place) (c : ℕ) → first p ≡ Some c → p.rest ≡ c ∷ (next p).rest
first_is p c e = let f = some_first p.rest c e in f.1 ∙ ap (λ (r : List ℕ). c ∷ r) (sym (next_rest p c f.0 f.1))

-- where the first of a list passes a test, there is one
passes_first : (t : ℕ → Bool) (list : List ℕ) → passes t (first_in list) ≡ true → (c : ℕ) × (first_in list ≡ Some c) × (t c ≡ true)
passes_first t [] h = absurd (false≢true h)
passes_first t (c ∷ rest) h = (c, refl, h)

-- where a character passes a test, there is one
pub starts_with : (t : ℕ → Bool) (p : Place) → starts t p ≡ true → (c : ℕ) × (first p ≡ Some c) × (t c ≡ true)
starts_with t p h = passes_first t p.rest h

-- whether the first character passes is what the test says of it
pub starts_at : (t : ℕ → Bool) (p : Place) (c : ℕ) → first p ≡ Some c → starts t p ≡ t c
starts_at t p c e = rw e refl

-- at the end no character passes
pub starts_none : (t : ℕ → Bool) (p : Place) → first p ≡ None → starts t p ≡ false
starts_none t p e = rw e refl

-- behind a character that passes a test fewer are left
pub next_shorter : (t : ℕ → Bool) (p : Place) → starts t p ≡ true → length (next p).rest < length p.rest
next_shorter t p h =
    let s = starts_with t p h in
    let e = first_is p s.0 s.1 in
    let k : length p.rest ≡ length (s.0 ∷ (next p).rest) = ap length e in
    omega arith

-- a run from behind a character is the one from its line and column
past_behind : (t : ℕ → Bool) (b : Bool) (rest : List ℕ) (l c : ℕ)
    → past_in t (if b then at rest (l + 1) 1 else at rest l (c + 1)).rest (if b then at rest (l + 1) 1 else at rest l (c + 1)).line (if b then at rest (l + 1) 1 else at rest l (c + 1)).column
    ≡ (if b then past_in t rest (l + 1) 1 else past_in t rest l (c + 1))
past_behind t true rest l c = refl
past_behind t false rest l c = refl

-- behind a first character of a list that passes, the run ends where it does from the first
past_in_next : (t : ℕ → Bool) (list : List ℕ) (l c : ℕ) → passes t (first_in list) ≡ true
    → past_in t (next_in list l c).rest (next_in list l c).line (next_in list l c).column ≡ past_in t list l c
past_in_next t [] l c h = absurd (false≢true h)
past_in_next t (x ∷ rest) l c h = rw h (past_behind t (x == 10) rest l c)

-- behind a character that passes, the run ends where it does from that character
pub past_next : (t : ℕ → Bool) (p : Place) → starts t p ≡ true → past t (next p) ≡ past t p
unfolding next past
past_next t p h = past_in_next t p.rest p.line p.column h

-- a run over a list whose first character fails is empty
past_in_stays : (t : ℕ → Bool) (list : List ℕ) (l c : ℕ) → passes t (first_in list) ≡ false → past_in t list l c ≡ at list l c
past_in_stays t [] l c h = refl
past_in_stays t (x ∷ rest) l c h = rw h refl

-- a run is empty where no character passes
pub past_stays : (t : ℕ → Bool) (p : Place) → starts t p ≡ false → past t p ≡ p
unfolding past
past_stays t p h = past_in_stays t p.rest p.line p.column h

-- a run is its first character and the run behind it
pub run_next : (t : ℕ → Bool) (p : Place) (c : ℕ) → first p ≡ Some c → starts t p ≡ true → run t p.rest ≡ c ∷ run t (next p).rest
run_next t p c e h =
    let k = first_is p c e in
    let m : t c ≡ true = sym (starts_at t p c e) ∙ h in
    ap (run t) k ∙ (rw m refl)

-- a run over a list whose first character fails has no characters
run_in_none : (t : ℕ → Bool) (list : List ℕ) → passes t (first_in list) ≡ false → run t list ≡ []
run_in_none t [] h = refl
run_in_none t (x ∷ rest) h = rw h refl

-- a run has no characters where none passes
pub run_none : (t : ℕ → Bool) (p : Place) → starts t p ≡ false → run t p.rest ≡ []
run_none t p h = run_in_none t p.rest h

-- the text in front, a character that passes and the run behind it are the text in front and the run
pub run_text_next : (t : ℕ → Bool) (p : Place) (c : ℕ) (front : List ℕ) → first p ≡ Some c → starts t p ≡ true
    → (front ++ encode_utf8 c) ++ encode_utf8_all (run t (next p).rest) ≡ front ++ encode_utf8_all (run t p.rest)
run_text_next t p c front e h = rw (run_next t p c e h) (append_assoc front (encode_utf8 c) (encode_utf8_all (run t (next p).rest)))

-- where no character passes, the text in front is all
pub run_text_end : (t : ℕ → Bool) (p : Place) (front : List ℕ) → starts t p ≡ false → front ++ encode_utf8_all (run t p.rest) ≡ front
run_text_end t p front h = rw (run_none t p h) (append-nil front)

-- whichever of three places a run goes on to, no more is left there than here
past_in_pick : (a b : Bool) (p q : Place) (x : ℕ) (rest : List ℕ) (l c : ℕ) → length p.rest ≤ length rest → length q.rest ≤ length rest
    → length (if a then (if b then p else q) else at (x ∷ rest) l c).rest ≤ length (x ∷ rest)
past_in_pick true true p q x rest l c h k = omega arith
past_in_pick true false p q x rest l c h k = omega arith
past_in_pick false b p q x rest l c h k = omega arith

-- behind a run over a list no more is left than before it
past_in_le : (t : ℕ → Bool) (list : List ℕ) (l c : ℕ) → length (past_in t list l c).rest ≤ length list
past_in_le t [] l c = omega arith
past_in_le t (x ∷ rest) l c =
    past_in_pick (t x) (x == 10) (past_in t rest (l + 1) 1) (past_in t rest l (c + 1)) x rest l c (past_in_le t rest (l + 1) 1) (past_in_le t rest l (c + 1))

-- behind a run no more is left than before it
pub past_le : (t : ℕ → Bool) (p : Place) → length (past t p).rest ≤ length p.rest
unfolding past
past_le t p = past_in_le t p.rest p.line p.column

-- whichever of three places a run goes on to, no character passes at its end
past_in_end_pick : (t : ℕ → Bool) (a b : Bool) (p q : Place) (x : ℕ) (rest : List ℕ) (l c : ℕ) → t x ≡ a → starts t p ≡ false → starts t q ≡ false
    → starts t (if a then (if b then p else q) else at (x ∷ rest) l c) ≡ false
past_in_end_pick t true true p q x rest l c e h k = h
past_in_end_pick t true false p q x rest l c e h k = k
past_in_end_pick t false b p q x rest l c e h k = e

-- behind the longest run over a list no character passes
past_in_ends : (t : ℕ → Bool) (list : List ℕ) (l c : ℕ) → passes t (first_in (past_in t list l c).rest) ≡ false
past_in_ends t [] l c = refl
past_in_ends t (x ∷ rest) l c =
    past_in_end_pick t (t x) (x == 10) (past_in t rest (l + 1) 1) (past_in t rest l (c + 1)) x rest l c refl (past_in_ends t rest (l + 1) 1) (past_in_ends t rest l (c + 1))

-- behind the longest run no character passes
pub past_ends : (t : ℕ → Bool) (p : Place) → starts t (past t p) ≡ false
unfolding past
past_ends t p = past_in_ends t p.rest p.line p.column

-- ---- a character that is seen

-- a character that a list is seen to begin with is its first
sees_first_in : (c : ℕ) (list : List ℕ) → passes (λ d. d == c) (first_in list) ≡ true → first_in list ≡ Some c
sees_first_in c [] h = absurd (false≢true h)
sees_first_in c (d ∷ rest) h = let e : d ≡ c = grind (arith) in rw e refl

-- a character that is seen here is the first
pub sees_first : (c : ℕ) (p : Place) → sees c p ≡ true → first p ≡ Some c
sees_first c p h = sees_first_in c p.rest h

-- whether a character that is seen here passes is what the test says of it
pub starts_seen : (t : ℕ → Bool) (c : ℕ) (p : Place) → sees c p ≡ true → starts t p ≡ t c
starts_seen t c p h = starts_at t p c (sees_first c p h)

-- a list whose first character passes is not empty
not_empty_where_passes : (t : ℕ → Bool) (list : List ℕ) → passes t (first_in list) ≡ true → is_empty list ≡ false
not_empty_where_passes t [] h = absurd (false≢true h)
not_empty_where_passes t (c ∷ rest) h = refl

-- the text doesn't end where a character passes a test
pub not_end_where_starts : (t : ℕ → Bool) (p : Place) → starts t p ≡ true → is_end p ≡ false
not_end_where_starts t p h = not_empty_where_passes t p.rest h

-- an empty list has length 0
length_of_empty : (list : List ℕ) → is_empty list ≡ true → length list ≡ 0
length_of_empty [] h = refl
length_of_empty (c ∷ rest) h = absurd (false≢true h)

-- any other has a length above 0
length_of_some : (list : List ℕ) → is_empty list ≡ false → 0 < length list
length_of_some [] h = absurd (false≢true (sym h))
length_of_some (c ∷ rest) h = omega arith

-- at the end of the text nothing is left
pub length_at_end : (p : Place) → is_end p ≡ true → length p.rest ≡ 0
length_at_end p h = length_of_empty p.rest h

-- before it something is left
pub length_before_end : (p : Place) → is_end p ≡ false → 0 < length p.rest
length_before_end p h = length_of_some p.rest h

-- a list with a length above 0 is not empty
not_empty_of_length : (list : List ℕ) → 0 < length list → is_empty list ≡ false
not_empty_of_length [] h = absurd (omega arith)
not_empty_of_length (c ∷ rest) h = refl

-- where something is left, the text doesn't end
pub not_end_of_length : (p : Place) → 0 < length p.rest → is_end p ≡ false
not_end_of_length p h = not_empty_of_length p.rest h

-- behind a character that stands here fewer are left
pub character_shorter : (c : ℕ) (p q : Place) → IsCharacter c p q → length q.rest < length p.rest
character_shorter c p q s = rw (s.1) (next_shorter (λ d. d == c) p s.0)

-- ---- texts that come first

-- a text that isn't at its end doesn't come first where nothing is left
pub begins_none : (i : ℕ) (text rest : List ℕ) → i < length text → rest ≡ [] → begins_in (drop i text) rest ≡ false
begins_none i text rest h e = rw (drop-cons text i 0, e) refl

-- a step along a text
pub behind_more : (i : ℕ) (text : List ℕ) (p : Place) → i < length text → behind_text (drop (i + 1) text) (next p) ≡ behind_text (drop i text) p
behind_more i text p h = rw (add-one, drop-cons text i 0) refl

-- what a loop over a run has collected, and what is still to come
pub collected_more : (t : ℕ → Bool) (p : Place) (c : ℕ) (front : List ℕ) → first p ≡ Some c → starts t p ≡ true
    → (front ++ c ∷ []) ++ run t (next p).rest ≡ front ++ run t p.rest
collected_more t p c front e h = rw (run_next t p c e h) (append_assoc front (c ∷ []) (run t (next p).rest))

-- where the run is at its end, nothing is
pub collected_all : (t : ℕ → Bool) (p : Place) (front : List ℕ) → starts t p ≡ false → front ++ run t p.rest ≡ front
collected_all t p front h = rw (run_none t p h) (append-nil front)
