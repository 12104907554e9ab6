-- What a stack of files is still to come to.
use Rattle.std.proofs.Common.{◌≡◌, ℕ, zero, suc, ◌+◌, ◌-◌, ◌<◌, ◌≤◌, Bool, true, false, not, ◌&&◌, ◌||◌, List, [], ◌∷◌, ◌++◌, length, drop, refl, sym, ◌∙◌, ap, append-nil, append_assoc, add-one, arith}
use Rattle.std.proofs.lemmas.Bool.{ltb-true, ltb-false}
use Rattle.std.specs.Prelude.{Option, Some, None, slice_get, nat_lt, ◌==◌, if◌then◌else◌}
use Rattle.std.specs.List.{list_any}
use Rattle.just_lang_layout.specs.declared.target.Target.{Target}
use Rattle.just_lang_layout.specs.declared.visit.Visit.{Visit}
use Rattle.just_lang_layout.specs.declared.visit.Frame.{Frame}
use Rattle.just_lang_layout.specs.Walk.{leads, targets_of, is_on, is_circular, visits_behind, visit_at, visits_from, visits, walk}
use Rattle.just_lang_layout.specs.Stack.{visits_left, is_among, frame_at, entered}

-- the visits from the next item of a file on
abbrev own : Bool → List (List Target) → ℕ → List ℕ → Frame → List Visit
own m T d c f = visits_from m (visits m T (d - 1)) (f.file ∷ c) f.file f.next (drop f.next (targets_of T f.file))

-- what is left of the depth behind the files of a stack
abbrev depth_behind : ℕ → List Frame → ℕ
depth_behind d [] = d
depth_behind d (f ∷ fs) = depth_behind (d - 1) fs

-- the chain behind the files of a stack
abbrev chain_behind : List ℕ → List Frame → List ℕ
chain_behind c [] = c
chain_behind c (f ∷ fs) = chain_behind (f.file ∷ c) fs

depth-behind : (d : ℕ) (fs : List Frame) → depth_behind d fs ≡ d - length fs
depth-behind d [] = omega arith
depth-behind d (f ∷ fs) = let h = depth-behind (d - 1) fs in omega arith

-- files on top come first
on_top : (m : Bool) (T : List (List Target)) (d : ℕ) (c : List ℕ) (fs gs : List Frame)
    → visits_left m T d c (fs ++ gs) ≡ visits_left m T (depth_behind d fs) (chain_behind c fs) gs ++ visits_left m T d c fs
on_top m T d c [] gs = sym (append-nil (visits_left m T d c gs))
on_top m T d c (f ∷ fs) gs =
    ap (λ (vs : List Visit). vs ++ own m T d c f) (on_top m T (d - 1) (f.file ∷ c) fs gs)
    ∙ append_assoc (visits_left m T (depth_behind (d - 1) fs) (chain_behind (f.file ∷ c) fs) gs) (visits_left m T (d - 1) (f.file ∷ c) fs) (own m T d c f)

-- where no item is left, none is behind it
none_behind : {A : Type 0} (xs : List A) (n : ℕ) → slice_get xs n ≡ None → drop n xs ≡ []
none_behind [] zero h = refl
none_behind [] (suc n) h = refl
none_behind (x ∷ xs) zero h = cc
none_behind (x ∷ xs) (suc n) h = none_behind xs n h

-- where one is left, it is the first of those behind
some_from : {A : Type 0} (xs : List A) (n : ℕ) (x : A) → slice_get xs n ≡ Some x → drop n xs ≡ x ∷ drop (suc n) xs
some_from [] n x h = cc
some_from (y ∷ ys) zero x h = cc
some_from (y ∷ ys) (suc n) x h = some_from ys n x h

some_behind : {A : Type 0} (xs : List A) (n : ℕ) (x : A) → slice_get xs n ≡ Some x → drop n xs ≡ x ∷ drop (n + 1) xs
some_behind xs n x h = rw add-one (some_from xs n x h)

-- a file without a next item is done
pub done_above : (m : Bool) (T : List (List Target)) (fs : List Frame) (f : Frame) → slice_get (targets_of T f.file) f.next ≡ None
    → visits_left m T (length T) [] (fs ++ f ∷ []) ≡ visits_left m T (length T) [] fs
done_above m T fs f h =
    on_top m T (length T) [] fs (f ∷ [])
    ∙ ap (λ (ts : List Target). visits_from m (visits m T (depth_behind (length T) fs - 1)) (f.file ∷ chain_behind [] fs) f.file f.next ts ++ visits_left m T (length T) [] fs)
    (none_behind (targets_of T f.file) f.next h)

-- one file more takes one of the depth
depth-snoc : (d : ℕ) (fs : List Frame) (f : Frame) → depth_behind d (fs ++ f ∷ []) ≡ depth_behind d fs - 1
depth-snoc d [] f = refl
depth-snoc d (g ∷ gs) f = depth-snoc (d - 1) gs f

-- and is in front of the chain
chain-snoc : (c : List ℕ) (fs : List Frame) (f : Frame) → chain_behind c (fs ++ f ∷ []) ≡ f.file ∷ chain_behind c fs
chain-snoc c [] f = refl
chain-snoc c (g ∷ gs) f = chain-snoc (g.file ∷ c) gs f

length-snoc : (fs : List Frame) (f : Frame) → length (fs ++ f ∷ []) ≡ length fs + 1
length-snoc [] f = omega arith
length-snoc (g ∷ gs) f = let h = length-snoc gs f in omega arith

-- the visits of a file are those from its first item on
entry : (m : Bool) (T : List (List Target)) (d n : ℕ) (c : List ℕ) → 0 < d → visits m T d (n ∷ c) n ≡ own m T d c (frame_at n 0)
entry m T zero n c h = absurd (omega (arith, h))
entry m T (suc d) n c h =
    let less : d ≡ suc d - 1 = omega arith in
    ap (λ (k : ℕ). visits_from m (visits m T k) (n ∷ c) n 0 (targets_of T n)) less

-- the walk from a file is what is left of a stack of it alone
pub begins_walk : (m : Bool) (T : List (List Target)) (n : ℕ) → visits_left m T (length T) [] (frame_at n 0 ∷ []) ≡ walk m T n
begins_walk m [] n = refl
begins_walk m (ts ∷ T) n = sym (entry m (ts ∷ T) (length (ts ∷ T)) n [] (omega arith))

-- ---- chains and stacks

or_comm : (a b c : Bool) → (a || (b || c)) ≡ (b || (a || c))
or_comm true true c = refl
or_comm true false c = refl
or_comm false b c = refl

or_assoc : (a b c : Bool) → (a || (b || c)) ≡ ((a || b) || c)
or_assoc true b c = refl
or_assoc false b c = refl

-- a file is on the chain behind some files where it is among these or was on it
on_chain : (c : List ℕ) (fs : List Frame) (n : ℕ) → is_on (chain_behind c fs) n ≡ (list_any (λ (f : Frame). f.file == n) fs || is_on c n)
on_chain c [] n = refl
on_chain c (f ∷ fs) n =
    on_chain (f.file ∷ c) fs n
    ∙ or_comm (list_any (λ (g : Frame). g.file == n) fs) (f.file == n) (is_on c n)
    ∙ or_assoc (f.file == n) (list_any (λ (g : Frame). g.file == n) fs) (is_on c n)

or_false : (b : Bool) → (b || false) ≡ b
or_false true = refl
or_false false = refl

-- the chain of a stack has its files
among_chain : (fs : List Frame) (f : Frame) (o : Option ℕ) → is_circular (f.file ∷ chain_behind [] fs) o ≡ is_among (fs ++ f ∷ []) o
among_chain fs f None = refl
among_chain fs f (Some n) =
    ap (λ (c : List ℕ). is_on c n) (sym (chain-snoc [] fs f))
    ∙ on_chain [] (fs ++ f ∷ []) n
    ∙ or_false (list_any (λ (g : Frame). g.file == n) (fs ++ f ∷ []))

-- ---- a step

-- what is left of a stack with a file more on top
one_more : (m : Bool) (T : List (List Target)) (fs : List Frame) (f : Frame)
    → visits_left m T (length T) [] (fs ++ f ∷ []) ≡ own m T (depth_behind (length T) fs) (chain_behind [] fs) f ++ visits_left m T (length T) [] fs
one_more m T fs f = on_top m T (length T) [] fs (f ∷ [])

-- the depth behind a stack that is full, and behind one that isn't
full_at : (N : ℕ) (gs : List Frame) (g : Frame) → nat_lt (length (gs ++ g ∷ [])) N ≡ false → depth_behind N gs - 1 ≡ 0
full_at N gs g k = let a = length-snoc gs g in let b = depth-behind N gs in let c : N ≤ length (gs ++ g ∷ []) = ltb-false (length (gs ++ g ∷ [])) N k in omega (arith, a, b, c)

room_at : (N : ℕ) (gs : List Frame) (g : Frame) → nat_lt (length (gs ++ g ∷ [])) N ≡ true → 0 < depth_behind N gs - 1
room_at N gs g k = let a = length-snoc gs g in let b = depth-behind N gs in let c : length (gs ++ g ∷ []) < N = ltb-true (length (gs ++ g ∷ [])) N k in omega (arith, a, b, c)

-- what is left where a stack is entered, by whether it is
enters : (m : Bool) (T : List (List Target)) (fs : List Frame) (f : Frame) (n : ℕ) (on room : Bool)
    → is_on (f.file ∷ chain_behind [] fs) n ≡ on → nat_lt (length (fs ++ f ∷ [])) (length T) ≡ room
    → visits_behind (visits m T (depth_behind (length T) fs - 1)) (f.file ∷ chain_behind [] fs) (Some n) ++ visits_left m T (length T) [] (fs ++ f ∷ [])
    ≡ visits_left m T (length T) [] (if (not on && room) then (fs ++ f ∷ []) ++ frame_at n 0 ∷ [] else (fs ++ f ∷ []))
enters m T fs f n true room h k =
    ap (λ (b : Bool). (if b then [] else visits m T (depth_behind (length T) fs - 1) (n ∷ f.file ∷ chain_behind [] fs) n) ++ visits_left m T (length T) [] (fs ++ f ∷ [])) h
enters m T fs f n false false h k =
    let full : depth_behind (length T) fs - 1 ≡ 0 = full_at (length T) fs f k in
    ap (λ (b : Bool). (if b then [] else visits m T (depth_behind (length T) fs - 1) (n ∷ f.file ∷ chain_behind [] fs) n) ++ visits_left m T (length T) [] (fs ++ f ∷ [])) h
    ∙ ap (λ (d : ℕ). visits m T d (n ∷ f.file ∷ chain_behind [] fs) n ++ visits_left m T (length T) [] (fs ++ f ∷ [])) full
enters m T fs f n false true h k =
    ap (λ (b : Bool). (if b then [] else visits m T (depth_behind (length T) fs - 1) (n ∷ f.file ∷ chain_behind [] fs) n) ++ visits_left m T (length T) [] (fs ++ f ∷ [])) h
    ∙ ap (λ (vs : List Visit). vs ++ visits_left m T (length T) [] (fs ++ f ∷ []))
    (entry m T (depth_behind (length T) fs - 1) n (f.file ∷ chain_behind [] fs) (room_at (length T) fs f k)
    ∙ ap (λ (d : ℕ). own m T d (f.file ∷ chain_behind [] fs) (frame_at n 0)) (sym (depth-snoc (length T) fs f))
    ∙ ap (λ (c : List ℕ). own m T (depth_behind (length T) (fs ++ f ∷ [])) c (frame_at n 0)) (sym (chain-snoc [] fs f)))
    ∙ sym (one_more m T (fs ++ f ∷ []) (frame_at n 0))

-- .. and by where an item leads
enters_where : (m : Bool) (T : List (List Target)) (fs : List Frame) (f : Frame) (o : Option ℕ)
    → visits_behind (visits m T (depth_behind (length T) fs - 1)) (f.file ∷ chain_behind [] fs) o ++ visits_left m T (length T) [] (fs ++ f ∷ [])
    ≡ visits_left m T (length T) [] (entered (length T) (fs ++ f ∷ []) o)
enters_where m T fs f None = refl
enters_where m T fs f (Some n) = enters m T fs f n (is_among (fs ++ f ∷ []) (Some n)) (nat_lt (length (fs ++ f ∷ [])) (length T)) (among_chain fs f (Some n)) refl

-- the visit of the next item of a file
abbrev pub visit_with : Frame → Target → Bool → Visit
visit_with f t circular = record { place = record { file = f.file; item = f.next }; target = t; circular = circular }

-- an item is passed: its visit, then what is left where the file that it leads to is entered
pub passes : (m : Bool) (T : List (List Target)) (fs : List Frame) (f : Frame) (t : Target) → slice_get (targets_of T f.file) f.next ≡ Some t
    → visits_left m T (length T) [] (fs ++ f ∷ [])
    ≡ visit_with f t (is_among (fs ++ frame_at f.file (f.next + 1) ∷ []) (leads m t))
    ∷ visits_left m T (length T) [] (entered (length T) (fs ++ frame_at f.file (f.next + 1) ∷ []) (leads m t))
passes m T fs f t h =
    let N = length T in
    let d = depth_behind N fs in
    let c = chain_behind [] fs in
    let g = frame_at f.file (f.next + 1) in
    one_more m T fs f
    ∙ ap (λ (ts : List Target). visits_from m (visits m T (d - 1)) (f.file ∷ c) f.file f.next ts ++ visits_left m T N [] fs) (some_behind (targets_of T f.file) f.next t h)
    ∙ ap (λ (vs : List Visit). visit_at m (f.file ∷ c) f.file f.next t ∷ vs)
    (append_assoc (visits_behind (visits m T (d - 1)) (f.file ∷ c) (leads m t)) (own m T d c g) (visits_left m T N [] fs)
    ∙ ap (λ (vs : List Visit). visits_behind (visits m T (d - 1)) (f.file ∷ c) (leads m t) ++ vs) (sym (one_more m T fs g))
    ∙ enters_where m T fs g (leads m t))
    ∙ ap (λ (b : Bool). visit_with f t b ∷ visits_left m T N [] (entered N (fs ++ g ∷ []) (leads m t))) (among_chain fs g (leads m t))
