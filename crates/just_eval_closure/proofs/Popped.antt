-- What is made of a list that is used up from its end on.
use Rattle.std.proofs.Common.{◌≡◌, ℕ, suc, ◌+◌, List, [], ◌∷◌, ◌++◌, length, append_assoc, Option, Some, refl, ap, sym, ◌∙◌, arith, reverse}
use Rattle.std.proofs.lemmas.List.{map-append, reverse-append}
use Rattle.just_lang_types.specs.declared.key.Key.{Key}
use Rattle.just_lang_types.specs.declared.node.Node.{Node}
use Rattle.just_lang_types.specs.declared.place.Place.{Place}
use Rattle.just_eval_closure.specs.declared.walk.Beside.{Beside}
use Rattle.just_eval_closure.specs.Closures.{node_beside, nodes_beside, numbers_beside, nodes_with}
use Rattle.just_eval_closure.specs.Places.{number_of, numbers_of}

-- the numbers of the keys before and behind the key of a place
abbrev Numbers : Type 0
Numbers = List ℕ × List ℕ

-- an item that moves from the end of the one list to the end of a list in reverse
moved : {A : Type 0} (xs : List A) (x : A) (ys : List A) → xs ++ reverse (ys ++ x ∷ []) ≡ (xs ++ x ∷ []) ++ reverse ys
moved xs x ys = ap (λ zs. xs ++ zs) (reverse-append ys (x ∷ [])) ∙ sym (append_assoc xs (x ∷ []) (reverse ys))

-- the number of the last key
pub number_popped : (list : List Place) (r : Option ℕ) (ks : List Key) (k : Key) (ns : List ℕ) → numbers_of list r ks ++ reverse (ns ++ number_of list r k ∷ []) ≡ numbers_of list r (ks ++ k ∷ []) ++ reverse ns
number_popped list r ks k ns =
    moved (numbers_of list r ks) (number_of list r k) ns ∙ ap (λ ms. ms ++ reverse ns) (sym (map-append (λ q. number_of list r q) ks (k ∷ [])))

-- the numbers beside the last place
numbers_last : (list : List Place) (n : ℕ) (bs : List Beside) (b : Beside) → numbers_beside list n (bs ++ b ∷ []) ≡ numbers_beside list n bs ++ (b.priors, numbers_of list (Some (n + length bs)) b.subsequents) ∷ []
numbers_last list n [] b =
    let same : n + 0 ≡ n = omega arith in ap (λ m. (b.priors, numbers_of list (Some m) b.subsequents) ∷ []) (sym same)
numbers_last list n (c ∷ cs) b =
    let next : suc n + length cs ≡ n + suc (length cs) = omega arith in
    ap (λ ms. (c.priors, numbers_of list (Some n) c.subsequents) ∷ ms) (numbers_last list (suc n) cs b ∙ ap (λ m. numbers_beside list (suc n) cs ++ (b.priors, numbers_of list (Some m) b.subsequents) ∷ []) next)

pub numbers_popped : (list : List Place) (bs : List Beside) (b : Beside) (n : ℕ) (ms : List Numbers) → n ≡ length bs → numbers_beside list 0 bs ++ reverse (ms ++ (b.priors, numbers_of list (Some n) b.subsequents) ∷ []) ≡ numbers_beside list 0 (bs ++ b ∷ []) ++ reverse ms
numbers_popped list bs b n ms same =
    let zero_more : 0 + length bs ≡ length bs = omega arith in
    moved (numbers_beside list 0 bs) (b.priors, numbers_of list (Some n) b.subsequents) ms ∙ ap (λ m. (numbers_beside list 0 bs ++ (b.priors, numbers_of list (Some m) b.subsequents) ∷ []) ++ reverse ms) (same ∙ sym zero_more) ∙ ap (λ zs. zs ++ reverse ms) (sym (numbers_last list 0 bs b))

-- the node of the last place
nodes_last : (xs : List Place) (ms : List Numbers) (x : Place) (m : Numbers) → length ms ≡ length xs → nodes_with (xs ++ x ∷ []) (ms ++ m ∷ []) ≡ nodes_with xs ms ++ record { round = x.round; key = x.key; priors = m.0; subsequents = m.1 } ∷ []
nodes_last [] [] x m even = refl
nodes_last [] (l ∷ ls) x m even = absurd (omega (arith, even))
nodes_last (y ∷ ys) [] x m even = absurd (omega (arith, even))
nodes_last (y ∷ ys) (l ∷ ls) x m even = ap (λ ns. record { round = y.round; key = y.key; priors = l.0; subsequents = l.1 } ∷ ns) (nodes_last ys ls x m (omega (arith, even)))

pub node_popped : (xs : List Place) (ms : List Numbers) (x : Place) (m : Numbers) (ns : List Node) → length ms ≡ length xs → nodes_with xs ms ++ reverse (ns ++ record { round = x.round; key = x.key; priors = m.0; subsequents = m.1 } ∷ []) ≡ nodes_with (xs ++ x ∷ []) (ms ++ m ∷ []) ++ reverse ns
node_popped xs ms x m ns even =
    moved (nodes_with xs ms) (record { round = x.round; key = x.key; priors = m.0; subsequents = m.1 }) ns ∙ ap (λ zs. zs ++ reverse ns) (sym (nodes_last xs ms x m even))

-- as many are left of both
length_last : {A : Type 0} (xs : List A) (x : A) → length (xs ++ x ∷ []) ≡ suc (length xs)
length_last [] x = refl
length_last (y ∷ ys) x = ap (λ n. suc n) (length_last ys x)

one_less : (n m : ℕ) → suc n ≡ suc m → n ≡ m
one_less n m h = omega (arith, h)

pub even_popped : (xs : List Place) (ms : List Numbers) (x : Place) (m : Numbers) (places : List Place) (numbers : List Numbers) → places ≡ xs ++ x ∷ [] → numbers ≡ ms ++ m ∷ [] → length numbers ≡ length places → length ms ≡ length xs
even_popped xs ms x m places numbers was had even =
    one_less (length ms) (length xs) (sym (ap (λ ns. length ns) had ∙ length_last ms m) ∙ even ∙ ap (λ ps. length ps) was ∙ length_last xs x)

-- where there is a place, there are numbers
pub none_popped : (xs : List Place) (x : Place) (ms : List Numbers) → length ms ≡ length (xs ++ x ∷ []) → ms ≡ [] → ⊥
none_popped [] x ms even none = absurd (omega (arith, sym even ∙ ap (λ ls. length ls) none))
none_popped (y ∷ ys) x ms even none = absurd (omega (arith, sym even ∙ ap (λ ls. length ls) none))

-- nodes with the numbers beside their places are those of what stands beside the places
pub nodes_with_numbers : (list : List Place) (n : ℕ) (xs : List Place) (bs : List Beside) → nodes_with xs (numbers_beside list n bs) ≡ nodes_beside list n xs bs
nodes_with_numbers list n [] bs = refl
nodes_with_numbers list n (x ∷ xs) [] = refl
nodes_with_numbers list n (x ∷ xs) (b ∷ bs) = ap (λ ns. node_beside list n x b ∷ ns) (nodes_with_numbers list (suc n) xs bs)

-- there are numbers for all that stands beside places
pub as_many_numbered : (list : List Place) (n : ℕ) (bs : List Beside) → length (numbers_beside list n bs) ≡ length bs
as_many_numbered list n [] = refl
as_many_numbered list n (b ∷ bs) = ap (λ m. suc m) (as_many_numbered list (suc n) bs)
