-- The nodes of a closure are those of its places.
use Rattle.std.proofs.Common.{◌≡◌, ℕ, suc, ◌≤◌, inl, inr, true, List, [], ◌∷◌, ◌++◌, append_assoc, length, Option, Some, None, Ok, refl, ap, sym, ◌∙◌, subst}
use Rattle.just_lang_types.specs.declared.key.Key.{Key}
use Rattle.just_lang_types.specs.declared.node.Closure.{Closure}
use Rattle.just_lang_types.specs.declared.node.Node.{Node}
use Rattle.just_lang_types.specs.declared.place.Place.{Place}
use Rattle.just_eval_closure.specs.declared.TheConstants.{CLOSURE_LIMIT}
use Rattle.just_eval_closure.specs.declared.walk.Beside.{Beside}
use Rattle.just_eval_closure.specs.Closures.{IsClosureOf, nodes_beside}
use Rattle.just_eval_closure.specs.Pending.{besides_behind, AreBeside}
use Rattle.just_eval_closure.specs.Places.{place, is_place, is_listed, number_of, numbers_of, node_of, nodes_from, IsClosure}
use Rattle.just_eval_closure.specs.Visits.{Around, Visits, priors_by, subsequents_by}
use Rattle.just_eval_closure.specs.WellFormed.{IsWellFormed}
use Rattle.just_eval_closure.proofs.Closed.{is_closure, well_formed}
use Rattle.just_eval_closure.proofs.Grown.{at_back}
use Rattle.just_eval_closure.proofs.Items.{In, in_contains}
use Rattle.just_eval_closure.proofs.Numbered.{len_left}
use Rattle.just_eval_closure.proofs.Places.{At, at_left, has_listed}

-- the numbers of keys that are listed stay as the list grows
numbers_left : (done rest : List Place) (r : Option ℕ) (ks : List Key) → ((q : Key) → In q ks → is_listed done r q ≡ true) → numbers_of done r ks ≡ numbers_of (done ++ rest) r ks
numbers_left done rest r [] h = refl
numbers_left done rest r (k ∷ ks) h =
    ap (λ n. n ∷ numbers_of done r ks) (sym (len_left (is_place r k) done rest (h k (inl refl)))) ∙ ap (λ ns. number_of (done ++ rest) r k ∷ ns) (numbers_left done rest r ks (λ q i. h q (inr i)))

at_middle : (xs : List Place) (x : Place) (ys : List Place) → At (xs ++ x ∷ ys) (length xs) x
at_middle [] x ys = refl
at_middle (z ∷ xs) x ys = at_middle xs x ys

length_last : (xs : List Place) (x : Place) → length (xs ++ x ∷ []) ≡ suc (length xs)
length_last [] x = refl
length_last (z ∷ xs) x = ap (λ n. suc n) (length_last xs x)

-- the nodes of places by what stands beside these are those by the keys around their keys, since priors stand before
module _ (around : Key → Around) (keys : List Key) (list : List Place) (closed : IsClosure (priors_by around) (subsequents_by around) keys list) where
  -- the priors of a place are listed before it
  before : (done : List Place) (x : Place) (xs : List Place) → list ≡ done ++ x ∷ xs → (q : Key) → In q (priors_by around x.key) → is_listed done x.round q ≡ true
  before done x xs is q i =
      let there : At list (length done) x = subst (λ l. At l (length done) x) (sym is) (at_middle done x xs) in
      let m = closed.priors (length done) x there q (in_contains (priors_by around x.key) q i) in
      has_listed done x.round q m.0 (at_back done list (λ n y h. subst (λ l. At l n y) (sym is) (at_left done (x ∷ xs) n y h)) m.0 (place x.round q) m.1 m.2)

  behind : (done rest : List Place) → list ≡ done ++ rest → nodes_beside list (length done) rest (besides_behind around done rest) ≡ nodes_from (priors_by around) (subsequents_by around) list (length done) rest
  behind done [] is = refl
  behind done (x ∷ xs) is =
      let numbers : numbers_of done x.round (priors_by around x.key) ≡ numbers_of list x.round (priors_by around x.key) =
      numbers_left done (x ∷ xs) x.round (priors_by around x.key) (before done x xs is) ∙ ap (λ l. numbers_of l x.round (priors_by around x.key)) (sym is) in
      let others = subst (λ n. nodes_beside list n xs (besides_behind around (done ++ x ∷ []) xs) ≡ nodes_from (priors_by around) (subsequents_by around) list n xs) (length_last done x) (behind (done ++ x ∷ []) xs (is ∙ sym (append_assoc done (x ∷ []) xs))) in
      ap (λ ns. record { round = x.round; key = x.key; priors = ns; subsequents = numbers_of list (Some (length done)) (subsequents_by around x.key) } ∷ nodes_beside list (suc (length done)) xs (besides_behind around (done ++ x ∷ []) xs)) numbers ∙ ap (λ ns. node_of (priors_by around) (subsequents_by around) list (length done) x ∷ ns) others

-- something stands beside each place
besides_length : (around : Key → Around) (done xs : List Place) → length (besides_behind around done xs) ≡ length xs
besides_length around done [] = refl
besides_length around done (x ∷ xs) = ap (λ n. suc n) (besides_length around (done ++ x ∷ []) xs)

pub as_many : (around : Key → Around) (xs : List Place) (bs : List Beside) → AreBeside around xs bs → length bs ≡ length xs
as_many around xs bs are = ap (λ cs. length cs) are ∙ besides_length around [] xs

-- visits that aren't refused, with what stands beside the places that they give, make the closure
pub closure_is : (around : Key → Around) (keys : List Key) (list : List Place) (bs : List Beside) (c : Closure) → Visits around (Ok []) None keys (Ok list) → AreBeside around list bs → c.nodes ≡ nodes_beside list 0 list bs → c.invocations ≡ numbers_of list None keys → IsClosureOf around keys c
closure_is around keys list bs c visits beside nodes invocations =
    let least = is_closure around keys list visits in
    record {
      list = list;
      visits = visits;
      least = least;
      nodes_are = ap (λ ns. record { nodes = ns; invocations = c.invocations }) (nodes ∙ ap (λ cs. nodes_beside list 0 list cs) beside ∙ behind around keys list least [] list refl) ∙ ap (λ is. record { nodes = nodes_from (priors_by around) (subsequents_by around) list 0 list; invocations = is }) invocations;
    }

-- a closure's nodes are in order
pub in_order : (around : Key → Around) (keys : List Key) (c : Closure) → IsClosureOf around keys c → IsWellFormed c.nodes c.invocations
in_order around keys c h =
    subst (λ d. IsWellFormed d.nodes d.invocations) (sym h.nodes_are) (well_formed (priors_by around) (subsequents_by around) keys h.list h.least)

-- there is a node for each place
nodes_count : (around : Key → Around) (list : List Place) (n : ℕ) (done xs : List Place) → length (nodes_beside list n xs (besides_behind around done xs)) ≡ length xs
nodes_count around list n done [] = refl
nodes_count around list n done (x ∷ xs) = ap (λ m. suc m) (nodes_count around list (suc n) (done ++ x ∷ []) xs)

pub no_more : (list : List Place) (bs : List Beside) (nodes : List Node) (around : Key → Around) → AreBeside around list bs → nodes ≡ nodes_beside list 0 list bs → length list ≤ CLOSURE_LIMIT → length nodes ≤ CLOSURE_LIMIT
no_more list bs nodes around beside are short =
    subst (λ n. n ≤ CLOSURE_LIMIT) (sym (ap (λ ns. length ns) (are ∙ ap (λ cs. nodes_beside list 0 list cs) beside) ∙ nodes_count around list 0 [] list)) short

-- the nodes of what a walk gave make the closure
pub closure_by : (around : Key → Around) (keys copies : List Key) (list : List Place) (bs : List Beside) (nodes : List Node) (invocations : List ℕ) → copies ≡ keys → Visits around (Ok []) None copies (Ok list) → AreBeside around list bs → nodes ≡ nodes_beside list 0 list bs → invocations ≡ numbers_of list None keys → IsClosureOf around keys (record { nodes = nodes; invocations = invocations })
closure_by around keys copies list bs nodes invocations same visits beside nodes_are invocations_are =
    closure_is around keys list bs (record { nodes = nodes; invocations = invocations }) (subst (λ ks. Visits around (Ok []) None ks (Ok list)) same visits) beside nodes_are invocations_are

-- and are in order
pub order_by : (around : Key → Around) (keys copies : List Key) (list : List Place) (bs : List Beside) (nodes : List Node) (invocations : List ℕ) → copies ≡ keys → Visits around (Ok []) None copies (Ok list) → AreBeside around list bs → nodes ≡ nodes_beside list 0 list bs → invocations ≡ numbers_of list None keys → IsWellFormed nodes invocations
order_by around keys copies list bs nodes invocations same visits beside nodes_are invocations_are =
    in_order around keys (record { nodes = nodes; invocations = invocations }) (closure_by around keys copies list bs nodes invocations same visits beside nodes_are invocations_are)
