-- How many tasks are left of the work that is pending, and the ranks of the keys in it.
use Rattle.std.proofs.Common.{◌≡◌, ℕ, zero, suc, ◌+◌, ◌<◌, ◌≤◌, Bool, true, false, inl, inr, List, [], ◌∷◌, ◌++◌, length, Option, Some, None, Result, Ok, Err, refl, ap, sym, ◌∙◌, subst, arith}
use Rattle.std.specs.Prelude.{OnOk, IfErr}
use Rattle.just_lang_types.specs.declared.key.Key.{Key}
use Rattle.just_lang_types.specs.declared.place.Place.{Place}
use Rattle.just_lang_types.specs.declared.project.LangError.{LangError}
use Rattle.just_lang_types.specs.declared.project.LangError.TheVariants.{ClosureLimit}
use Rattle.just_eval_closure.specs.declared.TheConstants.{CLOSURE_LIMIT}
use Rattle.just_eval_closure.specs.declared.walk.Beside.{Beside}
use Rattle.just_eval_closure.specs.declared.walk.Pending.{Pending}
use Rattle.just_eval_closure.specs.declared.walk.Pending.TheVariants as task
use Rattle.just_eval_closure.specs.Pending.{stacked, total, key_of, Finishes, Leads, AreBeside, tasks_within, IsBelow, IsBelowAll, AreBelow, IsRight, AreRight, tasks_of, tasks_from, tasks_left, Proceeds}
use Rattle.just_eval_closure.specs.Places.{place, is_place, is_listed, numbers_of}
use Rattle.just_eval_closure.specs.Visits.{Around, IsRanked, Visits, priors_in, subsequents_in, priors_by, subsequents_by}
use Rattle.just_eval_closure.proofs.Items.{In, in_contains}
use Rattle.just_eval_closure.proofs.Numbered.{listed_more}
use Rattle.just_eval_closure.proofs.Pending.{again_leads, opened_leads, settled_leads, over_leads, beside_more, all_visits}
use Rattle.just_eval_closure.proofs.Places.{is_place_is}

-- ---- sums

least : (n : ℕ) → 0 ≤ n
least n = omega arith

nothing_more : (n : ℕ) → n ≡ n + 0
nothing_more n = omega arith

swapped : (n : ℕ) → n + 0 ≡ 0 + n
swapped n = omega arith

moved : (a b c : ℕ) → a + (b + c) ≡ (a + b) + c
moved a b c = omega arith

moved_last : (a b c : ℕ) → (a + b) + c ≡ a + (c + b)
moved_last a b c = omega arith

sums_up : (a b c d : ℕ) → a ≤ b → c ≤ d → a + c ≤ b + d
sums_up a b c d h g = omega (arith, h, g)

two_up : (a b c d : ℕ) → a ≤ b → c ≤ d → suc (suc (a + c)) ≤ suc (suc (b + d))
two_up a b c d h g = omega (arith, h, g)

up : (n m : ℕ) → suc n ≤ suc m → n ≤ m
up n m h = omega (arith, h)

not_up : (n : ℕ) → suc n ≤ 0 → ⊥
not_up n h = omega (arith, h)

reached_by : (n m : ℕ) → n < m → suc n ≤ m
reached_by n m h = omega (arith, h)

lower : (a b c : ℕ) → a < b → b < c → a < c
lower a b c h g = omega (arith, h, g)

not_itself : (n : ℕ) → n < n → ⊥
not_itself n h = omega (arith, h)

fewer_opened : (w p s a b m n : ℕ) → m ≡ (w + suc s) + p → n ≡ w + suc (suc (a + b)) → p ≤ a → s ≤ b → m < n
fewer_opened w p s a b m n is are h g = omega (arith, is, are, h, g)

fewer_again : (w a n : ℕ) → n ≡ w + suc (suc a) → w < n
fewer_again w a n is = omega (arith, is)

fewer_settled : (w s m n : ℕ) → m ≡ w + s → n ≡ w + suc s → m < n
fewer_settled w s m n is are = omega (arith, is, are)

total_up : (f g : Key → ℕ) (ks : List Key) → ((q : Key) → In q ks → f q ≤ g q) → total f ks ≤ total g ks
total_up f g [] h = least 0
total_up f g (k ∷ ks) h = sums_up (f k) (g k) (total f ks) (total g ks) (h k (inl refl)) (total_up f g ks (λ q i. h q (inr i)))

-- a test that can't hold fails
fails : (b : Bool) → (b ≡ true → ⊥) → b ≡ false
fails true h = absurd (h refl)
fails false h = refl

-- ---- what follows from a state that leads to another

pub leads_nowhere : (around : Key → Around) (ts : List Pending) (list : List Place) → Leads around ts list ts list
leads_nowhere around ts list end f = f

pub leads_on : (around : Key → Around) (rank : Key → ℕ) (ts us vs ws : List Pending) (list mid new : List Place) → Leads around ts list us mid → us ≡ vs → Proceeds around rank vs mid ws new → Leads around ts list ws new
leads_on around rank ts us vs ws list mid new first same second end f = first end (subst (λ x. Finishes around x (Ok mid) end) (sym same) (second.leads end f))

pub leads_to_end : (around : Key → Around) (ts us : List Pending) (list new : List Place) → Leads around ts list us new → us ≡ [] → Finishes around ts (Ok list) (Ok new)
leads_to_end around ts us list new h none = h (Ok new) (subst (λ x. Finishes around x (Ok new) (Ok new)) (sym none) refl)

pub leads_to_refusal : (around : Key → Around) (ts us vs : List Pending) (list new : List Place) (e : LangError) → Leads around ts list us new → us ≡ vs → Finishes around vs (Ok new) (Err e) → Finishes around ts (Ok list) (Err e)
leads_to_refusal around ts us vs list new e h same f = h (Err e) (subst (λ x. Finishes around x (Ok new) (Err e)) (sym same) f)

module _ (around : Key → Around) (rank : Key → ℕ) where
  -- ---- how many tasks a visit comes to

  -- longer chains come to no fewer tasks
  within_up : (n m : ℕ) (k : Key) → n ≤ m → tasks_within around n k ≤ tasks_within around m k
  within_up zero m k le = least (tasks_within around m k)
  within_up (suc n) zero k le = absurd (not_up n le)
  within_up (suc n) (suc m) k le =
      two_up (total (λ q. tasks_within around n q) (priors_by around k)) (total (λ q. tasks_within around m q) (priors_by around k)) (total (λ q. tasks_within around n q) (subsequents_by around k)) (total (λ q. tasks_within around m q) (subsequents_by around k))
      (total_up (λ q. tasks_within around n q) (λ q. tasks_within around m q) (priors_by around k) (λ q i. within_up n m q (up n m le)))
      (total_up (λ q. tasks_within around n q) (λ q. tasks_within around m q) (subsequents_by around k) (λ q i. within_up n m q (up n m le)))

  -- keys of lower ranks come to no more tasks than chains of that many keys
  lower_tasks : (k : Key) (ks : List Key) → ((q : Key) → In q ks → rank q < rank k) → total (tasks_of around rank) ks ≤ total (λ q. tasks_within around (rank k) q) ks
  lower_tasks k ks h = total_up (tasks_of around rank) (λ q. tasks_within around (rank k) q) ks (λ q i. within_up (suc (rank q)) (rank k) q (reached_by (rank q) (rank k) (h q i)))

  left_push : (ts : List Pending) (t : Pending) → tasks_left around rank (ts ++ t ∷ []) ≡ tasks_left around rank ts + tasks_from around rank t
  left_push [] t = swapped (tasks_from around rank t)
  left_push (u ∷ us) t = ap (λ n. tasks_from around rank u + n) (left_push us t) ∙ moved (tasks_from around rank u) (tasks_left around rank us) (tasks_from around rank t)

  left_stacked : (ts : List Pending) (r : Option ℕ) (ks : List Key) → tasks_left around rank (stacked ts r ks) ≡ tasks_left around rank ts + total (tasks_of around rank) ks
  left_stacked ts r [] = nothing_more (tasks_left around rank ts)
  left_stacked ts r (k ∷ ks) =
      left_push (stacked ts r ks) (task.Visit (place r k)) ∙ ap (λ n. n + tasks_of around rank k) (left_stacked ts r ks) ∙ moved_last (tasks_left around rank ts) (total (tasks_of around rank) ks) (tasks_of around rank k)

  -- ---- ranks

  below_one : (q k : Key) (t : Pending) → rank q < rank k → IsBelow around rank k t → IsBelow around rank q t
  below_one q k (task.Visit x) lt h = tt
  below_one q k (task.Settle x ps ss) lt h = lower (rank q) (rank k) (rank x.key) lt h

  below_all : (q k : Key) (ts : List Pending) → rank q < rank k → IsBelowAll around rank k ts → IsBelowAll around rank q ts
  below_all q k [] lt h = tt
  below_all q k (t ∷ ts) lt h = (below_one q k t lt h.0, below_all q k ts lt h.1)

  below_push : (k : Key) (ts : List Pending) (t : Pending) → IsBelowAll around rank k ts → IsBelow around rank k t → IsBelowAll around rank k (ts ++ t ∷ [])
  below_push k [] t h g = (g, tt)
  below_push k (u ∷ us) t h g = (h.0, below_push k us t h.1 g)

  below_stacked : (k : Key) (ts : List Pending) (r : Option ℕ) (ks : List Key) → IsBelowAll around rank k ts → IsBelowAll around rank k (stacked ts r ks)
  below_stacked k ts r [] h = h
  below_stacked k ts r (q ∷ qs) h = below_push k (stacked ts r qs) (task.Visit (place r q)) (below_stacked k ts r qs h) tt

  are_push : (us : List Pending) (u t : Pending) → AreBelow around rank us t → IsBelow around rank (key_of u) t → AreBelow around rank (us ++ u ∷ []) t
  are_push [] u t h g = (g, tt)
  are_push (v ∷ vs) u t h g = (h.0, are_push vs u t h.1 g)

  are_pop : (us : List Pending) (u t : Pending) → AreBelow around rank (us ++ u ∷ []) t → AreBelow around rank us t × IsBelow around rank (key_of u) t
  are_pop [] u t h = (tt, h.0)
  are_pop (v ∷ vs) u t h = let rest = are_pop vs u t h.1 in ((h.0, rest.0), rest.1)

  -- ---- what is right

  right_push : (list : List Place) (ts : List Pending) (t : Pending) → AreRight around rank list ts → IsRight around rank list t → IsBelowAll around rank (key_of t) ts → AreRight around rank list (ts ++ t ∷ [])
  right_push list [] t all one below = (one, tt, tt)
  right_push list (u ∷ us) t all one below = (all.0, are_push us t u all.1 below.0, right_push list us t all.2 one below.1)

  right_pop : (list : List Place) (ts : List Pending) (t : Pending) → AreRight around rank list (ts ++ t ∷ []) → AreRight around rank list ts × IsRight around rank list t × IsBelowAll around rank (key_of t) ts
  right_pop list [] t all = (tt, all.0, tt)
  right_pop list (u ∷ us) t all =
      let rest = right_pop list us t all.2 in
      let top = are_pop us t u all.1 in
      ((all.0, top.0, rest.0), rest.1, (top.1, rest.2))

  right_stacked : (list : List Place) (ts : List Pending) (r : Option ℕ) (ks : List Key) → AreRight around rank list ts → ((q : Key) → In q ks → IsBelowAll around rank q ts) → AreRight around rank list (stacked ts r ks)
  right_stacked list ts r [] all below = all
  right_stacked list ts r (k ∷ ks) all below =
      right_push list (stacked ts r ks) (task.Visit (place r k)) (right_stacked list ts r ks all (λ q i. below q (inr i))) tt (below_stacked k ts r ks (below k (inl refl)))

  -- at the beginning
  pub right_first : (ks : List Key) → AreRight around rank [] (stacked [] None ks)
  right_first ks = right_stacked [] [] None ks tt (λ q i. tt)

  -- a place more is that of no key of a higher rank
  right_one : (list : List Place) (x : Place) (t : Pending) → IsRight around rank list t → IsBelow around rank x.key t → IsRight around rank (list ++ x ∷ []) t
  right_one list x (task.Visit y) one below = tt
  right_one list x (task.Settle y ps ss) one below =
      let other : is_place y.round y.key x ≡ false = fails (is_place y.round y.key x) (λ h. not_itself (rank y.key) (subst (λ k. rank k < rank y.key) (ap (λ z. z.key) (is_place_is y.round y.key x h)) below)) in
      (one.0, listed_more list x y.round y.key false false one.1 other)

  right_more : (list : List Place) (x : Place) (ts : List Pending) → AreRight around rank list ts → IsBelowAll around rank x.key ts → AreRight around rank (list ++ x ∷ []) ts
  right_more list x [] all below = tt
  right_more list x (t ∷ ts) all below = (right_one list x t all.0 below.0, all.1, right_more list x ts all.2 below.1)

  -- ---- turns

  -- a key that was visited
  pub again : (ts : List Pending) (list : List Place) (x : Place) → is_listed list x.round x.key ≡ true → AreRight around rank list (ts ++ task.Visit x ∷ []) → Proceeds around rank (ts ++ task.Visit x ∷ []) list ts list
  again ts list x listed right = record {
    leads = again_leads around ts list x listed;
    right = (right_pop list ts (task.Visit x) right).0;
    fewer = fewer_again (tasks_left around rank ts) (total (λ q. tasks_within around (rank x.key) q) (priors_by around x.key) + total (λ q. tasks_within around (rank x.key) q) (subsequents_by around x.key)) (tasks_left around rank (ts ++ task.Visit x ∷ [])) (left_push ts (task.Visit x));
  }

  -- a key that wasn't, with the keys around it
  pub opened : (ts us : List Pending) (list : List Place) (x : Place) (ps ss : List Key) → us ≡ stacked (ts ++ task.Settle x ps ss ∷ []) x.round ps → IsRanked around rank → around x.key ≡ Ok (ps, ss) → is_listed list x.round x.key ≡ false → AreRight around rank list (ts ++ task.Visit x ∷ []) → Proceeds around rank (ts ++ task.Visit x ∷ []) list us list
  opened ts us list x ps ss is ranked keys unlisted right =
      let before = right_pop list ts (task.Visit x) right in
      let ps_are : priors_by around x.key ≡ ps = ap priors_in keys in
      let ss_are : subsequents_by around x.key ≡ ss = ap subsequents_in keys in
      let lower_ps : (q : Key) → In q ps → rank q < rank x.key = λ q i. ranked.priors x.key q (in_contains (priors_by around x.key) q (subst (λ ks. In q ks) (sym ps_are) i)) in
      let lower_ss : (q : Key) → In q ss → rank q < rank x.key = λ q i. ranked.subsequents x.key q (in_contains (subsequents_by around x.key) q (subst (λ ks. In q ks) (sym ss_are) i)) in
      let own = right_push list ts (task.Settle x ps ss) before.0 (keys, unlisted) before.2 in
      subst (λ vs. Proceeds around rank (ts ++ task.Visit x ∷ []) list vs list) (sym is) (record {
        leads = opened_leads around ts list x ps ss unlisted keys;
        right = right_stacked list (ts ++ task.Settle x ps ss ∷ []) x.round ps own (λ q i. below_push q ts (task.Settle x ps ss) (below_all q x.key ts (lower_ps q i) before.2) (lower_ps q i));
        fewer =
            fewer_opened (tasks_left around rank ts) (total (tasks_of around rank) ps) (total (tasks_of around rank) ss) (total (λ q. tasks_within around (rank x.key) q) ps) (total (λ q. tasks_within around (rank x.key) q) ss)
            (tasks_left around rank (stacked (ts ++ task.Settle x ps ss ∷ []) x.round ps)) (tasks_left around rank (ts ++ task.Visit x ∷ []))
            (left_stacked (ts ++ task.Settle x ps ss ∷ []) x.round ps ∙ ap (λ n. n + total (tasks_of around rank) ps) (left_push ts (task.Settle x ps ss)))
            (left_push ts (task.Visit x) ∙ ap (λ ks. tasks_left around rank ts + suc (suc (total (λ q. tasks_within around (rank x.key) q) ks + total (λ q. tasks_within around (rank x.key) q) (subsequents_by around x.key)))) ps_are ∙ ap (λ ks. tasks_left around rank ts + suc (suc (total (λ q. tasks_within around (rank x.key) q) ps + total (λ q. tasks_within around (rank x.key) q) ks))) ss_are)
            (lower_tasks x.key ps lower_ps) (lower_tasks x.key ss lower_ss);
      })

  -- a key gets its place
  pub settled : (ts us : List Pending) (list new : List Place) (x : Place) (ps ss : List Key) → us ≡ stacked ts (Some (length list)) ss → new ≡ list ++ x ∷ [] → IsRanked around rank → AreRight around rank list (ts ++ task.Settle x ps ss ∷ []) → length list < CLOSURE_LIMIT → Proceeds around rank (ts ++ task.Settle x ps ss ∷ []) list us new
  settled ts us list new x ps ss is are ranked right lt =
      let before = right_pop list ts (task.Settle x ps ss) right in
      let ss_are : subsequents_by around x.key ≡ ss = ap subsequents_in before.1.0 in
      let lower_ss : (q : Key) → In q ss → rank q < rank x.key = λ q i. ranked.subsequents x.key q (in_contains (subsequents_by around x.key) q (subst (λ ks. In q ks) (sym ss_are) i)) in
      subst (λ vs. Proceeds around rank (ts ++ task.Settle x ps ss ∷ []) list vs new) (sym is) (subst (λ l. Proceeds around rank (ts ++ task.Settle x ps ss ∷ []) list (stacked ts (Some (length list)) ss) l) (sym are) (record {
        leads = settled_leads around ts list x ps ss (length list) before.1.1 lt refl;
        right = right_stacked (list ++ x ∷ []) ts (Some (length list)) ss (right_more list x ts before.0 before.2) (λ q i. below_all q x.key ts (lower_ss q i) before.2);
        fewer = fewer_settled (tasks_left around rank ts) (total (tasks_of around rank) ss) (tasks_left around rank (stacked ts (Some (length list)) ss)) (tasks_left around rank (ts ++ task.Settle x ps ss ∷ [])) (left_stacked ts (Some (length list)) ss) (left_push ts (task.Settle x ps ss));
      }))

  -- a key that is to get its place has none
  pub unlisted : (ts : List Pending) (list : List Place) (x : Place) (ps ss : List Key) → AreRight around rank list (ts ++ task.Settle x ps ss ∷ []) → is_listed list x.round x.key ≡ false
  unlisted ts list x ps ss right = (right_pop list ts (task.Settle x ps ss) right).1.1

  -- there is no place left
  pub over : (ts : List Pending) (list : List Place) (x : Place) (ps ss : List Key) (e : LangError) → AreRight around rank list (ts ++ task.Settle x ps ss ∷ []) → (e ≡ ClosureLimit) × (CLOSURE_LIMIT ≤ length list) → Finishes around (ts ++ task.Settle x ps ss ∷ []) (Ok list) (Err e)
  over ts list x ps ss e right h =
      subst (λ f. Finishes around (ts ++ task.Settle x ps ss ∷ []) (Ok list) (Err f)) (sym h.0) (over_leads around ts list x ps ss (right_pop list ts (task.Settle x ps ss) right).1.1 h.1)

  -- the keys around a key that gets its place
  pub beside_settled : (ts : List Pending) (list new : List Place) (some all : List Beside) (x : Place) (ps ss : List Key) → AreRight around rank list (ts ++ task.Settle x ps ss ∷ []) → AreBeside around list some → new ≡ list ++ x ∷ [] → all ≡ some ++ record { priors = numbers_of list x.round ps; subsequents = ss } ∷ [] → AreBeside around new all
  beside_settled ts list new some all x ps ss right beside is are =
      subst (λ l. AreBeside around l all) (sym is) (subst (λ bs. AreBeside around (list ++ x ∷ []) bs) (sym are) (beside_more around list some x ps ss beside (right_pop list ts (task.Settle x ps ss) right).1.0))

  -- ---- a whole walk

  pub right_popped : (us vs : List Pending) (list : List Place) → AreRight around rank list us → us ≡ vs → AreRight around rank list vs
  right_popped us vs list right same = subst (λ ts. AreRight around rank list ts) same right

  pub fewer_popped : (us vs ws : List Pending) (list new : List Place) → us ≡ vs → Proceeds around rank vs list ws new → tasks_left around rank ws < tasks_left around rank us
  fewer_popped us vs ws list new same h = subst (λ ts. tasks_left around rank ws < tasks_left around rank ts) (sym same) h.fewer

  -- the work at the beginning
  pub right_start : (list : List Place) (ts us : List Pending) (ks : List Key) → list ≡ [] → ts ≡ [] → us ≡ stacked ts None ks → AreRight around rank list us
  right_start list ts us ks none nothing is =
      subst (λ l. AreRight around rank l us) (sym none) (subst (λ vs. AreRight around rank [] vs) (sym (is ∙ ap (λ ws. stacked ws None ks) nothing)) (right_first ks))

  -- a turn that gives a key its place
  pub turned : (ts : List Pending) (t : Pending) (list new : List Place) (some all : List Beside) (x : Place) (ps ss : List Key) → t ≡ task.Settle x ps ss → AreRight around rank list (ts ++ t ∷ []) → AreBeside around list some → new ≡ list ++ x ∷ [] → all ≡ some ++ record { priors = numbers_of list x.round ps; subsequents = ss } ∷ [] → AreBeside around new all
  turned ts t list new some all x ps ss is right beside = beside_settled ts list new some all x ps ss (subst (λ u. AreRight around rank list (ts ++ u ∷ [])) is right) beside

  -- one for which there is no place left
  pub turned_over : (ts : List Pending) (t : Pending) (list : List Place) (x : Place) (ps ss : List Key) (e : LangError) → t ≡ task.Settle x ps ss → AreRight around rank list (ts ++ t ∷ []) → (e ≡ ClosureLimit) × (CLOSURE_LIMIT ≤ length list) → Finishes around (ts ++ t ∷ []) (Ok list) (Err e)
  turned_over ts t list x ps ss e is right h =
      subst (λ u. Finishes around (ts ++ u ∷ []) (Ok list) (Err e)) (sym is) (over ts list x ps ss e (subst (λ u. AreRight around rank list (ts ++ u ∷ [])) is right) h)

-- the work at the beginning is refused
pub refused_start : (around : Key → Around) (list : List Place) (ts us : List Pending) (ks : List Key) (e : LangError) → list ≡ [] → ts ≡ [] → us ≡ stacked ts None ks → Finishes around us (Ok list) (Err e) → Visits around (Ok []) None ks (Err e)
refused_start around list ts us ks e none nothing is f =
    all_visits around ks (Err e) (subst (λ vs. Finishes around vs (Ok []) (Err e)) (is ∙ ap (λ ws. stacked ws None ks) nothing) (subst (λ l. Finishes around us (Ok l) (Err e)) none f))

-- ---- outcomes of calls

-- what follows from two facts about a call that succeeds
pub on_both : {T E : Type 0} (A B C : Type 0) (r : Result T E) → (A → B → C) → OnOk r A → OnOk r B → OnOk r C
on_both A B C (Ok t) f a b = f a b
on_both A B C (Err e) f a b = tt

-- what follows of each error
pub if_err : {T E : Type 0} (P Q : E → Type 0) (r : Result T E) → ((e : E) → P e → Q e) → IfErr r P → IfErr r Q
if_err P Q (Ok t) f h = tt
if_err P Q (Err e) f h = f e h
