-- What visits add to a list.
use Rattle.std.proofs.Common.{◌≡◌, ℕ, ◌<◌, ◌≤◌, ◌⊎◌, inl, inr, true, false, List, [], ◌∷◌, ◌++◌, length, Option, Some, None, refl, ap, sym, ◌∙◌, subst, arith, length-append, slice_get, Ok, Err, Bool, if◌then◌else◌}
use Rattle.std.proofs.lemmas.Bool.{cases_lt}
use Rattle.std.proofs.lemmas.Option.{slice_get_within}
use Rattle.just_lang_types.specs.declared.key.Key.{Key}
use Rattle.just_lang_types.specs.declared.place.Place.{Place}
use Rattle.just_lang_types.specs.declared.project.LangError.{LangError}
use Rattle.just_eval_closure.specs.Places.{place, is_listed, IsMember}
use Rattle.just_eval_closure.specs.Visits.{Visited, Around, priors_in, subsequents_in, priors_by, subsequents_by, begun, placed, next_place, IsNew, Visits}
use Rattle.just_eval_closure.proofs.Items.{In, in_contains}
use Rattle.just_eval_closure.proofs.Places.{At, at_left, at_last, at_within, some_is, some_nat, Has, listed_has, has_listed}
use Rattle.just_eval_closure.proofs.Reaches.{Reach, here, FromAny, from, reach_member, from_more, from_reach}

-- what is needed of a list before a visit in round r: r's node is there, and each round's node stands before it
pub record IsReady (r : Option ℕ) (list : List Place) : Type 0 where
  pub named : (m : ℕ) → r ≡ Some m → m < length list
  pub rounds : (n m : ℕ) (x : Place) → At list n x → x.round ≡ Some m → m < n

-- where the dependencies of a place stand
pub record IsPlaced (p s : Key → List Key) (list : List Place) (n : ℕ) (x : Place) : Type 0 where
  pub priors : (q : Key) → In q (p x.key) → (m : ℕ) × (m < n) × At list m (place x.round q)
  pub subsequents : (q : Key) → In q (s x.key) → (m : ℕ) × (n < m) × At list m (place (Some n) q)

-- a new place has the round r and a key of Root, or a round that a new place names
pub data IsFresh (r : Option ℕ) (Root : Key → Type 0) (low n : ℕ) (x : Place) : Type 0 where
  outer : x.round ≡ r → Root x.key → IsFresh r Root low n x
  inner : (m : ℕ) → x.round ≡ Some m → low ≤ m → m < n → IsFresh r Root low n x

-- what visits in round r of keys of Root add
pub record GrowsBy (p s : Key → List Key) (r : Option ℕ) (Root : Key → Type 0) (old new : List Place) : Type 0 where
  pub longer : length old ≤ length new
  pub keeps : (n : ℕ) (x : Place) → At old n x → At new n x
  pub made : (n : ℕ) (x : Place) → length old ≤ n → At new n x → IsPlaced p s new n x
  pub fresh : (n : ℕ) (x : Place) → length old ≤ n → At new n x → IsFresh r Root (length old) n x
  pub distinct : (n m : ℕ) (x : Place) → length old ≤ n → At new n x → At new m x → m ≡ n
  pub member : (keys : List Key) (all : List Place) → ((n : ℕ) (x : Place) → At new n x → At all n x) → ((k : Key) → Root k → IsMember p s keys all r k) → (n : ℕ) (x : Place) → length old ≤ n → At new n x → IsMember p s keys all x.round x.key

-- what stood in the old part stands there
pub at_back : (old new : List Place) → ((n : ℕ) (x : Place) → At old n x → At new n x) → (n : ℕ) (x : Place) → n < length old → At new n x → At old n x
at_back old new keeps n x lt h =
    let y = at_within old n lt in
    let is : y.0 ≡ x = some_is y.0 x (sym (keeps n y.0 y.1) ∙ h) in subst (λ z. At old n z) is y.1

-- the dependencies of a place stay where they are as the list grows
pub made_more : (p s : Key → List Key) (mid new : List Place) → ((n : ℕ) (x : Place) → At mid n x → At new n x) → (n : ℕ) (x : Place) → IsPlaced p s mid n x → IsPlaced p s new n x
made_more p s mid new keeps n x made = record {
  priors = λ q i. let m = made.priors q i in (m.0, m.1, keeps m.0 _ m.2);
  subsequents = λ q i. let m = made.subsequents q i in (m.0, m.1, keeps m.0 _ m.2);
}

-- a place that is fresh for fewer keys, or further on, is so for more, or from before
pub fresh_more : (r : Option ℕ) (A B : Key → Type 0) (low low' n : ℕ) (x : Place) → ((k : Key) → A k → B k) → low' ≤ low → IsFresh r A low n x → IsFresh r B low' n x
fresh_more r A B low low' n x more le (outer e root) = outer e (more x.key root)
fresh_more r A B low low' n x more le (inner m e h lt) = inner m e (omega (arith, le, h)) lt

-- where nothing is visited nothing is added
pub grown_nothing : (p s : Key → List Key) (r : Option ℕ) (Root : Key → Type 0) (list : List Place) → GrowsBy p s r Root list list
grown_nothing p s r Root list = record {
  longer = omega arith;
  keeps = λ n x h. h;
  made = λ n x le h. absurd (omega (arith, le, slice_get_within list n x h));
  fresh = λ n x le h. absurd (omega (arith, le, slice_get_within list n x h));
  distinct = λ n m x le h g. absurd (omega (arith, le, slice_get_within list n x h));
  member = λ keys all keeps roots n x le h. absurd (omega (arith, le, slice_get_within list n x h));
}

-- one after the other
pub grown_two : (p s : Key → List Key) (r : Option ℕ) (A B Root : Key → Type 0) (old mid new : List Place) → ((k : Key) → A k → Root k) → ((k : Key) → B k → Root k) → GrowsBy p s r A old mid → GrowsBy p s r B mid new → GrowsBy p s r Root old new
grown_two p s r A B Root old mid new a b one two = record {
  longer = omega (arith, one.longer, two.longer);
  keeps = λ n x h. two.keeps n x (one.keeps n x h);
  made = λ n x le h. elim (cases_lt n (length mid)) [
    | inl lt ↦ made_more p s mid new two.keeps n x (one.made n x le (at_back mid new two.keeps n x lt h))
    | inr ge ↦ two.made n x ge h
  ];
  fresh = λ n x le h. elim (cases_lt n (length mid)) [
    | inl lt ↦ fresh_more r A Root (length old) (length old) n x a (omega arith) (one.fresh n x le (at_back mid new two.keeps n x lt h))
    | inr ge ↦ fresh_more r B Root (length mid) (length old) n x b one.longer (two.fresh n x ge h)
  ];
  distinct = λ n m x le h g. elim (cases_lt n (length mid)) [
    | inl lt ↦ elim (cases_lt m (length mid)) [
      | inl below ↦ one.distinct n m x le (at_back mid new two.keeps n x lt h) (at_back mid new two.keeps m x below g)
      | inr above ↦ sym (two.distinct m n x above g h)
    ]
    | inr ge ↦ two.distinct n m x ge h g
  ];
  member = λ keys all keeps roots n x le h. elim (cases_lt n (length mid)) [
    | inl lt ↦ one.member keys all (λ i y at. keeps i y (two.keeps i y at)) (λ k root. roots k (a k root)) n x le (at_back mid new two.keeps n x lt h)
    | inr ge ↦ two.member keys all keeps (λ k root. roots k (b k root)) n x ge h
  ];
}

-- the round of a fresh place is named by a place before it
fresh_round : {r : Option ℕ} {Root : Key → Type 0} {low n : ℕ} {x : Place} → IsFresh r Root low n x → ((i : ℕ) → r ≡ Some i → i < n) → (m : ℕ) → x.round ≡ Some m → m < n
fresh_round (outer e root) named m is = named m (sym e ∙ is)
fresh_round (inner i e h lt) named m is = let same : i ≡ m = some_nat i m (sym e ∙ is) in omega (arith, same, lt)

-- a list stays in order
pub ready_more : (p s : Key → List Key) (r : Option ℕ) (Root : Key → Type 0) (old new : List Place) → IsReady r old → GrowsBy p s r Root old new → IsReady r new
ready_more p s r Root old new ready grown = record {
  named = λ m e. omega (arith, ready.named m e, grown.longer);
  rounds = λ n m x h e. elim (cases_lt n (length old)) [
    | inl lt ↦ ready.rounds n m x (at_back old new grown.keeps n x lt h) e
    | inr ge ↦ fresh_round (grown.fresh n x ge h) (λ i is. omega (arith, ready.named i is, ge)) m e
  ];
}

-- the round that a pushed key names
pub ready_pushed : (r : Option ℕ) (k : Key) (before : List Place) → IsReady r before → IsReady (Some (length before)) (before ++ place r k ∷ [])
ready_pushed r k before ready = record {
  named = λ m e. let same : length before ≡ m = some_nat (length before) m e in omega (arith, same, length-append before (place r k ∷ []));
  rounds = λ n m x h e. elim (cases_lt n (length before)) [
    | inl lt ↦ ready.rounds n m x (at_back before (before ++ place r k ∷ []) (at_left before (place r k ∷ [])) n x lt h) e
    | inr ge ↦
        let short = slice_get_within (before ++ place r k ∷ []) n x h in
        let same : n ≡ length before = omega (arith, ge, short, length-append before (place r k ∷ [])) in
        let is : x ≡ place r k = some_is x (place r k) (sym h ∙ ap (λ i. slice_get (before ++ place r k ∷ []) i) same ∙ at_last before (place r k)) in
        omega (arith, ge, ready.named m (sym (ap (λ y. y.round) is) ∙ e))
  ];
}

-- the key that was pushed, or something behind it
pub last_or : (r : Option ℕ) (k : Key) (before after : List Place) → ((n : ℕ) (x : Place) → At (before ++ place r k ∷ []) n x → At after n x) → (n : ℕ) (x : Place) → length before ≤ n → At after n x → ((n ≡ length before) × (x ≡ place r k)) ⊎ (length (before ++ place r k ∷ []) ≤ n)
last_or r k before after keeps n x le h = elim (cases_lt n (length (before ++ place r k ∷ []))) [
  | inl lt ↦
      let same : n ≡ length before = omega (arith, le, lt, length-append before (place r k ∷ [])) in
      inl (same, some_is x (place r k) (sym h ∙ ap (λ i. slice_get after i) same ∙ keeps (length before) (place r k) (at_last before (place r k))))
  | inr ge ↦ inr ge
]

-- a key that is visited behind its priors and before its subsequents has them around it
made_key : (p s : Key → List Key) (r : Option ℕ) (k : Key) (before after : List Place) → ((n : ℕ) (x : Place) → At before n x → At after n x) → IsReady (Some (length before)) after → ((q : Key) → In q (p k) → Has before r q) → ((q : Key) → In q (s k) → Has after (Some (length before)) q) → IsPlaced p s after (length before) (place r k)
made_key p s r k before after keeps ready priors subsequents = record {
  priors = λ q i. let m = priors q i in (m.0, slice_get_within before m.0 (place r q) m.1, keeps m.0 (place r q) m.1);
  subsequents = λ q i. let m = subsequents q i in (m.0, ready.rounds m.0 (length before) (place (Some (length before)) q) m.1 refl, m.1);
}

-- what the subsequents of a key add is fresh for the key
fresh_behind : (r : Option ℕ) (A B : Key → Type 0) (low high n : ℕ) (x : Place) → low < high → high ≤ n → IsFresh (Some low) B high n x → IsFresh r A low n x
fresh_behind r A B low high n x lt le (outer e root) = inner low e (omega arith) (omega (arith, lt, le))
fresh_behind r A B low high n x lt le (inner m e h below) = inner m e (omega (arith, lt, h)) below

-- what the subsequents of a member lead to are members of the round that the member names
sub_member : (p s : Key → List Key) (keys : List Key) (all : List Place) (r : Option ℕ) (k : Key) (n : ℕ) (q : Key) → IsMember p s keys all r k → At all n (place r k) → FromAny p (s k) q → IsMember p s keys all (Some n) q
sub_member p s keys all r k n q member stands (from a i reach) =
    reach_member p s keys all (Some n) a q (IsMember.subsequent n r k a member stands (in_contains (s k) a i)) reach

-- a key behind its priors, and then its subsequents
pub grown_key : (p s : Key → List Key) (r : Option ℕ) (k : Key) (before after : List Place) → IsReady r before → ((q : Key) → In q (p k) → Has before r q) → ((n : ℕ) → At before n (place r k) → ⊥) → GrowsBy p s (Some (length before)) (FromAny p (s k)) (before ++ place r k ∷ []) after → ((q : Key) → In q (s k) → Has after (Some (length before)) q) → GrowsBy p s r (λ x. k ≡ x) before after
grown_key p s r k before after ready priors absent step subsequents =
    let pushed : List Place = before ++ place r k ∷ [] in
    let long = length-append before (place r k ∷ []) in
    let keeps : (n : ℕ) (x : Place) → At before n x → At after n x = λ n x h. step.keeps n x (at_left before (place r k ∷ []) n x h) in
    let stands = step.keeps (length before) (place r k) (at_last before (place r k)) in
    let ready_after = ready_more p s (Some (length before)) (FromAny p (s k)) pushed after (ready_pushed r k before ready) step in
    let last = last_or r k before after step.keeps in
    record {
      longer = omega (arith, long, step.longer);
      keeps = keeps;
      made = λ n x le h. elim (last n x le h) [
        | inl same ↦ subst (λ i. IsPlaced p s after i x) (sym same.0) (subst (λ y. IsPlaced p s after (length before) y) (sym same.1) (made_key p s r k before after keeps ready_after priors subsequents))
        | inr ge ↦ step.made n x ge h
      ];
      fresh = λ n x le h. elim (last n x le h) [
        | inl same ↦ outer (ap (λ y. y.round) same.1) (sym (ap (λ y. y.key) same.1))
        | inr ge ↦ fresh_behind r (λ x. k ≡ x) (FromAny p (s k)) (length before) (length pushed) n x (omega (arith, long)) ge (step.fresh n x ge h)
      ];
      distinct = λ n m x le h g. elim (last n x le h) [
        | inl same ↦ elim (cases_lt m (length before)) [
          | inl lt ↦ absurd (absent m (subst (λ y. At before m y) same.1 (at_back before after keeps m x lt g)))
          | inr above ↦ elim (last m x above g) [
            | inl equal ↦ equal.0 ∙ sym same.0
            | inr beyond ↦ sym (step.distinct m n x beyond g h)
          ]
        ]
        | inr ge ↦ step.distinct n m x ge h g
      ];
      member = λ keys all sub roots n x le h. elim (last n x le h) [
        | inl same ↦ subst (λ y. IsMember p s keys all y.round y.key) (sym same.1) (roots k refl)
        | inr ge ↦ step.member keys all sub (λ q root. sub_member p s keys all r k (length before) q (roots k refl) (sub (length before) (place r k) stands) root) n x ge h
      ];
    }

-- a key that stands in a list stands in a longer one
has_more : (list new : List Place) (r : Option ℕ) (k : Key) → ((n : ℕ) (x : Place) → At list n x → At new n x) → Has list r k → Has new r k
has_more list new r k keeps has = (has.0, keeps has.0 (place r k) has.1)

-- no round is a named one
pub none_some : (m : ℕ) → None ≡ Some m → ⊥
none_some m e = absurd (cc)

-- nothing stands in the empty list
nothing_at : (n : ℕ) (x : Place) → At [] n x → ⊥
nothing_at n x h = absurd (cc)

-- no test holds and fails
pub true_false : true ≡ false → ⊥
true_false e = absurd (cc)

-- ---- outcomes of visits

-- places that were visited
abbrev pub reached : List Place → Visited
reached list = Ok list

-- a refusal
abbrev pub refusal : LangError → Visited
refusal e = Err e

-- one list was visited
pub one_reached : (xs ys : List Place) → reached xs ≡ reached ys → xs ≡ ys
one_reached xs ys e = cc

-- what is refused was not visited
pub not_both : (e : LangError) (xs : List Place) → refusal e ≡ reached xs → ⊥
not_both e xs h = let no : ⊥ = cc in no

-- the visits that aren't refused begin at a list
ok_before : (around : Key → Around) (start : Visited) (r : Option ℕ) (keys : List Key) (end : Visited) → Visits around start r keys end → (new : List Place) → end ≡ reached new → (list : List Place) × (start ≡ reached list)
ok_before around start r keys end (Visits.stopped e round ks) new h = absurd (not_both e new h)
ok_before around start r keys end (Visits.none list round) new h = (list, refl)
ok_before around start r keys end (Visits.again list round k ks last listed more) new h = (list, refl)
ok_before around start r keys end (Visits.visited list round k ks before behind last unlisted one fresh two more) new h = (list, refl)

-- what a test for room chooses
room_is : (room : Bool) (list new : List Place) (e : LangError) → (if room then reached list else refusal e) ≡ reached new → new ≡ list
room_is true list new e h = sym (one_reached list new h)
room_is false list new e h = absurd (not_both e new h)

-- a key that got a place got the next one
placed_ok : (before : Visited) (r : Option ℕ) (k : Key) (new : List Place) → placed before r k ≡ reached new → (list : List Place) × (before ≡ reached list) × (new ≡ list ++ place r k ∷ [])
placed_ok (Ok list) r k new h = (list, refl, room_is _ (list ++ place r k ∷ []) new _ h)
placed_ok (Err e) r k new h = absurd (not_both e new h)

-- a visit that begins, begins at the list that is there
begun_ok : (list new : List Place) (a : Around) → begun list a ≡ reached new → new ≡ list
begun_ok list new (Ok keys) h = sym (one_reached list new h)
begun_ok list new (Err e) h = absurd (not_both e new h)

-- ---- visits

-- no keys lead to nothing
from_nothing : (p : Key → List Key) (keys : List Key) (x : Key) → FromAny p [] x → FromAny p keys x
from_nothing p keys x (from q i reach) = absurd i

-- what visits of keys in a round make of a list
abbrev pub Grew : (Key → Around) → Option ℕ → List Key → List Place → List Place → Type 0
Grew around r keys list new = GrowsBy (priors_by around) (subsequents_by around) r (FromAny (priors_by around) keys) list new × ((q : Key) → In q keys → Has new r q)

-- a key that is listed, and then others
grown_again : (around : Key → Around) (r : Option ℕ) (k : Key) (ks : List Key) (list new : List Place) → is_listed list r k ≡ true → Grew around r ks list new → Grew around r (k ∷ ks) list new
grown_again around r k ks list new listed rest =
    let p = priors_by around in
    let s = subsequents_by around in (
      grown_two p s r (FromAny p []) (FromAny p ks) (FromAny p (k ∷ ks)) list list new (λ x f. from_nothing p (k ∷ ks) x f) (λ x f. from_more p k ks x f) (grown_nothing p s r (FromAny p []) list) rest.0,
      λ q i. elim i [ inl e ↦ subst (λ y. Has new r y) e (has_more list new r k rest.0.keeps (listed_has list r k listed)) | inr j ↦ rest.1 q j ],
    )

-- a key behind its priors, then its subsequents
grown_one : (around : Key → Around) (r : Option ℕ) (k : Key) (list before after : List Place) → IsReady r list → is_listed before r k ≡ false → Grew around r (priors_by around k) list before → Grew around (Some (length before)) (subsequents_by around k) (before ++ place r k ∷ []) after → GrowsBy (priors_by around) (subsequents_by around) r (Reach (priors_by around) k) list after × Has after r k
grown_one around r k list before after ready fresh first last =
    let p = priors_by around in
    let s = subsequents_by around in
    let ready_before = ready_more p s r (FromAny p (p k)) list before ready first.0 in
    let own = grown_key p s r k before after ready_before first.1 (λ m h. true_false (sym (has_listed before r k m h) ∙ fresh)) last.0 last.1 in (
      grown_two p s r (FromAny p (p k)) (λ x. k ≡ x) (Reach p k) list before after (from_reach p k) (λ x same. subst (λ y. Reach p k y) same (here k)) first.0 own,
      (length before, last.0.keeps (length before) (place r k) (at_last before (place r k))),
    )

-- one key, and then others
grown_more : (around : Key → Around) (r : Option ℕ) (k : Key) (ks : List Key) (list mid new : List Place) → GrowsBy (priors_by around) (subsequents_by around) r (Reach (priors_by around) k) list mid × Has mid r k → Grew around r ks mid new → Grew around r (k ∷ ks) list new
grown_more around r k ks list mid new one rest =
    let p = priors_by around in
    let s = subsequents_by around in (
      grown_two p s r (Reach p k) (FromAny p ks) (FromAny p (k ∷ ks)) list mid new (λ x reach. from k (inl refl) reach) (λ x f. from_more p k ks x f) one.0 rest.0,
      λ q i. elim i [ inl e ↦ subst (λ y. Has new r y) e (has_more mid new r k rest.0.keeps one.1) | inr j ↦ rest.1 q j ],
    )

-- what visits that aren't refused make of a list
pub grown : (around : Key → Around) (start : Visited) (r : Option ℕ) (keys : List Key) (end : Visited) → Visits around start r keys end → (list new : List Place) → start ≡ reached list → end ≡ reached new → IsReady r list → Grew around r keys list new
grown around start r keys end (Visits.stopped e round ks) list new a z ready = absurd (not_both e list a)
grown around start r keys end (Visits.none old round) list new a z ready =
    let same : list ≡ new = sym (one_reached old list a) ∙ one_reached old new z in
    subst (λ n. Grew around round [] list n) same (grown_nothing (priors_by around) (subsequents_by around) round (FromAny (priors_by around) []) list, λ q i. absurd i)
grown around start r keys end (Visits.again old round k ks last listed more) list new a z ready =
    let same : old ≡ list = one_reached old list a in
    grown_again around round k ks list new (subst (λ l. is_listed l round k ≡ true) same listed) (grown around (reached old) round ks last more list new a z ready)
grown around start r keys end (Visits.visited old round k ks before behind last unlisted one fresh two more) list new a z ready =
    let same : old ≡ list = one_reached old list a in
    let after = ok_before around behind round ks last more new z in
    let pushed = ok_before around (placed before round k) (Some (next_place before)) (subsequents_in (around k)) behind two after.0 after.1 in
    let was = placed_ok before round k pushed.0 pushed.1 in
    let began = ok_before around (begun old (around k)) round (priors_in (around k)) before one was.0 was.1 in
    let first = grown around (begun old (around k)) round (priors_in (around k)) before one list was.0 (began.1 ∙ ap reached (begun_ok old began.0 (around k) began.1 ∙ same)) was.1 ready in
    let number : next_place before ≡ length was.0 = ap (λ v. next_place v) was.1 in
    let ready_pushed_on = ready_pushed round k was.0 (ready_more (priors_by around) (subsequents_by around) round (FromAny (priors_by around) (priors_in (around k))) list was.0 ready first.0) in
    let second = grown around (placed before round k) (Some (next_place before)) (subsequents_in (around k)) behind two (was.0 ++ place round k ∷ []) after.0 (pushed.1 ∙ ap reached was.2) after.1 (subst (λ n. IsReady (Some n) (was.0 ++ place round k ∷ [])) (sym number) ready_pushed_on) in
    let here_and_behind = grown_one around round k list was.0 after.0 ready (subst (λ v. IsNew v round k) was.1 fresh) first (subst (λ n. Grew around (Some n) (subsequents_in (around k)) (was.0 ++ place round k ∷ []) after.0) number second) in
    grown_more around round k ks list after.0 new here_and_behind (grown around behind round ks last more after.0 new after.1 z (ready_more (priors_by around) (subsequents_by around) round (Reach (priors_by around) k) list after.0 ready here_and_behind.0))

-- visits of keys in the round of the command line, from nothing on
pub grown_walk : (around : Key → Around) (keys : List Key) (list : List Place) → Visits around (reached []) None keys (reached list) → Grew around None keys [] list
grown_walk around keys list visits =
    grown around (reached []) None keys (reached list) visits [] list refl refl (record { named = λ m e. absurd (none_some m e); rounds = λ n m x h e. absurd (nothing_at n x h) })
