-- What the work that is pending comes to.
use Rattle.std.proofs.Common.{◌≡◌, ℕ, ◌<◌, ◌≤◌, true, false, List, [], ◌∷◌, ◌++◌, append-nil, append_assoc, length, Option, Some, None, Ok, Err, refl, ap, sym, ◌∙◌, subst}
use Rattle.std.specs.Prelude.{if◌then◌else◌}
use Rattle.std.proofs.lemmas.Bool.{lt-ltb, le-ltb}
use Rattle.just_lang_types.specs.declared.key.Key.{Key}
use Rattle.just_lang_types.specs.declared.place.Place.{Place}
use Rattle.just_lang_types.specs.declared.project.LangError.{LangError}
use Rattle.just_lang_types.specs.declared.project.LangError.TheVariants.{ClosureLimit}
use Rattle.just_eval_closure.specs.declared.walk.Pending.{Pending}
use Rattle.just_eval_closure.specs.declared.walk.Pending.TheVariants as task
use Rattle.just_eval_closure.specs.declared.TheConstants.{CLOSURE_LIMIT}
use Rattle.just_eval_closure.specs.Places.{place, is_listed, numbers_of}
use Rattle.just_eval_closure.specs.Pending.{stacked, Step, Finishes, Leads, beside_behind, besides_behind, AreBeside}
use Rattle.just_eval_closure.specs.Visits.{Visited, Around, priors_in, subsequents_in, begun, placed, next_place, Visits}
use Rattle.just_eval_closure.specs.declared.walk.Beside.{Beside}
use Rattle.just_eval_closure.proofs.Grown.{reached, refusal}

-- ---- visits one behind the other

-- the visits of no keys
nothing : (around : Key → Around) (start : Visited) (r : Option ℕ) → Visits around start r [] start
nothing around (Ok list) r = Visits.none list r
nothing around (Err e) r = Visits.stopped e r []

-- the visits of no keys end where they begin
nothing_is : (around : Key → Around) (start : Visited) (r : Option ℕ) (keys : List Key) (end : Visited) → Visits around start r keys end → keys ≡ [] → start ≡ end
nothing_is around start r keys end (Visits.stopped e round ks) h = refl
nothing_is around start r keys end (Visits.none list round) h = refl
nothing_is around start r keys end (Visits.again list round k ks last listed more) h = absurd (let no : ⊥ = cc in no)
nothing_is around start r keys end (Visits.visited list round k ks before behind last unlisted one fresh two more) h = absurd (let no : ⊥ = cc in no)

-- behind a refusal the same refusal is left
stays : (around : Key → Around) (start : Visited) (r : Option ℕ) (keys : List Key) (end : Visited) → Visits around start r keys end → (e : LangError) → start ≡ refusal e → end ≡ refusal e
stays around start r keys end (Visits.stopped x round ks) e h = h
stays around start r keys end (Visits.none list round) e h = h
stays around start r keys end (Visits.again list round k ks last listed more) e h = absurd (let no : ⊥ = cc in no)
stays around start r keys end (Visits.visited list round k ks before behind last unlisted one fresh two more) e h = absurd (let no : ⊥ = cc in no)

-- the visit of one key, and then of others
join : (around : Key → Around) (start : Visited) (r : Option ℕ) (k : Key) (one : List Key) (mid : Visited) → Visits around start r one mid → one ≡ k ∷ [] → (ks : List Key) (end : Visited) → Visits around mid r ks end → Visits around start r (k ∷ ks) end
join around start r k one mid (Visits.stopped e round us) h ks end rest =
    subst (λ v. Visits around (refusal e) round (k ∷ ks) v) (sym (stays around (refusal e) round ks end rest e refl)) (Visits.stopped e round (k ∷ ks))
join around start r k one mid (Visits.none list round) h ks end rest = absurd (let no : ⊥ = cc in no)
join around start r k one mid (Visits.again list round q us last listed more) h ks end rest =
    let same : q ≡ k = cc in
    let done : us ≡ [] = cc in
    let last_is = nothing_is around (reached list) round us last more done in
    Visits.again list round k ks end (subst (λ x. is_listed list round x ≡ true) same listed) (subst (λ v. Visits around v round ks end) (sym last_is) rest)
join around start r k one mid (Visits.visited list round q us before behind last unlisted first fresh second more) h ks end rest =
    let same : q ≡ k = cc in
    let done : us ≡ [] = cc in
    let last_is = nothing_is around behind round us last more done in
    subst (λ x. Visits around (reached list) round (x ∷ ks) end) same (Visits.visited list round q ks before behind end unlisted first fresh second (subst (λ v. Visits around v round ks end) (sym last_is) rest))

-- ---- what is pending

module _ (around : Key → Around) where
  -- the last task is done first
  unpush : (ts : List Pending) (t : Pending) (start end : Visited) → Finishes around (ts ++ t ∷ []) start end → (mid : Visited) × Step around t start mid × Finishes around ts mid end
  unpush [] t start end f = (end, subst (λ v. Step around t v end) (sym f.1) f.2, refl)
  unpush (u ∷ us) t start end f = let rest = unpush us t start f.0 f.1 in (rest.0, rest.1, (f.0, rest.2, f.2))

  push : (ts : List Pending) (t : Pending) (start mid end : Visited) → Step around t start mid → Finishes around ts mid end → Finishes around (ts ++ t ∷ []) start end
  push [] t start mid end step f = (start, refl, subst (λ v. Step around t start v) f step)
  push (u ∷ us) t start mid end step f = (f.0, push us t start mid f.0 step f.1, f.2)

  -- a refusal goes through all that is pending
  refused_step : (t : Pending) (e : LangError) → Step around t (Err e) (Err e)
  refused_step (task.Visit x) e = Visits.stopped e x.round (x.key ∷ [])
  refused_step (task.Settle x priors subsequents) e = (tt, Visits.stopped e (Some 0) subsequents)

  refused_all : (ts : List Pending) (e : LangError) → Finishes around ts (Err e) (Err e)
  refused_all [] e = refl
  refused_all (t ∷ ts) e = (Err e, refused_all ts e, refused_step t e)

  -- what is visited first comes off first
  unstack : (ts : List Pending) (r : Option ℕ) (ks : List Key) (start end : Visited) → Finishes around (stacked ts r ks) start end → (mid : Visited) × Visits around start r ks mid × Finishes around ts mid end
  unstack ts r [] start end f = (start, nothing around start r, f)
  unstack ts r (k ∷ ks) start end f =
      let first = unpush (stacked ts r ks) (task.Visit (place r k)) start end f in
      let rest = unstack ts r ks first.0 end first.2 in
      (rest.0, join around start r k (k ∷ []) first.0 first.1 refl ks rest.0 rest.1, rest.2)

  -- ---- visits

  -- a key that was visited
  pub again_leads : (ts : List Pending) (list : List Place) (x : Place) → is_listed list x.round x.key ≡ true → Leads around (ts ++ task.Visit x ∷ []) list ts list
  again_leads ts list x listed end f =
      push ts (task.Visit x) (Ok list) (Ok list) end (Visits.again list x.round x.key [] (Ok list) listed (Visits.none list x.round)) f

  -- a key that wasn't, with the keys around it
  pub opened_leads : (ts : List Pending) (list : List Place) (x : Place) (ps ss : List Key) → is_listed list x.round x.key ≡ false → around x.key ≡ Ok (ps, ss) → Leads around (ts ++ task.Visit x ∷ []) list (stacked (ts ++ task.Settle x ps ss ∷ []) x.round ps) list
  opened_leads ts list x ps ss unlisted keys end f =
      let priors = unstack (ts ++ task.Settle x ps ss ∷ []) x.round ps (Ok list) end f in
      let own = unpush ts (task.Settle x ps ss) priors.0 end priors.2 in
      let first : Visits around (begun list (around x.key)) x.round (priors_in (around x.key)) priors.0 = subst (λ a. Visits around (begun list a) x.round (priors_in a) priors.0) (sym keys) priors.1 in
      let second : Visits around (placed priors.0 x.round x.key) (Some (next_place priors.0)) (subsequents_in (around x.key)) own.0 = subst (λ a. Visits around (placed priors.0 x.round x.key) (Some (next_place priors.0)) (subsequents_in a) own.0) (sym keys) own.1.1 in
      push ts (task.Visit x) (Ok list) own.0 end (Visits.visited list x.round x.key [] priors.0 own.0 own.0 unlisted first own.1.0 second (nothing around own.0 x.round)) own.2

  -- the keys around it are refused
  pub refused_leads : (ts : List Pending) (list : List Place) (x : Place) (e : LangError) → is_listed list x.round x.key ≡ false → around x.key ≡ Err e → Finishes around (ts ++ task.Visit x ∷ []) (Ok list) (Err e)
  refused_leads ts list x e unlisted keys =
      let first : Visits around (begun list (around x.key)) x.round (priors_in (around x.key)) (refusal e) = subst (λ a. Visits around (begun list a) x.round (priors_in a) (refusal e)) (sym keys) (Visits.stopped e x.round []) in
      push ts (task.Visit x) (Ok list) (Err e) (Err e) (Visits.visited list x.round x.key [] (Err e) (Err e) (Err e) unlisted first tt (Visits.stopped e (Some 0) (subsequents_in (around x.key))) (Visits.stopped e x.round [])) (refused_all ts e)

  -- ---- places

  room : (list : List Place) (r : Option ℕ) (k : Key) → length list < CLOSURE_LIMIT → placed (Ok list) r k ≡ Ok (list ++ place r k ∷ [])
  room list r k lt = ap (λ b. if b then reached (list ++ place r k ∷ []) else refusal ClosureLimit) (lt-ltb (length list) CLOSURE_LIMIT lt)

  no_room : (list : List Place) (r : Option ℕ) (k : Key) → CLOSURE_LIMIT ≤ length list → placed (Ok list) r k ≡ Err ClosureLimit
  no_room list r k ge = ap (λ b. if b then reached (list ++ place r k ∷ []) else refusal ClosureLimit) (le-ltb (length list) CLOSURE_LIMIT ge)

  -- a key gets its place
  pub settled_leads : (ts : List Pending) (list : List Place) (x : Place) (ps ss : List Key) (n : ℕ) → is_listed list x.round x.key ≡ false → length list < CLOSURE_LIMIT → n ≡ length list → Leads around (ts ++ task.Settle x ps ss ∷ []) list (stacked ts (Some n) ss) (list ++ x ∷ [])
  settled_leads ts list x ps ss n unlisted lt number end f =
      let later = unstack ts (Some n) ss (Ok (list ++ x ∷ [])) end f in
      let step : Visits around (placed (reached list) x.round x.key) (Some (length list)) ss later.0 =
      subst (λ v. Visits around v (Some (length list)) ss later.0) (sym (room list x.round x.key lt)) (subst (λ m. Visits around (reached (list ++ x ∷ [])) (Some m) ss later.0) number later.1) in
      push ts (task.Settle x ps ss) (Ok list) later.0 end (unlisted, step) later.2

  -- there is no place left
  pub over_leads : (ts : List Pending) (list : List Place) (x : Place) (ps ss : List Key) → is_listed list x.round x.key ≡ false → CLOSURE_LIMIT ≤ length list → Finishes around (ts ++ task.Settle x ps ss ∷ []) (Ok list) (Err ClosureLimit)
  over_leads ts list x ps ss unlisted ge =
      let step : Visits around (placed (reached list) x.round x.key) (Some (length list)) ss (refusal ClosureLimit) = subst (λ v. Visits around v (Some (length list)) ss (refusal ClosureLimit)) (sym (no_room list x.round x.key ge)) (Visits.stopped ClosureLimit (Some (length list)) ss) in
      push ts (task.Settle x ps ss) (Ok list) (Err ClosureLimit) (Err ClosureLimit) (unlisted, step) (refused_all ts ClosureLimit)

  -- what stands beside a place that comes behind the others
  besides_more : (done list : List Place) (x : Place) → besides_behind around done (list ++ x ∷ []) ≡ besides_behind around done list ++ beside_behind around (done ++ list) x ∷ []
  besides_more done [] x = ap (λ l. beside_behind around l x ∷ []) (sym (append-nil done))
  besides_more done (y ∷ ys) x =
      ap (λ bs. beside_behind around done y ∷ bs) (besides_more (done ++ y ∷ []) ys x ∙ ap (λ l. besides_behind around (done ++ y ∷ []) ys ++ beside_behind around l x ∷ []) (append_assoc done (y ∷ []) ys))

  pub beside_more : (list : List Place) (beside : List Beside) (x : Place) (ps ss : List Key) → AreBeside around list beside → around x.key ≡ Ok (ps, ss) → AreBeside around (list ++ x ∷ []) (beside ++ record { priors = numbers_of list x.round ps; subsequents = ss } ∷ [])
  beside_more list beside x ps ss all keys =
      ap (λ bs. bs ++ record { priors = numbers_of list x.round ps; subsequents = ss } ∷ []) all ∙ ap (λ a. besides_behind around [] list ++ record { priors = numbers_of list x.round (priors_in a); subsequents = subsequents_in a } ∷ []) (sym keys) ∙ sym (besides_more [] list x)

-- visits come on one by one from the end
pub stacked_pop : (ts : List Pending) (r : Option ℕ) (ks : List Key) (k : Key) → stacked ts r (ks ++ k ∷ []) ≡ stacked (ts ++ task.Visit (place r k) ∷ []) r ks
stacked_pop ts r [] k = refl
stacked_pop ts r (q ∷ qs) k = ap (λ us. us ++ task.Visit (place r q) ∷ []) (stacked_pop ts r qs k)

-- the visits of some keys, from nothing on
pub all_visits : (around : Key → Around) (ks : List Key) (end : Visited) → Finishes around (stacked [] None ks) (Ok []) end → Visits around (Ok []) None ks end
all_visits around ks end f = let all = unstack around [] None ks (Ok []) end f in subst (λ v. Visits around (Ok []) None ks v) all.2 all.1
