-- Keys have one closure: visits lead to one end.
use Rattle.std.proofs.Common.{◌≡◌, ℕ, true, false, true≢false, List, [], Option, Some, None, Ok, Err, refl, sym, ap, ◌∙◌}
use Rattle.just_lang_types.specs.declared.key.Key.{Key}
use Rattle.just_lang_types.specs.declared.node.Closure.{Closure}
use Rattle.just_lang_types.specs.declared.place.Place.{Place}
use Rattle.just_lang_types.specs.declared.project.LangError.{LangError}
use Rattle.just_eval_closure.specs.Places.{is_listed, closure_at}
use Rattle.just_eval_closure.specs.Visits.{Visited, Around, priors_in, subsequents_in, priors_by, subsequents_by, begun, placed, next_place, Visits}
use Rattle.just_eval_closure.specs.Closures.{IsClosureOf}

module _ (around : Key → Around) where
  -- a key is listed or it isn't
  both_ways : (list more : List Place) (r s : Option ℕ) (k q : Key) → list ≡ more → r ≡ s → k ≡ q → is_listed list r k ≡ true → is_listed more s q ≡ false → ⊥
  both_ways list more r s k q a b c t f = true≢false (sym t ∙ ap (λ l. is_listed l r k) a ∙ ap (λ o. is_listed more o k) b ∙ ap (λ z. is_listed more s z) c ∙ f)

  ends_at : (a : Visited) (r : Option ℕ) (ks : List Key) (x : Visited) → Visits around a r ks x → (b : Visited) (s : Option ℕ) (js : List Key) (y : Visited) → Visits around b s js y → a ≡ b → r ≡ s → ks ≡ js → x ≡ y
  ends_at a r ks x (Visits.stopped e round keys) b s js y (Visits.stopped f other more) p q h = p
  ends_at a r ks x (Visits.stopped e round keys) b s js y (Visits.none list other) p q h = absurd (let no : ⊥ = cc in no)
  ends_at a r ks x (Visits.stopped e round keys) b s js y (Visits.again list other key more end l v) p q h = absurd (let no : ⊥ = cc in no)
  ends_at a r ks x (Visits.stopped e round keys) b s js y (Visits.visited list other key more before behind end l v n w u) p q h = absurd (let no : ⊥ = cc in no)
  ends_at a r ks x (Visits.none list round) b s js y (Visits.stopped f other more) p q h = absurd (let no : ⊥ = cc in no)
  ends_at a r ks x (Visits.none list round) b s js y (Visits.none found other) p q h = p
  ends_at a r ks x (Visits.none list round) b s js y (Visits.again found other key more end l v) p q h = absurd (let no : ⊥ = cc in no)
  ends_at a r ks x (Visits.none list round) b s js y (Visits.visited found other key more before behind end l v n w u) p q h = absurd (let no : ⊥ = cc in no)
  ends_at a r ks x (Visits.again list round key keys end l v) b s js y (Visits.stopped f other more) p q h = absurd (let no : ⊥ = cc in no)
  ends_at a r ks x (Visits.again list round key keys end l v) b s js y (Visits.none found other) p q h = absurd (let no : ⊥ = cc in no)
  ends_at a r ks x (Visits.again list round key keys end l v) b s js y (Visits.again found other that more last m w) p q h =
      let rest : keys ≡ more = cc in
      ends_at (Ok list) round keys end v (Ok found) other more last w p q rest
  ends_at a r ks x (Visits.again list round key keys end l v) b s js y (Visits.visited found other that more before behind last m w n u z) p q h =
      let one : list ≡ found = cc in
      let here : key ≡ that = cc in
      absurd (both_ways list found round other key that one q here l m)
  ends_at a r ks x (Visits.visited list round key keys before behind end l v n w u) b s js y (Visits.stopped f other more) p q h = absurd (let no : ⊥ = cc in no)
  ends_at a r ks x (Visits.visited list round key keys before behind end l v n w u) b s js y (Visits.none found other) p q h = absurd (let no : ⊥ = cc in no)
  ends_at a r ks x (Visits.visited list round key keys before behind end l v n w u) b s js y (Visits.again found other that more last m z) p q h =
      let one : list ≡ found = cc in
      let here : key ≡ that = cc in
      absurd (both_ways found list other round that key (sym one) (sym q) (sym here) m l)
  ends_at a r ks x (Visits.visited list round key keys before behind end l v n w u) b s js y (Visits.visited found other that more first second last m v' n' w' u') p q h =
      let one : list ≡ found = cc in
      let here : key ≡ that = cc in
      let rest : keys ≡ more = cc in
      let begins : begun list (around key) ≡ begun found (around that) = ap (λ l. begun l (around key)) one ∙ ap (λ k. begun found (around k)) here in
      let same : before ≡ first = ends_at (begun list (around key)) round (priors_in (around key)) before v (begun found (around that)) other (priors_in (around that)) first v' begins q (ap (λ k. priors_in (around k)) here) in
      let places : placed before round key ≡ placed first other that = ap (λ z. placed z round key) same ∙ ap (λ o. placed first o key) q ∙ ap (λ k. placed first other k) here in
      let further : behind ≡ second =
      ends_at (placed before round key) (Some (next_place before)) (subsequents_in (around key)) behind w (placed first other that) (Some (next_place first)) (subsequents_in (around that)) second w' places
      (ap (λ z. Some (next_place z)) same) (ap (λ k. subsequents_in (around k)) here) in
      ends_at behind round keys end u second other more last u' further q rest

  -- the visits of some keys have one end
  pub one_end : (a : Visited) (r : Option ℕ) (keys : List Key) (x y : Visited) → Visits around a r keys x → Visits around a r keys y → x ≡ y
  one_end a r keys x y v w = ends_at a r keys x v a r keys y w refl refl refl

  -- and they have one closure
  pub one_closure : (keys : List Key) (c d : Closure) → IsClosureOf around keys c → IsClosureOf around keys d → c ≡ d
  one_closure keys c d h k =
      let same : ◌≡◌ {A = Visited} (Ok h.list) (Ok k.list) = one_end (Ok []) None keys (Ok h.list) (Ok k.list) h.visits k.visits in
      let lists : h.list ≡ k.list = cc in
      h.nodes_are ∙ ap (λ list. closure_at (priors_by around) (subsequents_by around) list keys) lists ∙ sym k.nodes_are

  -- keys that have a closure aren't refused
  pub no_closure_refused : (keys : List Key) (c : Closure) (e : LangError) → IsClosureOf around keys c → Visits around (Ok []) None keys (Err e) → ⊥
  no_closure_refused keys c e h v =
      let same : ◌≡◌ {A = Visited} (Ok h.list) (Err e) = one_end (Ok []) None keys (Ok h.list) (Err e) h.visits v in
      let no : ⊥ = cc in no

  -- and are refused for one reason
  pub one_refusal : (keys : List Key) (e f : LangError) → Visits around (Ok []) None keys (Err e) → Visits around (Ok []) None keys (Err f) → e ≡ f
  one_refusal keys e f v w =
      let same : ◌≡◌ {A = Visited} (Err e) (Err f) = one_end (Ok []) None keys (Err e) (Err f) v w in
      cc
