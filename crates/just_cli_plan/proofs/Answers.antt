-- Answers of a loading, and of what it asks: each is one at most that the world determines.
use Rattle.std.proofs.Common.{◌≡◌, ℕ, false, true≢false, List, ◌++◌, refl, sym, ap, ◌∙◌, subst}
use Rattle.std.specs.Prelude.{Result, Ok, Err}
use Rattle.just_host_record.specs.declared.entry.Call.{Call}
use Rattle.just_env.specs.declared.search_error.SearchError.{SearchError}
use Rattle.just_env.specs.Answers.{Fails}
use Rattle.just_search_load.specs.Gathers.{Gathers}
use Rattle.just_cli_plan.specs.Loading.{tells_failure, IsOwn, GivesOwn}

-- an answer is no refusal
pub answered_or_refused : {A : Type 0} (x : A) (e : SearchError) → ◌≡◌ {A = Result A SearchError} (Ok x) (Err e) → ⊥
answered_or_refused x e is = let no : ⊥ = cc in no

pub same_answer : {A : Type 0} (x y : A) → ◌≡◌ {A = Result A SearchError} (Ok x) (Ok y) → x ≡ y
same_answer x y is = cc

-- two refusals that are one are so of any kind of answer
pub same_refusal : {A B : Type 0} (e f : SearchError) → ◌≡◌ {A = Result A SearchError} (Err e) (Err f) → ◌≡◌ {A = Result B SearchError} (Err e) (Err f)
same_refusal e f is = let same : e ≡ f = cc in ap (λ z. Err z) same

-- a call that failed is no answer of the world's
pub failed : (c : Call) (path : List ℕ) (e : SearchError) → Fails c path e → tells_failure e ≡ false → ⊥
failed c path e is own = true≢false (sym (ap tells_failure is) ∙ own)

-- an answer that is one of these, of a refusal
pub own_refusal : {A : Type 0} (r : Result A SearchError) (e : SearchError) → r ≡ Err e → IsOwn r → tells_failure e ≡ false
own_refusal {A = A} r e is own = subst (λ (z : Result A SearchError). IsOwn z) is own

-- ---- what things give, one behind the other

module _ {A B : Type 0} (gives : A → Result (List B) SearchError → Type 0) (one : (x : A) → GivesOwn (gives x)) where
  -- what one thing gives is refused or found
  either_way : (x y : A) (zs : List B) (e : SearchError) → x ≡ y → gives x (Ok zs) → gives y (Err e) → tells_failure e ≡ false → ⊥
  either_way x y zs e is p q own = answered_or_refused zs e (one y (Ok zs) (Err e) (subst (λ z. gives z (Ok zs)) is p) tt q own)

  gathers_by : (xs : List A) (r : Result (List B) SearchError) → Gathers gives xs r → IsOwn r → (ys : List A) (s : Result (List B) SearchError) → Gathers gives ys s → IsOwn s → xs ≡ ys → r ≡ s
  gathers_by xs r Gathers.nothing own ys s Gathers.nothing other is = refl
  gathers_by xs r Gathers.nothing own ys s (Gathers.more y vs js ks q later) other is = absurd (let no : ⊥ = cc in no)
  gathers_by xs r Gathers.nothing own ys s (Gathers.refused_first y vs f q) other is = absurd (let no : ⊥ = cc in no)
  gathers_by xs r Gathers.nothing own ys s (Gathers.refused_later y vs js f q later) other is = absurd (let no : ⊥ = cc in no)
  gathers_by xs r (Gathers.more x us gs hs p rest) own ys s Gathers.nothing other e = absurd (let no : ⊥ = cc in no)
  gathers_by xs r (Gathers.more x us gs hs p rest) own ys s (Gathers.more y vs js ks q later) other e =
      let here : x ≡ y = cc in
      let behind : us ≡ vs = cc in
      let first : gs ≡ js = same_answer gs js (one y (Ok gs) (Ok js) (subst (λ z. gives z (Ok gs)) here p) tt q tt) in
      let second : hs ≡ ks = same_answer hs ks (gathers_by us (Ok hs) rest tt vs (Ok ks) later tt behind) in
      ap (λ l. Ok (l ++ hs)) first ∙ ap (λ l. Ok (js ++ l)) second
  gathers_by xs r (Gathers.more x us gs hs p rest) own ys s (Gathers.refused_first y vs f q) other e =
      let here : x ≡ y = cc in
      absurd (either_way x y gs f here p q other)
  gathers_by xs r (Gathers.more x us gs hs p rest) own ys s (Gathers.refused_later y vs js f q later) other e =
      let behind : us ≡ vs = cc in
      absurd (answered_or_refused hs f (gathers_by us (Ok hs) rest tt vs (Err f) later other behind))
  gathers_by xs r (Gathers.refused_first x us g p) own ys s Gathers.nothing other e = absurd (let no : ⊥ = cc in no)
  gathers_by xs r (Gathers.refused_first x us g p) own ys s (Gathers.more y vs js ks q later) other e =
      let here : y ≡ x = cc in
      absurd (either_way y x js g here q p own)
  gathers_by xs r (Gathers.refused_first x us g p) own ys s (Gathers.refused_first y vs f q) other e =
      let here : x ≡ y = cc in
      one y (Err g) (Err f) (subst (λ z. gives z (Err g)) here p) own q other
  gathers_by xs r (Gathers.refused_first x us g p) own ys s (Gathers.refused_later y vs js f q later) other e =
      let here : y ≡ x = cc in
      absurd (either_way y x js g here q p own)
  gathers_by xs r (Gathers.refused_later x us gs g p rest) own ys s Gathers.nothing other e = absurd (let no : ⊥ = cc in no)
  gathers_by xs r (Gathers.refused_later x us gs g p rest) own ys s (Gathers.more y vs js ks q later) other e =
      let behind : us ≡ vs = cc in
      absurd (answered_or_refused ks g (sym (gathers_by us (Err g) rest own vs (Ok ks) later tt behind)))
  gathers_by xs r (Gathers.refused_later x us gs g p rest) own ys s (Gathers.refused_first y vs f q) other e =
      let here : x ≡ y = cc in
      absurd (either_way x y gs f here p q other)
  gathers_by xs r (Gathers.refused_later x us gs g p rest) own ys s (Gathers.refused_later y vs js f q later) other e =
      let behind : us ≡ vs = cc in
      gathers_by us (Err g) rest own vs (Err f) later other behind

  pub gathers_own : (xs : List A) → GivesOwn (Gathers gives xs)
  gathers_own xs r s p own q other = gathers_by xs r p own xs s q other refl
