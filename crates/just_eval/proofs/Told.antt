-- The variables of a module with their texts, and the scopes of modules, one after the other.
use Rattle.std.proofs.Common.{◌≡◌, ◌≢◌, ℕ, suc, ◌+◌, ◌<◌, ◌≤◌, Bor, List, [], ◌∷◌, ◌++◌, append-nil, append_assoc, length, get_or, drop, drop-cons, map, Option, Ok, Err, refl, sym, ap, ◌∙◌, subst, arith}
use Rattle.std.specs.List.{All}
use Rattle.std.specs.Result.{IsErrAnd}
use Rattle.std.proofs.lemmas.List.{drop_all}
use Rattle.just_lang_types.specs.declared.recipe.Modulepath.{Modulepath}
use Rattle.just_lang_types.specs.declared.scope.Assignment.{Assignment}
use Rattle.just_lang_types.specs.declared.scope.Binding.{Binding}
use Rattle.just_lang_types.specs.declared.scope.DotenvOf.{DotenvOf}
use Rattle.just_lang_types.specs.declared.scope.Override.{Override}
use Rattle.just_lang_types.specs.declared.scope.Scope.{Scope}
use Rattle.just_lang_types.specs.declared.project.Justfile.{Justfile}
use Rattle.just_lang_types.specs.declared.project.LangError.{LangError}
use Rattle.just_lang_types.specs.declared.project.LangError.TheVariants as error
use Rattle.just_eval_closure.specs.Answers.{Answer, and_then, each, told, Gives}
use Rattle.just_lang_types.specs.Modules.{path_of, assignments_of}
use Rattle.just_eval_closure.specs.Scopes.{value_of_text}
use Rattle.just_eval_closure.specs.Values.{Valued}
use Rattle.just_eval_closure.proofs.Each.{behind}
use Rattle.just_eval.specs.Evaluations.{bindings_of, bindings_told, scope_with, IsScope, Evaluates}
use Rattle.just_eval.specs.Outcomes.{AreOutcomes}
use Rattle.just_eval.specs.Partial.{outcome_there, outcomes_there}
use Rattle.just_eval.specs.Uses.{AreEnding}
use Rattle.just_eval.proofs.Lists.{at_number, mapped_at, length_mapped}

pub behind_none : {A : Type 0} (rest : Answer (List A)) → behind [] rest ≡ rest
behind_none (Ok ys) = refl
behind_none (Err e) = refl

pub behind_moved : {A : Type 0} (done : List A) (y : A) (rest : Answer (List A)) → behind (done ++ y ∷ []) rest ≡ behind done (and_then rest (λ ys. Ok (y ∷ ys)))
behind_moved done y (Ok ys) = ap (λ zs. Ok zs) (append_assoc done (y ∷ []) ys)
behind_moved done y (Err e) = refl

-- a call that hands on a refusal gives it
pub refusal_given : {A : Type 0} (answer result : Answer A) (e : LangError) (P : LangError → Type 0) → ((x : LangError) → P x → e ≡ x) → (e ≢ error.NoMemory → answer ≡ Err e) → IsErrAnd result P → Gives answer result
refusal_given answer (Ok a) e P same told_is handed = absurd handed
refusal_given answer (Err x) e P same told_is handed = λ other. let is : e ≡ x = same x handed in told_is (λ h. other (sym is ∙ h)) ∙ ap (λ z. Err z) is

-- ---- the variables of a module

-- the variables from the place n on
abbrev pub told_from : List Assignment → List (Option Valued) → ℕ → Answer (List Binding)
told_from xs os n = bindings_told (drop n xs) (outcomes_there (drop n os))

abbrev bound : Assignment → List ℕ → Binding
bound a text = record { name = a.name; value = value_of_text text; export = a.export }

one_bound : (a : Assignment) (xs : List Assignment) (text : List ℕ) (rest : Answer (List (List ℕ))) → and_then (and_then rest (λ ts. Ok (text ∷ ts))) (λ texts. Ok (bindings_of (a ∷ xs) texts)) ≡ and_then (and_then rest (λ texts. Ok (bindings_of xs texts))) (λ bs. Ok (bound a text ∷ bs))
one_bound a xs text (Ok ts) = refl
one_bound a xs text (Err e) = refl

pub binding_begin : (xs : List Assignment) (os : List (Option Valued)) → behind [] (told_from xs os 0) ≡ bindings_told xs (outcomes_there os)
binding_begin xs os = behind_none (bindings_told xs (outcomes_there os))

pub binding_end : (xs : List Assignment) (os : List (Option Valued)) (n : ℕ) (done : List Binding) → length os ≡ length xs → length xs ≤ n → behind done (told_from xs os n) ≡ Ok done
binding_end xs os n done size le =
    ap (λ zs. behind done (bindings_told zs (outcomes_there (drop n os)))) (drop_all n xs le) ∙ ap (λ ys. behind done (bindings_told [] (outcomes_there ys))) (drop_all n os (omega (arith, size, le))) ∙ ap (λ zs. Ok zs) (append-nil done)

module _ (xs : List Assignment) (os : List (Option Valued)) (n : ℕ) (a : Assignment) (o : Option Valued) (size : length os ≡ length xs) (lt : n < length xs) (is : a ≡ get_or xs n a) (outcome : o ≡ get_or os n o) where
  here : drop n xs ≡ a ∷ drop (suc n) xs
  here = drop-cons xs n a lt ∙ ap (λ z. z ∷ drop (suc n) xs) (sym is)

  there : drop n os ≡ o ∷ drop (suc n) os
  there = drop-cons os n o (omega (arith, lt, size)) ∙ ap (λ z. z ∷ drop (suc n) os) (sym outcome)

  one : n + 1 ≡ suc n
  one = omega arith

  -- from the place n on, by the text of the outcome there
  told_here : told_from xs os n ≡ and_then (and_then (told (outcome_there o)) (λ t. and_then (each told (outcomes_there (drop (suc n) os))) (λ ts. Ok (t ∷ ts)))) (λ texts. Ok (bindings_of (a ∷ drop (suc n) xs) texts))
  told_here = ap (λ zs. bindings_told zs (outcomes_there (drop n os))) here ∙ ap (λ ys. bindings_told (a ∷ drop (suc n) xs) (outcomes_there ys)) there

  -- a text more
  pub binding_more : (text : List ℕ) (b : Binding) (done : List Binding) → told (outcome_there o) ≡ Ok text → b ≡ record { name = a.name; value = value_of_text text; export = a.export } → behind (done ++ b ∷ []) (told_from xs os (n + 1)) ≡ behind done (told_from xs os n)
  binding_more text b done answer b_is =
      ap (λ k. behind (done ++ b ∷ []) (told_from xs os k)) one ∙ behind_moved done b (told_from xs os (suc n)) ∙ ap (λ z. behind done (and_then (told_from xs os (suc n)) (λ bs. Ok (z ∷ bs)))) b_is
      ∙ ap (λ r. behind done r) (sym (told_here ∙ ap (λ t. and_then (and_then t (λ text. and_then (each told (outcomes_there (drop (suc n) os))) (λ ts. Ok (text ∷ ts)))) (λ texts. Ok (bindings_of (a ∷ drop (suc n) xs) texts))) answer
      ∙ one_bound a (drop (suc n) xs) text (each told (outcomes_there (drop (suc n) os)))))

  -- a refusal
  pub binding_refused : (e : LangError) (done : List Binding) → told (outcome_there o) ≡ Err e → behind done (told_from xs os n) ≡ Err e
  binding_refused e done refusal =
      ap (λ r. behind done r) (told_here ∙ ap (λ t. and_then (and_then t (λ text. and_then (each told (outcomes_there (drop (suc n) os))) (λ ts. Ok (text ∷ ts)))) (λ texts. Ok (bindings_of (a ∷ drop (suc n) xs) texts))) refusal)

-- ---- the scope of a module

module _ (dotenv : List DotenvOf) (environ : List (List ℕ × List ℕ)) (overrides : List Override) where
  pub scope_found : (j : Justfile) (outcomes : List Valued) (bs : List Binding) (s : Scope) → AreOutcomes dotenv environ overrides j outcomes → bindings_told (assignments_of j) outcomes ≡ Ok bs → s ≡ scope_with bs → IsScope dotenv environ overrides j (Ok s)
  scope_found j outcomes bs s are told_is is = record {
    outcomes = outcomes;
    are = are;
    is = ap (λ b. and_then b (λ bindings. Ok (scope_with bindings))) told_is ∙ ap (λ z. Ok z) (sym is);
  }

  pub scope_refused : (j : Justfile) (outcomes : List Valued) (e : LangError) → AreOutcomes dotenv environ overrides j outcomes → bindings_told (assignments_of j) outcomes ≡ Err e → IsScope dotenv environ overrides j (Err e)
  scope_refused j outcomes e are refusal = record {
    outcomes = outcomes;
    are = are;
    is = ap (λ b. and_then b (λ bindings. Ok (scope_with bindings))) refusal;
  }

  -- ---- the scopes of modules

  abbrev seen : List (Bor Justfile) → List Justfile
  seen ms = map (λ m. m.now) ms

  -- whatever the scopes of the modules from the place n on are, with these in front they are those of all
  abbrev pub AreEvaluated : List (Bor Justfile) → ℕ → List (Modulepath × Scope) → Type 0
  AreEvaluated ms n done =
      (rest : Answer (List (Modulepath × Scope))) → Evaluates dotenv environ overrides (map (λ m. m.now) (drop n ms)) rest → Evaluates dotenv environ overrides (map (λ m. m.now) ms) (behind done rest)

  pub scopes_begin : (ms : List (Bor Justfile)) → AreEvaluated ms 0 []
  scopes_begin ms rest e = subst (λ r. Evaluates dotenv environ overrides (seen ms) r) (sym (behind_none rest)) e

  pub scopes_end : (ms : List (Bor Justfile)) (n : ℕ) (done : List (Modulepath × Scope)) → length ms ≤ n → AreEvaluated ms n done → Evaluates dotenv environ overrides (map (λ m. m.now) ms) (Ok done)
  scopes_end ms n done le before =
      subst (λ r. Evaluates dotenv environ overrides (seen ms) r) (ap (λ ss. Ok ss) (append-nil done)) (before (Ok []) (subst (λ ks. Evaluates dotenv environ overrides (seen ks) (Ok [])) (sym (drop_all n ms le)) Evaluates.none))

  module _ (ms : List (Bor Justfile)) (n : ℕ) (m : Bor Justfile) (lt : n < length ms) (is : m ≡ get_or ms n m) where
    at_here : drop n ms ≡ m ∷ drop (suc n) ms
    at_here = drop-cons ms n m lt ∙ ap (λ z. z ∷ drop (suc n) ms) (sym is)

    next : n + 1 ≡ suc n
    next = omega arith

    pub scopes_more : (s : Scope) (done : List (Modulepath × Scope)) (path : Modulepath) → IsScope dotenv environ overrides m.now (Ok s) → path ≡ path_of m.now → AreEvaluated ms n done → AreEvaluated ms (n + 1) (done ++ (path, s) ∷ [])
    scopes_more s done path found path_is before rest e =
        let after : Evaluates dotenv environ overrides (seen (drop (suc n) ms)) rest = subst (λ k. Evaluates dotenv environ overrides (seen (drop k ms)) rest) next e in
        let all : Evaluates dotenv environ overrides (seen (drop n ms)) (and_then rest (λ ss. Ok ((path_of m.now, s) ∷ ss))) =
        subst (λ ks. Evaluates dotenv environ overrides (seen ks) (and_then rest (λ ss. Ok ((path_of m.now, s) ∷ ss)))) (sym at_here) (Evaluates.more m.now (seen (drop (suc n) ms)) s rest found after) in
        subst (λ r. Evaluates dotenv environ overrides (seen ms) r) (ap (λ p. behind done (and_then rest (λ ss. Ok ((p, s) ∷ ss)))) (sym path_is) ∙ sym (behind_moved done (path, s) rest)) (before (and_then rest (λ ss. Ok ((path_of m.now, s) ∷ ss))) all)

    pub scopes_refused : (e : LangError) (done : List (Modulepath × Scope)) → IsScope dotenv environ overrides m.now (Err e) → AreEvaluated ms n done → Evaluates dotenv environ overrides (map (λ j. j.now) ms) (Err e)
    scopes_refused e done refusal before =
        before (Err e) (subst (λ ks. Evaluates dotenv environ overrides (seen ks) (Err e)) (sym at_here) (Evaluates.refused m.now (seen (drop (suc n) ms)) e refusal))

-- what holds of each module holds of the one at a place
pub ending_at : (ms : List (Bor Justfile)) (n : ℕ) (m : Bor Justfile) → n < length ms → m ≡ get_or ms n m → All (λ j. AreEnding (assignments_of j)) (map (λ k. k.now) ms) → AreEnding (assignments_of m.now)
ending_at ms n m lt is all =
    subst (λ j. AreEnding (assignments_of j)) (mapped_at (λ k. k.now) ms n m m.now (at_number ms n m lt is)) (all n m.now (subst (λ l. n < l) (sym (length_mapped (λ k. k.now) ms)) lt))
