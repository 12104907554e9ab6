-- The scopes of a project are determined.
use Rattle.std.proofs.Common.{◌≡◌, ◌≢◌, ◌⊎◌, ℕ, suc, ◌+◌, ◌<◌, ◌≤◌, inl, inr, Bor, List, [], ◌∷◌, ◌++◌, append-nil, length, get_or, drop, drop-cons, map, Ok, Err, refl, sym, ap, ◌∙◌, subst, arith}
use Rattle.std.proofs.lemmas.List.{drop_all}
use Rattle.just_path_text.specs.declared.environ.Environ.{Environ}
use Rattle.just_lang_types.specs.declared.recipe.Modulepath.{Modulepath}
use Rattle.just_lang_types.specs.declared.scope.DotenvOf.{DotenvOf}
use Rattle.just_lang_types.specs.declared.scope.Override.{Override}
use Rattle.just_lang_types.specs.declared.scope.Scope.{Scope}
use Rattle.just_lang_types.specs.declared.scope.Scopes.{Scopes}
use Rattle.just_lang_types.specs.declared.project.Justfile.{Justfile}
use Rattle.just_lang_types.specs.declared.project.LangError.{LangError}
use Rattle.just_lang_types.specs.declared.project.LangError.TheVariants as error
use Rattle.just_eval_closure.proofs.Items.{In, contains_in, in_contains}
use Rattle.just_eval_closure.specs.Answers.{Answer, and_then}
use Rattle.just_lang_types.specs.Modules.{path_of, assignments_of}
use Rattle.just_eval_closure.specs.Values.{Valued}
use Rattle.just_eval_closure.proofs.Each.{behind}
use Rattle.just_eval.specs.Evaluations.{scope_told, IsScope, Evaluates, IsEvaluation}
use Rattle.just_eval.specs.Outcomes.{AreOutcomes}
use Rattle.just_eval.specs.Overrides.{Variable, AreUnknown, variable_text}
use Rattle.just_eval.proofs.Sorted.{one_order}
use Rattle.just_eval.proofs.Told.{behind_none, behind_moved}

-- ---- the scopes of modules

module _ (dotenv : List DotenvOf) (environ : List (List ℕ × List ℕ)) (overrides : List Override) where
  -- where the outcomes of a module are determined, its scope is
  pub scope_only : (j : Justfile) (outcomes : List Valued) → ((others : List Valued) → AreOutcomes dotenv environ overrides j others → others ≡ outcomes) → (told answer : Answer Scope) → scope_told (assignments_of j) outcomes ≡ told → IsScope dotenv environ overrides j answer → answer ≡ told
  scope_only j outcomes one told answer is s = sym s.is ∙ ap (λ os. scope_told (assignments_of j) os) (one s.outcomes s.are) ∙ is

  -- how the scopes of modules may come about
  abbrev Parts : Justfile → List Justfile → Answer (List (Modulepath × Scope)) → Type 0
  Parts j js answer =
      ((e : LangError) × IsScope dotenv environ overrides j (Err e) × (answer ≡ Err e))
      ⊎ ((s : Scope) × (others : Answer (List (Modulepath × Scope))) × IsScope dotenv environ overrides j (Ok s) × Evaluates dotenv environ overrides js others × (answer ≡ and_then others (λ ss. Ok ((path_of j, s) ∷ ss))))

  parts_by : (all : List Justfile) (answer : Answer (List (Modulepath × Scope))) → Evaluates dotenv environ overrides all answer → (j : Justfile) (js : List Justfile) → all ≡ j ∷ js → Parts j js answer
  parts_by all answer Evaluates.none j js h = absurd (let no : ⊥ = cc in no)
  parts_by all answer (Evaluates.refused k ks e refusal) j js h =
      let one : k ≡ j = cc in
      inl (e, subst (λ m. IsScope dotenv environ overrides m (Err e)) one refusal, refl)
  parts_by all answer (Evaluates.more k ks s others found rest) j js h =
      let one : k ≡ j = cc in
      let more : ks ≡ js = cc in
      inr (s, others, subst (λ m. IsScope dotenv environ overrides m (Ok s)) one found, subst (λ ms. Evaluates dotenv environ overrides ms others) more rest, ap (λ m. and_then others (λ ss. Ok ((path_of m, s) ∷ ss))) one)

  nothing_by : (all : List Justfile) (answer : Answer (List (Modulepath × Scope))) → Evaluates dotenv environ overrides all answer → all ≡ [] → answer ≡ Ok []
  nothing_by all answer Evaluates.none h = refl
  nothing_by all answer (Evaluates.refused k ks e refusal) h = absurd (let no : ⊥ = cc in no)
  nothing_by all answer (Evaluates.more k ks s others found rest) h = absurd (let no : ⊥ = cc in no)

  -- whatever the scopes of all modules are, these are in front of those of the modules from the place n on
  abbrev pub AreInFront : List (Bor Justfile) → ℕ → List (Modulepath × Scope) → Type 0
  AreInFront ms n done =
      (answer : Answer (List (Modulepath × Scope))) → Evaluates dotenv environ overrides (map (λ m. m.now) ms) answer
      → (rest : Answer (List (Modulepath × Scope))) × Evaluates dotenv environ overrides (map (λ m. m.now) (drop n ms)) rest × (answer ≡ behind done rest)

  pub front_begin : (ms : List (Bor Justfile)) → AreInFront ms 0 []
  front_begin ms answer e = (answer, e, sym (behind_none answer))

  pub front_end : (ms : List (Bor Justfile)) (n : ℕ) (done : List (Modulepath × Scope)) → length ms ≤ n → AreInFront ms n done → (answer : Answer (List (Modulepath × Scope))) → Evaluates dotenv environ overrides (map (λ m. m.now) ms) answer → answer ≡ Ok done
  front_end ms n done le before answer e =
      let r = before answer e in
      r.2 ∙ ap (λ z. behind done z) (nothing_by (map (λ m. m.now) (drop n ms)) r.0 r.1 (ap (λ ks. map (λ m. m.now) ks) (drop_all n ms le))) ∙ ap (λ ss. Ok ss) (append-nil done)

  abbrev scope_answer : Scope → Answer Scope
  scope_answer s = Ok s

  abbrev scope_error : LangError → Answer Scope
  scope_error e = Err e

  ok_not_err : (s : Scope) (e : LangError) → scope_error e ≡ scope_answer s → ⊥
  ok_not_err s e h = let no : ⊥ = cc in no

  one_scope : (s t : Scope) → scope_answer s ≡ scope_answer t → s ≡ t
  one_scope s t h = cc

  one_error : (e f : LangError) → scope_error e ≡ scope_error f → e ≡ f
  one_error e f h = cc

  module _ (ms : List (Bor Justfile)) (n : ℕ) (m : Bor Justfile) (lt : n < length ms) (is : m ≡ get_or ms n m) where
    at_here : drop n ms ≡ m ∷ drop (suc n) ms
    at_here = drop-cons ms n m lt ∙ ap (λ z. z ∷ drop (suc n) ms) (sym is)

    next : n + 1 ≡ suc n
    next = omega arith

    -- how what is left comes about
    parts_here : (rest : Answer (List (Modulepath × Scope))) → Evaluates dotenv environ overrides (map (λ k. k.now) (drop n ms)) rest → Parts m.now (map (λ k. k.now) (drop (suc n) ms)) rest
    parts_here rest e = parts_by (map (λ k. k.now) (drop n ms)) rest e m.now (map (λ k. k.now) (drop (suc n) ms)) (ap (λ ks. map (λ k. k.now) ks) at_here)

    pub front_more : (s : Scope) (done : List (Modulepath × Scope)) (path : Modulepath) → ((answer : Answer Scope) → IsScope dotenv environ overrides m.now answer → answer ≡ Ok s) → path ≡ path_of m.now → AreInFront ms n done → AreInFront ms (n + 1) (done ++ (path, s) ∷ [])
    front_more s done path only path_is before answer e = further (before answer e).0 (before answer e).2 (parts_here (before answer e).0 (before answer e).1)
      where
        further : (rest : Answer (List (Modulepath × Scope))) → answer ≡ behind done rest → Parts m.now (map (λ k. k.now) (drop (suc n) ms)) rest
            → (others : Answer (List (Modulepath × Scope))) × Evaluates dotenv environ overrides (map (λ k. k.now) (drop (n + 1) ms)) others × (answer ≡ behind (done ++ (path, s) ∷ []) others)
        further rest h (inl refusal) = absurd (ok_not_err s refusal.0 (only (Err refusal.0) refusal.1))
        further rest h (inr found) =
            let same : found.0 ≡ s = one_scope found.0 s (only (Ok found.0) found.2) in (
              found.1,
              subst (λ k. Evaluates dotenv environ overrides (map (λ j. j.now) (drop k ms)) found.1) (sym next) found.3,
              h ∙ ap (λ r. behind done r) found.4 ∙ ap (λ p. behind done (and_then found.1 (λ ss. Ok ((p, found.0) ∷ ss)))) (sym path_is) ∙ ap (λ t. behind done (and_then found.1 (λ ss. Ok ((path, t) ∷ ss)))) same ∙ sym (behind_moved done (path, s) found.1),
            )

    pub front_refused : (e : LangError) (done : List (Modulepath × Scope)) → ((answer : Answer Scope) → IsScope dotenv environ overrides m.now answer → answer ≡ Err e) → AreInFront ms n done → (answer : Answer (List (Modulepath × Scope))) → Evaluates dotenv environ overrides (map (λ k. k.now) ms) answer → answer ≡ Err e
    front_refused e done only before answer evaluated = further (before answer evaluated).0 (before answer evaluated).2 (parts_here (before answer evaluated).0 (before answer evaluated).1)
      where
        further : (rest : Answer (List (Modulepath × Scope))) → answer ≡ behind done rest → Parts m.now (map (λ k. k.now) (drop (suc n) ms)) rest → answer ≡ Err e
        further rest h (inl refusal) = h ∙ ap (λ r. behind done r) (refusal.2 ∙ ap (λ x. Err x) (one_error refusal.0 e (only (Err refusal.0) refusal.1)))
        further rest h (inr found) = absurd (ok_not_err found.0 e (sym (only (Ok found.0) found.2)))

-- ---- the unknown variables

module _ (modules : List Justfile) (overrides : List Override) where
  -- those that are unknown by the one list are by the other
  in_other : (vs ws : List Variable) → AreUnknown modules overrides vs → AreUnknown modules overrides ws → (u : Variable) → In u vs → In u ws
  in_other vs ws a b u i = contains_in ws u ((b.which u).1 ((a.which u).0 (in_contains vs u i)))

  pub one_unknown : (vs ws : List Variable) → AreUnknown modules overrides vs → AreUnknown modules overrides ws → vs ≡ ws
  one_unknown vs ws a b = one_order vs ws a.ordered b.ordered (in_other vs ws a b) (in_other ws vs b a)

  -- ---- the whole answer

  module _ (dotenv : List DotenvOf) (environ : Environ) where
    pub only_unknown : (vs : List Variable) (texts : List (List ℕ)) → vs ≢ [] → AreUnknown modules overrides vs → texts ≡ map variable_text vs → (answer : Answer Scopes) → IsEvaluation modules dotenv environ overrides answer → answer ≡ Err (error.UnknownOverrides texts)
    only_unknown vs texts some unknown is answer (IsEvaluation.unknown w ws other) =
        ap (λ us. Err (error.UnknownOverrides (map variable_text us))) (one_unknown (w ∷ ws) vs other unknown) ∙ ap (λ ts. Err (error.UnknownOverrides ts)) (sym is)
    only_unknown vs texts some unknown is answer (IsEvaluation.known found none evaluated) = absurd (some (one_unknown vs [] unknown none))

    not_none : (w : Variable) (ws : List Variable) → w ∷ ws ≡ [] → ⊥
    not_none w ws h = let no : ⊥ = cc in no

    pub only_known : (told : Answer (List (Modulepath × Scope))) → AreUnknown modules overrides [] → ((found : Answer (List (Modulepath × Scope))) → Evaluates dotenv environ.pairs overrides modules found → found ≡ told)
        → (answer : Answer Scopes) → IsEvaluation modules dotenv environ overrides answer → answer ≡ and_then told (λ scopes. Ok (record { scopes = scopes; dotenv = dotenv; environ = environ }))
    only_known told none only answer (IsEvaluation.unknown w ws other) = absurd (not_none w ws (one_unknown (w ∷ ws) [] other none))
    only_known told none only answer (IsEvaluation.known found other evaluated) = ap (λ f. and_then f (λ scopes. Ok (record { scopes = scopes; dotenv = dotenv; environ = environ }))) (only found evaluated)
