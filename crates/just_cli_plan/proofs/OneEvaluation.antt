-- A project whose variables end has one evaluation.
use Rattle.std.proofs.Common.{◌≡◌, ℕ, zero, suc, ◌<◌, List, [], ◌∷◌, length, map, slice_get, Option, Ok, Err, refl, sym, ap, ◌∙◌, subst}
use Rattle.std.specs.Prelude.{true}
use Rattle.std.specs.List.{All, AllByRecursion, filter_map}
use Rattle.just_path_text.specs.declared.environ.Environ.{Environ}
use Rattle.just_lang_types.specs.declared.project.Justfile.{Justfile}
use Rattle.just_lang_types.specs.declared.recipe.Modulepath.{Modulepath}
use Rattle.just_lang_types.specs.declared.scope.Assignment.{Assignment}
use Rattle.just_lang_types.specs.declared.scope.DotenvOf.{DotenvOf}
use Rattle.just_lang_types.specs.declared.scope.Override.{Override}
use Rattle.just_lang_types.specs.declared.scope.Scope.{Scope}
use Rattle.just_lang_types.specs.declared.scope.Scopes.{Scopes}
use Rattle.just_lang_spots.specs.Chains.{ends_within}
use Rattle.just_lang_spots.specs.Graph.{targets, IsAcyclic}
use Rattle.just_lang_spots.proofs.Chains.{nodes_end, passed_by}
use Rattle.just_eval_closure.proofs.Items.{in_contains, all_in}
use Rattle.just_eval_closure.specs.Answers.{Answer, and_then}
use Rattle.just_lang_types.specs.Modules.{path_of, assignments_of}
use Rattle.just_eval_closure.specs.Values.{Valued}
use Rattle.just_eval.specs.Evaluations.{scope_told, IsScope, Evaluates, IsEvaluation}
use Rattle.just_eval.specs.Outcomes.{AreOutcomesOf}
use Rattle.just_eval.specs.Uses.{names_in, named, uses, AreEnding}
use Rattle.just_eval.proofs.Final.{one_some}
use Rattle.just_eval.proofs.Lists.{length_mapped, there_at_number, below_length, one_list}
use Rattle.just_eval.specs.Overrides.{variable_text}
use Rattle.just_eval.proofs.Only.{only_unknown, only_known}
use Rattle.just_eval.proofs.Order.{are_graph}
use Rattle.just_eval.proofs.Unique.{same_outcome, size_of}

-- ---- outcomes

module _ (all : List Assignment) (given env : List ℕ → Option (List ℕ)) (os ps : List Valued) (of_os : AreOutcomesOf given env all os) (of_ps : AreOutcomesOf given env all ps) where
  -- by how long the chains are
  same_within : (f n : ℕ) → n < length all → ends_within (targets (uses all)) f n ≡ true → slice_get os n ≡ slice_get ps n
  same_within zero n lt h = absurd (cc)
  same_within (suc f) n lt h =
      let a = there_at_number all n lt in
      same_outcome all given env os ps of_os of_ps n a.0 a.1 (λ w i.
      let below : w < length all = subst (λ l. w < l) (length_mapped (λ b. filter_map (named all) (names_in b.value)) all) (all_in (λ k. k < length (uses all)) (targets (uses all) n) w (graph_at n lt) i) in
      same_within f w below (passed_by (ends_within (targets (uses all)) f) (targets (uses all) n) w h (in_contains (targets (uses all) n) w i)))
    where
      graph_at : (m : ℕ) → m < length all → All (λ k. k < length (uses all)) (targets (uses all) m)
      graph_at m lt = are_graph all m [] (subst (λ l. m < l) (sym (length_mapped (λ b. filter_map (named all) (names_in b.value)) all)) lt)

  size : (qs : List Valued) → AreOutcomesOf given env all qs → length qs ≡ length all
  size qs is = size_of all given env os ps of_os of_ps qs is

  pub one_outcomes : IsAcyclic (uses all) → os ≡ ps
  one_outcomes acyclic =
      one_list os ps (size os of_os ∙ sym (size ps of_ps)) (λ n x y at_x at_y.
      let lt : n < length all = subst (λ l. n < l) (size os of_os) (below_length os n x at_x) in
      let below : n < length (uses all) = subst (λ l. n < l) (sym (length_mapped (λ b. filter_map (named all) (names_in b.value)) all)) lt in
      one_some x y (sym at_x ∙ same_within (length (uses all)) n lt (nodes_end (uses all) (are_graph all) acyclic n below) ∙ at_y))

-- ---- scopes

-- no variable of these modules leads to itself
abbrev pub AllEnd : List Justfile → Type 0
AllEnd ms = AllByRecursion (λ (m : Justfile). AreEnding (assignments_of m)) ms

module _ (dotenv : List DotenvOf) (environ : List (List ℕ × List ℕ)) (overrides : List Override) where
  pub one_scope : (j : Justfile) (x y : Answer Scope) → AreEnding (assignments_of j) → IsScope dotenv environ overrides j x → IsScope dotenv environ overrides j y → x ≡ y
  one_scope j x y ends a b = sym a.is ∙ ap (λ os. scope_told (assignments_of j) os) (one_outcomes _ _ _ a.outcomes b.outcomes a.are b.are ends) ∙ b.is

  one_by : (ms : List Justfile) (x : Answer (List (Modulepath × Scope))) → Evaluates dotenv environ overrides ms x → (ns : List Justfile) (y : Answer (List (Modulepath × Scope))) → Evaluates dotenv environ overrides ns y → ms ≡ ns → AllEnd ms → x ≡ y
  one_by ms x Evaluates.none ns y Evaluates.none h ends = refl
  one_by ms x Evaluates.none ns y (Evaluates.refused k ks e refusal) h ends = absurd (let no : ⊥ = cc in no)
  one_by ms x Evaluates.none ns y (Evaluates.more k ks s others found rest) h ends = absurd (let no : ⊥ = cc in no)
  one_by ms x (Evaluates.refused j js e refusal) ns y Evaluates.none h ends = absurd (let no : ⊥ = cc in no)
  one_by ms x (Evaluates.refused j js e refusal) ns y (Evaluates.refused k ks f other) h ends =
      let one : j ≡ k = cc in
      let same : ◌≡◌ {A = Answer Scope} (Err e) (Err f) = one_scope j (Err e) (Err f) ends.0 refusal (subst (λ m. IsScope dotenv environ overrides m (Err f)) (sym one) other) in
      let errors : e ≡ f = cc in
      ap (λ z. Err z) errors
  one_by ms x (Evaluates.refused j js e refusal) ns y (Evaluates.more k ks s others found rest) h ends =
      let one : j ≡ k = cc in
      let same : ◌≡◌ {A = Answer Scope} (Err e) (Ok s) = one_scope j (Err e) (Ok s) ends.0 refusal (subst (λ m. IsScope dotenv environ overrides m (Ok s)) (sym one) found) in
      absurd (let no : ⊥ = cc in no)
  one_by ms x (Evaluates.more j js s others found rest) ns y Evaluates.none h ends = absurd (let no : ⊥ = cc in no)
  one_by ms x (Evaluates.more j js s others found rest) ns y (Evaluates.refused k ks f other) h ends =
      let one : j ≡ k = cc in
      let same : ◌≡◌ {A = Answer Scope} (Ok s) (Err f) = one_scope j (Ok s) (Err f) ends.0 found (subst (λ m. IsScope dotenv environ overrides m (Err f)) (sym one) other) in
      absurd (let no : ⊥ = cc in no)
  one_by ms x (Evaluates.more j js s others found rest) ns y (Evaluates.more k ks t further there last) h ends =
      let one : j ≡ k = cc in
      let lists : js ≡ ks = cc in
      let same : ◌≡◌ {A = Answer Scope} (Ok s) (Ok t) = one_scope j (Ok s) (Ok t) ends.0 found (subst (λ m. IsScope dotenv environ overrides m (Ok t)) (sym one) there) in
      let scopes : s ≡ t = cc in
      let behind : others ≡ further = one_by js others rest ks further last lists ends.1 in
      ap (λ o. and_then o (λ ss. Ok ((path_of j, s) ∷ ss))) behind ∙ ap (λ m. and_then further (λ ss. Ok ((path_of m, s) ∷ ss))) one ∙ ap (λ z. and_then further (λ ss. Ok ((path_of k, z) ∷ ss))) scopes

  pub one_evaluates : (ms : List Justfile) (x y : Answer (List (Modulepath × Scope))) → AllEnd ms → Evaluates dotenv environ overrides ms x → Evaluates dotenv environ overrides ms y → x ≡ y
  one_evaluates ms x y ends a b = one_by ms x a ms y b refl ends

-- ---- the whole answer

some_variable : {A : Type 0} (x : A) (xs : List A) → x ∷ xs ≡ [] → ⊥
some_variable x xs h = let no : ⊥ = cc in no

-- evaluating a project whose variables end gives one answer
pub one_evaluation : (modules : List Justfile) (dotenv : List DotenvOf) (environ : Environ) (overrides : List Override) (x y : Answer Scopes) → AllEnd modules
    → IsEvaluation modules dotenv environ overrides x → IsEvaluation modules dotenv environ overrides y → x ≡ y
one_evaluation modules dotenv environ overrides x y ends (IsEvaluation.unknown w ws unknown) b =
    sym (only_unknown modules overrides dotenv environ (w ∷ ws) (map variable_text (w ∷ ws)) (some_variable w ws) unknown refl y b)
one_evaluation modules dotenv environ overrides x y ends (IsEvaluation.known found none evaluated) b =
    sym (only_known modules overrides dotenv environ found none (λ other e. one_evaluates dotenv environ.pairs overrides modules other found ends e evaluated) y b)
