-- Whether variables lead to themselves.
use Rattle.std.proofs.Common.{◌≡◌, ℕ, zero, suc, ◌+◌, ◌<◌, ◌≤◌, inl, inr, Bor, List, [], ◌∷◌, ◌++◌, length, get_or, take, map, Some, None, sym, subst, arith}
use Rattle.std.specs.List.{All, Contains}
use Rattle.std.proofs.lemmas.Bool.{cases_eq}
use Rattle.std.proofs.lemmas.List.{take_all}
use Rattle.std.proofs.lemmas.List.Elements.{All-more, Contains-push, Contains-append_left}
use Rattle.just_lang_types.specs.declared.scope.Assignment.{Assignment}
use Rattle.just_lang_types.specs.declared.project.Justfile.{Justfile}
use Rattle.just_eval_closure.proofs.Items.{In, contains_in}
use Rattle.just_lang_spots.specs.Graph.{targets, Reaches, IsOnCycle, IsAcyclic, IsFirst}
use Rattle.just_lang_types.specs.Modules.{AreModules, assignments_of}
use Rattle.just_lang_types.proofs.Nesting.{same_modules}
use Rattle.just_eval.specs.Uses.{uses, AreEnding}
use Rattle.just_eval.proofs.Told.{ending_at}

-- ---- numbers

pub number_in : (ns : List ℕ) (at : ℕ) → ((n : ℕ) → n < at → Contains ns n) → (n : ℕ) → n < at + 1 → Contains (ns ++ at ∷ []) n
number_in ns at all n lt =
    elim (cases_eq n at) [
      | inl e ↦ subst (λ k. Contains (ns ++ at ∷ []) k) (sym e) (Contains-push ns at)
      | inr ne ↦ Contains-append_left ns (at ∷ []) n (all n (omega (arith, lt)))
    ]

-- ---- graphs

-- only a node has targets
is_node : (edges : List (List ℕ)) (v w : ℕ) → Contains (targets edges v) w → v < length edges
is_node [] v w c = absurd (omega (arith, c.1))
is_node (ws ∷ edges) zero w c = omega arith
is_node (ws ∷ edges) (suc v) w c = omega (arith, is_node edges v w c)

from_node : (edges : List (List ℕ)) (v w : ℕ) → Reaches edges v w → v < length edges
from_node edges v w (Reaches.edge a b c) = is_node edges a b c
from_node edges v w (Reaches.along a b x c more) = is_node edges a b c

-- what is said of the first of some numbers
none_first : (P : ℕ → Type 0) (xs : List ℕ) → IsFirst P xs None → (x : ℕ) → In x xs → P x → ⊥
none_first P [] first x i h = i
none_first P (y ∷ ys) (inl both) x i h = let no : ⊥ = cc (both.1) in no
none_first P (y ∷ ys) (inr both) x (inl e) h = both.0 (subst P (sym e) h)
none_first P (y ∷ ys) (inr both) x (inr i) h = none_first P ys both.1 x i h

some_first : (P : ℕ → Type 0) (xs : List ℕ) (v : ℕ) → IsFirst P xs (Some v) → P v
some_first P [] v first = absurd (let no : ⊥ = cc in no)
some_first P (y ∷ ys) v (inl both) = let same : v ≡ y = cc (both.1) in subst P (sym same) both.0
some_first P (y ∷ ys) v (inr both) = some_first P ys v both.1

pub none_on_cycle : (all : List Assignment) (edges : List (List ℕ)) (ns : List ℕ) → edges ≡ uses all → ((n : ℕ) → n < length edges → Contains ns n) → IsFirst (IsOnCycle edges) ns None → AreEnding all
none_on_cycle all edges ns is whole first =
    subst (λ es. IsAcyclic es) is (λ v cycle. none_first (IsOnCycle edges) ns first v (contains_in ns v (whole v (from_node edges v v cycle))) cycle)

pub some_on_cycle : (all : List Assignment) (edges : List (List ℕ)) (ns : List ℕ) (v : ℕ) → edges ≡ uses all → IsFirst (IsOnCycle edges) ns (Some v) → AreEnding all → ⊥
some_on_cycle all edges ns v is first ending = subst (λ es. IsAcyclic es) (sym is) ending v (some_first (IsOnCycle edges) ns v first)

-- ---- modules

abbrev pub IsEnding : Bor Justfile → Type 0
IsEnding m = AreEnding (assignments_of m.now)

-- those of the modules so far
pub module_more : (ms : List (Bor Justfile)) (n : ℕ) (m : Bor Justfile) → n < length ms → m ≡ get_or ms n m → IsEnding m → All IsEnding (take n ms) → All IsEnding (take (n + 1) ms)
module_more ms n m lt is ending before = All-more IsEnding ms n m lt before (subst IsEnding is ending)

all_seen : (ms : List (Bor Justfile)) → All IsEnding ms → All (λ j. AreEnding (assignments_of j)) (map (λ m. m.now) ms)
all_seen [] all k d lt = absurd (omega (arith, lt))
all_seen (m ∷ ms) all zero d lt = all 0 m (omega arith)
all_seen (m ∷ ms) all (suc k) d lt = all_seen ms (λ i e h. all (suc i) e (omega (arith, h))) k d (omega (arith, lt))

pub all_ending : (ms : List (Bor Justfile)) (n : ℕ) → length ms ≤ n → All IsEnding (take n ms) → All (λ j. AreEnding (assignments_of j)) (map (λ m. m.now) ms)
all_ending ms n le all = all_seen ms (subst (λ l. All IsEnding l) (take_all n ms le) all)

pub not_ending : (ms : List (Bor Justfile)) (n : ℕ) (m : Bor Justfile) → n < length ms → m ≡ get_or ms n m → (IsEnding m → ⊥) → All (λ j. AreEnding (assignments_of j)) (map (λ k. k.now) ms) → ⊥
not_ending ms n m lt is leads all = leads (ending_at ms n m lt is all)

-- of the modules that were found, and of the modules whatever they are
pub of_all : (js ms : List Justfile) → AreModules js ms → All (λ j. AreEnding (assignments_of j)) ms → (modules : List Justfile) → AreModules js modules → All (λ j. AreEnding (assignments_of j)) modules
of_all js ms found all modules are = subst (λ l. All (λ j. AreEnding (assignments_of j)) l) (same_modules js ms modules found are) all

pub to_all : (js ms : List Justfile) → AreModules js ms → ((modules : List Justfile) → AreModules js modules → All (λ j. AreEnding (assignments_of j)) modules) → All (λ j. AreEnding (assignments_of j)) ms
to_all js ms found all = all ms found
