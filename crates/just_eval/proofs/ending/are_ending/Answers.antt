-- No node of the graph lies on a cycle.
use Rattle.std.proofs.Common.{◌≡◌, ◌<◌, ℕ, length, None, refl, sym, ◌∙◌, subst, arith}
use Rattle.std.specs.List.{Contains}
use Rattle.just_lang_spots.specs.Graph.{IsOnCycle, IsFirst}
use Rattle.just_eval.specs.Uses.{uses}
use Rattle.just_eval.proofs.Leading.{none_on_cycle}
use Rattle.just_eval.proofs.ending.are_ending.Goals as goal

pub returns : goal.returns
returns c =
    let all = c.args.assignments.now in
    let edges = c.as_slice.result.now in
    let nodes = c.as_slice-2.result.now in
    let is : edges ≡ uses all = c.as_slice.ensures.value ∙ c.in_ok-edges.ensures in
    let size : length edges ≡ c.len.result = omega (arith, c.as_slice.ensures.len, c.len.ensures) in
    let whole : (n : ℕ) → n < length edges → Contains nodes n = λ n lt. subst (λ l. Contains l n) (sym c.as_slice-2.ensures.value) (c.in_ok-nodes.ensures.all n (subst (λ k. n < k) size lt)) in
    let first : IsFirst (IsOnCycle edges) nodes None = subst (λ o. IsFirst (IsOnCycle edges) nodes o) c.in-None.is c.in_ok-first_on_cycle.ensures in
    (λ _. none_on_cycle all edges nodes is whole first, λ _. refl)
