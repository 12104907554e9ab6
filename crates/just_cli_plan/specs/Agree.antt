-- Sources have one plan, or one refusal.
use Rattle.std.specs.Prelude.{◌≡◌, true, List, ◌++◌, Some, Result, Ok, Err}
use Rattle.just_host_record.specs.World.{World}
use Rattle.just_env.specs.Captures.{Capture, AreTold}
use Rattle.just_exec.specs.declared.error.Error.{Error}
use Rattle.just_cli_plan.specs.Own.{is_uncaptured, IsOwn}
use Rattle.just_cli_plan.specs.Request.{SourcesRequest, PlansSources}

-- Answers for which children at the front of a list were run to their end, behind each of which a world is told: two of them that are their own are one, and
-- the same children were run for both.
abbrev pub TakesOwn : {A : Type 0} → (List Capture → Result A Error → Type 0) → Type 0
TakesOwn {A} gives =
    (cs ds xs ys : List Capture) → cs ++ xs ≡ ds ++ ys → AreTold (ds ++ ys) → (r q : Result A Error) → gives cs r → IsOwn r → gives ds q → IsOwn q → (r ≡ q) × (cs ≡ ds) × (xs ≡ ys)

-- over told worlds what is asked of some sources has one such answer
abbrev pub PlansAgree : Type 0
PlansAgree = (w : World) (s : SourcesRequest) → TakesOwn (λ cs r. PlansSources (Some w) cs s r)

-- an answer that tells that a child that gives dotenv pairs wasn't run to its end
abbrev pub IsUnrun : {A : Type 0} → Result A Error → Type 0
IsUnrun (Ok x) = ⊥
IsUnrun (Err e) = is_uncaptured e ≡ true

-- Behind the children that were run for such an answer no answer is own: one that is has a further child.
abbrev pub StandsAlone : {A : Type 0} → (List Capture → Result A Error → Type 0) → Type 0
StandsAlone {A} gives = (cs ds ys : List Capture) → cs ≡ ds ++ ys → AreTold (ds ++ ys) → (r q : Result A Error) → gives cs r → IsUnrun r → gives ds q → IsOwn q → ⊥

abbrev pub PlansAlone : Type 0
PlansAlone = (w : World) (s : SourcesRequest) → StandsAlone (λ cs r. PlansSources (Some w) cs s r)
