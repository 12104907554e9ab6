-- The nodes of a plan, one more at a time.
use Rattle.std.proofs.Common.{◌≡◌, ℕ, ◌<◌, List, [], ◌∷◌, ◌++◌, length, map, zip, append_assoc, Ok, Err, refl, ap, subst, sym, ◌∙◌, reverse}
use Rattle.std.specs.Prelude.{All}
use Rattle.std.proofs.lemmas.List.{reverse-append, length-map, map-append}
use Rattle.std.proofs.lemmas.List.Elements.{All-append, All-cons, All-nil}
use Rattle.just_eval_closure.specs.WellFormed.{IsWellFormed}
use Rattle.just_lang_types.specs.declared.node.Node.{Node}
use Rattle.just_exec.specs.declared.plan_error.PlanError.{PlanError}
use Rattle.just_exec.specs.declared.node_plan.NodePlan.{NodePlan}
use Rattle.just_exec.specs.Plans.{PlanAnswer, then_plan, each_plan}
use Rattle.just_sched_history.specs.declared.plan_node.PlanNode.{PlanNode}
use Rattle.just_cli_plan.specs.Planned.{node_planned, planned}

-- ---- what was planned, and what is left

abbrev pub behind : List NodePlan → PlanAnswer (List NodePlan) → PlanAnswer (List NodePlan)
behind done rest = then_plan (λ e. e) rest (λ ys. Ok (done ++ ys))

moved : (done : List NodePlan) (y : NodePlan) (rest : PlanAnswer (List NodePlan)) → behind (done ++ y ∷ []) rest ≡ behind done (then_plan (λ e. e) rest (λ ys. Ok (y ∷ ys)))
moved done y (Ok ys) = ap (λ zs. Ok zs) (append_assoc done (y ∷ []) ys)
moved done y (Err e) = refl

pub none_before : (r : PlanAnswer (List NodePlan)) → behind [] r ≡ r
none_before (Ok ys) = refl
none_before (Err e) = refl

-- the last one of those that are left comes first
turned : (ns left : List Node) (n : Node) → left ≡ ns ++ n ∷ [] → reverse left ≡ n ∷ reverse ns
turned ns left n was = ap (λ (xs : List Node). reverse xs) was ∙ reverse-append ns (n ∷ [])

module _ (f : Node → PlanAnswer NodePlan) (ns left : List Node) (n : Node) (was : left ≡ ns ++ n ∷ []) (done : List NodePlan) where
  one_by : (a : PlanAnswer NodePlan) → f n ≡ a → behind done (each_plan f (reverse left)) ≡ behind done (then_plan (λ e. e) a (λ z. then_plan (λ e. e) (each_plan f (reverse ns)) (λ zs. Ok (z ∷ zs))))
  one_by a is = ap (λ xs. behind done (each_plan f xs)) (turned ns left n was) ∙ ap (λ r. behind done (then_plan (λ e. e) r (λ z. then_plan (λ e. e) (each_plan f (reverse ns)) (λ zs. Ok (z ∷ zs))))) is

  -- a plan more
  pub plan_more : (y : NodePlan) → f n ≡ Ok y → behind (done ++ y ∷ []) (each_plan f (reverse ns)) ≡ behind done (each_plan f (reverse left))
  plan_more y is = moved done y (each_plan f (reverse ns)) ∙ sym (one_by (Ok y) is)

  -- a refusal
  pub plan_refusal : (e : PlanError) → f n ≡ Err e → behind done (each_plan f (reverse left)) ≡ Err e
  plan_refusal e is = one_by (Err e) is

-- a plan more, of what was made for a node
pub made_more : (f : Node → PlanAnswer NodePlan) (ns left : List Node) (n : Node) → left ≡ ns ++ n ∷ [] → (made more : List PlanNode) (x : PlanNode) → more ≡ made ++ x ∷ [] → f n ≡ Ok (node_planned x)
    → behind (map node_planned more) (each_plan f (reverse ns)) ≡ behind (map node_planned made) (each_plan f (reverse left))
made_more f ns left n was made more x grew is =
    ap (λ ps. behind ps (each_plan f (reverse ns))) (ap (λ (xs : List PlanNode). map node_planned xs) grew ∙ map-append node_planned made (x ∷ []))
    ∙ plan_more f ns left n was (map node_planned made) (node_planned x) is

-- a node more
pub node_more : (ns left : List Node) (n : Node) → left ≡ ns ++ n ∷ [] → (made more : List PlanNode) (x : PlanNode) → more ≡ made ++ x ∷ [] → x.node ≡ n
    → map (λ x. x.node) more ++ reverse ns ≡ map (λ x. x.node) made ++ reverse left
node_more ns left n was made more x grew same =
    ap (λ (xs : List PlanNode). map (λ x. x.node) xs ++ reverse ns) grew ∙ ap (λ (xs : List Node). xs ++ reverse ns) (map-append (λ (x : PlanNode). x.node) made (x ∷ []))
    ∙ append_assoc (map (λ (x : PlanNode). x.node) made) (x.node ∷ []) (reverse ns) ∙ ap (λ m. map (λ (x : PlanNode). x.node) made ++ m ∷ reverse ns) same
    ∙ ap (λ xs. map (λ (x : PlanNode). x.node) made ++ xs) (sym (turned ns left n was))

-- what holds of each of some, and of one more, holds of each of both
pub all_pushed : {A : Type 0} (P : A → Type 0) (made more : List A) (x : A) → more ≡ made ++ x ∷ [] → All P made → P x → All P more
all_pushed P made more x grew all one = subst (λ ys. All P ys) (sym grew) (All-append P made (x ∷ []) all (All-cons P x [] one (All-nil P)))

-- ---- all of them

-- each node stands with what is planned for it
pub planned_zip : (made : List PlanNode) → map planned made ≡ zip (map (λ x. x.node) made) (map node_planned made)
planned_zip [] = refl
planned_zip (x ∷ xs) = ap (λ zs. planned x ∷ zs) (planned_zip xs)

pub planned_nodes : (ns : List Node) (made : List PlanNode) → map (λ x. x.node) made ≡ ns → map planned made ≡ zip ns (map node_planned made)
planned_nodes ns made same = planned_zip made ∙ ap (λ ms. zip ms (map node_planned made)) same

-- so they are well formed, as the closure is, and as many
pub well_planned : (ns : List Node) (invocations : List ℕ) (made : List PlanNode) → map (λ x. x.node) made ≡ ns → IsWellFormed ns invocations → ∥ IsWellFormed (map (λ x. x.node) made) invocations ∥₁
well_planned ns invocations made same well = ∣ subst (λ (ms : List Node). IsWellFormed ms invocations) (sym same) well ∣₁

pub few_planned : (ns : List Node) (made : List PlanNode) (limit : ℕ) → map (λ x. x.node) made ≡ ns → length ns < limit → length made < limit
few_planned ns made limit same few = subst (λ k. k < limit) (sym (sym (length-map made (λ (x : PlanNode). x.node)) ∙ ap (λ (ms : List Node). length ms) same)) few
