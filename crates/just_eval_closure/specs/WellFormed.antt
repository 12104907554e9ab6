-- When the nodes of a closure, and the ones that were asked for, are in order.
use Rattle.std.specs.Prelude.{ℕ, ◌≡◌, ◌<◌, List, slice_get, All, Contains, Option, Some, None, option_map}
use Rattle.just_lang_types.specs.declared.node.Node.{Node}

-- the round of a node, by its number
abbrev pub round_at : List Node → ℕ → Option (Option ℕ)
round_at nodes n = option_map (λ x. x.round) (slice_get nodes n)

-- a node is an invocation, or a prior or a subsequent of some node
pub data IsUsed (nodes : List Node) (invocations : List ℕ) (n : ℕ) : Type 0 where
  invoked : Contains invocations n → IsUsed nodes invocations n
  prior : (m : ℕ) (x : Node) → slice_get nodes m ≡ Some x → Contains x.priors n → IsUsed nodes invocations n
  subsequent : (m : ℕ) (x : Node) → slice_get nodes m ≡ Some x → Contains x.subsequents n → IsUsed nodes invocations n

-- A node's number is its place in the list.
pub record IsWellFormed (nodes : List Node) (invocations : List ℕ) : Type 0 where
  -- the invocations are nodes of the round None
  pub invocations_are : All (λ m. round_at nodes m ≡ Some None) invocations
  -- a node's priors stand before it, in its round
  pub priors_are : (n : ℕ) (x : Node) → slice_get nodes n ≡ Some x → All (λ m. (m < n) × (round_at nodes m ≡ Some x.round)) x.priors
  -- a node's subsequents stand behind it, in the round that its number names
  pub subsequents_are : (n : ℕ) (x : Node) → slice_get nodes n ≡ Some x → All (λ m. (n < m) × (round_at nodes m ≡ Some (Some n))) x.subsequents
  -- the node that names a node's round stands before it
  pub rounds_are : (n m : ℕ) (x : Node) → slice_get nodes n ≡ Some x → x.round ≡ Some m → m < n
  -- no node is there for nothing
  pub used : (n : ℕ) (x : Node) → slice_get nodes n ≡ Some x → IsUsed nodes invocations n
  -- within a round keys differ
  pub distinct : (n m : ℕ) (x y : Node) → slice_get nodes n ≡ Some x → slice_get nodes m ≡ Some y → x.round ≡ y.round → x.key ≡ y.key → n ≡ m
