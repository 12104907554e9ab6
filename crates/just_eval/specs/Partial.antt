-- What names mean while some assignments have no outcome yet.
use Rattle.std.specs.Prelude.{ℕ, ◌≡◌, List, [], true, All, is_some, get_or, slice_get, map, Option, Some, None, Ok}
use Rattle.std.specs.BTreeMap.{BTreeMap, get}
use Rattle.std.specs.Option.{unwrap_or}
use Rattle.just_lang_types.specs.declared.scope.Assignment.{Assignment}
use Rattle.just_eval_closure.specs.Numbers.{text_cmp}
use Rattle.just_eval_closure.specs.Values.{Valued, value}
use Rattle.just_eval.specs.Outcomes.{assigned, constant_value}
use Rattle.just_eval.specs.Uses.{named}

-- the outcome of the assignment of that number
abbrev pub outcome_at : List (Option Valued) → Option ℕ → Option Valued
outcome_at outcomes None = None
outcome_at outcomes (Some n) = get_or outcomes n None

-- what a name means, where the map has the numbers of the assignments: the outcome of its assignment, else what the constant is
abbrev pub meaning_so_far : BTreeMap (List ℕ) ℕ → List (Option Valued) → List ℕ → Valued
meaning_so_far numbers outcomes name = unwrap_or (outcome_at outcomes (get text_cmp numbers name)) (constant_value name)

-- The names mean what the outcomes that are there say, and those that aren't assigned what the constants say.
pub record Agrees (assignments : List Assignment) (outcomes : List (Option Valued)) (names : List ℕ → Valued) : Type 0 where
  pub outcomes_are : (name : List ℕ) (v : Valued) → outcome_at outcomes (named assignments name) ≡ Some v → names name ≡ v
  pub constants_are : (name : List ℕ) → named assignments name ≡ None → names name ≡ constant_value name

-- Each outcome that is there is that of its assignment, whatever the outcomes that are missing become.
abbrev pub AreSettled : List Assignment → (List ℕ → Option (List ℕ)) → (List ℕ → Option (List ℕ)) → List (Option Valued) → Type 0
AreSettled assignments given env outcomes =
    (n : ℕ) (o : Valued) (a : Assignment) → get_or outcomes n None ≡ Some o → slice_get assignments n ≡ Some a → (names : List ℕ → Valued) → Agrees assignments outcomes names → o ≡ assigned (given a.name) (value names env a.value)

-- these assignments have outcomes
abbrev pub AreThere : List (Option Valued) → List ℕ → Type 0
AreThere outcomes ns = All (λ n. is_some (get_or outcomes n None) ≡ true) ns

-- the outcomes, where all are there
abbrev pub outcome_there : Option Valued → Valued
outcome_there outcome = unwrap_or outcome (Ok [])

abbrev pub outcomes_there : List (Option Valued) → List Valued
outcomes_there outcomes = map outcome_there outcomes
