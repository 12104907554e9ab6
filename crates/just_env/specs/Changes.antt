-- What changes in the environment of a recipe's children: some names get a text, and some are taken out.
use Rattle.std.specs.Prelude.{ℕ, ◌≡◌, ◌||◌, ◌&&◌, not, Bool, false, if◌then◌else◌, List, [], ◌∷◌, ◌++◌, map, filter_map, Option, Some, None, option_map, bytes_eq}
use Rattle.std.specs.BTreeMap.{insert_entry}
use Rattle.std.specs.Cmp.Lexicographic.{slice_cmp}
use Rattle.std.specs.List.{list_any, flat_map}
use Rattle.std.specs.List.Sorted.{IsStrictlySortedBy}
use Rattle.std.specs.Map.{lookup}
use Rattle.std.specs.Ordering.{nat_cmp}
use Rattle.std.specs.declared.cmp.Ordering.{Ordering}
use Rattle.just_path_text.specs.Environ.{or_else, value_of}
use Rattle.just_lang_types.specs.declared.key.Value.{Value}
use Rattle.just_lang_types.specs.declared.scope.Binding.{Binding}
use Rattle.just_lang_types.specs.declared.scope.Level.{Level}
use Rattle.just_eval_closure.specs.Scopes.{text_of_value}

-- a name with the text that it gets, or with none, where it is taken out
abbrev pub Change : Type 0
Change = List ℕ × Option (List ℕ)

-- the order of texts by their bytes
abbrev pub text_cmp : List ℕ → List ℕ → Ordering
text_cmp a b = slice_cmp nat_cmp a b

-- ---- one level

abbrev pub text_unless_empty : List (List ℕ) → List ℕ → Option (List ℕ)
text_unless_empty [] text = None
text_unless_empty (t ∷ ts) text = Some text

-- the text that a value gives to the environment; one without elements gives none
abbrev pub given_text : Value → Option (List ℕ)
given_text v = text_unless_empty v.elements (text_of_value v)

-- the name and the text of a binding that is exported: one that says so, and under `set export` any but a constant's
abbrev pub exported : Bool → Bool → Binding → Option (List ℕ × List ℕ)
exported all prelude b = if b.export || (all && not prelude) then option_map (λ text. (b.name, text)) (given_text b.value) else None

abbrev pub exports : Bool → Level → List (List ℕ × List ℕ)
exports all level = filter_map (exported all level.prelude) level.bindings

-- ---- the changes

-- the ordered map that these changes make of one, each in the place of an earlier one of its name
abbrev pub put_all : List Change → List Change → List Change
put_all done [] = done
put_all done (c ∷ cs) = put_all (insert_entry text_cmp done c.0 c.1) cs

abbrev pub gets : List ℕ × List ℕ → Change
gets p = (p.0, Some p.1)

abbrev pub goes : List ℕ → Change
goes name = (name, None)

-- what a level changes: the unexports, and behind them what it exports
abbrev pub level_changes : Bool → List (List ℕ) → Level → List Change
level_changes all unexports level = map goes unexports ++ map gets (exports all level)

-- the levels without the innermost one, which is the scope's own
abbrev pub outer : List Level → List Level
outer [] = []
outer (l ∷ []) = []
outer (l ∷ m ∷ ms) = l ∷ outer (m ∷ ms)

-- the levels of a module's scope, behind which comes an empty one, as a scope's own
abbrev pub module_levels : List Level → List Level
module_levels levels = levels ++ record { bindings = []; prelude = false } ∷ []

-- the dotenv pairs, and behind them each level from the outermost on, the scope's own left out; the last change of a name counts
abbrev pub changes : List (List ℕ × List ℕ) → Bool → List (List ℕ) → List Level → List Change
changes dotenv all unexports levels = put_all [] (map gets dotenv ++ flat_map (level_changes all unexports) (outer levels))

-- ---- what changes at a name

abbrev pub is_among : List (List ℕ) → List ℕ → Bool
is_among names name = list_any (λ n. bytes_eq n name) names

abbrev pub taken_out : Bool → Option (Option (List ℕ))
taken_out is = if is then Some None else None

-- what a level says of a name: the text that it exports, else that it is taken out, where an unexport names it; else nothing
abbrev pub level_says : Bool → List (List ℕ) → Level → List ℕ → Option (Option (List ℕ))
level_says all unexports level name = or_else (option_map Some (value_of name (exports all level))) (taken_out (is_among unexports name))

-- what the innermost level says that says something
abbrev pub levels_say : Bool → List (List ℕ) → List Level → List ℕ → Option (Option (List ℕ))
levels_say all unexports [] name = None
levels_say all unexports (level ∷ inner) name = or_else (levels_say all unexports inner name) (level_says all unexports level name)

-- what changes at a name: by the innermost level that says something, the scope's own left out; where none does, by the dotenv pairs
abbrev pub change : List (List ℕ × List ℕ) → Bool → List (List ℕ) → List Level → List ℕ → Option (Option (List ℕ))
change dotenv all unexports levels name = or_else (levels_say all unexports (outer levels) name) (option_map Some (value_of name dotenv))

-- the changes say that of each name, and have each once, in the order of their bytes
pub record AreChanges (says : List ℕ → Option (Option (List ℕ))) (list : List Change) : Type 0 where
  pub all : (name : List ℕ) → lookup (bytes_eq name) list ≡ says name
  pub ordered : IsStrictlySortedBy text_cmp (map (λ c. c.0) list)
