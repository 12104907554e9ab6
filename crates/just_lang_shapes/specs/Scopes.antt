-- The variables that a module assigns and takes out of the environment.
use Rattle.std.specs.Prelude.{ℕ, List, filter_map, Option, Some, None}
use Rattle.just_lang_syntax.specs.declared.ast.AstItem.{AstItem}
use Rattle.just_lang_syntax.specs.declared.ast.AstItem.TheVariants as item
use Rattle.just_lang_syntax.specs.declared.ast.StringLiteral.{StringLiteral}
use Rattle.just_lang_types.specs.declared.scope.Assignment.{Assignment}
use Rattle.just_lang_shapes.specs.Expansions.{expanded_expr}

module _ (text_of : StringLiteral → Option (List ℕ)) where
  abbrev pub assignment_in : ℕ × AstItem → Option Assignment
  assignment_in (n, item.Assignment export name value comment) = Some (record { name = name.text; value = expanded_expr text_of value; export = export })
  assignment_in (n, item.Blank) = None
  assignment_in (n, item.Comment text) = None
  assignment_in (n, item.Alias name target comment) = None
  assignment_in (n, item.Import optional path comment) = None
  assignment_in (n, item.Module attributes optional name path comment) = None
  assignment_in (n, item.Unexport name comment) = None
  assignment_in (n, item.Setting name value comment) = None
  assignment_in (n, item.Recipe r) = None

  -- the assignments among some items
  abbrev pub assignments_of : List (ℕ × AstItem) → List Assignment
  assignments_of items = filter_map assignment_in items

abbrev pub unexport_in : ℕ × AstItem → Option (List ℕ)
unexport_in (n, item.Unexport name comment) = Some name.text
unexport_in (n, item.Blank) = None
unexport_in (n, item.Comment text) = None
unexport_in (n, item.Alias name target comment) = None
unexport_in (n, item.Import optional path comment) = None
unexport_in (n, item.Module attributes optional name path comment) = None
unexport_in (n, item.Assignment export name value comment) = None
unexport_in (n, item.Setting name value comment) = None
unexport_in (n, item.Recipe r) = None

-- the names that items take out of the environment
abbrev pub unexports_of : List (ℕ × AstItem) → List (List ℕ)
unexports_of items = filter_map unexport_in items
