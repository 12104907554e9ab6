-- The rules on attributes.
use Rattle.std.specs.Prelude.{ℕ, Bool, true, false, not, ◌&&◌, ◌||◌, if◌then◌else◌, List, [], ◌++◌, map, filter_map, Option, Some, None, option_map, codes, slice_get}
use Rattle.std.specs.List.{flat_map}
use Rattle.just_lang_syntax.specs.Forms.{is_one_of}
use Rattle.just_lang_syntax.specs.declared.ast.StringLiteral.{StringLiteral}
use Rattle.just_lang_syntax.specs.declared.ast.Argument.{Argument}
use Rattle.just_lang_syntax.specs.declared.ast.Attribute.{Attribute}
use Rattle.just_lang_syntax.specs.declared.ast.AstItem.{AstItem}
use Rattle.just_lang_syntax.specs.declared.ast.AstItem.TheVariants as item
use Rattle.just_lang_spots.specs.declared.spot.Spot.{Spot}
use Rattle.just_lang_rules.specs.declared.duplicate_attributes.ArgName.{ArgName}
use Rattle.just_lang_spots.specs.Spots.{spot_where}
use Rattle.just_lang_spots.specs.Places.{name_spot, argument_spot}
use Rattle.just_lang_rules.specs.Tables.{attributes_of}
use Rattle.just_lang_spots.specs.Repeated.{repeated, is_among}
use Rattle.just_lang_types.specs.Attributes.{is_called, is_shebang, is_script}
use Rattle.just_lang_types.specs.ConstantTexts.{const_text}

-- ---- attributes that there aren't

abbrev pub unknown_among : List (List ℕ) → ℕ → List Attribute → List Spot
unknown_among known file attributes = flat_map (λ a. spot_where (not (is_one_of known a.name.text)) (name_spot file a.name)) attributes

abbrev pub unknown_attribute_of : ℕ → AstItem → List Spot
unknown_attribute_of file item.Blank = []
unknown_attribute_of file (item.Comment text) = []
unknown_attribute_of file (item.Alias name target comment) = []
unknown_attribute_of file (item.Import optional path comment) = []
unknown_attribute_of file (item.Module attributes optional name path comment) = unknown_among (attributes_of true) file attributes
unknown_attribute_of file (item.Assignment export name value comment) = []
unknown_attribute_of file (item.Unexport name comment) = []
unknown_attribute_of file (item.Setting name value comment) = []
unknown_attribute_of file (item.Recipe r) = unknown_among (attributes_of false) file r.attributes

-- ---- attributes that come twice

-- an attribute that may come once, with its place: all but `group` and `arg`
abbrev pub single_name : ℕ → Attribute → Option (List ℕ × Spot)
single_name file a = if is_called (codes "group") a || is_called (codes "arg") a then None else Some (a.name.text, name_spot file a.name)

-- whether a name is there and none of these
abbrev pub is_stranger : List (List ℕ) → Option (List ℕ) → Bool
is_stranger names None = false
is_stranger names (Some name) = not (is_among name names)

-- a parameter's name and its attribute's place, as they are kept
abbrev pub arg_pair : ArgName → List ℕ × Spot
arg_pair x = (x.name, x.spot)

module _ (text_of : StringLiteral → Option (List ℕ)) where
  -- the parameter that the first argument names
  abbrev pub parameter_named : Option Argument → Option (List ℕ)
  parameter_named None = None
  parameter_named (Some x) = const_text text_of x.value

  -- the parameter that an `arg` is for, with the attribute's place
  abbrev pub arg_name : ℕ → Attribute → Option (List ℕ × Spot)
  arg_name file a =
      if is_called (codes "arg") a then option_map (λ t. (t, name_spot file a.name)) (parameter_named (slice_get a.arguments 0)) else None

  -- the attributes whose names another one before them has; of `arg`, whose parameters
  abbrev pub duplicate_among : ℕ → List Attribute → List Spot
  duplicate_among file attributes = repeated (filter_map (single_name file) attributes) ++ repeated (filter_map (arg_name file) attributes)

  abbrev pub duplicate_attribute_of : ℕ → AstItem → List Spot
  duplicate_attribute_of file item.Blank = []
  duplicate_attribute_of file (item.Comment text) = []
  duplicate_attribute_of file (item.Alias name target comment) = []
  duplicate_attribute_of file (item.Import optional path comment) = []
  duplicate_attribute_of file (item.Module attributes optional name path comment) = duplicate_among file attributes
  duplicate_attribute_of file (item.Assignment export name value comment) = []
  duplicate_attribute_of file (item.Unexport name comment) = []
  duplicate_attribute_of file (item.Setting name value comment) = []
  duplicate_attribute_of file (item.Recipe r) = duplicate_among file r.attributes

  -- ---- attributes for parameters that there aren't

  -- where an `arg` names a parameter by its first argument, and none of these has the name
  abbrev pub unknown_argument : ℕ → List (List ℕ) → Option Argument → List Spot
  unknown_argument file names None = []
  unknown_argument file names (Some x) = spot_where (is_stranger names (const_text text_of x.value)) (argument_spot file x)

  abbrev pub unknown_arg_of : ℕ → List (List ℕ) → Attribute → List Spot
  unknown_arg_of file names a = if is_called (codes "arg") a then unknown_argument file names (slice_get a.arguments 0) else []

  abbrev pub unknown_args_of : ℕ → AstItem → List Spot
  unknown_args_of file item.Blank = []
  unknown_args_of file (item.Comment text) = []
  unknown_args_of file (item.Alias name target comment) = []
  unknown_args_of file (item.Import optional path comment) = []
  unknown_args_of file (item.Module attributes optional name path comment) = []
  unknown_args_of file (item.Assignment export name value comment) = []
  unknown_args_of file (item.Unexport name comment) = []
  unknown_args_of file (item.Setting name value comment) = []
  unknown_args_of file (item.Recipe r) = flat_map (unknown_arg_of file (map (λ p. p.name.text) r.parameters)) r.attributes

-- ---- attributes that don't go with the body

-- `script` over a body with a shebang, and `cache` over one that is run line by line
abbrev pub conflicts : Bool → Bool → Attribute → Bool
conflicts has_shebang is_script a = (is_called (codes "script") a && has_shebang) || (is_called (codes "cache") a && not is_script)

abbrev pub conflict_of : ℕ → AstItem → List Spot
conflict_of file item.Blank = []
conflict_of file (item.Comment text) = []
conflict_of file (item.Alias name target comment) = []
conflict_of file (item.Import optional path comment) = []
conflict_of file (item.Module attributes optional name path comment) = []
conflict_of file (item.Assignment export name value comment) = []
conflict_of file (item.Unexport name comment) = []
conflict_of file (item.Setting name value comment) = []
conflict_of file (item.Recipe r) = flat_map (λ a. spot_where (conflicts (is_shebang r.body) (is_script r) a) (name_spot file a.name)) r.attributes
