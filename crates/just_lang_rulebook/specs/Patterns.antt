-- The patterns of parameters, and which of them regular expressions' grammar reads.
use Rattle.std.specs.Prelude.{◌≡◌, ℕ, nat_le, Bool, true, false, if◌then◌else◌, List, [], ◌∷◌, ◌++◌, filter_map, not, chars, Option, Some, None, option_map, Result, Ok, Err, codes}
use Rattle.std.specs.List.{flat_map}
use Rattle.regex.specs.Patterns.{default_config, Re}
use Rattle.regex.specs.declared.string.regex.Regex.{Regex}
use Rattle.regex.specs.declared.error.Error.{Error}
use Rattle.regex.specs.declared.error.Error.TheVariants as error
use Rattle.regex_syntax.specs.Brackets.{Nested}
use Rattle.regex_syntax.specs.Grammar.{Names, read}
use Rattle.just_path_text.specs.declared.memory.NoMemory.{NoMemory}
use Rattle.just_lang_syntax.specs.declared.ast.StringLiteral.{StringLiteral}
use Rattle.just_lang_syntax.specs.declared.ast.Argument.{Argument}
use Rattle.just_lang_syntax.specs.declared.ast.Attribute.{Attribute}
use Rattle.just_lang_syntax.specs.declared.ast.AstItem.{AstItem}
use Rattle.just_lang_syntax.specs.declared.ast.AstItem.TheVariants as item
use Rattle.just_lang_spots.specs.declared.spot.Spot.{Spot}
use Rattle.just_lang_spots.specs.Spots.{spot_where, earlier}
use Rattle.just_lang_spots.specs.Places.{argument_spot}
use Rattle.just_lang_types.specs.Attributes.{is_called}
use Rattle.just_lang_types.specs.Options.{text_at}
use Rattle.just_lang_rulebook.specs.declared.refusals.Refusal.{Refusal}
use Rattle.just_lang_rulebook.specs.declared.refusals.Refusal.TheVariants.{Syntax, Size}
use Rattle.just_lang_rulebook.specs.declared.patterns.PatternText.{PatternText}

-- a pattern that a whole value has to match
abbrev pub whole_pattern : List ℕ → List ℕ
whole_pattern text = codes "^(?:" ++ (text ++ codes ")$")

-- whether something is read, no deeper than the limit
abbrev pub is_shallow : Option (Nested Re × Names) → Bool
is_shallow None = false
is_shallow (Some x) = nat_le x.0.depth default_config.nest_limit

-- whether the grammar of regular expressions reads the text, nested within the limit
unfoldable pub is_pattern : List ℕ → Bool
is_pattern text = is_shallow (read default_config (chars text))

-- why the library refuses to build a text, where it does, by whether that is a pattern
abbrev pub IsOwnRefusal : Bool → Option Refusal → Type 0
IsOwnRefusal is_pattern None = is_pattern ≡ true
IsOwnRefusal is_pattern (Some Syntax) = is_pattern ≡ false
IsOwnRefusal is_pattern (Some Size) = is_pattern ≡ true

-- the same, by what the library answers; want of memory is none
abbrev pub refusal_by : Result Regex Error → Result (Option Refusal) NoMemory
refusal_by (Ok built) = Ok None
refusal_by (Err (error.Syntax e)) = Ok (Some Syntax)
refusal_by (Err error.CompiledTooBig) = Ok (Some Size)
refusal_by (Err error.Internal) = Ok (Some Size)
refusal_by (Err error.OutOfMemory) = Err (record {})

-- why a pattern of a parameter is refused, where it is: the grammar doesn't read it, or it does and the library doesn't build it,
-- alone or for a whole value
abbrev pub IsRefusal : List ℕ → Option Refusal → Type 0
IsRefusal text None = (is_pattern text ≡ true) × (is_pattern (whole_pattern text) ≡ true)
IsRefusal text (Some Syntax) = is_pattern text ≡ false
IsRefusal text (Some Size) = is_pattern text ≡ true

-- a pattern's text and place, as they are kept
abbrev pub pattern_pair : PatternText → List ℕ × Spot
pattern_pair x = (x.text, x.spot)

module _ (text_of : StringLiteral → Option (List ℕ)) where
  -- the text of a `pattern`, with the place of its value
  abbrev pub pattern_text : ℕ → Argument → Option (List ℕ × Spot)
  pattern_text file x = option_map (λ t. (t, argument_spot file x)) (text_at text_of (codes "pattern") x)

  abbrev pub patterns_of_attribute : ℕ → Attribute → List (List ℕ × Spot)
  patterns_of_attribute file a = if is_called (codes "arg") a then filter_map (pattern_text file) a.arguments else []

  abbrev pub patterns_of : ℕ → AstItem → List (List ℕ × Spot)
  patterns_of file item.Blank = []
  patterns_of file (item.Comment text) = []
  patterns_of file (item.Alias name target comment) = []
  patterns_of file (item.Import optional path comment) = []
  patterns_of file (item.Module attributes optional name path comment) = []
  patterns_of file (item.Assignment export name value comment) = []
  patterns_of file (item.Unexport name comment) = []
  patterns_of file (item.Setting name value comment) = []
  patterns_of file (item.Recipe r) = flat_map (patterns_of_attribute file) r.attributes

-- the places of those that the grammar doesn't read
abbrev pub unread_spots : List (List ℕ × Spot) → List Spot
unread_spots patterns = flat_map (λ p. spot_where (not (is_pattern p.0)) p.1) patterns

-- the place of a pattern that is too big, where it is: the grammar reads it. One that isn't is read for a whole value too
abbrev pub IsTooBig : List ℕ × Spot → Option Spot → Type 0
IsTooBig p None = is_pattern p.0 ≡ true → is_pattern (whole_pattern p.0) ≡ true
IsTooBig p (Some spot) = (p.1 ≡ spot) × (is_pattern p.0 ≡ true)

-- the first of the places of those that are too big
abbrev pub IsFirstTooBig : List (List ℕ × Spot) → Option Spot → Type 0
IsFirstTooBig [] s = s ≡ None
IsFirstTooBig (p ∷ ps) s = (here rest : Option Spot) × IsTooBig p here × IsFirstTooBig ps rest × (s ≡ earlier here rest)
