-- What the law of printed trees asks: of an indentation, and of the lines of bodies.
use Rattle.std.specs.Prelude.{◌≡◌, ℕ, Bool, true, false, not, ◌==◌, List, [], ◌∷◌, chars}
use Rattle.std.specs.List.{list_all}
use Rattle.just_lang_read.specs.Place.{is_empty}
use Rattle.just_lang_read.specs.Characters.{is_blank}
use Rattle.just_lang_syntax.specs.declared.ast.Fragment.{Fragment}
use Rattle.just_lang_syntax.specs.declared.ast.Fragment.TheVariants as fragment
use Rattle.just_lang_syntax.specs.declared.ast.Line.{Line}
use Rattle.just_lang_syntax.specs.declared.ast.AstItem.{AstItem}
use Rattle.just_lang_syntax.specs.declared.ast.AstItem.TheVariants as item

-- one or more blanks
abbrev pub IsIndentation : List ℕ → Type 0
IsIndentation text = (is_empty text ≡ false) × (list_all is_blank text ≡ true)

-- whether a text ends in a carriage return
abbrev pub ends_in_return : List ℕ → Bool
ends_in_return [] = false
ends_in_return (c ∷ []) = c == 13
ends_in_return (c ∷ d ∷ rest) = ends_in_return (d ∷ rest)

abbrev pub fragment_returns : Fragment → Bool
fragment_returns (fragment.Text text) = ends_in_return (chars text)
fragment_returns (fragment.Value x) = false

-- whether the last of the fragments of a line does
abbrev pub line_returns : List Fragment → Bool
line_returns [] = false
line_returns (x ∷ []) = fragment_returns x
line_returns (x ∷ y ∷ xs) = line_returns (y ∷ xs)

abbrev pub has_no_return : AstItem → Bool
has_no_return item.Blank = true
has_no_return (item.Comment text) = true
has_no_return (item.Alias name target comment) = true
has_no_return (item.Import optional path comment) = true
has_no_return (item.Module attributes optional name path comment) = true
has_no_return (item.Assignment export name value comment) = true
has_no_return (item.Unexport name comment) = true
has_no_return (item.Setting name value comment) = true
has_no_return (item.Recipe x) = list_all (λ (line : Line). not (line_returns line.fragments)) x.body

-- no line of a body ends in a carriage return
abbrev pub NoReturnAtEnd : List AstItem → Type 0
NoReturnAtEnd items = list_all has_no_return items ≡ true
