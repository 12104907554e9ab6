-- Which pairs a text gives in an environment, and where a text that gives none goes wrong.
use Rattle.std.specs.Prelude.{◌≡◌, ℕ, true, false, if◌then◌else◌, List, [], Option}
use Rattle.just_lang_read.specs.Place.{Place, AreMany, start, next, sees, is_end}
use Rattle.just_dotenv.specs.Characters.{byte_order_mark}
use Rattle.just_dotenv.specs.declared.error.DotenvError.{DotenvError}
use Rattle.just_dotenv.specs.declared.error.DotenvError.TheVariants.{Line, NoMemory}
use Rattle.just_dotenv.specs.Grammar.{Entry, IsLine}
use Rattle.just_dotenv.specs.Meaning.{Pairs, pairs_from}

-- where the first line begins: behind the byte order mark, where the text begins with one
abbrev pub first_line : List ℕ → Place
first_line text = if sees byte_order_mark (start text) then next (start text) else start text

-- the characters of a text are lines to its end, and these are the pairs of those lines
pub record Gives (text : List ℕ) (environ pairs : Pairs) : Type 0 where
  pub lines : List (Option Entry)
  pub end : Place
  pub are : AreMany IsLine (first_line text) end lines
  pub whole : is_end end ≡ true
  pub means : pairs ≡ pairs_from environ [] lines

-- the text goes on behind some lines, no line stands there, and that is on line n
pub record Stops (text : List ℕ) (n : ℕ) : Type 0 where
  pub lines : List (Option Entry)
  pub place : Place
  pub are : AreMany IsLine (first_line text) place lines
  pub goes_on : is_end place ≡ false
  pub no_line : (q : Place) (x : Option Entry) → IsLine place q x → ⊥
  pub line : n ≡ place.line

-- what a refusal says of the text; want of memory says nothing
abbrev pub IsRefusedFor : List ℕ → DotenvError → Type 0
IsRefusedFor text (Line n) = Stops text n
IsRefusedFor text NoMemory = Unit {0}
