-- The lines of a recipe's body as they are run.
use Rattle.std.specs.Prelude.{ℕ, ◌-◌, ◌==◌, ◌&&◌, ◌||◌, not, Bool, true, false, if◌then◌else◌, List, [], ◌∷◌, ◌++◌, length, take, Option, Some, None, Ok, nat_eq}
use Rattle.std.specs.List.{starts_with, ends_with, filter}
use Rattle.just_lang_syntax.specs.declared.ast.Fragment.{Fragment}
use Rattle.just_lang_syntax.specs.declared.ast.Fragment.TheVariants as fragment
use Rattle.just_lang_syntax.specs.declared.ast.Line.{Line}
use Rattle.just_lang_types.specs.declared.key.Key.{Key}
use Rattle.just_lang_types.specs.declared.key.Value.{Value}
use Rattle.just_lang_types.specs.declared.node.BodyLine.{BodyLine}
use Rattle.just_lang_types.specs.declared.scope.Scopes.{Scopes}
use Rattle.just_lang_types.specs.declared.project.Justfile.{Justfile}
use Rattle.just_eval_closure.specs.Answers.{Answer, and_then, each}
use Rattle.just_lang_types.specs.Modules.{settings_of, Located, recipe_at}
use Rattle.just_eval_closure.specs.Dependencies.{text_in_recipe}
use Rattle.just_eval.specs.declared.sigils.Sigils.{Sigils}

-- ---- lines that go on

-- whether a text ends in `\`
abbrev pub has_mark : List ℕ → Bool
has_mark t = ends_with nat_eq t (92 ∷ [])

-- a text without one `\` at its end
abbrev pub before_mark : List ℕ → List ℕ
before_mark t = if has_mark t then take (length t - 1) t else t

-- blank or tab
abbrev pub is_blank : ℕ → Bool
is_blank c = (c == 32) || (c == 9)

-- a text without the blanks at its front
abbrev pub behind_blanks : List ℕ → List ℕ
behind_blanks [] = []
behind_blanks (c ∷ cs) = if is_blank c then behind_blanks cs else c ∷ cs

-- whether a line goes on when this is its last fragment
abbrev pub is_marked : Fragment → Bool
is_marked (fragment.Text t) = has_mark t
is_marked (fragment.Value x) = false

abbrev pub without_end : Fragment → Fragment
without_end (fragment.Text t) = fragment.Text (before_mark t)
without_end (fragment.Value x) = fragment.Value x

abbrev pub without_front : Fragment → Fragment
without_front (fragment.Text t) = fragment.Text (behind_blanks t)
without_front (fragment.Value x) = fragment.Value x

-- a line goes on with the next one where it ends in `\`
abbrev pub goes_on : List Fragment → Bool
goes_on [] = false
goes_on (f ∷ []) = is_marked f
goes_on (f ∷ g ∷ fs) = goes_on (g ∷ fs)

-- the fragments without the `\` at their end
abbrev pub without_mark : List Fragment → List Fragment
without_mark [] = []
without_mark (f ∷ []) = without_end f ∷ []
without_mark (f ∷ g ∷ fs) = f ∷ without_mark (g ∷ fs)

-- the fragments without the blanks at their front
abbrev pub without_indentation : List Fragment → List Fragment
without_indentation [] = []
without_indentation (f ∷ fs) = without_front f ∷ fs

-- the first of these lines is put behind a line, whose number stays
abbrev pub with_next : Line → List Line → List Line
with_next l [] = l ∷ []
with_next l (m ∷ ms) = record { number = l.number; fragments = l.fragments ++ without_indentation m.fragments } ∷ ms

-- lines, each with those that it goes on with
abbrev pub joined : List Line → List Line
joined [] = []
joined (l ∷ ls) = if goes_on l.fragments then with_next (record { number = l.number; fragments = without_mark l.fragments }) (joined ls) else l ∷ joined ls

-- ---- comments

abbrev pub is_hashed : Fragment → Bool
is_hashed (fragment.Text t) = starts_with nat_eq t (35 ∷ [])
is_hashed (fragment.Value x) = false

-- whether fragments begin with `#`
abbrev pub begin_comment : List Fragment → Bool
begin_comment [] = false
begin_comment (f ∷ fs) = is_hashed f

-- whether a line of a recipe is run: under `ignore-comments` one that begins with `#` isn't
abbrev pub is_run : Located → Line → Bool
is_run from l = not ((settings_of from.parent).ignore_comments && begin_comment l.fragments)

-- ---- sigils

abbrev pub no_sigils : Sigils
no_sigils = record { quiet = false; forgiving = false; guard = false }

-- the sigils with one more, where the character is a sigil that isn't among them: `@`, `-` or, where guards are set, `?`
abbrev pub with_sigil : Bool → Sigils → ℕ → Option Sigils
with_sigil guards s c =
    if (c == 64) && not s.quiet then Some (record { quiet = true; forgiving = s.forgiving; guard = s.guard })
    else (if (c == 45) && not s.forgiving then Some (record { quiet = s.quiet; forgiving = true; guard = s.guard })
    else (if (c == 63) && (guards && not s.guard) then Some (record { quiet = s.quiet; forgiving = s.forgiving; guard = true }) else None))

abbrev pub reading_on : Option Sigils → (Sigils → Sigils × List ℕ) → Sigils × List ℕ → Sigils × List ℕ
reading_on None on end = end
reading_on (Some s) on end = on s

-- the sigils in front of a text, each once and in any order, with those that were read before; and the text behind them
abbrev pub split_sigils : Bool → Sigils → List ℕ → Sigils × List ℕ
split_sigils guards s [] = (s, [])
split_sigils guards s (c ∷ cs) = reading_on (with_sigil guards s c) (λ t. split_sigils guards t cs) (s, c ∷ cs)

-- ---- lines with their values

-- the text in front of the first value
abbrev pub front : List Fragment → List ℕ
front [] = []
front (fragment.Text t ∷ fs) = t ++ front fs
front (fragment.Value x ∷ fs) = []

-- what is behind that text
abbrev pub behind_front : List Fragment → List Fragment
behind_front [] = []
behind_front (fragment.Text t ∷ fs) = behind_front fs
behind_front (fragment.Value x ∷ fs) = fragment.Value x ∷ fs

abbrev pub body_line : ℕ → Sigils → List ℕ → BodyLine
body_line number s text = record { number = number; text = text; quiet = s.quiet; forgiving = s.forgiving; guard = s.guard }

-- The lines of a recipe whose parameters have these values.
module _ (scopes : Scopes) (from : Located) (arguments : List Value) where
  abbrev pub fragment_text : Fragment → Answer (List ℕ)
  fragment_text (fragment.Text t) = Ok t
  fragment_text (fragment.Value x) = text_in_recipe scopes from arguments x

  -- the text of some fragments, one behind the other
  abbrev pub text_of_fragments : List Fragment → Answer (List ℕ)
  text_of_fragments [] = Ok []
  text_of_fragments (f ∷ fs) = and_then (fragment_text f) (λ t. and_then (text_of_fragments fs) (λ ts. Ok (t ++ ts)))

  -- a line of a script
  abbrev pub script_line : Line → Answer BodyLine
  script_line l = and_then (text_of_fragments l.fragments) (λ text. Ok (body_line l.number no_sigils text))

  -- a line with its number, whose text begins behind sigils
  abbrev pub line_behind : ℕ → Sigils × List ℕ → List Fragment → Answer BodyLine
  line_behind number read fs = and_then (text_of_fragments fs) (λ text. Ok (body_line number read.0 (read.1 ++ text)))

  -- a line that is run by itself
  abbrev pub command_line : Line → Answer BodyLine
  command_line l = line_behind l.number (split_sigils (settings_of from.parent).guards no_sigils (front l.fragments)) (behind_front l.fragments)

  abbrev pub lines_of_recipe : Answer (List BodyLine)
  lines_of_recipe = if from.recipe.script then each script_line from.recipe.body else each command_line (filter (is_run from) (joined from.recipe.body))

abbrev pub lines_in : Scopes → List Value → Option Located → Answer (List BodyLine)
lines_in scopes arguments None = Ok []
lines_in scopes arguments (Some from) = lines_of_recipe scopes from arguments

-- the lines of the recipe that a key names
abbrev pub body_lines : List Justfile → Scopes → Key → Answer (List BodyLine)
body_lines modules scopes key = lines_in scopes key.arguments (recipe_at modules key.recipe)
