-- The text of a string, step by step. That this is what the grammar says is proved in proofs/.
use Rattle.std.specs.Prelude.{◌≡◌, ◌≢◌, ℕ, Bool, true, not, if◌then◌else◌, List, [], ◌++◌, Option, Some, None, Result, Ok, Err, encode_utf8_all}
use Rattle.just_lang_read.specs.Place.{Place, start, is_end}
use Rattle.just_lang_read.specs.Reader.{Outcome, many}
use Rattle.just_lang_read.specs.declared.error.ReadError.{ReadError}
use Rattle.just_lang_read.specs.declared.error.ReadError.TheVariants.{Syntax, NoMemory}
use Rattle.just_lang_syntax.specs.declared.ast.StringLiteral.{StringLiteral}
use Rattle.just_lang_read.specs.Quotes.{is_cooked}
use Rattle.just_lang_syntax.specs.Strings.{plain_text, concat}
use Rattle.just_lang_read.specs.Tokens.{piece}

abbrev pub is_on : Place → Bool
is_on p = not (is_end p)

-- what was found and what the pieces to come give
abbrev pub text_with : List ℕ → Outcome (List (List ℕ)) → Option (List ℕ)
text_with found (Ok s) = Some (found ++ encode_utf8_all (concat s.0))
text_with found (Err e) = None

-- the text of the pieces from a place to the end
unfoldable pub text_from : List ℕ → Place → Option (List ℕ)
text_from found p = text_with found (many is_on (piece true) p)

abbrev pub cooked_text : List ℕ → Option (List ℕ)
cooked_text text = text_from [] (start text)

abbrev pub text_of : StringLiteral → Option (List ℕ)
text_of x = if is_cooked x.quote then cooked_text (plain_text x) else Some (encode_utf8_all (plain_text x))

-- what a function that gives a text ensures
abbrev pub TellsText : Option (List ℕ) → Result (List ℕ) ReadError → Type 0
TellsText text (Ok given) = text ≡ Some given
TellsText text (Err e) = e ≢ NoMemory → (text ≡ None) × (e ≡ Syntax)
