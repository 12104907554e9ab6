-- A text whole: its entries and the items that these make, and where a text that has none goes wrong.
use Rattle.std.specs.Prelude.{◌≡◌, ℕ, Bool, true, false, if◌then◌else◌, List, [], ◌∷◌, Option, Some, None}
use Rattle.just_lang_read.specs.Place.{Place, start, run, starts, is_end}
use Rattle.just_lang_syntax.specs.declared.ast.Name.{Name}
use Rattle.just_lang_syntax.specs.declared.ast.Attribute.{Attribute}
use Rattle.just_lang_syntax.specs.declared.ast.Line.{Line}
use Rattle.just_lang_syntax.specs.declared.ast.AstItem.{AstItem}
use Rattle.just_lang_syntax.specs.declared.ast.AstItem.TheVariants as item
use Rattle.just_lang_syntax.specs.declared.entry.Entry.{Entry}
use Rattle.just_lang_syntax.specs.declared.entry.Entry.TheVariants as entry
use Rattle.just_lang_syntax.specs.declared.entry.Body.{Body}
use Rattle.just_lang_syntax.specs.declared.entry.Body.TheVariants as body
use Rattle.just_lang_read.specs.Characters.{is_blank}
use Rattle.just_lang_read.specs.Lines.{is_blank_line, IsBlankLine}
use Rattle.just_lang_syntax.specs.Forms.{is_left_out_setting, is_left_out_attribute}
use Rattle.just_lang_syntax.specs.Bodies.{is_body_line, IsBodyLine}
use Rattle.just_lang_syntax.specs.Items.{IsItem}

-- ---- entries

-- the indentation that a line which begins here has in the body: the first line's blanks are the body's
abbrev pub indentation_at : Body → Place → Option (List ℕ)
indentation_at body.Closed p = None
indentation_at body.Begins p = if starts is_blank p then Some (run is_blank p.rest) else None
indentation_at (body.Open indentation) p = Some indentation

abbrev pub goes_into : Option (List ℕ) → Place → Bool
goes_into None p = false
goes_into (Some indentation) p = is_body_line indentation p

-- whether a line of the body begins here
abbrev pub is_in_body : Body → Place → Bool
is_in_body b p = goes_into (indentation_at b p) p

-- the body to which a line behind a blank one may belong: no body begins there
abbrev pub behind_blank : Body → Body
behind_blank body.Closed = body.Closed
behind_blank body.Begins = body.Closed
behind_blank (body.Open indentation) = body.Open indentation

-- the body to which a line behind an item may belong
abbrev pub behind_item : Entry → Body
behind_item (entry.Blank number) = body.Closed
behind_item (entry.Item x) = body.Closed
behind_item (entry.Recipe x) = body.Begins
behind_item (entry.Line x) = body.Closed

-- from p, where b may go on, to q, where c may, stands one entry
pub data IsEntry (b : Body) (p q : Place) (x : Entry) (c : Body) : Type 0 where
  blank : IsBlankLine p q → x ≡ entry.Blank p.line → c ≡ behind_blank b → IsEntry b p q x c
  body_line : (indentation : List ℕ) (y : Line) → is_blank_line p ≡ false → indentation_at b p ≡ Some indentation → IsBodyLine indentation p q y
      → x ≡ entry.Line y → c ≡ body.Open indentation → IsEntry b p q x c
  further : is_blank_line p ≡ false → is_in_body b p ≡ false → IsItem p q x → c ≡ behind_item x → IsEntry b p q x c

-- from p to q stand these entries, each directly behind the one before it
abbrev pub AreEntries : Body → Place → Place → Body → List Entry → Type 0
AreEntries b p q c [] = (q ≡ p) × (c ≡ b)
AreEntries b p q c (x ∷ xs) = (m : Place) × (a : Body) × IsEntry b p m x a × AreEntries a m q c xs

-- ---- items

-- lines of a body that still wait for their recipe, and the items behind them
abbrev pub blank_line : ℕ → Line
blank_line number = record { number = number; fragments = [] }

abbrev pub gather_blank : ℕ → List Line → List AstItem → List Line × List AstItem
gather_blank number [] items = ([], item.Blank ∷ items)
gather_blank number (line ∷ lines) items = (blank_line number ∷ line ∷ lines, items)

-- an entry in front of others: a blank line is the body's where a line of it follows, else an item
abbrev pub gather_one : Entry → List Line → List AstItem → List Line × List AstItem
gather_one (entry.Blank number) lines items = gather_blank number lines items
gather_one (entry.Item x) lines items = (lines, x ∷ items)
gather_one (entry.Recipe x) lines items = ([], item.Recipe (record x { body = lines }) ∷ items)
gather_one (entry.Line x) lines items = (x ∷ lines, items)

-- the items of entries: each recipe has the lines that follow it
abbrev pub gathered : List Entry → List Line × List AstItem
gathered [] = ([], [])
gathered (x ∷ xs) = gather_one x (gathered xs).0 (gathered xs).1

abbrev pub items_of : List Entry → List AstItem
items_of xs = (gathered xs).1

-- the characters of a text are entries to its end, and these are the items of those entries
pub record IsFile (text : List ℕ) (items : List AstItem) : Type 0 where
  pub entries : List Entry
  pub end : Place
  pub last : Body
  pub are : AreEntries body.Closed (start text) end last entries
  pub whole : is_end end ≡ true
  pub made : items ≡ items_of entries

-- the text goes on behind some entries, and no entry stands there
pub record Stops (text : List ℕ) (p : Place) (b : Body) : Type 0 where
  pub entries : List Entry
  pub are : AreEntries body.Closed (start text) p b entries
  pub goes_on : is_end p ≡ false
  pub no_entry : (q : Place) (x : Entry) (c : Body) → IsEntry b p q x c → ⊥

-- ---- what is left out

abbrev pub first_of : Option Name → Option Name → Option Name
first_of None other = other
first_of (Some name) other = Some name

-- the first left-out attribute
abbrev pub left_out_among : List Attribute → Option Name
left_out_among [] = None
left_out_among (x ∷ xs) = if is_left_out_attribute x.name.text then Some x.name else left_out_among xs

abbrev pub left_out_of : AstItem → Option Name
left_out_of item.Blank = None
left_out_of (item.Comment text) = None
left_out_of (item.Alias name target comment) = None
left_out_of (item.Import optional path comment) = None
left_out_of (item.Module attributes optional name path comment) = left_out_among attributes
left_out_of (item.Assignment export name value comment) = None
left_out_of (item.Unexport name comment) = None
left_out_of (item.Setting name value comment) = if is_left_out_setting name.text then Some name else None
left_out_of (item.Recipe x) = left_out_among x.attributes

-- the first name of a left-out setting or attribute
abbrev pub first_left_out : List AstItem → Option Name
first_left_out [] = None
first_left_out (x ∷ xs) = first_of (left_out_of x) (first_left_out xs)
