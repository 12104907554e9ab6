-- The loops over attributes, their arguments, and strings.
use Rattle.std.proofs.Common.{◌≡◌, ℕ, zero, suc, ◌<◌, ◌≤◌, Bool, true, false, if◌then◌else◌, List, [], ◌∷◌, ◌++◌, length, Ok, Err, codes, append-nil, append_assoc, refl, ap, ◌∙◌, arith}
use Rattle.just_lang_read.specs.Place.{Place, begins}
use Rattle.just_lang_read.specs.Reader.{Outcome, Reader, and_then, ◌>>=◌, pure, refuse, many}
use Rattle.just_lang_read.specs.declared.error.ReadError.{ReadError}
use Rattle.just_lang_read.proofs.Laws.{many_end, many_more, many_wrong}
use Rattle.just_lang_syntax.specs.declared.ast.StringLiteral.{StringLiteral}
use Rattle.just_lang_syntax.specs.declared.ast.Argument.{Argument}
use Rattle.just_lang_syntax.specs.declared.ast.Attribute.{Attribute}
use Rattle.just_lang_syntax.specs.declared.form.Form.{Form}
use Rattle.just_lang_syntax.specs.Attributes.{concat, goes_on}
use Rattle.just_lang_syntax.specs.Items.{goes_on as goes_on_string}
use Rattle.just_lang_syntax.specs.ItemReaders as item
use Rattle.just_lang_syntax.specs.Readers as reader
use Rattle.just_lang_syntax.proofs.Collect.{to_come, more_is, end_is, wrong_is}
use Rattle.just_lang_syntax.proofs.AttributeShorter.{further_attribute_lt, further_argument_lt, further_string_lt, attribute_line_lt}

-- ---- strings in a list

-- a further string takes a character
pub strings_shorter : (p q : Place) (x : StringLiteral) → goes_on_string p ≡ true → item.further_string p ≡ Ok (x, q) → length q.rest < length p.rest
strings_shorter p q x m h = further_string_lt p q x h

-- the strings that were found, and those to come
unfoldable pub strings_to_come : List StringLiteral → Reader (List StringLiteral)
strings_to_come found = to_come goes_on_string item.further_string found

-- behind the first string the others are to come
pub strings_begin : (p m : Place) (first : StringLiteral) → reader.string p ≡ Ok (first, m) → item.string_list p ≡ strings_to_come (first ∷ []) m
unfolding item.string_list strings_to_come to_come
strings_begin p m first h = rw h refl

-- where no string is read, the list is refused as it is
pub strings_refused : (p : Place) (e : ReadError) → reader.string p ≡ Err e → item.string_list p ≡ Err e
unfolding item.string_list
strings_refused p e h = rw h refl

-- a further string is one that was found
pub strings_more : (p q : Place) (x : StringLiteral) (found : List StringLiteral) → goes_on_string p ≡ true → item.further_string p ≡ Ok (x, q) → strings_to_come found p ≡ strings_to_come (found ++ x ∷ []) q
unfolding strings_to_come
strings_more p q x found m o = more_is goes_on_string item.further_string strings_shorter p q x found m o

-- where no further one begins, all were found
pub strings_done : (p : Place) (found : List StringLiteral) → goes_on_string p ≡ false → strings_to_come found p ≡ Ok (found, p)
unfolding strings_to_come
strings_done p found m = end_is goes_on_string item.further_string strings_shorter p found m

-- where a further one begins that isn't read, the list is refused as it is
pub strings_wrong : (p : Place) (found : List StringLiteral) (e : ReadError) → goes_on_string p ≡ true → item.further_string p ≡ Err e → strings_to_come found p ≡ Err e
unfolding strings_to_come
strings_wrong p found e m o = wrong_is goes_on_string item.further_string strings_shorter p found e m o

-- ---- attributes of a line

-- a further attribute takes a character
pub list_shorter : (p q : Place) (x : Attribute) → begins (codes ",") p ≡ true → item.further_attribute p ≡ Ok (x, q) → length q.rest < length p.rest
list_shorter p q x m h = further_attribute_lt p q x h

-- the attributes that were found in a line, and those to come
unfoldable pub list_to_come : List Attribute → Reader (List Attribute)
list_to_come found = to_come (begins (codes ",")) item.further_attribute found

-- behind the first attribute the others are to come
pub list_begin : (p m : Place) (first : Attribute) → item.attribute p ≡ Ok (first, m) → item.attribute_list p ≡ list_to_come (first ∷ []) m
unfolding item.attribute_list list_to_come to_come
list_begin p m first h = rw h refl

-- where no attribute is read, the list is refused as it is
pub list_refused : (p : Place) (e : ReadError) → item.attribute p ≡ Err e → item.attribute_list p ≡ Err e
unfolding item.attribute_list
list_refused p e h = rw h refl

-- a further attribute is one that was found
pub list_more : (p q : Place) (x : Attribute) (found : List Attribute) → begins (codes ",") p ≡ true → item.further_attribute p ≡ Ok (x, q) → list_to_come found p ≡ list_to_come (found ++ x ∷ []) q
unfolding list_to_come
list_more p q x found m o = more_is (begins (codes ",")) item.further_attribute list_shorter p q x found m o

-- where no further one begins, all were found
pub list_done : (p : Place) (found : List Attribute) → begins (codes ",") p ≡ false → list_to_come found p ≡ Ok (found, p)
unfolding list_to_come
list_done p found m = end_is (begins (codes ",")) item.further_attribute list_shorter p found m

-- where a further one begins that isn't read, the list is refused as it is
pub list_wrong : (p : Place) (found : List Attribute) (e : ReadError) → begins (codes ",") p ≡ true → item.further_attribute p ≡ Err e → list_to_come found p ≡ Err e
unfolding list_to_come
list_wrong p found e m o = wrong_is (begins (codes ",")) item.further_attribute list_shorter p found e m o

-- ---- lines of attributes

-- a line of attributes takes a character
pub lines_shorter : (p q : Place) (x : List Attribute) → begins (codes "[") p ≡ true → item.attribute_line p ≡ Ok (x, q) → length q.rest < length p.rest
lines_shorter p q x m h = attribute_line_lt p q x h

-- the attributes that were found, and those of the lines to come
abbrev finish : List Attribute → List (List Attribute) → Reader (List Attribute)
finish found lines = pure (found ++ concat lines)

-- the same from a place on
unfoldable pub lines_to_come : List Attribute → Reader (List Attribute)
lines_to_come found = λ p. and_then (many (begins (codes "[")) item.attribute_line p) (finish found)

-- where none was found, they are those of the lines to come
lines_with : (o : Outcome (List (List Attribute))) → and_then o (λ lines. pure (concat lines)) ≡ and_then o (finish [])
lines_with (Ok s) = refl
lines_with (Err e) = refl

-- before the first line none was found
pub lines_begin : (p : Place) → item.attributes p ≡ lines_to_come [] p
unfolding item.attributes lines_to_come
lines_begin p = lines_with (many (begins (codes "[")) item.attribute_line p)

-- a line is found, or still to come
further_line : (o : Outcome (List (List Attribute))) (found x : List Attribute)
    → and_then (and_then o (λ ls. pure (x ∷ ls))) (finish found) ≡ and_then o (finish (found ++ x))
further_line (Err e) found x = refl
further_line (Ok s) found x = rw (append_assoc found x (concat s.0)) refl

-- the attributes of a further line are ones that were found
pub lines_more : (p q : Place) (x found : List Attribute) → begins (codes "[") p ≡ true → item.attribute_line p ≡ Ok (x, q) → lines_to_come found p ≡ lines_to_come (found ++ x) q
unfolding lines_to_come
lines_more p q x found m o =
    ap (λ (r : Outcome (List (List Attribute))). and_then r (finish found)) (many_more (begins (codes "[")) item.attribute_line lines_shorter p q x m o)
    ∙ further_line (many (begins (codes "[")) item.attribute_line q) found x

-- where no further line begins, all were found
pub lines_done : (p : Place) (found : List Attribute) → begins (codes "[") p ≡ false → lines_to_come found p ≡ Ok (found, p)
unfolding lines_to_come
lines_done p found m =
    ap (λ (r : Outcome (List (List Attribute))). and_then r (finish found)) (many_end (begins (codes "[")) item.attribute_line lines_shorter p m) ∙ rw (append-nil found) refl

-- where one begins that isn't read, the attributes are refused as it is
pub lines_wrong : (p : Place) (found : List Attribute) (e : ReadError) → begins (codes "[") p ≡ true → item.attribute_line p ≡ Err e → lines_to_come found p ≡ Err e
unfolding lines_to_come
lines_wrong p found e m o = ap (λ (r : Outcome (List (List Attribute))). and_then r (finish found)) (many_wrong (begins (codes "[")) item.attribute_line lines_shorter p e m o)

-- ---- arguments behind earlier ones

module _ (form : Form) where
  -- a further argument takes a character
  pub arguments_shorter : (p q : Place) (x : Argument) (earlier : List Argument) → goes_on p ≡ true → item.further_argument form earlier p ≡ Ok (x, q) → length q.rest < length p.rest
  arguments_shorter p q x earlier m h = further_argument_lt form earlier p q x h

  -- two turns give the same where what follows them does
  same_step : (R S : List Argument → Reader (List Argument)) (earlier : List Argument) (p : Place) (b : Bool) (o : Outcome Argument)
      → ((x : Argument) (q : Place) → b ≡ true → o ≡ Ok (x, q) → R (earlier ++ x ∷ []) q ≡ S (earlier ++ x ∷ []) q)
      → (if b then and_then o (λ x. R (earlier ++ x ∷ []) >>= (λ xs. pure (x ∷ xs))) else Ok ([], p))
      ≡ (if b then and_then o (λ x. S (earlier ++ x ∷ []) >>= (λ xs. pure (x ∷ xs))) else Ok ([], p))
  same_step R S earlier p false o h = refl
  same_step R S earlier p true (Err e) h = refl
  same_step R S earlier p true (Ok s) h = ap (λ (r : Outcome (List Argument)). and_then r (λ xs. pure (s.0 ∷ xs))) (h s.0 s.1 refl refl)

  -- two bounds that are enough give the same
  same_in : (m n : ℕ) (earlier : List Argument) (p : Place) → length p.rest ≤ m → length p.rest ≤ n → item.further_in form m earlier p ≡ item.further_in form n earlier p
  same_in zero zero earlier p a b = refl
  same_in zero (suc n) earlier p a b =
      same_step (λ e. refuse) (item.further_in form n) earlier p (goes_on p) (item.further_argument form earlier p)
      (λ x q h o. absurd (omega (arith, arguments_shorter p q x earlier h o)))
  same_in (suc m) zero earlier p a b =
      same_step (item.further_in form m) (λ e. refuse) earlier p (goes_on p) (item.further_argument form earlier p)
      (λ x q h o. absurd (omega (arith, arguments_shorter p q x earlier h o)))
  same_in (suc m) (suc n) earlier p a b =
      same_step (item.further_in form m) (item.further_in form n) earlier p (goes_on p) (item.further_argument form earlier p)
      (λ x q h o. same_in m n (earlier ++ x ∷ []) q (omega (arith, arguments_shorter p q x earlier h o)) (omega (arith, arguments_shorter p q x earlier h o)))

  -- the further arguments are one turn, and then the further ones
  pub further_is : (earlier : List Argument) (p : Place) → item.further form earlier p ≡ item.further_step form (item.further form) earlier p
  unfolding item.further
  further_is earlier p =
      same_in (length p.rest) (suc (length p.rest)) earlier p (omega arith) (omega arith)
      ∙ same_step (item.further_in form (length p.rest)) (λ e q. item.further_in form (length q.rest) e q) earlier p (goes_on p) (item.further_argument form earlier p)
      (λ x q h o. same_in (length p.rest) (length q.rest) (earlier ++ x ∷ []) q (omega (arith, arguments_shorter p q x earlier h o)) (omega arith))

  -- the arguments that were found, and those to come
  unfoldable pub arguments_to_come : List Argument → Reader (List Argument)
  arguments_to_come found = λ p. and_then (item.further form found p) (λ xs. pure (found ++ xs))

  -- behind the first argument the others are to come
  pub arguments_begin : (p m : Place) (first : Argument) → item.argument form [] p ≡ Ok (first, m) → item.argument_list form p ≡ arguments_to_come (first ∷ []) m
  unfolding item.argument_list arguments_to_come
  arguments_begin p m first h = rw h refl

  -- where no argument is read, the list is refused as it is
  pub arguments_refused : (p : Place) (e : ReadError) → item.argument form [] p ≡ Err e → item.argument_list form p ≡ Err e
  unfolding item.argument_list
  arguments_refused p e h = rw h refl

  -- an argument is found, or still to come
  further_found : (o : Outcome (List Argument)) (found : List Argument) (x : Argument)
      → and_then (and_then o (λ xs. pure (x ∷ xs))) (λ xs. pure (found ++ xs)) ≡ and_then o (λ xs. pure ((found ++ x ∷ []) ++ xs))
  further_found (Err e) found x = refl
  further_found (Ok s) found x = rw (append_assoc found (x ∷ []) s.0) refl

  -- a further argument is one that was found
  pub arguments_more : (p q : Place) (x : Argument) (found : List Argument) → goes_on p ≡ true → item.further_argument form found p ≡ Ok (x, q)
      → arguments_to_come found p ≡ arguments_to_come (found ++ x ∷ []) q
  unfolding arguments_to_come
  arguments_more p q x found m o =
      ap (λ (r : Outcome (List Argument)). and_then r (λ xs. pure (found ++ xs))) (further_is found p ∙ rw (m, o) refl)
      ∙ further_found (item.further form (found ++ x ∷ []) q) found x

  -- where no further one begins, there is none
  pub further_end : (p : Place) (found : List Argument) → goes_on p ≡ false → item.further form found p ≡ Ok ([], p)
  further_end p found m = further_is found p ∙ rw m refl

  -- where one begins that isn't read, the further ones are refused as it is
  pub further_wrong : (p : Place) (found : List Argument) (e : ReadError) → goes_on p ≡ true → item.further_argument form found p ≡ Err e → item.further form found p ≡ Err e
  further_wrong p found e m o = further_is found p ∙ rw (m, o) refl

  -- where no further one begins, all were found
  pub arguments_done : (p : Place) (found : List Argument) → goes_on p ≡ false → arguments_to_come found p ≡ Ok (found, p)
  unfolding arguments_to_come
  arguments_done p found m =
      ap (λ (r : Outcome (List Argument)). and_then r (λ xs. pure (found ++ xs))) (further_end p found m) ∙ rw (append-nil found) refl

  -- where one begins that isn't read, the list is refused as it is
  pub arguments_wrong : (p : Place) (found : List Argument) (e : ReadError) → goes_on p ≡ true → item.further_argument form found p ≡ Err e → arguments_to_come found p ≡ Err e
  unfolding arguments_to_come
  arguments_wrong p found e m o = ap (λ (r : Outcome (List Argument)). and_then r (λ xs. pure (found ++ xs))) (further_wrong p found e m o)
