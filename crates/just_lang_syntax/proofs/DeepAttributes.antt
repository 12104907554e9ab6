-- Attributes that hold an expression that is too deep: those that the code finds so, and those that the grammar says do.
use Rattle.std.proofs.Common.{◌≡◌, ℕ, zero, suc, Bool, true, false, List, [], ◌∷◌, ◌++◌, length, Option, Some, None, Ok, Err, codes, refl, sym, ◌∙◌, ⊎_elim}
use Rattle.std.proofs.lemmas.Bool.{false≢true}
use Rattle.just_lang_read.specs.Place.{Place, begins}
use Rattle.just_lang_read.specs.Reader.{Reader, and_then, refuse, many}
use Rattle.just_lang_read.specs.declared.error.ReadError.TheVariants.{Depth}
use Rattle.just_lang_read.proofs.Laws.{choose, bind_ok}
use Rattle.just_lang_syntax.specs.declared.ast.Name.{Name}
use Rattle.just_lang_syntax.specs.declared.ast.Argument.{Argument}
use Rattle.just_lang_syntax.specs.declared.ast.Attribute.{Attribute}
use Rattle.just_lang_syntax.specs.declared.form.Form.{Form}
use Rattle.just_lang_syntax.specs.declared.form.Form.TheVariants.{Bare, MaybeText, Text, Texts, Arg, Cache, Open}
use Rattle.just_lang_syntax.specs.declared.form.KeyForm.{KeyForm}
use Rattle.just_lang_syntax.specs.declared.form.KeyForm.TheVariants.{Alone, Either, Value, Number, Unknown}
use Rattle.just_lang_read.specs.Lines.{IsToken}
use Rattle.just_lang_syntax.specs.Places.{IsName}
use Rattle.just_lang_syntax.specs.Forms.{form_of, may_be_bare, key_form, may_stand_alone, has_text}
use Rattle.just_lang_syntax.specs.Attributes.{is_keyed, may_cache, may_have, is_first, behind_first, takes_text, goes_on, IsKey, IsArgument, IsAttribute, IsFurtherAttribute, IsAttributeLine}
use Rattle.just_lang_syntax.specs.Attributes.IsKey.{key_sign}
use Rattle.just_lang_syntax.specs.Deep.{IsDeepBehind, IsDeepExpr, IsDeepArgument, IsDeepFurther, IsDeepAttribute, IsDeepFurtherAttribute, IsDeepAttributeLine}
use Rattle.just_lang_syntax.specs.Deep.IsDeepArgument.{text, option, cached, any, any_key}
use Rattle.just_lang_syntax.specs.Deep.IsDeepAttribute.{first_argument, other_argument}
use Rattle.just_lang_syntax.specs.Deep.IsDeepFurtherAttribute.{further}
use Rattle.just_lang_syntax.specs.Deep.IsDeepAttributeLine.{first_attribute, other_attribute}
use Rattle.just_lang_syntax.specs.ItemReaders as item
use Rattle.just_lang_syntax.specs.Readers as reader
use Rattle.just_lang_read.specs.Tokens as tokens
use Rattle.just_lang_read.proofs.Laws.{begins_first, begins_other}
use Rattle.just_lang_syntax.proofs.Tokens.{token_ok, token_again, name_ok, name_again}
use Rattle.just_lang_syntax.proofs.AttributeLoops.{list_shorter, lines_shorter, further_is}
use Rattle.just_lang_syntax.proofs.AttributeSound.{argument_ok, attribute_ok, further_attribute_ok, attribute_line_ok}
use Rattle.just_lang_syntax.proofs.AttributeComplete.{key_is, argument_again, further_argument_again, attribute_again, further_attribute_again, attribute_line_again}
use Rattle.just_lang_syntax.proofs.DeepChains.{shallow_ok, shallow_refuse, shallow_then, shallow_gives, depth_either, depth_behind, depth_first, many_deep_ok, many_deep_again}
use Rattle.just_lang_syntax.proofs.DeepNone.{token_shallow, name_shallow, trailing_shallow, number_argument_shallow, colon_shallow, rest_shallow}
use Rattle.just_lang_syntax.proofs.DeepExpr.{expr_deep_ok, expr_deep_again}

-- ---- arguments that are found too deep

-- an argument that is an expression is found too deep where that is
plain_deep_ok : (key : Option Name) (p : Place) → item.plain key p ≡ Err Depth → IsDeepExpr p
unfolding item.plain
plain_deep_ok key p h = expr_deep_ok p (depth_first (item.expr p) _ (λ x m k. shallow_ok _ k) h)

-- what stands behind `=` likewise
signed_deep_ok : (key : Option Name) (p : Place) → and_then (tokens.token (codes "=") p) (λ _. item.plain key) ≡ Err Depth
    → (m : Place) × IsToken (codes "=") p m × IsDeepExpr m
signed_deep_ok key p h =
    let (u, m, t, k) = depth_behind (tokens.token (codes "=") p) _ (token_shallow (codes "=") p) h in
    (m, token_ok (codes "=") p u m t, plain_deep_ok key m k)

-- so is an argument with a key
keyed_deep_ok : (p : Place) → item.keyed p ≡ Err Depth → (m : Place) × (k : Name) × IsKey p m k × IsDeepExpr m
unfolding item.keyed
keyed_deep_ok p h =
    let (k, n, i, j) = depth_behind (reader.name p) _ (name_shallow p) h in
    let (m, t, d) = signed_deep_ok (Some k) n j in
    (m, k, key_sign n (name_ok p k n i) t, d)

-- and one of `cache`, if its key may stand there
cached_as_deep_ok : (b : Bool) (k : Name) (p : Place) → item.cached_as b k p ≡ Err Depth → (b ≡ true) × ((m : Place) × IsToken (codes "=") p m × IsDeepExpr m)
cached_as_deep_ok false k p h = absurd (shallow_refuse p h)
cached_as_deep_ok true k p h = (refl, signed_deep_ok (Some k) p h)

-- an argument of `cache` that is found too deep is
cached_deep_ok : (earlier : List Argument) (p : Place) → item.cached earlier p ≡ Err Depth → IsDeepArgument Cache earlier p
unfolding item.cached
cached_deep_ok earlier p h =
    let (k, n, i, j) = depth_behind (reader.name p) _ (name_shallow p) h in
    let (b, s) = cached_as_deep_ok (may_cache earlier k.text) k n j in
    let (m, t, d) = s in
    cached m k refl (key_sign n (name_ok p k n i) t) b d

-- a key of `arg` is found too deep where it has a text that is
valued_deep_ok : (form : KeyForm) (k : Name) (p : Place) → item.valued form k p ≡ Err Depth
    → (has_text form ≡ true) × ((m : Place) × IsToken (codes "=") p m × IsDeepExpr m)
valued_deep_ok Alone k p h = absurd (shallow_refuse p h)
valued_deep_ok Either k p h = (refl, signed_deep_ok (Some k) p h)
valued_deep_ok Value k p h = (refl, signed_deep_ok (Some k) p h)
valued_deep_ok Number k p h =
    absurd (shallow_then (tokens.token (codes "=") p) _ (token_shallow (codes "=") p) (λ u m j. number_argument_shallow k m j) h)
valued_deep_ok Unknown k p h = absurd (shallow_refuse p h)

-- behind the name of a key that may stand there
option_as_deep_ok : (b : Bool) (o : Place) (k : Name) (p : Place) → item.option_as b o k p ≡ Err Depth
    → (b ≡ true) × (has_text (key_form k.text) ≡ true) × ((m : Place) × IsToken (codes "=") p m × IsDeepExpr m)
option_as_deep_ok false o k p h = absurd (shallow_refuse p h)
option_as_deep_ok true o k p h =
    ⊎_elim (λ (s : _). let (t, d) = valued_deep_ok (key_form k.text) k p s.1 in (refl, t, d))
    (λ (s : _).
    ⊎_elim (λ (t : _). absurd (shallow_ok _ t.1)) (λ (t : _). absurd (shallow_refuse p t.1))
    (choose (may_stand_alone (key_form k.text)) _ _ (Err Depth) s.1))
    (choose (begins (codes "=") p) _ _ (Err Depth) h)

-- a key of `arg` that is found too deep is
option_deep_ok : (x : Argument) (earlier : List Argument) (p : Place) → item.option earlier p ≡ Err Depth → IsDeepArgument Arg (x ∷ earlier) p
unfolding item.option
option_deep_ok x earlier p h =
    let (k, n, i, j) = depth_behind (reader.name p) _ (name_shallow p) h in
    let (b, t, s) = option_as_deep_ok (may_have earlier k.text) p k n j in
    let (m, u, d) = s in
    option m k refl refl (key_sign n (name_ok p k n i) u) b t d

-- the one text of an attribute that is found too deep is
first_text_deep_ok : (form : Form) (earlier : List Argument) (p : Place) → takes_text form earlier ≡ is_first earlier → item.first_text earlier p ≡ Err Depth
    → IsDeepArgument form earlier p
first_text_deep_ok form [] p t h = text t (plain_deep_ok None p h)
first_text_deep_ok form (x ∷ earlier) p t h = absurd (shallow_refuse p h)

-- an argument of `arg` that is found too deep is
name_or_key_deep_ok : (earlier : List Argument) (p : Place) → item.name_or_key earlier p ≡ Err Depth → IsDeepArgument Arg earlier p
name_or_key_deep_ok [] p h = text refl (plain_deep_ok None p h)
name_or_key_deep_ok (x ∷ earlier) p h = option_deep_ok x earlier p h

-- an argument of each form that is found too deep is
argument_of_deep_ok : (form : Form) (earlier : List Argument) (p : Place) → item.argument_of form earlier p ≡ Err Depth → IsDeepArgument form earlier p
argument_of_deep_ok Bare earlier p h = absurd (shallow_refuse p h)
argument_of_deep_ok MaybeText earlier p h = first_text_deep_ok MaybeText earlier p refl h
argument_of_deep_ok Text earlier p h = first_text_deep_ok Text earlier p refl h
argument_of_deep_ok Texts earlier p h = text refl (plain_deep_ok None p h)
argument_of_deep_ok Arg earlier p h = name_or_key_deep_ok earlier p h
argument_of_deep_ok Cache earlier p h = cached_deep_ok earlier p h
argument_of_deep_ok Open earlier p h =
    ⊎_elim (λ (s : _). let (m, k, i, d) = keyed_deep_ok p s.1 in any_key m k refl i d) (λ (s : _). any refl s.0 (plain_deep_ok None p s.1))
    (choose (is_keyed p) _ _ (Err Depth) h)

-- an argument that the code finds too deep is
argument_deep_ok : (form : Form) (earlier : List Argument) (p : Place) → item.argument form earlier p ≡ Err Depth → IsDeepArgument form earlier p
unfolding item.argument
argument_deep_ok form earlier p h = argument_of_deep_ok form earlier p h

-- further arguments, and one that is too deep
abbrev SomeDeep : Form → List Argument → Place → Type 0
SomeDeep form earlier p = (xs : List Argument) × IsDeepFurther form earlier p xs

-- an argument behind a comma that is found too deep is
further_argument_deep_ok : (form : Form) (earlier : List Argument) (p : Place) → item.further_argument form earlier p ≡ Err Depth
    → (m : Place) × IsToken (codes ",") p m × IsDeepArgument form earlier m
unfolding item.further_argument
further_argument_deep_ok form earlier p h =
    let (u, m, t, k) = depth_behind (tokens.token (codes ",") p) _ (token_shallow (codes ",") p) h in
    (m, token_ok (codes ",") p u m t, argument_deep_ok form earlier m k)

-- an argument behind a comma that is read stands there
further_argument_ok : (form : Form) (earlier : List Argument) (p q : Place) (x : Argument) → item.further_argument form earlier p ≡ Ok (x, q)
    → (m : Place) × IsToken (codes ",") p m × IsArgument form earlier m q x
unfolding item.further_argument
further_argument_ok form earlier p q x h =
    let (u, m, t, k) = bind_ok (tokens.token (codes ",") p) _ x q h in
    (m, token_ok (codes ",") p u m t, argument_ok form earlier m q x k)

-- one turn of the loop that is found too deep is, if the turns behind it are
further_turn : (form : Form) (others : List Argument → Reader (List Argument))
    → ((earlier : List Argument) (p : Place) → others earlier p ≡ Err Depth → SomeDeep form earlier p)
    → (earlier : List Argument) (p : Place) → item.further_step form others earlier p ≡ Err Depth → SomeDeep form earlier p
further_turn form others rest earlier p h =
    ⊎_elim
    (λ (s : _).
    ⊎_elim (λ (t : _). let (m, c, d) = further_argument_deep_ok form earlier p t in ([], (m, s.0, c, d)))
    (λ (t : _).
    let (x, n, o, k) = t in
    let (m, c, i) = further_argument_ok form earlier p n x o in
    let (xs, d) = rest (earlier ++ x ∷ []) n (depth_first (others (earlier ++ x ∷ []) n) _ (λ ys r j. shallow_ok _ j) k) in
    (x ∷ xs, (m, n, s.0, c, i, d)))
    (depth_either (item.further_argument form earlier p) _ s.1))
    (λ (s : _). absurd (shallow_ok _ s.1))
    (choose (goes_on p) _ _ (Err Depth) h)

-- as many turns as a bound allows that are found too deep are
further_in_deep_ok : (form : Form) (n : ℕ) (earlier : List Argument) (p : Place) → item.further_in form n earlier p ≡ Err Depth → SomeDeep form earlier p
further_in_deep_ok form zero earlier p h = further_turn form (λ e. refuse) (λ e m i. absurd (shallow_refuse m i)) earlier p h
further_in_deep_ok form (suc n) earlier p h = further_turn form (item.further_in form n) (further_in_deep_ok form n) earlier p h

-- where the code finds further arguments too deep some stand, and behind them one that is
further_deep_ok : (form : Form) (earlier : List Argument) (p : Place) → item.further form earlier p ≡ Err Depth → SomeDeep form earlier p
unfolding item.further
further_deep_ok form earlier p h = further_in_deep_ok form (length p.rest) earlier p h

-- ---- attributes that are found too deep

-- arguments in parentheses that are found too deep are
list_deep_ok : (p m n : Place) (name : Name) → IsName p m name → IsToken (codes "(") m n → item.argument_list (form_of name.text) n ≡ Err Depth → IsDeepAttribute p
unfolding item.argument_list
list_deep_ok p m n name i t h =
    let form : Form = form_of name.text in
    ⊎_elim (λ (s : _). first_argument m n name i t (argument_deep_ok form [] n s))
    (λ (s : _).
    let (x, o, a, k) = s in
    let (xs, d) = further_deep_ok form (x ∷ []) o (depth_first (item.further form (x ∷ []) o) _ (λ ys r j. shallow_ok _ j) k) in
    other_argument m n o name x xs i t (argument_ok form [] n o x a) d)
    (depth_either (item.argument form [] n) _ h)

-- with the parentheses round them
arguments_deep_ok : (p m : Place) (name : Name) → IsName p m name → item.arguments (form_of name.text) m ≡ Err Depth → IsDeepAttribute p
unfolding item.arguments
arguments_deep_ok p m name i h =
    let (u, n, t, k) = depth_behind (tokens.token (codes "(") m) _ (token_shallow (codes "(") m) h in
    list_deep_ok p m n name i (token_ok (codes "(") m u n t)
    (depth_first (item.argument_list (form_of name.text) n) _
    (λ xs o j. shallow_then (item.trailing o) _ (trailing_shallow o) (λ v r l. shallow_gives (tokens.token (codes ")") r) _ (token_shallow (codes ")") r) l) j) k)

-- an attribute that is found too deep behind its name is
attribute_as_deep_ok : (p m : Place) (name : Name) → IsName p m name → item.attribute_as name m ≡ Err Depth → IsDeepAttribute p
attribute_as_deep_ok p m name i h =
    ⊎_elim (λ (s : _). absurd (shallow_gives (item.colon_argument (form_of name.text) m) _ (colon_shallow (form_of name.text) m) s.1))
    (λ (s : _).
    ⊎_elim (λ (t : _). arguments_deep_ok p m name i (depth_first (item.arguments (form_of name.text) m) _ (λ xs n j. shallow_ok _ j) t.1))
    (λ (t : _).
    ⊎_elim (λ (u : _). absurd (shallow_ok _ u.1)) (λ (u : _). absurd (shallow_refuse m u.1))
    (choose (may_be_bare (form_of name.text)) _ _ (Err Depth) t.1))
    (choose (begins (codes "(") m) _ _ (Err Depth) s.1))
    (choose (begins (codes ":") m) _ _ (Err Depth) h)

-- an attribute that the code finds too deep is
pub attribute_deep_ok : (p : Place) → item.attribute p ≡ Err Depth → IsDeepAttribute p
unfolding item.attribute
attribute_deep_ok p h =
    let (name, m, i, k) = depth_behind (reader.name p) _ (name_shallow p) h in
    attribute_as_deep_ok p m name (name_ok p name m i) k

-- an attribute behind a comma that is found too deep is
further_attribute_deep_ok : (p : Place) → begins (codes ",") p ≡ true → item.further_attribute p ≡ Err Depth → IsDeepFurtherAttribute p
unfolding item.further_attribute
further_attribute_deep_ok p b h =
    let (u, m, t, k) = depth_behind (tokens.token (codes ",") p) _ (token_shallow (codes ",") p) h in
    further m (token_ok (codes ",") p u m t) (attribute_deep_ok m k)

-- attributes in brackets that are found too deep are
attribute_list_deep_ok : (p m : Place) → IsToken (codes "[") p m → item.attribute_list m ≡ Err Depth → IsDeepAttributeLine p
unfolding item.attribute_list
attribute_list_deep_ok p m t h =
    ⊎_elim (λ (s : _). first_attribute m t (attribute_deep_ok m s))
    (λ (s : _).
    let (x, n, a, k) = s in
    other_attribute m n x t (attribute_ok m n x a)
    (many_deep_ok (begins (codes ",")) item.further_attribute IsFurtherAttribute IsDeepFurtherAttribute
    (λ a b y c l. further_attribute_ok a b y l) further_attribute_deep_ok n
    (depth_first (many (begins (codes ",")) item.further_attribute n) _ (λ ys r j. shallow_ok _ j) k)))
    (depth_either (item.attribute m) _ h)

-- a line of attributes that is found too deep is
attribute_line_deep_ok : (p : Place) → begins (codes "[") p ≡ true → item.attribute_line p ≡ Err Depth → IsDeepAttributeLine p
unfolding item.attribute_line
attribute_line_deep_ok p b h =
    let (u, m, t, k) = depth_behind (tokens.token (codes "[") p) _ (token_shallow (codes "[") p) h in
    attribute_list_deep_ok p m (token_ok (codes "[") p u m t)
    (depth_first (item.attribute_list m) _
    (λ xs n i. shallow_then (tokens.token (codes "]") n) _ (token_shallow (codes "]") n)
    (λ v o j. shallow_then (reader.rest o) _ (rest_shallow o) (λ c r l. shallow_ok _ l) j) i) k)

-- where the code finds attributes too deep some lines of them stand, and behind these one that is
pub attributes_deep_ok : (p : Place) → item.attributes p ≡ Err Depth → IsDeepBehind IsAttributeLine IsDeepAttributeLine p
unfolding item.attributes
attributes_deep_ok p h =
    many_deep_ok (begins (codes "[")) item.attribute_line IsAttributeLine IsDeepAttributeLine (λ a b xs c k. attribute_line_ok a b xs k) attribute_line_deep_ok p
    (depth_first (many (begins (codes "[")) item.attribute_line p) _ (λ ys r j. shallow_ok _ j) h)

-- ---- arguments that are too deep are found so

-- an argument whose expression is too deep is found so
plain_deep_again : (key : Option Name) (p : Place) → IsDeepExpr p → item.plain key p ≡ Err Depth
unfolding item.plain
plain_deep_again key p d = rw (expr_deep_again p d) refl

-- one with a key too
keyed_deep_again : (p m : Place) (k : Name) → IsKey p m k → IsDeepExpr m → item.keyed p ≡ Err Depth
unfolding item.keyed
keyed_deep_again p m k (key_sign n i t) d = rw (name_again p n k i, token_again (codes "=") n m t, plain_deep_again (Some k) m d) refl

-- one of `cache` too
cached_deep_again : (earlier : List Argument) (p m : Place) (k : Name) → IsKey p m k → may_cache earlier k.text ≡ true → IsDeepExpr m
    → item.cached earlier p ≡ Err Depth
unfolding item.cached
cached_deep_again earlier p m k (key_sign n i t) b d = rw (name_again p n k i, b, token_again (codes "=") n m t, plain_deep_again (Some k) m d) refl

-- the text of a key of `arg` too
valued_deep_again : (form : KeyForm) (k : Name) (p m : Place) → has_text form ≡ true → IsToken (codes "=") p m → IsDeepExpr m → item.valued form k p ≡ Err Depth
valued_deep_again Alone k p m b t d = absurd (false≢true b)
valued_deep_again Either k p m b t d = rw (token_again (codes "=") p m t, plain_deep_again (Some k) m d) refl
valued_deep_again Value k p m b t d = rw (token_again (codes "=") p m t, plain_deep_again (Some k) m d) refl
valued_deep_again Number k p m b t d = absurd (false≢true b)
valued_deep_again Unknown k p m b t d = absurd (false≢true b)

-- a key of `arg` whose text is too deep is found so
option_deep_again : (earlier : List Argument) (p m : Place) (k : Name) → IsKey p m k → may_have earlier k.text ≡ true → has_text (key_form k.text) ≡ true
    → IsDeepExpr m → item.option earlier p ≡ Err Depth
unfolding item.option
option_deep_again earlier p m k (key_sign n i t) b f d = rw (name_again p n k i, b, t.0) (valued_deep_again (key_form k.text) k n m f t d)

-- an argument that is a text is read as one
text_read : (form : Form) (earlier : List Argument) (p : Place) → takes_text form earlier ≡ true → item.argument_of form earlier p ≡ item.plain None p
text_read Bare earlier p t = absurd (false≢true t)
text_read MaybeText [] p t = refl
text_read MaybeText (x ∷ earlier) p t = absurd (false≢true t)
text_read Text [] p t = refl
text_read Text (x ∷ earlier) p t = absurd (false≢true t)
text_read Texts earlier p t = refl
text_read Arg [] p t = refl
text_read Arg (x ∷ earlier) p t = absurd (false≢true t)
text_read Cache earlier p t = absurd (false≢true t)
text_read Open earlier p t = absurd (false≢true t)

-- a key of `arg` is read behind the first argument
option_read : (earlier : List Argument) (p : Place) → is_first earlier ≡ false → item.name_or_key earlier p ≡ item.option (behind_first earlier) p
option_read [] p f = absurd (false≢true (sym f))
option_read (x ∷ earlier) p f = refl

-- an argument that is too deep is found so
argument_deep_again : (form : Form) (earlier : List Argument) (p : Place) → IsDeepArgument form earlier p → item.argument form earlier p ≡ Err Depth
unfolding item.argument
argument_deep_again form earlier p (text t d) = text_read form earlier p t ∙ plain_deep_again None p d
argument_deep_again form earlier p (option m k f e i b t d) = rw (f) (option_read earlier p e ∙ option_deep_again (behind_first earlier) p m k i b t d)
argument_deep_again form earlier p (cached m k f i b d) = rw (f) (cached_deep_again earlier p m k i b d)
argument_deep_again form earlier p (any f n d) = rw (f, n) (plain_deep_again None p d)
argument_deep_again form earlier p (any_key m k f i d) = rw (f, key_is p m k i) (keyed_deep_again p m k i d)

-- an argument behind a comma that is too deep is found so
further_argument_deep_again : (form : Form) (earlier : List Argument) (p m : Place) → IsToken (codes ",") p m → IsDeepArgument form earlier m
    → item.further_argument form earlier p ≡ Err Depth
unfolding item.further_argument
further_argument_deep_again form earlier p m t d = rw (token_again (codes ",") p m t) (argument_deep_again form earlier m d)

-- where further arguments stand and behind them one that is too deep, the code finds them so
further_deep_again : (form : Form) (earlier : List Argument) (p : Place) (xs : List Argument) → IsDeepFurther form earlier p xs → item.further form earlier p ≡ Err Depth
further_deep_again form earlier p [] (m, g, t, d) = further_is form earlier p ∙ rw (g, further_argument_deep_again form earlier p m t d) refl
further_deep_again form earlier p (x ∷ xs) (m, n, g, t, i, d) =
    further_is form earlier p ∙ rw (g, further_argument_again form earlier p m n x t i, further_deep_again form (earlier ++ x ∷ []) n xs d) refl

-- ---- attributes that are too deep are found so

-- a list whose first argument is too deep is found so
first_list_again : (form : Form) (p : Place) → IsDeepArgument form [] p → item.argument_list form p ≡ Err Depth
unfolding item.argument_list
first_list_again form p d = rw (argument_deep_again form [] p d) refl

-- a list of which another argument is too deep is found so
other_list_again : (form : Form) (p q : Place) (x : Argument) (xs : List Argument) → IsArgument form [] p q x → IsDeepFurther form (x ∷ []) q xs
    → item.argument_list form p ≡ Err Depth
unfolding item.argument_list
other_list_again form p q x xs i d = rw (argument_again form [] p q x i, further_deep_again form (x ∷ []) q xs d) refl

-- so are these in parentheses
arguments_deep_again : (form : Form) (p m : Place) → IsToken (codes "(") p m → item.argument_list form m ≡ Err Depth → item.arguments form p ≡ Err Depth
unfolding item.arguments
arguments_deep_again form p m t h = rw (token_again (codes "(") p m t, h) refl

-- and the attribute that has them
grouped_deep_again : (p m n : Place) (name : Name) → IsName p m name → IsToken (codes "(") m n → item.argument_list (form_of name.text) n ≡ Err Depth
    → item.attribute p ≡ Err Depth
unfolding item.attribute
grouped_deep_again p m n name i t h =
    rw (name_again p m name i, begins_other 40 58 [] m (begins_first 40 [] m t.0) refl, t.0, arguments_deep_again (form_of name.text) m n t h) refl

-- an attribute that is too deep is found so
pub attribute_deep_again : (p : Place) → IsDeepAttribute p → item.attribute p ≡ Err Depth
attribute_deep_again p (first_argument m n name i t d) = grouped_deep_again p m n name i t (first_list_again (form_of name.text) n d)
attribute_deep_again p (other_argument m n o name x xs i t a d) = grouped_deep_again p m n name i t (other_list_again (form_of name.text) n o x xs a d)

-- an attribute behind a comma that is too deep is found so
further_attribute_deep_again : (p : Place) → IsDeepFurtherAttribute p → (begins (codes ",") p ≡ true) × (item.further_attribute p ≡ Err Depth)
unfolding item.further_attribute
further_attribute_deep_again p (further m t d) = (t.0, rw (token_again (codes ",") p m t) (attribute_deep_again m d))

-- a list whose first attribute is too deep is found so
first_attribute_again : (p : Place) → IsDeepAttribute p → item.attribute_list p ≡ Err Depth
unfolding item.attribute_list
first_attribute_again p d = rw (attribute_deep_again p d) refl

-- a list of which another attribute is too deep is found so
other_attribute_again : (p q : Place) (x : Attribute) → IsAttribute p q x → IsDeepBehind IsFurtherAttribute IsDeepFurtherAttribute q
    → item.attribute_list p ≡ Err Depth
unfolding item.attribute_list
other_attribute_again p q x i d =
    rw (
      attribute_again p q x i,
      many_deep_again (begins (codes ",")) item.further_attribute list_shorter IsFurtherAttribute IsDeepFurtherAttribute further_attribute_again
          further_attribute_deep_again q d,
    ) refl

-- so are these in brackets
brackets_deep_again : (p m : Place) → IsToken (codes "[") p m → item.attribute_list m ≡ Err Depth → (begins (codes "[") p ≡ true) × (item.attribute_line p ≡ Err Depth)
unfolding item.attribute_line
brackets_deep_again p m t h = (t.0, rw (token_again (codes "[") p m t, h) refl)

-- a line of attributes that is too deep is found so
attribute_line_deep_again : (p : Place) → IsDeepAttributeLine p → (begins (codes "[") p ≡ true) × (item.attribute_line p ≡ Err Depth)
attribute_line_deep_again p (first_attribute m t d) = brackets_deep_again p m t (first_attribute_again m d)
attribute_line_deep_again p (other_attribute m n x t i d) = brackets_deep_again p m t (other_attribute_again m n x i d)

-- where some lines of attributes stand and behind them one that is too deep, the code finds them so
pub attributes_deep_again : (p : Place) → IsDeepBehind IsAttributeLine IsDeepAttributeLine p → item.attributes p ≡ Err Depth
unfolding item.attributes
attributes_deep_again p d =
    rw (many_deep_again (begins (codes "[")) item.attribute_line lines_shorter IsAttributeLine IsDeepAttributeLine
    attribute_line_again attribute_line_deep_again p d) refl
