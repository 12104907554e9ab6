-- The texts of a key, made of its members' texts, and cut at their inputs.
use Rattle.std.proofs.Common.{◌≡◌, ℕ, zero, suc, ◌<◌, List, [], ◌∷◌, ◌++◌, length, get_or, take, drop, append_assoc, true, false, Option, None, codes, refl, sym, ap, ◌∙◌, arith}
use Rattle.std.specs.Str.{IsCharBoundary, IsUtf8}
use Rattle.std.proofs.lemmas.Str.{IsUtf8-drop, IsCharBoundary-before_ascii, IsCharBoundary-after_ascii}
use Rattle.json.specs.Print.{escape_byte}
use Rattle.serde_json.specs.Data.{Data, null, string, object, Members, member}
use Rattle.serde_json.specs.Written.{compact_text, members_text, has_float}
use Rattle.just_lang_types.specs.declared.settings.Interpreter.{Interpreter}
use Rattle.just_cache.specs.declared.key.CacheKey.{CacheKey}
use Rattle.just_cache.specs.Members.{text_or_null, texts, texts_or_null, environment, inputs, command_data, shebang_data, executor_data, path_text}
use Rattle.just_cache.specs.Keys.{before_inputs, behind_inputs, data_with, with_inputs, TakesInputs}
use Rattle.just_cache.proofs.Plain.{float_free}
use Rattle.just_cache.proofs.Fields.{text_plain, texts_plain, texts_or_null_plain, environment_plain, inputs_plain}

-- ---- no floats

pub text_float_free : (t : Option (List ℕ)) → has_float (text_or_null t) ≡ false
text_float_free t = float_free (text_or_null t) 0 (text_plain t 0)

pub texts_float_free : (ts : List (List ℕ)) → has_float (texts ts) ≡ false
texts_float_free ts = float_free (texts ts) 1 (texts_plain ts 0)

pub texts_or_null_float_free : (ts : Option (List (List ℕ))) → has_float (texts_or_null ts) ≡ false
texts_or_null_float_free ts = float_free (texts_or_null ts) 1 (texts_or_null_plain ts 0)

pub environment_float_free : (pairs : List (List ℕ × Option (List ℕ))) → has_float (environment pairs) ≡ false
environment_float_free pairs = float_free (environment pairs) 1 (environment_plain pairs 0)

pub inputs_float_free : (i : Option (List (List ℕ × List ℕ))) → has_float (inputs i) ≡ false
inputs_float_free i = float_free (inputs i) 2 (inputs_plain i 1)

-- ---- a text that is made piece by piece

-- to a text a front and some data were added
abbrev pub Says : List ℕ → List ℕ → List ℕ → Data → Type 0
Says old new front d = new ≡ old ++ (front ++ compact_text d)

pub said : (old new front : List ℕ) (d e : Data) → Says old new front d → d ≡ e → Says old new front e
said old new front d e is same = is ∙ ap (λ x. old ++ (front ++ compact_text x)) same

then : (old new front : List ℕ) (d : Data) → Says old new front d → (rest : List ℕ) → new ++ rest ≡ old ++ (front ++ (compact_text d ++ rest))
then old new front d is rest = ap (λ t. t ++ rest) is ∙ append_assoc old (front ++ compact_text d) rest ∙ ap (λ t. old ++ t) (append_assoc front (compact_text d) rest)

command_text : (i : Interpreter) → codes ",\"executor\":{\"arguments\":" ++ (compact_text (texts i.arguments) ++ (codes ",\"command\":" ++ (compact_text (string i.command) ++ codes ",\"type\":\"command\"}"))) ≡ codes ",\"executor\":" ++ compact_text (command_data i)
unfolding escape_byte
command_text i = refl

pub command_pushed : (i : Interpreter) (start first second end : List ℕ) → Says start first (codes ",\"executor\":{\"arguments\":") (texts i.arguments) → Says first second (codes ",\"command\":") (string i.command) → end ≡ second ++ codes ",\"type\":\"command\"}" → Says start end (codes ",\"executor\":") (command_data i)
command_pushed i start first second end one two last =
    last ∙ then first second (codes ",\"command\":") (string i.command) two (codes ",\"type\":\"command\"}")
    ∙ then start first (codes ",\"executor\":{\"arguments\":") (texts i.arguments) one (codes ",\"command\":" ++ (compact_text (string i.command) ++ codes ",\"type\":\"command\"}"))
    ∙ ap (λ t. start ++ t) (command_text i)

shebang_text : (a : Option (List ℕ)) (i : List ℕ) → codes ",\"executor\":{\"argument\":" ++ (compact_text (text_or_null a) ++ (codes ",\"interpreter\":" ++ (compact_text (string i) ++ codes ",\"type\":\"shebang\"}"))) ≡ codes ",\"executor\":" ++ compact_text (shebang_data a i)
unfolding escape_byte
shebang_text a i = refl

pub shebang_pushed : (a : Option (List ℕ)) (i start first second end : List ℕ) → Says start first (codes ",\"executor\":{\"argument\":") (text_or_null a) → Says first second (codes ",\"interpreter\":") (string i) → end ≡ second ++ codes ",\"type\":\"shebang\"}" → Says start end (codes ",\"executor\":") (shebang_data a i)
shebang_pushed a i start first second end one two last =
    last ∙ then first second (codes ",\"interpreter\":") (string i) two (codes ",\"type\":\"shebang\"}")
    ∙ then start first (codes ",\"executor\":{\"argument\":") (text_or_null a) one (codes ",\"interpreter\":" ++ (compact_text (string i) ++ codes ",\"type\":\"shebang\"}"))
    ∙ ap (λ t. start ++ t) (shebang_text a i)

-- the members from `extension` on, before the inputs
abbrev from_extension : CacheKey → Members → List ℕ
from_extension k following = codes ",\"extension\":" ++ (compact_text (text_or_null k.extension) ++ (codes ",\"extra\":" ++ (compact_text (text_or_null k.extra) ++ members_text true following)))

before_text : (k : CacheKey) (following : Members) → codes "{\"body\":" ++ (compact_text (texts k.body) ++ (codes ",\"environment\":" ++ (compact_text (environment k.environment) ++ (codes ",\"executor\":" ++ (compact_text (executor_data k.executor) ++ from_extension k following))))) ≡ compact_text (object (before_inputs k following))
unfolding escape_byte
before_text k following = refl

pub before_pushed : (k : CacheKey) (start body environed run extended end : List ℕ) → Says start body (codes "{\"body\":") (texts k.body) → Says body environed (codes ",\"environment\":") (environment k.environment) → Says environed run (codes ",\"executor\":") (executor_data k.executor) → Says run extended (codes ",\"extension\":") (text_or_null k.extension) → Says extended end (codes ",\"extra\":") (text_or_null k.extra) → (following : Members) → end ++ members_text true following ≡ start ++ compact_text (object (before_inputs k following))
before_pushed k start body environed run extended end one two three four five following =
    let rest = members_text true following in
    then extended end (codes ",\"extra\":") (text_or_null k.extra) five rest
    ∙ then run extended (codes ",\"extension\":") (text_or_null k.extension) four (codes ",\"extra\":" ++ (compact_text (text_or_null k.extra) ++ rest))
    ∙ then environed run (codes ",\"executor\":") (executor_data k.executor) three (from_extension k following)
    ∙ then body environed (codes ",\"environment\":") (environment k.environment) two (codes ",\"executor\":" ++ (compact_text (executor_data k.executor) ++ from_extension k following))
    ∙ then start body (codes "{\"body\":") (texts k.body) one (codes ",\"environment\":" ++ (compact_text (environment k.environment) ++ (codes ",\"executor\":" ++ (compact_text (executor_data k.executor) ++ from_extension k following))))
    ∙ ap (λ t. start ++ t) (before_text k following)

behind_text : (k : CacheKey) → codes ",\"positional\":" ++ (compact_text (texts_or_null k.positional) ++ (codes ",\"recipe\":" ++ (compact_text (string (path_text k.recipe.components)) ++ (codes ",\"working_directory\":" ++ (compact_text (text_or_null k.working_directory) ++ codes "}"))))) ≡ members_text true (behind_inputs k)
unfolding escape_byte
behind_text k = refl

pub behind_pushed : (k : CacheKey) (start listed named placed end : List ℕ) → Says start listed (codes ",\"positional\":") (texts_or_null k.positional) → Says listed named (codes ",\"recipe\":") (string (path_text k.recipe.components)) → Says named placed (codes ",\"working_directory\":") (text_or_null k.working_directory) → end ≡ placed ++ codes "}" → end ≡ start ++ members_text true (behind_inputs k)
behind_pushed k start listed named placed end one two three last =
    last ∙ then named placed (codes ",\"working_directory\":") (text_or_null k.working_directory) three (codes "}")
    ∙ then listed named (codes ",\"recipe\":") (string (path_text k.recipe.components)) two (codes ",\"working_directory\":" ++ (compact_text (text_or_null k.working_directory) ++ codes "}"))
    ∙ then start listed (codes ",\"positional\":") (texts_or_null k.positional) one (codes ",\"recipe\":" ++ (compact_text (string (path_text k.recipe.components)) ++ (codes ",\"working_directory\":" ++ (compact_text (text_or_null k.working_directory) ++ codes "}"))))
    ∙ ap (λ t. start ++ t) (behind_text k)

-- ---- the text before the value of the inputs, and that behind it

named : (given : Data) (k : CacheKey) → members_text true (member (codes "inputs") given (behind_inputs k)) ≡ codes ",\"inputs\":" ++ (compact_text given ++ members_text true (behind_inputs k))
unfolding escape_byte
named given k = refl

-- a text in place of the `null` behind a front
put_in : (head value tail : List ℕ) → head ++ (value ++ tail) ≡ take (length head) (head ++ (codes "null" ++ tail)) ++ value ++ drop 4 (drop (length head) (head ++ (codes "null" ++ tail)))
put_in [] value tail = refl
put_in (c ∷ head) value tail = ap (λ t. c ∷ t) (put_in head value tail)

module _ (k : CacheKey) (before : List ℕ) (first : (following : Members) → before ++ members_text true following ≡ compact_text (object (before_inputs k following))) where
  -- the text around the value of the inputs
  pub text_with : (given : Data) → (before ++ codes ",\"inputs\":") ++ (compact_text given ++ members_text true (behind_inputs k)) ≡ compact_text (data_with given k)
  text_with given =
      append_assoc before (codes ",\"inputs\":") (compact_text given ++ members_text true (behind_inputs k))
      ∙ ap (λ t. before ++ t) (sym (named given k))
      ∙ first (member (codes "inputs") given (behind_inputs k))

  -- which begins behind the name of the inputs
  pub takes_inputs : (at : ℕ) → at ≡ length (before ++ codes ",\"inputs\":") → TakesInputs k at
  takes_inputs at is files =
      let head = before ++ codes ",\"inputs\":" in
      let tail = members_text true (behind_inputs k) in
      sym (text_with (inputs files)) ∙ put_in head (compact_text (inputs files)) tail
      ∙ ap (λ n. take n (head ++ (codes "null" ++ tail)) ++ compact_text (inputs files) ++ drop 4 (drop n (head ++ (codes "null" ++ tail)))) (sym is)
      ∙ ap (λ c. with_inputs c at files) (text_with null)

-- ---- cutting out the `null`

abbrev HasNull : List ℕ → ℕ → Type 0
HasNull class at = (drop at class ≡ codes "null" ++ drop 4 (drop at class)) × (at < length class) × (get_or class at 0 ≡ 110)

has_null : (class : List ℕ) (at : ℕ) → with_inputs class at None ≡ class → HasNull class at
has_null class zero h =
    let size : suc (suc (suc (suc (length (drop 4 class))))) ≡ length class = ap length h in
    (sym h, omega (arith, size), ap (λ l. get_or l 0 0) (sym h))
has_null [] (suc n) h = let size : 4 ≡ 0 = ap length h in absurd (omega (arith, size))
has_null (c ∷ cs) (suc n) h =
    let k = has_null cs n (ap (drop 1) h) in
    let within : n < length cs = k.1 in
    (k.0, omega (arith, within), k.2)

pub before_null : (class : List ℕ) (at : ℕ) → with_inputs class at None ≡ class → IsCharBoundary class at
before_null class at h =
    let k = has_null class at h in
    let byte : get_or class at 0 ≡ 110 = k.2 in
    IsCharBoundary-before_ascii class at k.1 (omega (arith, byte))

pub behind_null : (class : List ℕ) (at : ℕ) → IsUtf8 class → with_inputs class at None ≡ class → IsCharBoundary (drop at class) 4
behind_null class at u h =
    let is : drop at class ≡ codes "null" ++ drop 4 (drop at class) = (has_null class at h).0 in
    let size : length (drop at class) ≡ suc (suc (suc (suc (length (drop 4 (drop at class)))))) = ap length is in
    let byte : get_or (drop at class) 3 0 ≡ 108 = ap (λ l. get_or l 3 0) is in
    IsCharBoundary-after_ascii (drop at class) 3 (IsUtf8-drop class at u (before_null class at h)) (omega (arith, size)) (omega (arith, byte))
