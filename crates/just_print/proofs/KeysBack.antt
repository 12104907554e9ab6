-- Arguments of the same shape have the same keys: what may stand behind them is the same.
use Rattle.std.specs.Option.{option_map}
use Rattle.std.proofs.Common.{◌≡◌, ℕ, Bool, not, ◌&&◌, ◌||◌, List, [], ◌∷◌, map, Option, Some, None, codes, bytes_eq, refl, sym, ap, ◌∙◌}
use Rattle.just_lang_read.specs.Place.{Place}
use Rattle.just_lang_syntax.specs.declared.ast.Name.{Name}
use Rattle.just_lang_syntax.specs.declared.ast.Expr.{Expr, out-Expr}
use Rattle.just_lang_syntax.specs.declared.ast.Expr.TheOpen.{Expr-F}
use Rattle.just_lang_syntax.specs.declared.ast.Expr.TheViews.{roll-Expr, out-roll-Expr, roll-out-Expr}
use Rattle.just_lang_syntax.specs.declared.ast.Expr.TheFolds.{fold-roll-Expr}
use Rattle.just_lang_syntax.specs.declared.ast.Expr.TheVariants as e
use Rattle.just_lang_syntax.specs.declared.ast.Argument.{Argument}
use Rattle.just_lang_syntax.specs.declared.form.Form.{Form}
use Rattle.just_lang_syntax.specs.declared.form.Form.TheVariants.{Bare, MaybeText, Text, Texts, Arg, Cache, Open}
use Rattle.just_lang_syntax.specs.Forms.{is_cache_key}
use Rattle.just_lang_syntax.specs.Attributes.{is_named_in, is_named, is_key_or, has_key, may_cache, may_have, is_first, behind_first, takes_text, IsOption, IsArgument}
use Rattle.just_lang_syntax.specs.Attributes.IsOption.{alone, valued, number}
use Rattle.just_lang_syntax.specs.Attributes.IsArgument.{text, option, cached, any, any_key}
use Rattle.just_print.specs.Shapes.{bare_name, bare_string, bare_step, bare_expr, bare_argument}

-- ---- whether an expression is a name doesn't depend on places

-- an expression that is one layer is that name where the layer is
layer_named : (key : List ℕ) (x : Expr) (w : Expr-F Expr) → x ≡ roll-Expr w → is_named key x ≡ is_named_in key w
layer_named key x w h = ap (is_named key) h ∙ ap (is_named_in key) (out-roll-Expr w)

-- a layer without places is that name where the layer is
bare_named : (key : List ℕ) (w : Expr-F Expr) → is_named key (bare_expr (roll-Expr w)) ≡ is_named_in key w
bare_named key (Expr-F.If a c b d chained x) =
    layer_named key (bare_expr (roll-Expr (Expr-F.If a c b d chained x))) (Expr-F.If (bare_expr a) c (bare_expr b) (bare_expr d) chained (bare_expr x))
    (fold-roll-Expr Expr bare_step (Expr-F.If a c b d chained x) ∙ sym (e.rolls-If (bare_expr a) c (bare_expr b) (bare_expr d) chained (bare_expr x)))
bare_named key (Expr-F.Root a) =
    layer_named key (bare_expr (roll-Expr (Expr-F.Root a))) (Expr-F.Root (bare_expr a))
    (fold-roll-Expr Expr bare_step (Expr-F.Root a) ∙ sym (e.rolls-Root (bare_expr a)))
bare_named key (Expr-F.Join a b) =
    layer_named key (bare_expr (roll-Expr (Expr-F.Join a b))) (Expr-F.Join (bare_expr a) (bare_expr b))
    (fold-roll-Expr Expr bare_step (Expr-F.Join a b) ∙ sym (e.rolls-Join (bare_expr a) (bare_expr b)))
bare_named key (Expr-F.Concat a b) =
    layer_named key (bare_expr (roll-Expr (Expr-F.Concat a b))) (Expr-F.Concat (bare_expr a) (bare_expr b))
    (fold-roll-Expr Expr bare_step (Expr-F.Concat a b) ∙ sym (e.rolls-Concat (bare_expr a) (bare_expr b)))
bare_named key (Expr-F.Literal s) =
    layer_named key (bare_expr (roll-Expr (Expr-F.Literal s))) (Expr-F.Literal (bare_string s))
    (fold-roll-Expr Expr bare_step (Expr-F.Literal s) ∙ sym (e.rolls-Literal (bare_string s)))
bare_named key (Expr-F.Variable n) =
    layer_named key (bare_expr (roll-Expr (Expr-F.Variable n))) (Expr-F.Variable (bare_name n))
    (fold-roll-Expr Expr bare_step (Expr-F.Variable n) ∙ sym (e.rolls-Variable (bare_name n)))
bare_named key (Expr-F.Group a) =
    layer_named key (bare_expr (roll-Expr (Expr-F.Group a))) (Expr-F.Group (bare_expr a))
    (fold-roll-Expr Expr bare_step (Expr-F.Group a) ∙ sym (e.rolls-Group (bare_expr a)))
bare_named key (Expr-F.Env l c a None) =
    layer_named key (bare_expr (roll-Expr (Expr-F.Env l c a None))) (Expr-F.Env 0 0 (bare_expr a) None)
    (fold-roll-Expr Expr bare_step (Expr-F.Env l c a None) ∙ sym (e.rolls-Env 0 0 (bare_expr a) None))
bare_named key (Expr-F.Env l c a (Some d)) =
    layer_named key (bare_expr (roll-Expr (Expr-F.Env l c a (Some d)))) (Expr-F.Env 0 0 (bare_expr a) (Some (bare_expr d)))
    (fold-roll-Expr Expr bare_step (Expr-F.Env l c a (Some d)) ∙ sym (e.rolls-Env 0 0 (bare_expr a) (Some (bare_expr d))))

-- an expression without places is that name where the expression is
named_bare : (key : List ℕ) (x : Expr) → is_named key (bare_expr x) ≡ is_named key x
named_bare key x = ap (λ (v : Expr). is_named key (bare_expr v)) (sym (roll-out-Expr x)) ∙ bare_named key (out-Expr x)

-- ---- keys

-- whether a key is that one doesn't depend on places
key_bare : (key : List ℕ) (k : Option Name) (x : Expr) → is_key_or key (option_map bare_name k) (bare_expr x) ≡ is_key_or key k x
key_bare key None x = named_bare key x
key_bare key (Some n) x = refl

-- nor whether one among arguments is
keys_bare : (xs : List Argument) (key : List ℕ) → has_key (map bare_argument xs) key ≡ has_key xs key
keys_bare [] key = refl
keys_bare (x ∷ xs) key =
    ap (λ (b : Bool). b || has_key (map bare_argument xs) key) (key_bare key x.key x.value) ∙ ap (λ (b : Bool). is_key_or key x.key x.value || b) (keys_bare xs key)

-- nor whether there are arguments
first_bare : (xs : List Argument) → is_first (map bare_argument xs) ≡ is_first xs
first_bare [] = refl
first_bare (x ∷ xs) = refl

-- the arguments behind the first, without places
behind_bare : (xs : List Argument) → behind_first (map bare_argument xs) ≡ map bare_argument (behind_first xs)
behind_bare [] = refl
behind_bare (x ∷ xs) = refl

-- arguments of the same shape
module _ (others earlier : List Argument) (same : map bare_argument others ≡ map bare_argument earlier) where
  -- they have the same keys
  same_keys : (key : List ℕ) → has_key others key ≡ has_key earlier key
  same_keys key = sym (keys_bare others key) ∙ (ap (λ (xs : List Argument). has_key xs key) same ∙ keys_bare earlier key)

  -- both are none, or neither is
  same_first : is_first others ≡ is_first earlier
  same_first = sym (first_bare others) ∙ (ap is_first same ∙ first_bare earlier)

  -- `arg` may have the same keys behind them
  same_may_have : (key : List ℕ) → may_have others key ≡ may_have earlier key
  same_may_have key = ap (λ (b : Bool). bytes_eq key (codes "pattern") || not b) (same_keys key)

  -- and so may `cache`
  same_may_cache : (key : List ℕ) → may_cache others key ≡ may_cache earlier key
  same_may_cache key = ap (λ (b : Bool). is_cache_key key && not (bytes_eq key (codes "extra") && b)) (same_keys key)

  -- an expression without a key may stand behind both or behind neither
  same_takes_text : (form : Form) → takes_text form others ≡ takes_text form earlier
  same_takes_text Bare = refl
  same_takes_text MaybeText = same_first
  same_takes_text Text = same_first
  same_takes_text Texts = refl
  same_takes_text Arg = same_first
  same_takes_text Cache = refl
  same_takes_text Open = refl

  -- what may stand behind the one as a key of `arg` may stand behind the other
  option_behind : (p q : Place) (x : Argument) → IsOption earlier p q x → IsOption others p q x
  option_behind p q x (alone k n m s b z) = alone k n (same_may_have k.text ∙ m) s b z
  option_behind p q x (valued m k i h t v) = valued m k i (same_may_have k.text ∙ h) t v
  option_behind p q x (number m k s means i h f j o d z) = number m k s means i (same_may_have k.text ∙ h) f j o d z

-- what may stand behind some arguments may stand behind others of the same shape
pub argument_behind : (others earlier : List Argument) → map bare_argument others ≡ map bare_argument earlier → (form : Form) (p q : Place) (x : Argument)
    → IsArgument form earlier p q x → IsArgument form others p q x
argument_behind others earlier same form p q x (text t i) = text (same_takes_text others earlier same form ∙ t) i
argument_behind others earlier same form p q x (option f n i) =
    option f (same_first others earlier same ∙ n) (option_behind (behind_first others) (behind_first earlier)
    (sym (behind_bare others) ∙ (ap behind_first same ∙ behind_bare earlier)) p q x i)
argument_behind others earlier same form p q x (cached m k f i h v) = cached m k f i (same_may_cache others earlier same k.text ∙ h) v
argument_behind others earlier same form p q x (any f n i) = any f n i
argument_behind others earlier same form p q x (any_key m k f i v) = any_key m k f i v
