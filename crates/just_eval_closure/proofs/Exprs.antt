-- The values of expressions, one law a variant.
use Rattle.std.proofs.Common.{◌≡◌, ℕ, Bool, true, false, List, [], ◌++◌, Option, Some, None, Result, Ok, Err, codes, refl, sym, ap, ◌∙◌, subst}
use Rattle.std.specs.Prelude.{if◌then◌else◌, IfOk}
use Rattle.std.specs.Option.{option_map}
use Rattle.just_lang_syntax.specs.declared.ast.Name.{Name}
use Rattle.just_lang_syntax.specs.declared.ast.StringLiteral.{StringLiteral}
use Rattle.just_lang_syntax.specs.declared.ast.Comparison.{Comparison}
use Rattle.just_lang_syntax.specs.declared.ast.Expr.{Expr}
use Rattle.just_lang_syntax.specs.declared.ast.Expr.TheOpen.{Expr-F}
use Rattle.just_lang_syntax.specs.declared.ast.Expr.TheFolds.{fold-roll-Expr}
use Rattle.just_lang_syntax.specs.declared.ast.Expr.TheVariants as e
use Rattle.just_eval_closure.specs.Values.{Valued, with_text, literal_text, compares, compared_by, rooted_value, joined_value, env_value, value_step, value, asked_value}
use Rattle.just_eval_closure.specs.Asked.{AsksFor}
use Rattle.just_eval_closure.specs.declared.expression.Asked.{Asked}
use Rattle.just_eval_closure.specs.declared.expression.Asked.TheVariants.{Found, Absent, Refused}

-- what follows of the value of a call that succeeds
pub if_ok : {T E : Type 0} (P Q : T → Type 0) (r : Result T E) → ((v : T) → P v → Q v) → IfOk r P → IfOk r Q
if_ok P Q (Ok v) f h = f v h
if_ok P Q (Err e) f h = tt

-- what is said of the value of a call is said of that value
pub said_of : {T E : Type 0} (P : T → Type 0) (r : Result T E) (v : T) → r ≡ Ok v → IfOk r P → P v
said_of P r v e h = subst (λ x. IfOk x P) e h

-- answers of comparisons, and a refusal of a value
abbrev pub compared_text : Bool → Result Bool (List ℕ)
compared_text b = Ok b

abbrev compared_name : List ℕ → Result Bool (List ℕ)
compared_name n = Err n

abbrev valued_name : List ℕ → Valued
valued_name n = Err n

-- what an `if` gives
abbrev branch : Comparison → Valued → Valued → Valued → Valued → Valued
branch c a b x y = with_text a (λ s. with_text b (λ t. if compares c s t then x else y))

-- one answer of a comparison
one_test : (a b : Bool) → compared_text a ≡ compared_text b → a ≡ b
one_test a b h = cc

-- a comparison that is refused has no answer
no_test : (n : List ℕ) (b : Bool) → compared_name n ≡ compared_text b → ⊥
no_test n b h = let no : ⊥ = cc in no

one_name : (m n : List ℕ) → compared_name m ≡ compared_name n → valued_name m ≡ valued_name n
one_name m n h = let same : m ≡ n = cc in ap valued_name same

-- a condition that holds
takes_first : (c : Comparison) (a b x y : Valued) → compared_text true ≡ compared_by c a b → branch c a b x y ≡ x
takes_first c (Err n) b x y h = absurd (no_test n true (sym h))
takes_first c (Ok s) (Err n) x y h = absurd (no_test n true (sym h))
takes_first c (Ok s) (Ok t) x y h = ap (λ q. if q then x else y) (sym (one_test true (compares c s t) h))

-- one that doesn't
takes_second : (c : Comparison) (a b x y : Valued) → compared_text false ≡ compared_by c a b → branch c a b x y ≡ y
takes_second c (Err n) b x y h = absurd (no_test n false (sym h))
takes_second c (Ok s) (Err n) x y h = absurd (no_test n false (sym h))
takes_second c (Ok s) (Ok t) x y h = ap (λ q. if q then x else y) (sym (one_test false (compares c s t) h))

-- one that is refused
takes_none : (c : Comparison) (a b x y : Valued) (n : List ℕ) → compared_name n ≡ compared_by c a b → branch c a b x y ≡ valued_name n
takes_none c (Err m) b x y n h = one_name m n (sym h)
takes_none c (Ok s) (Err m) x y n h = one_name m n (sym h)
takes_none c (Ok s) (Ok t) x y n h = absurd (no_test n (compares c s t) h)

module _ (names : List ℕ → Valued) (env : List ℕ → Option (List ℕ)) where
  -- what `env` gives for the value of its key and that of its default
  abbrev asked : Valued → Option Valued → Valued
  asked key default = with_text key (λ name. env_value name (env name) default)

  -- ---- the value of each variant

  opened_if : (a : Expr) (c : Comparison) (b d : Expr) (chained : Bool) (x : Expr) → value names env (e.If a c b d chained x)
      ≡ with_text (value names env a) (λ s. with_text (value names env b) (λ t. if compares c s t then value names env d else value names env x))
  opened_if a c b d chained x = ap (value names env) (sym (e.rolls-If a c b d chained x)) ∙ fold-roll-Expr Valued (value_step names env) (Expr-F.If a c b d chained x)

  opened_root : (a : Expr) → value names env (e.Root a) ≡ rooted_value (value names env a)
  opened_root a = ap (value names env) (sym (e.rolls-Root a)) ∙ fold-roll-Expr Valued (value_step names env) (Expr-F.Root a)

  opened_join : (a b : Expr) → value names env (e.Join a b) ≡ joined_value (value names env a) (codes "/") (value names env b)
  opened_join a b = ap (value names env) (sym (e.rolls-Join a b)) ∙ fold-roll-Expr Valued (value_step names env) (Expr-F.Join a b)

  opened_concat : (a b : Expr) → value names env (e.Concat a b) ≡ joined_value (value names env a) [] (value names env b)
  opened_concat a b = ap (value names env) (sym (e.rolls-Concat a b)) ∙ fold-roll-Expr Valued (value_step names env) (Expr-F.Concat a b)

  opened_literal : (s : StringLiteral) → value names env (e.Literal s) ≡ Ok (literal_text s)
  opened_literal s = ap (value names env) (sym (e.rolls-Literal s)) ∙ fold-roll-Expr Valued (value_step names env) (Expr-F.Literal s)

  opened_variable : (n : Name) → value names env (e.Variable n) ≡ names n.text
  opened_variable n = ap (value names env) (sym (e.rolls-Variable n)) ∙ fold-roll-Expr Valued (value_step names env) (Expr-F.Variable n)

  opened_group : (a : Expr) → value names env (e.Group a) ≡ value names env a
  opened_group a = ap (value names env) (sym (e.rolls-Group a)) ∙ fold-roll-Expr Valued (value_step names env) (Expr-F.Group a)

  opened_env : (l c : ℕ) (a : Expr) (d : Option Expr) → value names env (e.Env l c a d) ≡ asked (value names env a) (option_map (value names env) d)
  opened_env l c a None = ap (value names env) (sym (e.rolls-Env l c a None)) ∙ fold-roll-Expr Valued (value_step names env) (Expr-F.Env l c a None)
  opened_env l c a (Some d) = ap (value names env) (sym (e.rolls-Env l c a (Some d))) ∙ fold-roll-Expr Valued (value_step names env) (Expr-F.Env l c a (Some d))

  -- ---- the values of the parts give the value of the whole

  pub is_literal : (s : StringLiteral) → Ok (literal_text s) ≡ value names env (e.Literal s)
  is_literal s = sym (opened_literal s)

  pub is_variable : (n : Name) → names n.text ≡ value names env (e.Variable n)
  is_variable n = sym (opened_variable n)

  pub is_group : (a : Expr) → value names env a ≡ value names env (e.Group a)
  is_group a = sym (opened_group a)

  pub is_root : (a : Expr) → rooted_value (value names env a) ≡ value names env (e.Root a)
  is_root a = sym (opened_root a)

  pub is_join : (a b : Expr) → joined_value (value names env a) (codes "/") (value names env b) ≡ value names env (e.Join a b)
  is_join a b = sym (opened_join a b)

  pub is_concat : (a b : Expr) → joined_value (value names env a) [] (value names env b) ≡ value names env (e.Concat a b)
  is_concat a b = sym (opened_concat a b)

  pub is_then : (a : Expr) (c : Comparison) (b d : Expr) (chained : Bool) (x : Expr) → Ok true ≡ compared_by c (value names env a) (value names env b) → value names env d ≡ value names env (e.If a c b d chained x)
  is_then a c b d chained x is = sym (opened_if a c b d chained x ∙ takes_first c (value names env a) (value names env b) (value names env d) (value names env x) is)

  pub is_else : (a : Expr) (c : Comparison) (b d : Expr) (chained : Bool) (x : Expr) → Ok false ≡ compared_by c (value names env a) (value names env b) → value names env x ≡ value names env (e.If a c b d chained x)
  is_else a c b d chained x is = sym (opened_if a c b d chained x ∙ takes_second c (value names env a) (value names env b) (value names env d) (value names env x) is)

  pub is_condition_refused : (a : Expr) (c : Comparison) (b d : Expr) (chained : Bool) (x : Expr) (n : List ℕ) → Err n ≡ compared_by c (value names env a) (value names env b) → Err n ≡ value names env (e.If a c b d chained x)
  is_condition_refused a c b d chained x n is = sym (opened_if a c b d chained x ∙ takes_none c (value names env a) (value names env b) (value names env d) (value names env x) n is)

  pub is_env : (l c : ℕ) (a : Expr) (d : Option Expr) → asked_value names env (value names env a) d ≡ value names env (e.Env l c a d)
  is_env l c a d = sym (opened_env l c a d)

  -- ---- what `env` gives

  pub asked_found : (v : Valued) (d : Option Expr) (t : List ℕ) → AsksFor env v (Found t) → Ok t ≡ asked_value names env v d
  asked_found v d t asks =
      sym (ap (λ x. asked_value names env x d) asks.1 ∙ ap (λ o. env_value asks.0 o (option_map (value names env) d)) asks.2)

  pub asked_default : (v : Valued) (d : Expr) (k : List ℕ) → AsksFor env v (Absent k) → value names env d ≡ asked_value names env v (Some d)
  asked_default v d k asks =
      sym (ap (λ x. asked_value names env x (Some d)) asks.0 ∙ ap (λ o. env_value k o (Some (value names env d))) asks.1)

  pub asked_absent : (v : Valued) (k : List ℕ) → AsksFor env v (Absent k) → Err k ≡ asked_value names env v None
  asked_absent v k asks = sym (ap (λ x. asked_value names env x None) asks.0 ∙ ap (λ o. env_value k o None) asks.1)

  pub asked_refused : (v : Valued) (d : Option Expr) (n : List ℕ) → AsksFor env v (Refused n) → Err n ≡ asked_value names env v d
  asked_refused v d n asks = sym (ap (λ x. asked_value names env x d) asks)
