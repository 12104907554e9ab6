-- The names in expressions, one law a variant.
use Rattle.std.proofs.Common.{◌≡◌, ℕ, Bool, List, [], ◌∷◌, ◌++◌, append-nil, append_assoc, Option, Some, None, sym, ap, ◌∙◌}
use Rattle.std.specs.Option.{option_map}
use Rattle.just_lang_syntax.specs.declared.ast.Name.{Name}
use Rattle.just_lang_syntax.specs.declared.ast.StringLiteral.{StringLiteral}
use Rattle.just_lang_syntax.specs.declared.ast.Comparison.{Comparison}
use Rattle.just_lang_syntax.specs.declared.ast.Expr.{Expr}
use Rattle.just_lang_syntax.specs.declared.ast.Expr.TheOpen.{Expr-F}
use Rattle.just_lang_syntax.specs.declared.ast.Expr.TheFolds.{fold-roll-Expr}
use Rattle.just_lang_syntax.specs.declared.ast.Expr.TheVariants as e
use Rattle.just_eval.specs.Uses.{names_in, names_step, or_nothing}

abbrev Texts : Type 0
Texts = List (List ℕ)

pub opened_if : (a : Expr) (c : Comparison) (b d : Expr) (chained : Bool) (x : Expr) → names_in (e.If a c b d chained x) ≡ names_in a ++ (names_in b ++ (names_in d ++ names_in x))
opened_if a c b d chained x = ap names_in (sym (e.rolls-If a c b d chained x)) ∙ fold-roll-Expr Texts names_step (Expr-F.If a c b d chained x)

pub opened_root : (a : Expr) → names_in (e.Root a) ≡ names_in a
opened_root a = ap names_in (sym (e.rolls-Root a)) ∙ fold-roll-Expr Texts names_step (Expr-F.Root a)

pub opened_join : (a b : Expr) → names_in (e.Join a b) ≡ names_in a ++ names_in b
opened_join a b = ap names_in (sym (e.rolls-Join a b)) ∙ fold-roll-Expr Texts names_step (Expr-F.Join a b)

pub opened_concat : (a b : Expr) → names_in (e.Concat a b) ≡ names_in a ++ names_in b
opened_concat a b = ap names_in (sym (e.rolls-Concat a b)) ∙ fold-roll-Expr Texts names_step (Expr-F.Concat a b)

pub opened_literal : (s : StringLiteral) → names_in (e.Literal s) ≡ []
opened_literal s = ap names_in (sym (e.rolls-Literal s)) ∙ fold-roll-Expr Texts names_step (Expr-F.Literal s)

pub opened_variable : (n : Name) → names_in (e.Variable n) ≡ n.text ∷ []
opened_variable n = ap names_in (sym (e.rolls-Variable n)) ∙ fold-roll-Expr Texts names_step (Expr-F.Variable n)

pub opened_group : (a : Expr) → names_in (e.Group a) ≡ names_in a
opened_group a = ap names_in (sym (e.rolls-Group a)) ∙ fold-roll-Expr Texts names_step (Expr-F.Group a)

pub opened_env : (l c : ℕ) (a : Expr) (d : Option Expr) → names_in (e.Env l c a d) ≡ names_in a ++ or_nothing (option_map names_in d)
opened_env l c a None = ap names_in (sym (e.rolls-Env l c a None)) ∙ fold-roll-Expr Texts names_step (Expr-F.Env l c a None)
opened_env l c a (Some d) = ap names_in (sym (e.rolls-Env l c a (Some d))) ∙ fold-roll-Expr Texts names_step (Expr-F.Env l c a (Some d))

-- ---- as a function adds them

pub in_if : (old : Texts) (a : Expr) (c : Comparison) (b d : Expr) (chained : Bool) (x : Expr) → (((old ++ names_in a) ++ names_in b) ++ names_in d) ++ names_in x ≡ old ++ names_in (e.If a c b d chained x)
in_if old a c b d chained x =
    append_assoc ((old ++ names_in a) ++ names_in b) (names_in d) (names_in x) ∙ append_assoc (old ++ names_in a) (names_in b) (names_in d ++ names_in x) ∙ append_assoc old (names_in a) (names_in b ++ (names_in d ++ names_in x)) ∙ ap (λ ns. old ++ ns) (sym (opened_if a c b d chained x))

pub in_root : (old : Texts) (a : Expr) → old ++ names_in a ≡ old ++ names_in (e.Root a)
in_root old a = ap (λ ns. old ++ ns) (sym (opened_root a))

pub in_group : (old : Texts) (a : Expr) → old ++ names_in a ≡ old ++ names_in (e.Group a)
in_group old a = ap (λ ns. old ++ ns) (sym (opened_group a))

pub in_join : (old : Texts) (a b : Expr) → (old ++ names_in a) ++ names_in b ≡ old ++ names_in (e.Join a b)
in_join old a b = append_assoc old (names_in a) (names_in b) ∙ ap (λ ns. old ++ ns) (sym (opened_join a b))

pub in_concat : (old : Texts) (a b : Expr) → (old ++ names_in a) ++ names_in b ≡ old ++ names_in (e.Concat a b)
in_concat old a b = append_assoc old (names_in a) (names_in b) ∙ ap (λ ns. old ++ ns) (sym (opened_concat a b))

pub in_literal : (old : Texts) (s : StringLiteral) → old ≡ old ++ names_in (e.Literal s)
in_literal old s = sym (ap (λ ns. old ++ ns) (opened_literal s) ∙ append-nil old)

pub in_variable : (old : Texts) (n : Name) → old ++ n.text ∷ [] ≡ old ++ names_in (e.Variable n)
in_variable old n = ap (λ ns. old ++ ns) (sym (opened_variable n))

pub in_env : (old : Texts) (l c : ℕ) (a : Expr) → old ++ names_in a ≡ old ++ names_in (e.Env l c a None)
in_env old l c a = sym (ap (λ ns. old ++ ns) (opened_env l c a None ∙ append-nil (names_in a)))

pub in_env_default : (old : Texts) (l c : ℕ) (a d : Expr) → (old ++ names_in a) ++ names_in d ≡ old ++ names_in (e.Env l c a (Some d))
in_env_default old l c a d = append_assoc old (names_in a) (names_in d) ∙ ap (λ ns. old ++ ns) (sym (opened_env l c a (Some d)))
