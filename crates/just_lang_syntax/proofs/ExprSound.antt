-- Expressions: what the code reads is what the grammar says.
use Rattle.std.proofs.Common.{◌≡◌, ℕ, zero, suc, Bool, true, false, if◌then◌else◌, Option, Some, None, Ok, codes, sym, ap, ◌∙◌, subst, ⊎_elim}
use Rattle.just_lang_read.specs.Place.{Place, Rule, begins}
use Rattle.just_lang_read.specs.Reader.{Reader, and_then, pure}
use Rattle.just_lang_read.proofs.Laws.{bind_ok, choose, ok_value, ok_place}
use Rattle.just_lang_syntax.specs.declared.ast.Comparison.{Comparison}
use Rattle.just_lang_syntax.specs.declared.ast.Comparison.TheVariants.{Equal, Unequal}
use Rattle.just_lang_syntax.specs.declared.ast.Expr.{Expr}
use Rattle.just_lang_syntax.specs.declared.ast.Expr.TheVariants as e
use Rattle.just_lang_read.specs.Lines.{IsToken}
use Rattle.just_lang_syntax.specs.Places.{IsName}
use Rattle.just_lang_read.specs.Quotes.{begins_string}
use Rattle.just_lang_syntax.specs.Strings.{IsString}
use Rattle.just_lang_syntax.specs.Exprs.{begins_condition, is_call, IsComparison, IsDefault, IsValue, IsBlock, IsOtherwise, IsLevel, IsInner}
use Rattle.just_lang_syntax.specs.Exprs.IsComparison.{equal, unequal}
use Rattle.just_lang_syntax.specs.Exprs.IsValue.{literal, group, env, variable}
use Rattle.just_lang_syntax.specs.Exprs.IsBlock.{block}
use Rattle.just_lang_syntax.specs.Exprs.IsOtherwise.{last, further}
use Rattle.just_lang_syntax.specs.Exprs.IsLevel.{conditional, root, value, joined, concatenated}
use Rattle.just_lang_syntax.specs.Readers as reader
use Rattle.just_lang_read.specs.Tokens as tokens
use Rattle.just_lang_syntax.proofs.Tokens.{token_ok, word_ok, name_ok}
use Rattle.just_lang_syntax.proofs.StringLaws.{string_ok}

-- a comparison that is read stands there
pub comparison_ok : (p q : Place) (x : Comparison) → reader.comparison p ≡ Ok (x, q) → IsComparison p q x
unfolding reader.comparison
comparison_ok p q x h =
    ⊎_elim
    (λ (s : _).
    let (u, m, t, k) = bind_ok (tokens.token (codes "==") p) (λ _. pure Equal) x q s.1 in
    equal (subst (λ (r : Place). IsToken (codes "==") p r) (ok_place Equal x m q k) (token_ok (codes "==") p u m t)) (sym (ok_value Equal x m q k)))
    (λ (s : _).
    let (u, m, t, k) = bind_ok (tokens.token (codes "!=") p) (λ _. pure Unequal) x q s.1 in
    unequal (subst (λ (r : Place). IsToken (codes "!=") p r) (ok_place Unequal x m q k) (token_ok (codes "!=") p u m t)) (sym (ok_value Unequal x m q k)))
    (choose (begins (codes "==") p) (and_then (tokens.token (codes "==") p) (λ _. pure Equal)) (and_then (tokens.token (codes "!=") p) (λ _. pure Unequal)) (Ok (x, q)) h)

module _ (inner : Reader Expr) (Inner : Rule Expr) (reads : (p q : Place) (x : Expr) → inner p ≡ Ok (x, q) → Inner p q x) where
  -- an expression in parentheses that is read stands there
  group_ok : (p q : Place) (x : Expr) → reader.group inner p ≡ Ok (x, q) → IsValue Inner p q x
  unfolding reader.group
  group_ok p q x h =
      let (u, m, h1, k1) = bind_ok (tokens.token (codes "(") p) _ x q h in
      let (y, n, h2, k2) = bind_ok (inner m) _ x q k1 in
      let (v, o, h3, k3) = bind_ok (tokens.token (codes ")") n) _ x q k2 in
      group m n y (token_ok (codes "(") p u m h1) (reads m n y h2)
      (subst (λ (r : Place). IsToken (codes ")") n r) (ok_place (e.Group y) x o q k3) (token_ok (codes ")") n v o h3)) (sym (ok_value (e.Group y) x o q k3))

  -- a second argument of `env` that is read stands there
  default_ok : (p q : Place) (x : Option Expr) → reader.default inner p ≡ Ok (x, q) → IsDefault Inner p q x
  unfolding reader.default
  default_ok p q x h =
      ⊎_elim
      (λ (s : _).
      let (u, m, h1, k1) = bind_ok (tokens.token (codes ",") p) _ x q s.1 in
      let (y, n, h2, k2) = bind_ok (inner m) _ x q k1 in
      subst (λ (z : Option Expr). IsDefault Inner p q z) (ok_value (Some y) x n q k2)
      (m, token_ok (codes ",") p u m h1, subst (λ (r : Place). Inner m r y) (ok_place (Some y) x n q k2) (reads m n y h2)))
      (λ (s : _). subst (λ (z : Option Expr). IsDefault Inner p q z) (ok_value None x p q s.1) (s.0, sym (ok_place None x p q s.1)))
      (choose (begins (codes ",") p) (and_then (tokens.token (codes ",") p) (λ _ m. and_then (inner m) (λ y. pure (Some y)))) (Ok (None, p)) (Ok (x, q)) h)

  -- a call of `env` that is read stands there
  env_ok : (p q : Place) (x : Expr) → reader.env inner p ≡ Ok (x, q) → IsValue Inner p q x
  unfolding reader.env
  env_ok p q x h =
      let (u, m, h1, k1) = bind_ok (tokens.word (codes "env") p) _ x q h in
      let (v, n, h2, k2) = bind_ok (tokens.token (codes "(") m) _ x q k1 in
      let (key, o, h3, k3) = bind_ok (inner n) _ x q k2 in
      let (d, r, h4, k4) = bind_ok (reader.default inner o) _ x q k3 in
      let (w, s, h5, k5) = bind_ok (tokens.token (codes ")") r) _ x q k4 in
      env m n o r key d (word_ok (codes "env") p u m h1) (token_ok (codes "(") m v n h2) (reads n o key h3) (default_ok o r d h4)
      (subst (λ (l : Place). IsToken (codes ")") r l) (ok_place (e.Env p.line p.column key d) x s q k5) (token_ok (codes ")") r w s h5))
      (sym (ok_value (e.Env p.line p.column key d) x s q k5))

  -- a value that is read stands there
  pub value_ok : (p q : Place) (x : Expr) → reader.value inner p ≡ Ok (x, q) → IsValue Inner p q x
  unfolding reader.value
  value_ok p q x h =
      ⊎_elim
      (λ (s : _).
      let (t, m, h1, k1) = bind_ok (reader.string p) (λ t. pure (e.Literal t)) x q s.1 in
      let end : m ≡ q = ok_place (e.Literal t) x m q k1 in
      literal t (subst (λ (r : Place). IsString p r t) end (string_ok p m t h1)) (sym (ok_value (e.Literal t) x m q k1)))
      (λ (s : _).
      ⊎_elim (λ (t : _). group_ok p q x t.1)
      (λ (t : _).
      ⊎_elim (λ (u : _). env_ok p q x u.1)
      (λ (u : _).
      let (n, m, h1, k1) = bind_ok (reader.name p) (λ n. pure (e.Variable n)) x q u.1 in
      variable n s.0 u.0 (subst (λ (r : Place). IsName p r n) (ok_place (e.Variable n) x m q k1) (name_ok p n m h1)) (sym (ok_value (e.Variable n) x m q k1)))
      (choose (is_call p) (reader.env inner p) (and_then (reader.name p) (λ n. pure (e.Variable n))) (Ok (x, q)) t.1))
      (choose (begins (codes "(") p) (reader.group inner p) (if is_call p then reader.env inner p else and_then (reader.name p) (λ n. pure (e.Variable n))) (Ok (x, q)) s.1))
      (choose (begins_string p) (and_then (reader.string p) (λ t. pure (e.Literal t)))
      (if begins (codes "(") p then reader.group inner p else (if is_call p then reader.env inner p else and_then (reader.name p) (λ n. pure (e.Variable n)))) (Ok (x, q)) h)

  -- a block that is read stands there
  pub block_ok : (p q : Place) (x : Expr) → reader.block inner p ≡ Ok (x, q) → IsBlock Inner p q x
  unfolding reader.block
  block_ok p q x h =
      let (u, m, h1, k1) = bind_ok (tokens.token (codes "{") p) _ x q h in
      let (y, n, h2, k2) = bind_ok (inner m) _ x q k1 in
      let (v, o, h3, k3) = bind_ok (tokens.token (codes "}") n) _ x q k2 in
      let t : IsToken (codes "}") n q = subst (λ (r : Place). IsToken (codes "}") n r) (ok_place y x o q k3) (token_ok (codes "}") n v o h3) in
      block m n (token_ok (codes "{") p u m h1) (subst (λ (z : Expr). Inner m n z) (ok_value y x o q k3) (reads m n y h2)) t

  -- what is read behind `else` stands there
  otherwise_ok : (p q : Place) (x : Bool × Expr) → reader.otherwise inner p ≡ Ok (x, q) → IsOtherwise Inner p q x.0 x.1
  unfolding reader.otherwise
  otherwise_ok p q x h =
      ⊎_elim
      (λ (s : _).
      let (y, m, h1, k1) = bind_ok (inner p) (λ y. pure (true, y)) x q s.1 in
      let end : m ≡ q = ok_place (true, y) x m q k1 in
      let same : (true, y) ≡ x = ok_value (true, y) x m q k1 in
      further s.0 (subst (λ (z : Bool × Expr). Inner p q z.1) same (subst (λ (r : Place). Inner p r y) end (reads p m y h1))) (sym (ap (λ (z : Bool × Expr). z.0) same)))
      (λ (s : _).
      let (y, m, h1, k1) = bind_ok (reader.block inner p) (λ y. pure (false, y)) x q s.1 in
      let end : m ≡ q = ok_place (false, y) x m q k1 in
      let same : (false, y) ≡ x = ok_value (false, y) x m q k1 in
      last s.0 (subst (λ (z : Bool × Expr). IsBlock Inner p q z.1) same (subst (λ (r : Place). IsBlock Inner p r y) end (block_ok p m y h1)))
      (sym (ap (λ (z : Bool × Expr). z.0) same)))
      (choose (begins_condition p) (and_then (inner p) (λ y. pure (true, y))) (and_then (reader.block inner p) (λ y. pure (false, y))) (Ok (x, q)) h)

  -- the two sides of a condition
  pub record Sides (p q : Place) (x : Expr × Comparison × Expr) : Type 0 where
    pub m : Place
    pub n : Place
    pub left : Inner p m x.0
    pub sign : IsComparison m n x.1
    pub right : Inner n q x.2

  -- the two sides of a condition that are read stand there
  pub condition_ok : (p q : Place) (x : Expr × Comparison × Expr) → reader.condition inner p ≡ Ok (x, q) → Sides p q x
  unfolding reader.condition
  condition_ok p q x h =
      let (a, m, h1, k1) = bind_ok (inner p) _ x q h in
      let (c, n, h2, k2) = bind_ok (reader.comparison m) _ x q k1 in
      let (b, o, h3, k3) = bind_ok (inner n) _ x q k2 in
      subst (λ (z : Expr × Comparison × Expr). Sides p q z) (ok_value (a, c, b) x o q k3)
      (record { m = m; n = n; left = reads p m a h1; sign = comparison_ok m n c h2; right = subst (λ (r : Place). Inner n r b) (ok_place (a, c, b) x o q k3) (reads n o b h3) })

  -- a conditional that is read stands there
  conditional_ok : (p q : Place) (x : Expr) → begins_condition p ≡ true → reader.conditional inner p ≡ Ok (x, q) → IsLevel Inner p q x
  unfolding reader.conditional
  conditional_ok p q x b h =
      let (u, m, h1, k1) = bind_ok (tokens.token (codes "if") p) _ x q h in
      let (c, r, h2, k2) = bind_ok (reader.condition inner m) _ x q k1 in
      let (y, s, h3, k3) = bind_ok (reader.block inner r) _ x q k2 in
      let (v, t, h4, k4) = bind_ok (tokens.word (codes "else") s) _ x q k3 in
      let (o, l, h5, k5) = bind_ok (reader.otherwise inner t) _ x q k4 in
      let sides = condition_ok m r c h2 in
      let end : l ≡ q = ok_place (e.If c.0 c.1 c.2 y o.0 o.1) x l q k5 in
      conditional m sides.m sides.n r s t c.0 c.2 y o.1 c.1 o.0 b (token_ok (codes "if") p u m h1) sides.left sides.sign sides.right (block_ok r s y h3)
      (word_ok (codes "else") s v t h4) (subst (λ (w : Place). IsOtherwise Inner t w o.0 o.1) end (otherwise_ok t l o h5))
      (sym (ok_value (e.If c.0 c.1 c.2 y o.0 o.1) x l q k5))

  -- a slash and an expression that are read stand there
  root_ok : (p q : Place) (x : Expr) → reader.root inner p ≡ Ok (x, q) → IsLevel Inner p q x
  unfolding reader.root
  root_ok p q x h =
      let (u, m, h1, k1) = bind_ok (tokens.token (codes "/") p) _ x q h in
      let (y, n, h2, k2) = bind_ok (inner m) _ x q k1 in
      root m y (token_ok (codes "/") p u m h1) (subst (λ (r : Place). Inner m r y) (ok_place (e.Root y) x n q k2) (reads m n y h2)) (sym (ok_value (e.Root y) x n q k2))

  -- what is read behind a first value stands there
  tail_ok : (p m q : Place) (a x : Expr) → begins_condition p ≡ false → IsValue Inner p m a → reader.tail inner a m ≡ Ok (x, q) → IsLevel Inner p q x
  unfolding reader.tail
  tail_ok p m q a x c v h =
      ⊎_elim
      (λ (s : _).
      let (u, n, h1, k1) = bind_ok (tokens.token (codes "/") m) _ x q s.1 in
      let (b, o, h2, k2) = bind_ok (inner n) _ x q k1 in
      joined m n a b c v (token_ok (codes "/") m u n h1) (subst (λ (r : Place). Inner n r b) (ok_place (e.Join a b) x o q k2) (reads n o b h2)) (sym (ok_value (e.Join a b) x o q k2)))
      (λ (s : _).
      ⊎_elim
      (λ (t : _).
      let (u, n, h1, k1) = bind_ok (tokens.token (codes "+") m) _ x q t.1 in
      let (b, o, h2, k2) = bind_ok (inner n) _ x q k1 in
      concatenated m n a b c v (token_ok (codes "+") m u n h1) (subst (λ (r : Place). Inner n r b) (ok_place (e.Concat a b) x o q k2) (reads n o b h2))
      (sym (ok_value (e.Concat a b) x o q k2)))
      (λ (t : _).
      let end : m ≡ q = ok_place a x m q t.1 in
      value c (subst (λ (z : Expr). IsValue Inner p q z) (ok_value a x m q t.1) (subst (λ (r : Place). IsValue Inner p r a) end v))
      (ap (begins (codes "/")) (sym end) ∙ s.0) (ap (begins (codes "+")) (sym end) ∙ t.0))
      (choose (begins (codes "+") m) (and_then (tokens.token (codes "+") m) (λ _ n. and_then (inner n) (λ b. pure (e.Concat a b)))) (Ok (a, m)) (Ok (x, q)) s.1))
      (choose (begins (codes "/") m) (and_then (tokens.token (codes "/") m) (λ _ n. and_then (inner n) (λ b. pure (e.Join a b))))
      (if begins (codes "+") m then and_then (tokens.token (codes "+") m) (λ _ n. and_then (inner n) (λ b. pure (e.Concat a b))) else Ok (a, m)) (Ok (x, q)) h)

  -- an expression that is read stands there, if those inside it do
  pub level_ok : (p q : Place) (x : Expr) → reader.level inner p ≡ Ok (x, q) → IsLevel Inner p q x
  unfolding reader.level
  level_ok p q x h =
      ⊎_elim (λ (s : _). conditional_ok p q x s.0 s.1)
      (λ (s : _).
      ⊎_elim (λ (t : _). root_ok p q x t.1)
      (λ (t : _).
      let (a, m, h1, k1) = bind_ok (reader.value inner p) (reader.tail inner) x q t.1 in
      tail_ok p m q a x s.0 (value_ok p m a h1) k1)
      (choose (begins (codes "/") p) (reader.root inner p) (and_then (reader.value inner p) (reader.tail inner)) (Ok (x, q)) s.1))
      (choose (begins_condition p) (reader.conditional inner p) (if begins (codes "/") p then reader.root inner p else and_then (reader.value inner p) (reader.tail inner)) (Ok (x, q)) h)

-- an expression that is read inside another one stands there
pub inner_ok : (left : ℕ) (p q : Place) (x : Expr) → reader.inner left p ≡ Ok (x, q) → IsInner left p q x
unfolding reader.inner IsInner
inner_ok zero p q x h = absurd (let no : ⊥ = cc (h) in no)
inner_ok (suc left) p q x h = level_ok (reader.inner left) (IsInner left) (inner_ok left) p q x h
