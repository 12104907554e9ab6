-- Expressions that are too deep: those that the code finds so, and those that the grammar says are.
use Rattle.std.proofs.Common.{◌≡◌, ℕ, zero, suc, true, false, ◌⊎◌, inl, inr, [], ◌∷◌, Ok, Err, codes, refl, ap, ◌∙◌, ⊎_elim}
use Rattle.just_lang_read.specs.Place.{Place, Rule, begins}
use Rattle.just_lang_read.specs.Reader.{Reader}
use Rattle.just_lang_read.specs.declared.error.ReadError.TheVariants.{Depth}
use Rattle.just_lang_read.proofs.Laws.{choose}
use Rattle.just_lang_syntax.specs.declared.ast.Comparison.{Comparison}
use Rattle.just_lang_syntax.specs.declared.ast.Expr.{Expr}
use Rattle.just_lang_read.specs.Characters.{begins_name}
use Rattle.just_lang_read.specs.Lines.{behind_word, IsToken, IsWord}
use Rattle.just_lang_read.specs.Quotes.{begins_string}
use Rattle.just_lang_syntax.specs.Exprs.{begins_condition, is_call, IsComparison, IsValue, IsBlock, IsInner}
use Rattle.just_lang_syntax.specs.Deep.{IsDeepValue, IsDeepBlock, IsDeepLevel, IsTooDeep, IsDeepExpr}
use Rattle.just_lang_syntax.specs.Deep.IsDeepValue.{group, env_key, env_default}
use Rattle.just_lang_syntax.specs.Deep.IsDeepBlock.{block}
use Rattle.just_lang_syntax.specs.Deep.IsDeepLevel.{left_side, right_side, consequent, alternative, further, root, value, joined, concatenated}
use Rattle.just_lang_syntax.specs.ItemReaders as item
use Rattle.just_lang_syntax.specs.Readers as reader
use Rattle.just_lang_read.specs.Tokens as tokens
use Rattle.just_lang_read.proofs.Laws.{begins_first, begins_starts, begins_other}
use Rattle.just_lang_syntax.proofs.Beginnings.{no_string, word_behind, word_begins}
use Rattle.just_lang_syntax.proofs.Tokens.{token_ok, token_again, word_ok, word_again}
use Rattle.just_lang_syntax.proofs.ExprSound.{comparison_ok, value_ok, block_ok, Sides, condition_ok, inner_ok}
use Rattle.just_lang_syntax.proofs.ExprComplete.{comparison_again, condition_again, block_again, value_again, value_begins, no_condition, inner_again}
use Rattle.just_lang_syntax.proofs.DeepChains.{shallow_ok, shallow_gives, depth_either, depth_behind, depth_first}
use Rattle.just_lang_syntax.proofs.DeepNone.{token_shallow, word_shallow, name_shallow, string_shallow, comparison_shallow}

module _ (inner : Reader Expr) (Inner : Rule Expr) (Deep : Place → Type 0)
    (reads : (p q : Place) (x : Expr) → inner p ≡ Ok (x, q) → Inner p q x)
    (deep : (p : Place) → inner p ≡ Err Depth → Deep p) where
  -- parentheses that the code finds too deep are
  group_deep_ok : (p : Place) → reader.group inner p ≡ Err Depth → IsDeepValue Inner Deep p
  unfolding reader.group
  group_deep_ok p h =
      let (u, m, t, k) = depth_behind (tokens.token (codes "(") p) _ (token_shallow (codes "(") p) h in
      group m (token_ok (codes "(") p u m t)
      (deep m (depth_first (inner m) _ (λ y n j. shallow_gives (tokens.token (codes ")") n) _ (token_shallow (codes ")") n) j) k))

  -- a second argument of `env` that the code finds too deep is
  default_deep_ok : (p : Place) → reader.default inner p ≡ Err Depth → (m : Place) × IsToken (codes ",") p m × Deep m
  unfolding reader.default
  default_deep_ok p h =
      ⊎_elim
      (λ (s : _).
      let (u, m, t, k) = depth_behind (tokens.token (codes ",") p) _ (token_shallow (codes ",") p) s.1 in
      (m, token_ok (codes ",") p u m t, deep m (depth_first (inner m) _ (λ y n j. shallow_ok _ j) k)))
      (λ (s : _). absurd (shallow_ok _ s.1))
      (choose (begins (codes ",") p) _ _ (Err Depth) h)

  -- a call of `env` that the code finds too deep is
  env_deep_ok : (p : Place) → reader.env inner p ≡ Err Depth → IsDeepValue Inner Deep p
  unfolding reader.env
  env_deep_ok p h =
      let (u, m, w, k) = depth_behind (tokens.word (codes "env") p) _ (word_shallow (codes "env") p) h in
      let (v, n, t, i) = depth_behind (tokens.token (codes "(") m) _ (token_shallow (codes "(") m) k in
      let call : IsWord (codes "env") p m = word_ok (codes "env") p u m w in
      let opens : IsToken (codes "(") m n = token_ok (codes "(") m v n t in
      ⊎_elim (λ (s : _). env_key m n call opens (deep n s))
      (λ (s : _).
      let (key, o, l, j) = s in
      let (r, c, d) = default_deep_ok o (depth_first (reader.default inner o) _ (λ x r g. shallow_gives (tokens.token (codes ")") r) _ (token_shallow (codes ")") r) g) j) in
      env_default m n o r key call opens (reads n o key l) c d)
      (depth_either (inner n) _ i)

  -- a value that the code finds too deep is
  pub value_deep_ok : (p : Place) → reader.value inner p ≡ Err Depth → IsDeepValue Inner Deep p
  unfolding reader.value
  value_deep_ok p h =
      ⊎_elim (λ (s : _). absurd (shallow_gives (reader.string p) _ (string_shallow p) s.1))
      (λ (s : _).
      ⊎_elim (λ (t : _). group_deep_ok p t.1)
      (λ (t : _).
      ⊎_elim (λ (u : _). env_deep_ok p u.1) (λ (u : _). absurd (shallow_gives (reader.name p) _ (name_shallow p) u.1))
      (choose (is_call p) _ _ (Err Depth) t.1))
      (choose (begins (codes "(") p) _ _ (Err Depth) s.1))
      (choose (begins_string p) _ _ (Err Depth) h)

  -- braces that the code finds too deep are
  block_deep_ok : (p : Place) → reader.block inner p ≡ Err Depth → IsDeepBlock Inner Deep p
  unfolding reader.block
  block_deep_ok p h =
      let (u, m, t, k) = depth_behind (tokens.token (codes "{") p) _ (token_shallow (codes "{") p) h in
      block m (token_ok (codes "{") p u m t)
      (deep m (depth_first (inner m) _ (λ y n j. shallow_gives (tokens.token (codes "}") n) _ (token_shallow (codes "}") n) j) k))

  -- what follows `else` is found too deep as a further `if` or in its braces
  otherwise_deep_ok : (p : Place) → reader.otherwise inner p ≡ Err Depth
      → ((begins_condition p ≡ true) × Deep p) ⊎ ((begins_condition p ≡ false) × IsDeepBlock Inner Deep p)
  unfolding reader.otherwise
  otherwise_deep_ok p h =
      ⊎_elim (λ (s : _). inl (s.0, deep p (depth_first (inner p) _ (λ y n j. shallow_ok _ j) s.1)))
      (λ (s : _). inr (s.0, block_deep_ok p (depth_first (reader.block inner p) _ (λ y n j. shallow_ok _ j) s.1)))
      (choose (begins_condition p) _ _ (Err Depth) h)

  -- a condition is found too deep on one of its sides
  condition_deep_ok : (p m : Place) → begins_condition p ≡ true → IsToken (codes "if") p m → reader.condition inner m ≡ Err Depth → IsDeepLevel Inner Deep p
  unfolding reader.condition
  condition_deep_ok p m b t h =
      ⊎_elim (λ (s : _). left_side m b t (deep m s))
      (λ (s : _).
      let (left, n, l, k) = s in
      let (c, o, g, j) = depth_behind (reader.comparison n) _ (comparison_shallow n) k in
      right_side m n o left c b t (reads m n left l) (comparison_ok n o c g) (deep o (depth_first (inner o) _ (λ x r i. shallow_ok _ i) j)))
      (depth_either (inner m) _ h)

  -- an `if` that the code finds too deep is
  conditional_deep_ok : (p : Place) → begins_condition p ≡ true → reader.conditional inner p ≡ Err Depth → IsDeepLevel Inner Deep p
  unfolding reader.conditional
  conditional_deep_ok p b h =
      let (u, m, t, k) = depth_behind (tokens.token (codes "if") p) _ (token_shallow (codes "if") p) h in
      let opens : IsToken (codes "if") p m = token_ok (codes "if") p u m t in
      ⊎_elim (λ (s : _). condition_deep_ok p m b opens s)
      (λ (s : _).
      let (c, r, g, i) = s in
      let sides : Sides inner Inner reads m r c = condition_ok inner Inner reads m r c g in
      ⊎_elim (λ (d : _). consequent m sides.m sides.n r c.0 c.2 c.1 b opens sides.left sides.sign sides.right (block_deep_ok r d))
      (λ (d : _).
      let (y, o, l, j) = d in
      let (v, q, w, a) = depth_behind (tokens.word (codes "else") o) _ (word_shallow (codes "else") o) j in
      let then_part : IsBlock Inner r o y = block_ok inner Inner reads r o y l in
      let last : IsWord (codes "else") o q = word_ok (codes "else") o v q w in
      ⊎_elim
      (λ (f : _). further m sides.m sides.n r o q c.0 c.2 y c.1 b opens sides.left sides.sign sides.right then_part last f.0 f.1)
      (λ (f : _). alternative m sides.m sides.n r o q c.0 c.2 y c.1 b opens sides.left sides.sign sides.right then_part last f.0 f.1)
      (otherwise_deep_ok q (depth_first (reader.otherwise inner q) _ (λ x n f. shallow_ok _ f) a)))
      (depth_either (reader.block inner r) _ i))
      (depth_either (reader.condition inner m) _ k)

  -- a leading slash that the code finds too deep is
  root_deep_ok : (p : Place) → reader.root inner p ≡ Err Depth → IsDeepLevel Inner Deep p
  unfolding reader.root
  root_deep_ok p h =
      let (u, m, t, k) = depth_behind (tokens.token (codes "/") p) _ (token_shallow (codes "/") p) h in
      root m (token_ok (codes "/") p u m t) (deep m (depth_first (inner m) _ (λ y n j. shallow_ok _ j) k))

  -- what follows a value and is found too deep is
  tail_deep_ok : (p m : Place) (a : Expr) → begins_condition p ≡ false → IsValue Inner p m a → reader.tail inner a m ≡ Err Depth → IsDeepLevel Inner Deep p
  unfolding reader.tail
  tail_deep_ok p m a c v h =
      ⊎_elim
      (λ (s : _).
      let (u, n, t, k) = depth_behind (tokens.token (codes "/") m) _ (token_shallow (codes "/") m) s.1 in
      joined m n a c v (token_ok (codes "/") m u n t) (deep n (depth_first (inner n) _ (λ y o j. shallow_ok _ j) k)))
      (λ (s : _).
      ⊎_elim
      (λ (t : _).
      let (u, n, i, k) = depth_behind (tokens.token (codes "+") m) _ (token_shallow (codes "+") m) t.1 in
      concatenated m n a c v (token_ok (codes "+") m u n i) (deep n (depth_first (inner n) _ (λ y o j. shallow_ok _ j) k)))
      (λ (t : _). absurd (shallow_ok _ t.1))
      (choose (begins (codes "+") m) _ _ (Err Depth) s.1))
      (choose (begins (codes "/") m) _ _ (Err Depth) h)

  -- an expression is found too deep where it is, if those inside it are
  level_deep_ok : (p : Place) → reader.level inner p ≡ Err Depth → IsDeepLevel Inner Deep p
  unfolding reader.level
  level_deep_ok p h =
      ⊎_elim (λ (s : _). conditional_deep_ok p s.0 s.1)
      (λ (s : _).
      ⊎_elim (λ (t : _). root_deep_ok p t.1)
      (λ (t : _).
      ⊎_elim (λ (d : _). value s.0 (value_deep_ok p d))
      (λ (d : _). let (a, m, v, k) = d in tail_deep_ok p m a s.0 (value_ok inner Inner reads p m a v) k)
      (depth_either (reader.value inner p) _ t.1))
      (choose (begins (codes "/") p) _ _ (Err Depth) s.1))
      (choose (begins_condition p) _ _ (Err Depth) h)

-- an expression inside others that the code finds too deep is
pub inner_deep_ok : (left : ℕ) (p : Place) → reader.inner left p ≡ Err Depth → IsTooDeep left p
unfolding reader.inner IsTooDeep
inner_deep_ok zero p h = tt
inner_deep_ok (suc left) p h = level_deep_ok (reader.inner left) (IsInner left) (IsTooDeep left) (inner_ok left) (inner_deep_ok left) p h

-- an expression that the code finds too deep is
pub expr_deep_ok : (p : Place) → item.expr p ≡ Err Depth → IsDeepExpr p
expr_deep_ok p h = level_deep_ok (reader.inner 256) (IsInner 256) (IsTooDeep 256) (inner_ok 256) (inner_deep_ok 256) p h

-- ---- what the grammar says is too deep is found so

module _ (inner : Reader Expr) (Inner : Rule Expr) (Deep : Place → Type 0)
    (again : (p q : Place) (x : Expr) → Inner p q x → inner p ≡ Ok (x, q))
    (deep : (p : Place) → Deep p → inner p ≡ Err Depth) where
  -- parentheses that are too deep are found so
  group_deep_again : (p m : Place) → IsToken (codes "(") p m → Deep m → reader.group inner p ≡ Err Depth
  unfolding reader.group
  group_deep_again p m t d = rw (token_again (codes "(") p m t, deep m d) refl

  -- a call of `env` whose first argument is too deep is found so
  env_key_again : (p m n : Place) → IsWord (codes "env") p m → IsToken (codes "(") m n → Deep n → reader.env inner p ≡ Err Depth
  unfolding reader.env
  env_key_again p m n w t d = rw (word_again (codes "env") p m w, token_again (codes "(") m n t, deep n d) refl

  -- a second argument that is too deep is found so
  default_deep_again : (p m : Place) → IsToken (codes ",") p m → Deep m → reader.default inner p ≡ Err Depth
  unfolding reader.default
  default_deep_again p m t d = rw (t.0, token_again (codes ",") p m t, deep m d) refl

  -- and the call that has it
  env_default_again : (p m n o r : Place) (key : Expr) → IsWord (codes "env") p m → IsToken (codes "(") m n → Inner n o key → IsToken (codes ",") o r → Deep r
      → reader.env inner p ≡ Err Depth
  unfolding reader.env
  env_default_again p m n o r key w t i c d =
      rw (word_again (codes "env") p m w, token_again (codes "(") m n t, again n o key i, default_deep_again o r c d) refl

  -- where `env` and a parenthesis stand the value is a call of it
  env_called : (p m n : Place) → IsWord (codes "env") p m → IsToken (codes "(") m n → reader.value inner p ≡ reader.env inner p
  unfolding reader.value
  env_called p m n w t =
      let b : begins (codes "env") p ≡ true = word_begins (codes "env") p m w in
      let call : begins (codes "(") (behind_word p) ≡ true = ap (begins (codes "(")) (word_behind (codes "env") p m refl w) ∙ t.0 in
      rw (
        no_string 101 (110 ∷ 118 ∷ []) p b refl refl,
        begins_other 101 40 [] p (begins_first 101 (110 ∷ 118 ∷ []) p b) refl,
        begins_starts begins_name 101 (110 ∷ 118 ∷ []) p b,
        call,
      ) refl

  -- where a parenthesis stands the value is a group
  group_called : (p m : Place) → IsToken (codes "(") p m → reader.value inner p ≡ reader.group inner p
  unfolding reader.value
  group_called p m t = rw (no_string 40 [] p t.0 refl refl, t.0) refl

  -- a value that is too deep is found so
  pub value_deep_again : (p : Place) → IsDeepValue Inner Deep p → reader.value inner p ≡ Err Depth
  value_deep_again p (group m t d) = group_called p m t ∙ group_deep_again p m t d
  value_deep_again p (env_key m n w t d) = env_called p m n w t ∙ env_key_again p m n w t d
  value_deep_again p (env_default m n o r key w t i c d) = env_called p m n w t ∙ env_default_again p m n o r key w t i c d

  -- braces that are too deep are found so
  block_deep_again : (p : Place) → IsDeepBlock Inner Deep p → reader.block inner p ≡ Err Depth
  unfolding reader.block
  block_deep_again p (block m t d) = rw (token_again (codes "{") p m t, deep m d) refl

  -- a condition whose left side is too deep is found so
  left_again : (p : Place) → Deep p → reader.condition inner p ≡ Err Depth
  unfolding reader.condition
  left_again p d = rw (deep p d) refl

  -- a condition whose right side is too deep is found so
  right_again : (p m n : Place) (left : Expr) (c : Comparison) → Inner p m left → IsComparison m n c → Deep n → reader.condition inner p ≡ Err Depth
  unfolding reader.condition
  right_again p m n left c i g d = rw (again p m left i, comparison_again m n c g, deep n d) refl

  -- so is an `if` with such a condition
  condition_deep_again : (p m : Place) → IsToken (codes "if") p m → reader.condition inner m ≡ Err Depth → reader.conditional inner p ≡ Err Depth
  unfolding reader.conditional
  condition_deep_again p m t h = rw (token_again (codes "if") p m t, h) refl

  -- an `if` whose first braces are too deep is found so
  consequent_again : (p m n o r : Place) (left right : Expr) (c : Comparison) → IsToken (codes "if") p m → Inner m n left → IsComparison n o c → Inner o r right
      → IsDeepBlock Inner Deep r → reader.conditional inner p ≡ Err Depth
  unfolding reader.conditional
  consequent_again p m n o r left right c t i g j d =
      rw (token_again (codes "if") p m t, condition_again inner Inner again m n o r left right c i g j, block_deep_again r d) refl

  -- an `if` is found too deep where what follows its `else` is
  otherwise_deep_again : (p m n o r s t : Place) (left right then_part : Expr) (c : Comparison) → IsToken (codes "if") p m → Inner m n left → IsComparison n o c
      → Inner o r right → IsBlock Inner r s then_part → IsWord (codes "else") s t → reader.otherwise inner t ≡ Err Depth → reader.conditional inner p ≡ Err Depth
  unfolding reader.conditional
  otherwise_deep_again p m n o r s t left right then_part c u i g j b w h =
      rw (
        token_again (codes "if") p m u,
        condition_again inner Inner again m n o r left right c i g j,
        block_again inner Inner again r s then_part b,
        word_again (codes "else") s t w,
        h,
      ) refl

  -- braces behind `else` that are too deep are found so
  last_again : (p : Place) → begins_condition p ≡ false → IsDeepBlock Inner Deep p → reader.otherwise inner p ≡ Err Depth
  unfolding reader.otherwise
  last_again p b d = rw (b, block_deep_again p d) refl

  -- a further `if` that is too deep is found so
  further_again : (p : Place) → begins_condition p ≡ true → Deep p → reader.otherwise inner p ≡ Err Depth
  unfolding reader.otherwise
  further_again p b d = rw (b, deep p d) refl

  -- a leading slash that is too deep is found so
  root_deep_again : (p m : Place) → IsToken (codes "/") p m → Deep m → reader.root inner p ≡ Err Depth
  unfolding reader.root
  root_deep_again p m t d = rw (token_again (codes "/") p m t, deep m d) refl

  -- what a slash joins and is too deep is found so
  slash_deep_again : (a : Expr) (m n : Place) → IsToken (codes "/") m n → Deep n → reader.tail inner a m ≡ Err Depth
  unfolding reader.tail
  slash_deep_again a m n t d = rw (t.0, token_again (codes "/") m n t, deep n d) refl

  -- what a plus joins and is too deep is found so
  plus_deep_again : (a : Expr) (m n : Place) → IsToken (codes "+") m n → Deep n → reader.tail inner a m ≡ Err Depth
  unfolding reader.tail
  plus_deep_again a m n t d = rw (begins_other 43 47 [] m (begins_first 43 [] m t.0) refl, t.0, token_again (codes "+") m n t, deep n d) refl

  -- no value that is too deep begins with a slash
  deep_begins : (p : Place) → IsDeepValue Inner Deep p → begins (codes "/") p ≡ false
  deep_begins p (group m t d) = begins_other 40 47 [] p (begins_first 40 [] p t.0) refl
  deep_begins p (env_key m n w t d) = begins_other 101 47 [] p (begins_first 101 (110 ∷ 118 ∷ []) p (word_begins (codes "env") p m w)) refl
  deep_begins p (env_default m n o r key w t i c d) =
      begins_other 101 47 [] p (begins_first 101 (110 ∷ 118 ∷ []) p (word_begins (codes "env") p m w)) refl

  -- an expression that is too deep is found so, if those inside it are
  level_deep_again : (p : Place) → IsDeepLevel Inner Deep p → reader.level inner p ≡ Err Depth
  unfolding reader.level
  level_deep_again p (left_side m b t d) = rw (b) (condition_deep_again p m t (left_again m d))
  level_deep_again p (right_side m n o left c b t i g d) = rw (b) (condition_deep_again p m t (right_again m n o left c i g d))
  level_deep_again p (consequent m n o r left right c b t i g j d) = rw (b) (consequent_again p m n o r left right c t i g j d)
  level_deep_again p (alternative m n o r s t left right y c b u i g j k w n' d) =
      rw (b) (otherwise_deep_again p m n o r s t left right y c u i g j k w (last_again t n' d))
  level_deep_again p (further m n o r s t left right y c b u i g j k w f d) =
      rw (b) (otherwise_deep_again p m n o r s t left right y c u i g j k w (further_again t f d))
  level_deep_again p (root m t d) = rw (no_condition inner Inner again p t.0, t.0) (root_deep_again p m t d)
  level_deep_again p (value b d) = rw (b, deep_begins p d, value_deep_again p d) refl
  level_deep_again p (joined m n a b v t d) =
      rw (b, value_begins inner Inner again p m a v, value_again inner Inner again p m a v) (slash_deep_again a m n t d)
  level_deep_again p (concatenated m n a b v t d) =
      rw (b, value_begins inner Inner again p m a v, value_again inner Inner again p m a v) (plus_deep_again a m n t d)

-- an expression inside others that is too deep is found so
pub inner_deep_again : (left : ℕ) (p : Place) → IsTooDeep left p → reader.inner left p ≡ Err Depth
unfolding reader.inner IsTooDeep
inner_deep_again zero p d = refl
inner_deep_again (suc left) p d = level_deep_again (reader.inner left) (IsInner left) (IsTooDeep left) (inner_again left) (inner_deep_again left) p d

-- an expression that is too deep is found so
pub expr_deep_again : (p : Place) → IsDeepExpr p → item.expr p ≡ Err Depth
expr_deep_again p d = level_deep_again (reader.inner 256) (IsInner 256) (IsTooDeep 256) (inner_again 256) (inner_deep_again 256) p d
