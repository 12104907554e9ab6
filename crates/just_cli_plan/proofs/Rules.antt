-- A layout breaks one first rule, where that isn't one on the size of patterns.
use Rattle.std.proofs.Common.{◌≡◌, ◌≢◌, ◌==◌, ℕ, inl, inr, Bool, false, not, cond, nat_lt, List, [], ◌∷◌, Option, Some, None, option_map, refl, sym, ap, ◌∙◌, subst, arith}
use Rattle.std.proofs.Math.Path.{fun_ext}
use Rattle.std.specs.Cmp.{both_ways}
use Rattle.just_lang_types.specs.declared.error.CompileKind.{CompileKind}
use Rattle.just_lang_types.specs.declared.error.CompileKind.TheVariants as kind
use Rattle.just_lang_types.specs.declared.project.LangError.{LangError}
use Rattle.just_lang_layout.specs.declared.layout.Layout.{Layout}
use Rattle.just_lang_layout.specs.Laid.{path_of}
use Rattle.just_lang_layout.specs.Paths.{Pairs}
use Rattle.just_lang_spots.specs.declared.spot.Spot.{Spot}
use Rattle.just_lang_spots.specs.Spots.{comes_before, first_spot}
use Rattle.just_lang_spots.specs.Standing.{Wins}
use Rattle.just_lang_rulebook.specs.declared.broken.Broken.{Broken}
use Rattle.just_lang_rulebook.specs.Rules.{not_constant_spots}
use Rattle.just_lang.specs.Cycles.{IsFirstSpot}
use Rattle.just_lang.specs.Errors.{error_of_rule, error_of_constant, BreaksNone, IsErrorIn}
use Rattle.just_lang.specs.Order.{broken, IsFirstBroken}
use Rattle.just_lang.specs.Projects.{AreWins, HasError}
use Rattle.just_lang.specs.Rules.{kinds, Breaks, IsFirstRule}
use Rattle.just_cli_plan.specs.OneProject.{IsDetermined}

-- ---- options

never_some : {A : Type 0} (x : A) → ◌≡◌ {A = Option A} None (Some x) → ⊥
never_some x e = let no : ⊥ = cc in no

held : {A : Type 0} (o : Option A) (x y : A) → o ≡ Some x → o ≡ Some y → x ≡ y
held o x y p q = let both : Some x ≡ Some y = sym p ∙ q in cc

-- ---- which files win

-- a layout has one such relation
pub one_wins : (layout : Layout) (v w : Wins) → AreWins layout v → AreWins layout w → v ≡ w
one_wins layout v w h k = fun_ext (λ f. fun_ext (λ g. both_ways (v f g) (w f g) (λ t. (k f g).1 ((h f g).0 t)) (λ t. (h f g).1 ((k f g).0 t))))

-- ---- places

-- neither of two numbers is the lesser
abbrev level : ℕ → ℕ → Bool → Bool
level m n behind = cond (not (m == n)) (nat_lt m n) behind

level_same : (m n : ℕ) (p q : Bool) → level m n p ≡ false → level n m q ≡ false → m ≡ n
level_same m n p q h k = grind arith

level_behind : (m n : ℕ) (p : Bool) → m ≡ n → level m n p ≡ false → p ≡ false
level_behind m n p e h = grind arith

last_same : (m n : ℕ) → nat_lt m n ≡ false → nat_lt n m ≡ false → m ≡ n
last_same m n h k = grind arith

same_fields : (s t : Spot) → s.file ≡ t.file → s.line ≡ t.line → s.column ≡ t.column → s ≡ t
same_fields s t file line column = rw (file, line, column)

-- neither of two places comes before the other
same_spot : (s t : Spot) → comes_before s t ≡ false → comes_before t s ≡ false → s ≡ t
same_spot s t h k =
    let file : s.file ≡ t.file = level_same s.file t.file (level s.line t.line (nat_lt s.column t.column)) (level t.line s.line (nat_lt t.column s.column)) h k in
    let h' : level s.line t.line (nat_lt s.column t.column) ≡ false = level_behind s.file t.file (level s.line t.line (nat_lt s.column t.column)) file h in
    let k' : level t.line s.line (nat_lt t.column s.column) ≡ false = level_behind t.file s.file (level t.line s.line (nat_lt t.column s.column)) (sym file) k in
    let line : s.line ≡ t.line = level_same s.line t.line (nat_lt s.column t.column) (nat_lt t.column s.column) h' k' in
    same_fields s t file line
    (last_same s.column t.column (level_behind s.line t.line (nat_lt s.column t.column) line h') (level_behind t.line s.line (nat_lt t.column s.column) (sym line) k'))

-- a set has one first place
one_spot : (P : Spot → Type 0) (o q : Option Spot) → IsFirstSpot P o → IsFirstSpot P q → o ≡ q
unfolding IsFirstSpot
one_spot P None None h k = refl
one_spot P None (Some t) h k = absurd (h t k.0)
one_spot P (Some s) None h k = absurd (k s h.0)
one_spot P (Some s) (Some t) h k = ap Some (same_spot s t (k.1 s h.0) (h.1 t k.0))

-- ---- rules

-- the rule isn't the one on the size of patterns
abbrev IsOfOther : Option Broken → Type 0
IsOfOther None = Unit {0}
IsOfOther (Some b) = b.kind ≢ kind.ArgumentPatternSize

module _ (environ : Pairs) (wins : Wins) (layout : Layout) where
  -- the places of such a rule don't depend on which patterns are too big
  carried : (big large : List Spot) (k : CompileKind) → k ≢ kind.ArgumentPatternSize → (o : Option Spot) → IsFirstSpot (Breaks environ wins layout big k) o → IsFirstSpot (Breaks environ wins layout large k) o
  carried big large kind.Syntax n o h = h
  carried big large kind.Unsupported n o h = h
  carried big large kind.Depth n o h = h
  carried big large kind.SourceLimit n o h = h
  carried big large kind.ShellExpansion n o h = h
  carried big large kind.UnknownSetting n o h = h
  carried big large kind.DuplicateSetting n o h = h
  carried big large kind.UnknownAttribute n o h = h
  carried big large kind.DuplicateAttribute n o h = h
  carried big large kind.AttributeConflict n o h = h
  carried big large kind.DuplicateRecipe n o h = h
  carried big large kind.DuplicateVariable n o h = h
  carried big large kind.DuplicateAlias n o h = h
  carried big large kind.DuplicateParameter n o h = h
  carried big large kind.RequiredParameterFollowsDefault n o h = h
  carried big large kind.UndefinedVariable n o h = h
  carried big large kind.UnknownAliasTarget n o h = h
  carried big large kind.UnknownDependency n o h = h
  carried big large kind.DependencyArgumentCount n o h = h
  carried big large kind.DependencyIsOption n o h = h
  carried big large kind.CircularVariable n o h = h
  carried big large kind.CircularRecipe n o h = h
  carried big large kind.UnknownArgParameter n o h = h
  carried big large kind.ArgumentPatternRegex n o h = h
  carried big large kind.ArgumentPatternSize n o h = absurd (n refl)
  carried big large kind.GuardAndInfallible n o h = h
  carried big large kind.DuplicateDefault n o h = h

  module _ (big large : List Spot) where
    one_place : (k : CompileKind) → k ≢ kind.ArgumentPatternSize → (o q : Option Spot) → IsFirstSpot (Breaks environ wins layout big k) o → IsFirstSpot (Breaks environ wins layout large k) q → o ≡ q
    one_place k n o q h g = one_spot (Breaks environ wins layout large k) o q (carried big large k n o h) g

    other_kind : (k : CompileKind) (spot : Spot) (a : Option Broken) → a ≡ Some (broken k spot) → IsOfOther a → k ≢ kind.ArgumentPatternSize
    other_kind k spot a e m = subst (λ (x : Option Broken). IsOfOther x) e m

    -- of some kinds of rules one is broken first
    one_broken : (ks : List CompileKind) (a b : Option Broken) → IsFirstBroken (Breaks environ wins layout big) ks a → IsFirstBroken (Breaks environ wins layout large) ks b → IsOfOther a → IsOfOther b → a ≡ b
    one_broken [] a b h k m n = h ∙ sym k
    one_broken (x ∷ xs) a b (inl h) (inl k) m n =
        h.2 ∙ ap (λ (o : Option Spot). option_map (broken x) o) (one_place x (other_kind x h.0 a h.2 m) (Some h.0) (Some k.0) h.1 k.1) ∙ sym k.2
    one_broken (x ∷ xs) a b (inl h) (inr k) m n = absurd (never_some h.0 (sym (one_place x (other_kind x h.0 a h.2 m) (Some h.0) None h.1 k.0)))
    one_broken (x ∷ xs) a b (inr h) (inl k) m n = absurd (never_some k.0 (one_place x (other_kind x k.0 b k.2 n) None (Some k.0) h.0 k.1))
    one_broken (x ∷ xs) a b (inr h) (inr k) m n = one_broken xs a b h.1 k.1 m n

  one_rule : (a b : Option Broken) → IsFirstRule environ wins layout a → IsFirstRule environ wins layout b → IsOfOther a → IsOfOther b → a ≡ b
  unfolding IsFirstRule
  one_rule a b h k m n = one_broken h.0 k.0 kinds a b h.2 k.2 m n

  -- ---- errors

  -- the rule of an error that sources determine is another one
  determined : (b : Broken) (e : LangError) → e ≡ error_of_rule layout b → IsDetermined e → IsOfOther (Some b)
  determined b e is d = d (record { kind = b.kind; path = path_of layout.files b.spot.file; line = b.spot.line; column = b.spot.column }) is

  same_rule : (b c : Broken) → IsFirstRule environ wins layout (Some b) → IsFirstRule environ wins layout (Some c) → IsOfOther (Some b) → IsOfOther (Some c) → b ≡ c
  same_rule b c h k m n = held (Some b) b c refl (one_rule (Some b) (Some c) h k m n)

  no_rule : (b : Broken) → IsFirstRule environ wins layout None → IsFirstRule environ wins layout (Some b) → IsOfOther (Some b) → ⊥
  no_rule b h k n = never_some b (one_rule None (Some b) h k tt n)

  -- a layout has one error
  one_error_in : (e f : LangError) → IsErrorIn environ wins layout e → IsErrorIn environ wins layout f → IsDetermined e → IsDetermined f → e ≡ f
  unfolding IsErrorIn
  one_error_in e f (inl h) (inl k) m n =
      h.2 ∙ ap (λ (b : Broken). error_of_rule layout b) (same_rule h.0 k.0 h.1 k.1 (determined h.0 e h.2 m) (determined k.0 f k.2 n)) ∙ sym k.2
  one_error_in e f (inl h) (inr k) m n = absurd (no_rule h.0 k.0 h.1 (determined h.0 e h.2 m))
  one_error_in e f (inr h) (inl k) m n = absurd (no_rule k.0 h.0 k.1 (determined k.0 f k.2 n))
  one_error_in e f (inr h) (inr k) m n =
      h.3 ∙ ap (λ (s : Spot). error_of_constant layout s) (held (first_spot (not_constant_spots layout)) h.1 k.1 h.2 k.2) ∙ sym k.3

  -- and none where it breaks no rule
  none_or_error : (e : LangError) → BreaksNone environ wins layout → IsErrorIn environ wins layout e → IsDetermined e → ⊥
  unfolding IsErrorIn
  none_or_error e none (inl h) m = no_rule h.0 none.rules h.1 (determined h.0 e h.2 m)
  none_or_error e none (inr h) m = never_some h.1 (sym none.constants ∙ h.2)

pub one_error : (environ : Pairs) (layout : Layout) (e f : LangError) → HasError environ layout e → HasError environ layout f → IsDetermined e → IsDetermined f → e ≡ f
unfolding HasError
one_error environ layout e f h k m n =
    one_error_in environ k.0 layout e f (subst (λ (w : Wins). IsErrorIn environ w layout e) (one_wins layout h.0 k.0 h.1 k.1) h.2) k.2 m n

pub unbroken_or_error : (environ : Pairs) (wins : Wins) (layout : Layout) (e : LangError) → AreWins layout wins → BreaksNone environ wins layout → HasError environ layout e → IsDetermined e → ⊥
unfolding HasError
unbroken_or_error environ wins layout e are none h m =
    none_or_error environ wins layout e none (subst (λ (w : Wins). IsErrorIn environ w layout e) (one_wins layout h.0 wins h.1 are) h.2) m
