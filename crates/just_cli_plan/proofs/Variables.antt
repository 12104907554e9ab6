-- No variable leads to itself, where none lies on a cycle.
use Rattle.std.proofs.Common.{◌≡◌, ℕ, zero, suc, ◌+◌, inl, inr, Bool, true, false, cond, List, [], ◌∷◌, ◌++◌, map, Option, Some, None, refl, sym, ap, ◌∙◌, subst, arith}
use Rattle.std.specs.Prelude.{bytes_eq, filter_map, slice_get, unwrap_or}
use Rattle.std.specs.Option.{option_map}
use Rattle.std.specs.List.{Contains, cons_option}
use Rattle.std.specs.Cmp.Lexicographic.{bytes_decides}
use Rattle.std.proofs.lemmas.List.{length-map, map-append, append-nil}
use Rattle.just_eval_closure.proofs.Items.{In, map_in}
use Rattle.just_lang_syntax.specs.declared.ast.AstItem.{AstItem}
use Rattle.just_lang_syntax.specs.declared.ast.AstItem.TheVariants as item
use Rattle.just_lang_syntax.specs.declared.ast.Comparison.{Comparison}
use Rattle.just_lang_syntax.specs.declared.ast.Name.{Name}
use Rattle.just_lang_syntax.specs.declared.ast.StringLiteral.{StringLiteral}
use Rattle.just_lang_syntax.specs.declared.ast.Expr.{Expr}
use Rattle.just_lang_syntax.specs.declared.ast.Expr.TheOpen.{Expr-F}
use Rattle.just_lang_syntax.specs.declared.ast.Expr.TheViews.{roll-Expr}
use Rattle.just_lang_syntax.specs.declared.ast.Expr.TheFolds.{fold-roll-Expr, ind-Expr, map-Expr}
use Rattle.just_lang_syntax.specs.declared.ast.Expr.TheVariants as e
use Rattle.just_lang_types.specs.declared.scope.Assignment.{Assignment}
use Rattle.just_lang_layout.specs.declared.layout.Layout.{Layout}
use Rattle.just_lang_layout.specs.declared.layout.Module.{Module}
use Rattle.just_lang_spots.specs.Entries.{or_place, last_place}
use Rattle.just_lang_spots.specs.Items.{Variable, variable_in}
use Rattle.just_lang_spots.specs.Standing.{Wins}
use Rattle.just_lang_spots.specs.Graph.{IsAcyclic}
use Rattle.just_lang_names.specs.NamesUsed.{names_of_parts, names_of_expr}
use Rattle.just_lang_names.specs.Standing.{standing_variable_items, standing_variables}
use Rattle.just_lang.specs.Cycles.{IsFirstSpot, IsCircularVariable, variable_name, variables_used, variable_graph, variable_spot}
use Rattle.just_lang.proofs.Loops.{map_picked}
use Rattle.just_lang.proofs.Variables.{picked_same}
use Rattle.just_lang_shapes.specs.Expansions.{expanded_step, expanded_expr, expanded_literal}
use Rattle.just_lang_shapes.specs.Scopes.{assignment_in, assignments_of}
use Rattle.just_eval.specs.Uses.{names_in, names_step, named_from, named, uses, AreEnding}
use Rattle.just_cli_plan.proofs.Apart.{AreApart}
use Rattle.just_cli_plan.proofs.Names.{names_of, variables_apart, last_named}
use Rattle.just_cli_plan.proofs.Ending.{none_on_cycle}

-- ---- the names in an expression stay where strings are expanded

abbrev pub text : Name → List ℕ
text n = n.text

abbrev pub texts : List Name → List (List ℕ)
texts ns = map text ns

names_if : (a : Expr) (c : Comparison) (b d : Expr) (chained : Bool) (x : Expr) → names_in (e.If a c b d chained x) ≡ names_in a ++ (names_in b ++ (names_in d ++ names_in x))
names_if a c b d chained x = ap names_in (sym (e.rolls-If a c b d chained x)) ∙ fold-roll-Expr (List (List ℕ)) names_step (Expr-F.If a c b d chained x)

names_root : (a : Expr) → names_in (e.Root a) ≡ names_in a
names_root a = ap names_in (sym (e.rolls-Root a)) ∙ fold-roll-Expr (List (List ℕ)) names_step (Expr-F.Root a)

names_join : (a b : Expr) → names_in (e.Join a b) ≡ names_in a ++ names_in b
names_join a b = ap names_in (sym (e.rolls-Join a b)) ∙ fold-roll-Expr (List (List ℕ)) names_step (Expr-F.Join a b)

names_concat : (a b : Expr) → names_in (e.Concat a b) ≡ names_in a ++ names_in b
names_concat a b = ap names_in (sym (e.rolls-Concat a b)) ∙ fold-roll-Expr (List (List ℕ)) names_step (Expr-F.Concat a b)

names_literal : (x : StringLiteral) → names_in (e.Literal x) ≡ []
names_literal x = ap names_in (sym (e.rolls-Literal x)) ∙ fold-roll-Expr (List (List ℕ)) names_step (Expr-F.Literal x)

names_variable : (n : Name) → names_in (e.Variable n) ≡ n.text ∷ []
names_variable n = ap names_in (sym (e.rolls-Variable n)) ∙ fold-roll-Expr (List (List ℕ)) names_step (Expr-F.Variable n)

names_group : (a : Expr) → names_in (e.Group a) ≡ names_in a
names_group a = ap names_in (sym (e.rolls-Group a)) ∙ fold-roll-Expr (List (List ℕ)) names_step (Expr-F.Group a)

names_env : (line column : ℕ) (key : Expr) → names_in (e.Env line column key None) ≡ names_in key ++ []
names_env line column key = ap names_in (sym (e.rolls-Env line column key None)) ∙ fold-roll-Expr (List (List ℕ)) names_step (Expr-F.Env line column key None)

names_env_or : (line column : ℕ) (key default : Expr) → names_in (e.Env line column key (Some default)) ≡ names_in key ++ names_in default
names_env_or line column key default = ap names_in (sym (e.rolls-Env line column key (Some default))) ∙ fold-roll-Expr (List (List ℕ)) names_step (Expr-F.Env line column key (Some default))

both : (p q : List (List ℕ)) (xs ys : List Name) → p ≡ texts xs → q ≡ texts ys → p ++ q ≡ texts (xs ++ ys)
both p q xs ys h k = ap (λ (l : List (List ℕ)). l ++ q) h ∙ ap (λ (l : List (List ℕ)). texts xs ++ l) k ∙ sym (map-append text xs ys)

module _ (text_of : StringLiteral → Option (List ℕ)) where
  abbrev Keeps : Expr → Type 0
  Keeps x = names_in (expanded_expr text_of x) ≡ texts (names_of_expr x)

  abbrev Kept : Type 0
  Kept = (x : Expr) × Keeps x

  -- by a layer
  keeps_by : (z : Expr-F Expr) → names_in (expanded_step text_of (map-Expr Expr Expr (expanded_expr text_of) z)) ≡ texts (names_of_parts (map-Expr Expr (List Name) names_of_expr z)) → Keeps (roll-Expr z)
  keeps_by z h = ap names_in (fold-roll-Expr Expr (expanded_step text_of) z) ∙ h ∙ sym (ap texts (fold-roll-Expr (List Name) names_of_parts z))

  abbrev names_left : Kept → List (List ℕ)
  names_left a = names_in (expanded_expr text_of a.0)

  keeps_layer : (y : Expr-F Kept) → Keeps (roll-Expr (map-Expr Kept Expr (λ k. k.0) y))
  keeps_layer (Expr-F.If a c b d chained x) =
      keeps_by (Expr-F.If a.0 c b.0 d.0 chained x.0)
      (names_if (expanded_expr text_of a.0) c (expanded_expr text_of b.0) (expanded_expr text_of d.0) chained (expanded_expr text_of x.0)
      ∙ both (names_left a) (names_left b ++ (names_left d ++ names_left x)) (names_of_expr a.0) (names_of_expr b.0 ++ (names_of_expr d.0 ++ names_of_expr x.0)) a.1
      (both (names_left b) (names_left d ++ names_left x) (names_of_expr b.0) (names_of_expr d.0 ++ names_of_expr x.0) b.1 (both (names_left d) (names_left x) (names_of_expr d.0) (names_of_expr x.0) d.1 x.1)))
  keeps_layer (Expr-F.Root a) = keeps_by (Expr-F.Root a.0) (names_root (expanded_expr text_of a.0) ∙ a.1)
  keeps_layer (Expr-F.Join a b) =
      keeps_by (Expr-F.Join a.0 b.0) (names_join (expanded_expr text_of a.0) (expanded_expr text_of b.0) ∙ both (names_left a) (names_left b) (names_of_expr a.0) (names_of_expr b.0) a.1 b.1)
  keeps_layer (Expr-F.Concat a b) =
      keeps_by (Expr-F.Concat a.0 b.0) (names_concat (expanded_expr text_of a.0) (expanded_expr text_of b.0) ∙ both (names_left a) (names_left b) (names_of_expr a.0) (names_of_expr b.0) a.1 b.1)
  keeps_layer (Expr-F.Literal s) = keeps_by (Expr-F.Literal s) (names_literal (expanded_literal text_of s))
  keeps_layer (Expr-F.Variable name) = keeps_by (Expr-F.Variable name) (names_variable name)
  keeps_layer (Expr-F.Group a) = keeps_by (Expr-F.Group a.0) (names_group (expanded_expr text_of a.0) ∙ a.1)
  keeps_layer (Expr-F.Env line column key None) =
      keeps_by (Expr-F.Env line column key.0 None) (names_env line column (expanded_expr text_of key.0) ∙ append-nil (names_left key) ∙ key.1)
  keeps_layer (Expr-F.Env line column key (Some d)) =
      keeps_by (Expr-F.Env line column key.0 (Some d.0)) (names_env_or line column (expanded_expr text_of key.0) (expanded_expr text_of d.0) ∙ both (names_left key) (names_left d) (names_of_expr key.0) (names_of_expr d.0) key.1 d.1)

  keeps : (x : Expr) → Keeps x
  keeps = ind-Expr Keeps (λ x y is. subst (λ z. Keeps (roll-Expr z)) is (keeps_layer y))

  -- ---- the assignment that a variable is

  abbrev pub assignment_of : ℕ × Variable → Assignment
  assignment_of x = record { name = x.1.name.text; value = expanded_expr text_of x.1.value; export = x.1.export }

  assignment_as : (x : ℕ × AstItem) → assignment_in text_of x ≡ option_map assignment_of (variable_in x)
  assignment_as (n, item.Assignment export name value comment) = refl
  assignment_as (n, item.Blank) = refl
  assignment_as (n, item.Comment t) = refl
  assignment_as (n, item.Alias name target comment) = refl
  assignment_as (n, item.Import optional path comment) = refl
  assignment_as (n, item.Module attributes optional name path comment) = refl
  assignment_as (n, item.Recipe r) = refl
  assignment_as (n, item.Unexport name comment) = refl
  assignment_as (n, item.Setting name value comment) = refl

  assignments_are : (xs : List (ℕ × AstItem)) → assignments_of text_of xs ≡ map assignment_of (filter_map variable_in xs)
  assignments_are xs =
      picked_same (assignment_in text_of) (λ (x : ℕ × AstItem). option_map assignment_of (variable_in x)) assignment_as xs ∙ sym (map_picked assignment_of variable_in xs)

  -- ---- the place of a name

  got : (ys : List (ℕ × Variable)) (i : ℕ) (y : ℕ × Variable) → slice_get ys i ≡ Some y → In y ys
  got [] i y s = absurd (cc)
  got (z ∷ zs) zero y s = inl (ap (λ (o : Option (ℕ × Variable)). unwrap_or o z) s)
  got (z ∷ zs) (suc i) y s = inr (got zs i y s)

  none_last : (q : List ℕ) (xs : List (ℕ × Variable)) → (In q (names_of variable_name xs) → ⊥) → (o : Option ℕ) → last_place variable_name q xs ≡ o → o ≡ None
  none_last q xs never None l = refl
  none_last q xs never (Some k) l =
      let h = last_named variable_name q xs k l in
      absurd (never (map_in (λ (x : ℕ × Variable). variable_name x.1) xs h.0 q (got xs k h.0 h.1) h.2))

  first_place : (k : ℕ) → Some k ≡ option_map (λ i. k + i) (Some 0)
  first_place k = ap Some (omega arith)

  further : (k : ℕ) (o : Option ℕ) → option_map (λ i. suc k + i) o ≡ option_map (λ i. k + i) (or_place false o)
  further k None = refl
  further k (Some j) = ap Some (omega arith)

  named_last : (k : ℕ) (q : List ℕ) (xs : List (ℕ × Variable)) → AreApart (names_of variable_name xs) → named_from k (map assignment_of xs) q ≡ option_map (λ i. k + i) (last_place variable_name q xs)
  named_last k q [] apart = refl
  named_last k q (x ∷ xs) apart =
      elim (bytes_eq x.1.name.text q) as (λ b. bytes_eq x.1.name.text q ≡ b
      → cond b (Some k) (named_from (suc k) (map assignment_of xs) q) ≡ option_map (λ i. k + i) (or_place b (last_place variable_name q xs))) [
        | true ↦ λ t.
            let none : last_place variable_name q xs ≡ None =
            none_last q xs (λ i. apart.0 (subst (λ (n : List ℕ). In n (names_of variable_name xs)) (sym ((bytes_decides x.1.name.text q).0 t)) i)) (last_place variable_name q xs) refl in
            first_place k ∙ sym (ap (λ (o : Option ℕ). option_map (λ i. k + i) (or_place true o)) none)
        | false ↦ λ f. named_last (suc k) q xs apart.1 ∙ further k (last_place variable_name q xs)
      ] refl

  from_none : (o : Option ℕ) → option_map (λ i. 0 + i) o ≡ o
  from_none None = refl
  from_none (Some k) = ap Some (omega arith)

  -- ---- the graph

  picked_mapped : (f : List ℕ → Option ℕ) (ns : List Name) → filter_map f (texts ns) ≡ filter_map (λ (n : Name). f n.text) ns
  picked_mapped f [] = refl
  picked_mapped f (n ∷ ns) = ap (λ (ks : List ℕ). cons_option (f n.text) ks) (picked_mapped f ns)

  used_same : (xs : List (ℕ × Variable)) → AreApart (names_of variable_name xs) → (x : ℕ × Variable) → filter_map (named (map assignment_of xs)) (names_in (expanded_expr text_of x.1.value)) ≡ variables_used xs x
  used_same xs apart x =
      ap (λ (ns : List (List ℕ)). filter_map (named (map assignment_of xs)) ns) (keeps x.1.value) ∙ picked_mapped (named (map assignment_of xs)) (names_of_expr x.1.value)
      ∙ picked_same (λ (n : Name). named (map assignment_of xs) n.text) (λ (n : Name). last_place variable_name n.text xs)
      (λ n. named_last 0 n.text xs apart ∙ from_none (last_place variable_name n.text xs)) (names_of_expr x.1.value)

  uses_from : (xs ys : List (ℕ × Variable)) → AreApart (names_of variable_name xs)
      → map (λ (a : Assignment). filter_map (named (map assignment_of xs)) (names_in a.value)) (map assignment_of ys) ≡ map (variables_used xs) ys
  uses_from xs [] apart = refl
  uses_from xs (y ∷ ys) apart =
      ap (λ (us : List ℕ). us ∷ map (λ (a : Assignment). filter_map (named (map assignment_of xs)) (names_in a.value)) (map assignment_of ys)) (used_same xs apart y)
      ∙ ap (λ (uss : List (List ℕ)). variables_used xs y ∷ uss) (uses_from xs ys apart)

  pub variables_end : (wins : Wins) (layout : Layout) → IsFirstSpot (IsCircularVariable wins layout) None → (m : Module) → Contains layout.modules m
      → AreEnding (assignments_of text_of (standing_variable_items wins layout.files m))
  unfolding IsFirstSpot
  variables_end wins layout none m c =
      let xs : List (ℕ × Variable) = standing_variables wins layout.files m in
      let acyclic : IsAcyclic (variable_graph xs) =
      none_on_cycle (variable_graph xs) (map variable_spot xs) (length-map xs variable_spot ∙ sym (length-map xs (variables_used xs))) (λ s v on at. none s (m, c, (v, on, at))) in
      let same : uses (assignments_of text_of (standing_variable_items wins layout.files m)) ≡ variable_graph xs =
      ap uses (assignments_are (standing_variable_items wins layout.files m)) ∙ uses_from xs xs (variables_apart wins layout.files m) in
      subst (λ (g : List (List ℕ)). IsAcyclic g) (sym same) acyclic
