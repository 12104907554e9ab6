-- The items of modules are those of files.
use Rattle.std.proofs.Common.{◌≡◌, ℕ, zero, suc, ◌+◌, true, false, not, cond, List, [], ◌∷◌, Option, Some, None, subst, arith}
use Rattle.std.specs.Prelude.{slice_get, filter_map, option_map, IfSome}
use Rattle.std.specs.List.{AllByRecursion, list_any, cons_option}
use Rattle.just_lang_syntax.specs.declared.ast.AstItem.{AstItem}
use Rattle.just_lang_layout.specs.declared.layout.File.{File}
use Rattle.just_lang_layout.specs.declared.layout.Module.{Module}
use Rattle.just_lang_layout.specs.declared.layout.Placed.{Placed}
use Rattle.just_lang_layout.specs.Items.{in_file, items_from, items_of_files, item_in, item_at, items_of_module}
use Rattle.just_lang_spots.specs.Items.{item_name}
use Rattle.just_lang_spots.specs.Standing.{Wins, has_name, last_of_each, is_beaten, standing, unbeaten}
use Rattle.just_lang.proofs.Lists.{all_left, all_right, all_filter}

module _ (P : ℕ × AstItem → Type 0) where
  in_one : (number : ℕ) (items : List AstItem) (i : ℕ) → AllByRecursion P (in_file number items) → IfSome (slice_get items i) (λ (x : AstItem). P (number, x))
  in_one number [] i h = tt
  in_one number (x ∷ items) zero h = h.0
  in_one number (x ∷ items) (suc i) h = in_one number items i h.1

  numbered : (m n : ℕ) (o : Option AstItem) → m ≡ n → IfSome o (λ (x : AstItem). P (m, x)) → IfSome o (λ (x : AstItem). P (n, x))
  numbered m n o e h = subst (λ (k : ℕ). IfSome o (λ (x : AstItem). P (k, x))) e h

  in_files : (number : ℕ) (files : List File) (k i : ℕ) → AllByRecursion P (items_from number files) → IfSome (item_in (slice_get files k) i) (λ (x : AstItem). P (number + k, x))
  in_files number [] k i h = tt
  in_files number (file ∷ files) zero i h = numbered number (number + zero) (slice_get file.items i) (omega arith) (in_one number file.items i (all_left P (in_file number file.items) (items_from (suc number) files) h))
  in_files number (file ∷ files) (suc k) i h =
      numbered (suc number + k) (number + suc k) (item_in (slice_get files k) i) (omega arith) (in_files (suc number) files k i (all_right P (in_file number file.items) (items_from (suc number) files) h))

  one_more : (number : ℕ) (o : Option AstItem) (rest : List (ℕ × AstItem)) → IfSome o (λ (x : AstItem). P (number, x)) → AllByRecursion P rest → AllByRecursion P (cons_option (option_map (λ (x : AstItem). (number, x)) o) rest)
  one_more number None rest h k = k
  one_more number (Some x) rest h k = (h, k)

  at_places : (files : List File) (places : List Placed) → AllByRecursion P (items_of_files files) → AllByRecursion P (filter_map (item_at files) places)
  at_places files [] h = tt
  at_places files (p ∷ places) h =
      one_more p.file (item_in (slice_get files p.file) p.item) (filter_map (item_at files) places)
      (numbered (zero + p.file) p.file (item_in (slice_get files p.file) p.item) (omega arith) (in_files zero files p.file p.item h)) (at_places files places h)

  -- what holds of all items of files holds of those of a module
  pub of_module : (files : List File) (m : Module) → AllByRecursion P (items_of_files files) → AllByRecursion P (items_of_module files m)
  of_module files m h = at_places files m.placed h

  last_ones : (xs : List (ℕ × AstItem)) → AllByRecursion P xs → AllByRecursion P (last_of_each item_name xs)
  last_ones [] h = tt
  last_ones (x ∷ xs) h =
      elim (list_any (has_name item_name (item_name x.1)) xs) as (λ b. AllByRecursion P (cond b (last_of_each item_name xs) (x ∷ last_of_each item_name xs))) [
        | true ↦ last_ones xs h.1
        | false ↦ (h.0, last_ones xs h.1)
      ]

  -- and of those that stand
  pub of_standing : (wins : Wins) (xs : List (ℕ × AstItem)) → AllByRecursion P xs → AllByRecursion P (standing item_name wins xs)
  of_standing wins xs h = last_ones (unbeaten item_name wins xs) (all_filter P (λ (x : ℕ × AstItem). not (is_beaten item_name wins xs x)) xs h)
