-- Where in a project stands what a command asks for, one step at a time.
use Rattle.std.proofs.Common.{◌≡◌, ℕ, ◌+◌, ◌<◌, true, false, List, [], length, drop, get_or, Option, Some, None, sym, ap, ◌∙◌}
use Rattle.std.specs.Prelude.{filter_map, is_some, if◌then◌else◌}
use Rattle.std.specs.List.{cons_option}
use Rattle.std.specs.Option.{option_and_then, option_map_or}
use Rattle.just_lang_syntax.specs.declared.ast.Name.{Name}
use Rattle.just_lang_types.specs.declared.project.Justfile.{Justfile}
use Rattle.just_lang_types.specs.declared.recipe.Modulepath.{Modulepath}
use Rattle.just_lang_types.specs.Modules.{path_of}
use Rattle.just_lang_layout.specs.declared.layout.Layout.{Layout}
use Rattle.just_lang_layout.specs.declared.layout.Module.{Module}
use Rattle.just_lang_layout.specs.Items.{items_of_module}
use Rattle.just_lang_spots.specs.declared.entries.Entry.{Entry}
use Rattle.just_lang_spots.specs.Entries.{entry, entries}
use Rattle.just_lang_spots.proofs.ListLaws.{drop_here}
use Rattle.just_eval_words.specs.Names.{recipe_in}
use Rattle.just_print_lists.specs.declared.listed.ListedModule.{ListedModule}
use Rattle.just_print_lists.specs.LongUsages.{alias_line}
use Rattle.just_print_commands.specs.Places.{listed_within, listed_at, laid_at, target_in, first_of, alias_target_at}
use Rattle.just_print_commands.specs.Texts.{texts_of, alias_text}

-- ---- in the tree of listings

listed_next : (names : List (List ℕ)) (i : ℕ) (name : List ℕ) (l : ListedModule) → i < length names → name ≡ get_or names i name
    → listed_at (drop i names) l ≡ option_and_then (listed_at (drop (i + 1) names)) (listed_within l name)
listed_next names i name l lt is = ap (λ (ns : List (List ℕ)). listed_at ns l) (drop_here names i name lt is)

-- a name is that of a module
pub listed_here : (names : List (List ℕ)) (i : ℕ) (name : List ℕ) (l m : ListedModule) → i < length names → name ≡ get_or names i name → listed_within l name ≡ Some m → listed_at (drop (i + 1) names) m ≡ listed_at (drop i names) l
listed_here names i name l m lt is h = sym (listed_next names i name l lt is ∙ ap (λ (o : Option ListedModule). option_and_then (listed_at (drop (i + 1) names)) o) h)

-- and isn't
pub listed_nowhere : (names : List (List ℕ)) (i : ℕ) (name : List ℕ) (l : ListedModule) → i < length names → name ≡ get_or names i name → listed_within l name ≡ None → listed_at (drop i names) l ≡ None
listed_nowhere names i name l lt is h = listed_next names i name l lt is ∙ ap (λ (o : Option ListedModule). option_and_then (listed_at (drop (i + 1) names)) o) h

-- ---- in the layout

module _ (alias : List ℕ) where
  target_next : (items : List Entry) (i : ℕ) (x : Entry) → i < length items → x ≡ get_or items i x
      → first_of (filter_map (target_in alias) (entries (drop i items))) ≡ first_of (cons_option (target_in alias (entry x)) (filter_map (target_in alias) (entries (drop (i + 1) items))))
  target_next items i x lt is = ap (λ (xs : List Entry). first_of (filter_map (target_in alias) (entries xs))) (drop_here items i x lt is)

  -- an item is the alias
  pub target_here : (items : List Entry) (i : ℕ) (x : Entry) (t : List Name) → i < length items → x ≡ get_or items i x → target_in alias (entry x) ≡ Some t
      → first_of (filter_map (target_in alias) (entries (drop i items))) ≡ Some t
  target_here items i x t lt is h =
      target_next items i x lt is ∙ ap (λ (o : Option (List Name)). first_of (cons_option o (filter_map (target_in alias) (entries (drop (i + 1) items))))) h

  -- and isn't
  pub target_later : (items : List Entry) (i : ℕ) (x : Entry) → i < length items → x ≡ get_or items i x → target_in alias (entry x) ≡ None
      → first_of (filter_map (target_in alias) (entries (drop (i + 1) items))) ≡ first_of (filter_map (target_in alias) (entries (drop i items)))
  target_later items i x lt is h =
      sym (target_next items i x lt is ∙ ap (λ (o : Option (List Name)). first_of (cons_option o (filter_map (target_in alias) (entries (drop (i + 1) items))))) h)

module _ (layout : Layout) (path : Modulepath) (alias : List ℕ) where
  abbrev among : Module → Option (List Name)
  among m = first_of (filter_map (target_in alias) (items_of_module layout.files m))

  pub no_module : laid_at layout path ≡ None → alias_target_at layout path alias ≡ None
  no_module h = ap (λ (o : Option Module). option_and_then among o) h

  pub in_module : (m : Module) (t : Option (List Name)) → laid_at layout path ≡ Some m → t ≡ among m → t ≡ alias_target_at layout path alias
  in_module m t h is = is ∙ sym (ap (λ (o : Option Module). option_and_then among o) h)

-- ---- the line of an alias

module _ (layout : Layout) (j : Justfile) (name text : List ℕ) where
  abbrev line : Option (List Name) → List ℕ
  line o = option_map_or (λ (target : List Name). alias_line name (texts_of target)) o []

  pub own_recipe : text ≡ [] → is_some (recipe_in j name) ≡ true → text ≡ alias_text layout j name
  own_recipe none h = none ∙ sym (ap (λ b. if b then [] else line (alias_target_at layout (path_of j) name)) h)

  pub no_alias : text ≡ [] → is_some (recipe_in j name) ≡ false → alias_target_at layout (path_of j) name ≡ None → text ≡ alias_text layout j name
  no_alias none h k = none ∙ sym (ap (λ b. if b then [] else line (alias_target_at layout (path_of j) name)) h ∙ ap line k)

  pub an_alias : (target : List Name) → text ≡ alias_line name (texts_of target) → is_some (recipe_in j name) ≡ false → alias_target_at layout (path_of j) name ≡ Some target → text ≡ alias_text layout j name
  an_alias target is h k = is ∙ sym (ap (λ b. if b then [] else line (alias_target_at layout (path_of j) name)) h ∙ ap line k)
