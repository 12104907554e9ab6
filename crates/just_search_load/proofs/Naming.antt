-- What strings, modules and sources name, as the code comes to it.
use Rattle.std.proofs.Common.{◌≡◌, ◌⊎◌, inl, inr, ℕ, List, [], Option, Some, None, refl, sym, subst}
use Rattle.std.specs.Prelude.{chars, Result, Ok, Err}
use Rattle.std.proofs.lemmas.List.{append-nil}
use Rattle.just_path_text.specs.Environ.{home_of}
use Rattle.just_lang_syntax.specs.declared.ast.AstItem.{AstItem}
use Rattle.just_lang_syntax.specs.declared.ast.StringLiteral.{StringLiteral}
use Rattle.just_lang_syntax.specs.declared.error.Fault.{Fault}
use Rattle.just_lang_syntax.specs.declared.error.ParseError.TheVariants as parse_error
use Rattle.just_lang_syntax.specs.Faults.{Refuses}
use Rattle.just_lang_types.specs.declared.source.Source.{Source}
use Rattle.just_lang_types.specs.Trees.{IsTree}
use Rattle.just_lang_layout.specs.Paths.{Pairs, Means, path_under}
use Rattle.just_lang_layout.specs.Targets.{module_base}
use Rattle.just_host_record.specs.World.{World}
use Rattle.just_env.specs.declared.search_error.SearchError.{SearchError}
use Rattle.just_env.specs.declared.search_error.SearchError.TheVariants as error
use Rattle.just_search_load.specs.Gathers.{Gathers, Adds}
use Rattle.just_search_load.specs.Named.{IfPresent, NamesFile, ModuleFiles, ModuleNames, ItemNames, SourceNames, path_list, module_paths}
use Rattle.just_search_load.specs.Shown.{ListsNames}
use Rattle.just_search_load.proofs.Gathered.{one_alone}

-- nothing is added
pub adds_nothing : (P : Result (List (List ℕ)) SearchError → Type 0) (old : List (List ℕ)) → P (Ok []) → Adds P old old (Ok tt)
adds_nothing P old so = ([], so, sym (append-nil old))

-- a string that means a path
pub adds_file : (told : Option World) (environ : Pairs) (root : List ℕ) (s : StringLiteral) (text path : List ℕ) (old new : List (List ℕ)) (r : Result (Unit {0}) SearchError) → Means environ s (Some text) → path_under (home_of environ) root text ≡ Some path → Adds (IfPresent told path) old new r → Adds (NamesFile told environ root s) old new r
adds_file told environ root s text path old new (Ok x) means is so =
    (so.0, (Some text, means, subst (λ o. Gathers (IfPresent told) (path_list o) (Ok so.0)) (sym is) (one_alone (IfPresent told) path so.0 so.1)), so.2)
adds_file told environ root s text path old new (Err e) means is (inl memory) = inl memory
adds_file told environ root s text path old new (Err e) means is (inr so) =
    inr (Some text, means, subst (λ o. Gathers (IfPresent told) (path_list o) (Err e)) (sym is) (Gathers.refused_first path [] e so))

-- one that means no text
pub adds_no_text : (told : Option World) (environ : Pairs) (root : List ℕ) (s : StringLiteral) (old : List (List ℕ)) → Means environ s None → Adds (NamesFile told environ root s) old old (Ok tt)
adds_no_text told environ root s old means = adds_nothing (NamesFile told environ root s) old (None, means, Gathers.nothing)

-- one that means no path
pub adds_no_path : (told : Option World) (environ : Pairs) (root : List ℕ) (s : StringLiteral) (text : List ℕ) (old : List (List ℕ)) → Means environ s (Some text) → path_under (home_of environ) root text ≡ None → Adds (NamesFile told environ root s) old old (Ok tt)
adds_no_path told environ root s text old means is =
    adds_nothing (NamesFile told environ root s) old (Some text, means, subst (λ o. Gathers (IfPresent told) (path_list o) (Ok [])) (sym is) Gathers.nothing)

-- a module's folder
pub adds_folder : (told : Option World) (base : List ℕ) (names old new : List (List ℕ)) (r : Result (Unit {0}) SearchError) → ListsNames told base (Ok names) → Adds (Gathers (IfPresent told) (module_paths base names)) old new r → Adds (ModuleFiles told base) old new r
adds_folder told base names old new (Ok x) lists so = (so.0, ModuleFiles.of_folder names lists so.1, so.2)
adds_folder told base names old new (Err e) lists (inl memory) = inl memory
adds_folder told base names old new (Err e) lists (inr so) = inr (ModuleFiles.of_folder names lists so)

pub adds_no_folder : (told : Option World) (base path : List ℕ) (e : SearchError) → path ≡ base → (e ≡ error.NoMemory) ⊎ ListsNames told path (Err e) → (e ≡ error.NoMemory) ⊎ ModuleFiles told base (Err e)
adds_no_folder told base path e is (inl memory) = inl memory
adds_no_folder told base path e is (inr lists) = inr (ModuleFiles.refused_folder e (subst (λ p. ListsNames told p (Err e)) is lists) refl)

-- a module without a string
beside : (told : Option World) (environ : Pairs) (root name : List ℕ) (old new : List (List ℕ)) (r : Result (Unit {0}) SearchError) → Adds (ModuleFiles told (module_base root name)) old new r → Adds (ModuleNames told environ root name None) old new r
beside told environ root name old new (Ok x) so = (so.0, so.1, so.2)
beside told environ root name old new (Err e) (inl memory) = inl memory
beside told environ root name old new (Err e) (inr so) = inr so

pub adds_beside : (told : Option World) (environ : Pairs) (root name base : List ℕ) (s : Option StringLiteral) (old new : List (List ℕ)) (r : Result (Unit {0}) SearchError) → s ≡ None → base ≡ module_base root name → Adds (ModuleFiles told base) old new r
    → Adds (ModuleNames told environ root name s) old new r
adds_beside told environ root name base s old new r is at_base so =
    subst (λ o. Adds (ModuleNames told environ root name o) old new r) (sym is) (beside told environ root name old new r (subst (λ b. Adds (ModuleFiles told b) old new r) at_base so))

-- a source's tree
given_tree : (told : Option World) (environ : Pairs) (s : Source) (items : List AstItem) (old new : List (List ℕ)) (r : Result (Unit {0}) SearchError) → IsTree s.text items → Adds (Gathers (ItemNames told environ s.root) items) old new r → Adds (SourceNames told environ s) old new r
given_tree told environ s items old new (Ok x) tree so = (so.0, SourceNames.of_items items tree so.1, so.2)
given_tree told environ s items old new (Err e) tree (inl memory) = inl memory
given_tree told environ s items old new (Err e) tree (inr so) = inr (SourceNames.of_items items tree so)

pub adds_tree : (told : Option World) (environ : Pairs) (s : Source) (items walked : List AstItem) (old new : List (List ℕ)) (r : Result (Unit {0}) SearchError) → IsTree s.text items → walked ≡ items → Adds (Gathers (ItemNames told environ s.root) walked) old new r → Adds (SourceNames told environ s) old new r
adds_tree told environ s items walked old new r tree is so = given_tree told environ s items old new r tree (subst (λ xs. Adds (Gathers (ItemNames told environ s.root) xs) old new r) is so)

-- a source without one
pub adds_no_tree : (told : Option World) (environ : Pairs) (s : Source) (fault : Fault) (old : List (List ℕ)) → Refuses (chars s.text) (parse_error.Fault fault) → Adds (SourceNames told environ s) old old (Ok tt)
adds_no_tree told environ s fault old refuses = adds_nothing (SourceNames told environ s) old (SourceNames.of_no_text fault refuses refl)
