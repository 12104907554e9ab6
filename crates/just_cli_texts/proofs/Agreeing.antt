-- What commands print of a project is one thing, where each text of its parts is.
use Rattle.std.proofs.Common.{◌≡◌, ◌≢◌, ◌++◌, ℕ, List, [], ◌∷◌, Option, Some, None, Result, Ok, Err, refl, sym, ◌∙◌, ap, subst, chars}
use Rattle.std.specs.List.{flat_map}
use Rattle.just_lang_types.specs.declared.error.CompileError.{CompileError}
use Rattle.just_lang_types.specs.declared.project.Justfile.{Justfile}
use Rattle.just_lang_types.specs.declared.project.LangError.{LangError}
use Rattle.just_lang_types.specs.declared.project.LangError.TheVariants as lang
use Rattle.just_lang_types.specs.declared.scope.Scopes.{Scopes}
use Rattle.just_lang_types.specs.declared.source.Source.{Source}
use Rattle.just_lang_types.specs.Trees.{IsTree, RefusesSource, compile_error, kind_of, position_of}
use Rattle.just_lang_types.proofs.Laws.{one_tree}
use Rattle.just_lang_types.proofs.Nesting.{same_modules}
use Rattle.just_lang_layout.specs.Paths.{Pairs}
use Rattle.just_lang_rulebook.specs.Meant.{meant}
use Rattle.just_lang_syntax.specs.declared.ast.AstItem.{AstItem}
use Rattle.just_lang_syntax.specs.declared.error.Fault.{Fault}
use Rattle.just_lang_syntax.proofs.Laws.{one_refusal, found_or_refused}
use Rattle.just_config_words.specs.declared.subcommand.Subcommand.{Subcommand}
use Rattle.just_config_words.specs.declared.subcommand.Subcommand.TheVariants as command
use Rattle.just_config.specs.declared.config.Config.{Config}
use Rattle.just_exec.specs.Refusals.{error_of_lang}
use Rattle.just_exec.specs.declared.error.Error.{Error}
use Rattle.just_print_lists.specs.declared.listed.ListedModule.{ListedModule}
use Rattle.just_print_lists.specs.declared.variable.EvaluateFormat.{EvaluateFormat}
use Rattle.just_print_lists.specs.Summaries.{joined_line}
use Rattle.just_print_commands.specs.Projects.{Parts}
use Rattle.just_print_tree.specs.Told.{told_each}
use Rattle.just_cli_texts.specs.declared.printed.Printed.{Printed}
use Rattle.just_cli_texts.specs.Agree.{PrintersAgree, TextsAgree}
use Rattle.just_cli_texts.specs.Choices.{choices_of, AreChoices, fed_unless_none, Feeds}
use Rattle.just_cli_texts.specs.Defaults.{ListsLaid}
use Rattle.just_cli_texts.specs.Evaluated.{evaluated_module, text_in, EvaluatesNames}
use Rattle.just_cli_texts.specs.Formatted.{format_text, Formats}
use Rattle.just_cli_texts.specs.Laid.{LaidSources, ArePartsOf}
use Rattle.just_cli_texts.specs.Prints.{as_printed, no_recipes, IsSummed, PrintsOf, Prints}
use Rattle.just_cli_texts.specs.Targets.{names_of, Lists}

one_found : {A : Type 0} (x y : A) → ◌≡◌ {A = Result A Error} (Ok x) (Ok y) → x ≡ y
one_found x y is = cc

one_error : {A : Type 0} (x y : Error) → ◌≡◌ {A = Result A Error} (Err x) (Err y) → x ≡ y
one_error x y is = cc

-- ---- parts

module _ (agree : PrintersAgree) where
  parts_one : (environ : Pairs) (l : LaidSources) (p q : Parts) → ArePartsOf environ l p → ArePartsOf environ l q → p ≡ q
  parts_one environ l p q h g =
      let layout : p.layout ≡ q.layout = h.layout ∙ sym g.layout in
      let root : p.root ≡ q.root = h.root ∙ sym g.root in
      let modules : p.modules ≡ q.modules = same_modules (l.justfile ∷ []) p.modules q.modules h.modules g.modules in
      let tree : p.tree ≡ q.tree = agree.trees (meant environ) l.wins l.layout l.justfile p.tree q.tree h.tree g.tree in
      let recipes : p.recipes ≡ q.recipes = h.recipes ∙ (ap (λ (ms : List Justfile). told_each l.wins l.layout.files l.layout.modules ms) modules ∙ sym g.recipes) in
      ap (λ x. let z : Parts = record { layout = x; modules = p.modules; root = p.root; tree = p.tree; recipes = p.recipes } in z) layout
      ∙ (ap (λ x. let z : Parts = record { layout = q.layout; modules = x; root = p.root; tree = p.tree; recipes = p.recipes } in z) modules
      ∙ (ap (λ x. let z : Parts = record { layout = q.layout; modules = q.modules; root = x; tree = p.tree; recipes = p.recipes } in z) root
      ∙ (ap (λ x. let z : Parts = record { layout = q.layout; modules = q.modules; root = q.root; tree = x; recipes = p.recipes } in z) tree
      ∙ ap (λ x. let z : Parts = record { layout = q.layout; modules = q.modules; root = q.root; tree = q.tree; recipes = x } in z) recipes)))

  listed_one : (c : Config) (p : Parts) (names : List (List ℕ)) (x y : Result Printed Error) → ((a : Result (List ℕ) Error) × Lists c p names a × (x ≡ as_printed a)) → ((b : Result (List ℕ) Error) × Lists c p names b × (y ≡ as_printed b)) → x ≡ y
  listed_one c p names x y (a, h, is) (b, g, at) = is ∙ (ap (λ z. as_printed z) (agree.lists c p names a b h g) ∙ sym at)

  listings_one : (environ : Pairs) (c : Config) (l : LaidSources) (names : List (List ℕ)) (x y : Result Printed Error) → ListsLaid environ c l names x → ListsLaid environ c l names y → x ≡ y
  listings_one environ c l names x y (p, are, h) (q, also, g) =
      listed_one c q names x y (subst (λ (z : Parts). (a : Result (List ℕ) Error) × Lists c z names a × (x ≡ as_printed a)) (parts_one environ l p q are also) h) g

  summed_one : (c : Config) (p : Parts) (x y : Printed) → IsSummed c p x → IsSummed c p y → x ≡ y
  summed_one c p x y (xs, h, is) (ys, g, at) =
      is ∙ (ap (λ (l : List (List ℕ)). let z : Printed = record { text = joined_line l; told = no_recipes l } in z) (agree.paths c.unsorted p.tree xs ys h g) ∙ sym at)

  -- by the command
  prints_of_one : (c : Config) (p : Parts) (s : Option Subcommand) (x y : Result Printed Error) → PrintsOf c s p x → PrintsOf c s p y → x ≡ y
  prints_of_one c p None x y h g = absurd h
  prints_of_one c p (Some (command.Dump ws)) x y h g = h ∙ sym g
  prints_of_one c p (Some (command.Groups ws)) x y h g = h ∙ sym g
  prints_of_one c p (Some (command.List ws)) x y h g = listed_one c p (names_of ws) x y h g
  prints_of_one c p (Some (command.Show ws)) x y (a, h, is) (b, g, at) = is ∙ (ap (λ z. as_printed z) (agree.shows c p (names_of ws) a b h g) ∙ sym at)
  prints_of_one c p (Some (command.Summary ws)) x y (a, h, is) (b, g, at) = is ∙ (ap (λ (z : Printed). let into : Result Printed Error = Ok z in into) (summed_one c p a b h g) ∙ sym at)
  prints_of_one c p (Some (command.Usage ws)) x y (a, h, is) (b, g, at) = is ∙ (ap (λ z. as_printed z) (agree.uses p (names_of ws) a b h g) ∙ sym at)
  prints_of_one c p (Some (command.Variables ws)) x y h g = h ∙ sym g
  prints_of_one c p (Some (command.Choose ws)) x y h g = absurd h
  prints_of_one c p (Some (command.Clean ws)) x y h g = absurd h
  prints_of_one c p (Some (command.Command ws)) x y h g = absurd h
  prints_of_one c p (Some (command.Edit ws)) x y h g = absurd h
  prints_of_one c p (Some (command.Evaluate ws)) x y h g = absurd h
  prints_of_one c p (Some (command.Fmt ws)) x y h g = absurd h
  prints_of_one c p (Some (command.Init ws)) x y h g = absurd h
  prints_of_one c p (Some (command.Request ws)) x y h g = absurd h
  prints_of_one c p (Some (command.Vectors ws)) x y h g = absurd h

  prints_one : (environ : Pairs) (c : Config) (l : LaidSources) (x y : Result Printed Error) → Prints environ c l x → Prints environ c l y → x ≡ y
  prints_one environ c l x y (p, are, h) (q, also, g) = prints_of_one c q c.subcommand x y (subst (λ (z : Parts). PrintsOf c c.subcommand z x) (parts_one environ l p q are also) h) g

  -- what a chooser is fed
  choices_one : (c : Config) (p : Parts) (xs ys : List (List ℕ)) → AreChoices c p xs → AreChoices c p ys → xs ≡ ys
  choices_one c p xs ys (all, h, is) (others, g, at) =
      is ∙ (ap (λ (l : List ListedModule). flat_map (choices_of c p.modules) l) (agree.turns c.unsorted p.tree all others h g) ∙ sym at)

  feeds_one : (environ : Pairs) (c : Config) (l : LaidSources) (x y : Result (List ℕ) Error) → Feeds environ c l x → Feeds environ c l y → x ≡ y
  feeds_one environ c l x y (p, are, (xs, h, is)) (q, also, (ys, g, at)) =
      is ∙ (ap (λ (ls : List (List ℕ)). fed_unless_none ls) (choices_one c q xs ys (subst (λ (z : Parts). AreChoices c z xs) (parts_one environ l p q are also) h) g) ∙ sym at)

-- ---- values

-- a list has one last, and one front
pub ends_one : (xs ys : List (List ℕ)) (x y : List ℕ) → xs ++ x ∷ [] ≡ ys ++ y ∷ [] → (xs ≡ ys) × (x ≡ y)
ends_one [] [] x y is = (refl, cc)
ends_one [] (b ∷ []) x y is = absurd (let no : ⊥ = cc in no)
ends_one [] (b ∷ (d ∷ ys)) x y is = absurd (let no : ⊥ = cc in no)
ends_one (a ∷ []) [] x y is = absurd (let no : ⊥ = cc in no)
ends_one (a ∷ (d ∷ xs)) [] x y is = absurd (let no : ⊥ = cc in no)
ends_one (a ∷ xs) (b ∷ ys) x y is =
    let whole : a ∷ (xs ++ x ∷ []) ≡ b ∷ (ys ++ y ∷ []) = is in
    let heads : a ≡ b = cc in
    let tails : xs ++ x ∷ [] ≡ ys ++ y ∷ [] = cc in
    let k = ends_one xs ys x y tails in
    (ap (λ z. z ∷ xs) heads ∙ ap (λ (l : List (List ℕ)). b ∷ l) k.0, k.1)

no_end : (xs : List (List ℕ)) (x : List ℕ) → [] ≡ xs ++ x ∷ [] → ⊥
no_end [] x is = let no : ⊥ = cc in no
no_end (a ∷ xs) x is = let no : ⊥ = cc in no

module _ (f : EvaluateFormat) (modules : List Justfile) (scopes : Scopes) (root : Justfile) (names : List (List ℕ)) where
  lead_one : (xs ys : List (List ℕ)) (r s : Result Justfile Error) → xs ≡ ys → evaluated_module modules xs root ≡ r → evaluated_module modules ys root ≡ s → r ≡ s
  lead_one xs ys r s same h g = sym h ∙ (ap (λ (l : List (List ℕ)). evaluated_module modules l root) same ∙ g)

  evaluates_one : (x y : Result (List ℕ) Error) → EvaluatesNames f modules scopes root names x → EvaluatesNames f modules scopes root names y → x ≡ y
  evaluates_one x y (EvaluatesNames.whole none is) (EvaluatesNames.whole never at) = is ∙ sym at
  evaluates_one x y (EvaluatesNames.whole none is) (EvaluatesNames.lost zs z d cut lost at) = absurd (no_end zs z (sym none ∙ cut))
  evaluates_one x y (EvaluatesNames.whole none is) (EvaluatesNames.named zs z k cut leads at) = absurd (no_end zs z (sym none ∙ cut))
  evaluates_one x y (EvaluatesNames.lost front last e split gone is) (EvaluatesNames.whole none at) = absurd (no_end front last (sym none ∙ split))
  evaluates_one x y (EvaluatesNames.lost front last e split gone is) (EvaluatesNames.lost zs z d cut lost at) =
      let k = ends_one front zs last z (sym split ∙ cut) in
      is ∙ (ap (λ (w : Error). let into : Result (List ℕ) Error = Err w in into) (one_error e d (lead_one front zs (Err e) (Err d) k.0 gone lost)) ∙ sym at)
  evaluates_one x y (EvaluatesNames.lost front last e split gone is) (EvaluatesNames.named zs z j cut leads at) =
      let k = ends_one front zs last z (sym split ∙ cut) in
      absurd (let both : ◌≡◌ {A = Result Justfile Error} (Err e) (Ok j) = lead_one front zs (Err e) (Ok j) k.0 gone leads in let no : ⊥ = cc in no)
  evaluates_one x y (EvaluatesNames.named front last j split leads is) (EvaluatesNames.whole none at) = absurd (no_end front last (sym none ∙ split))
  evaluates_one x y (EvaluatesNames.named front last j split leads is) (EvaluatesNames.lost zs z d cut lost at) =
      let k = ends_one front zs last z (sym split ∙ cut) in
      absurd (let both : ◌≡◌ {A = Result Justfile Error} (Ok j) (Err d) = lead_one front zs (Ok j) (Err d) k.0 leads lost in let no : ⊥ = cc in no)
  evaluates_one x y (EvaluatesNames.named front last j split leads is) (EvaluatesNames.named zs z i cut found at) =
      let k = ends_one front zs last z (sym split ∙ cut) in
      is ∙ (ap (λ n. text_in f modules scopes j n) k.1 ∙ (ap (λ (m : Justfile). text_in f modules scopes m z) (one_found j i (lead_one front zs (Ok j) (Ok i) k.0 leads found)) ∙ sym at))

-- ---- texts that are made anew

refusals_one : (s : Source) (c : CompileError) (b : LangError) → RefusesSource s (lang.Compile c) → RefusesSource s b → b ≢ lang.NoMemory → lang.Compile c ≡ b
refusals_one s c (lang.Compile d) (f, h, is) (g, k, at) other =
    ap (λ x. lang.Compile x) (is ∙ (ap (λ (x : Fault). compile_error s.path (kind_of x.kind) (position_of x)) (one_refusal (chars s.text) f g h k) ∙ sym at))
refusals_one s c lang.NoMemory h g other = absurd (other refl)
refusals_one s c _ h g other = absurd g

refusal_one : (s : Source) (a b : LangError) → RefusesSource s a → a ≢ lang.NoMemory → RefusesSource s b → b ≢ lang.NoMemory → a ≡ b
refusal_one s (lang.Compile c) b h own g other = refusals_one s c b h g other
refusal_one s lang.NoMemory b h own g other = absurd (own refl)
refusal_one s _ b h own g other = absurd h

either : (s : Source) (items : List AstItem) (l : LangError) → IsTree s.text items → RefusesSource s l → l ≢ lang.NoMemory → ⊥
either s items (lang.Compile c) tree (f, refuses, is) own = found_or_refused (chars s.text) items f tree.0 tree.1 refuses
either s items lang.NoMemory tree refuses own = own refl
either s items _ tree refuses own = refuses

formats_one : (c : Config) (environ : Pairs) (s : Source) (x y : Result (List ℕ) Error) → Formats c environ s x → Formats c environ s y → x ≡ y
formats_one c environ s (Ok t) (Ok u) (xs, h, is) (ys, g, at) = ap (λ z. Ok z) (is ∙ (ap (λ (items : List AstItem). format_text c environ items) (one_tree s.text xs ys h g) ∙ sym at))
formats_one c environ s (Ok t) (Err e) (xs, h, is) (l, g, own, at) = absurd (either s xs l h g own)
formats_one c environ s (Err d) (Ok u) (l, h, own, is) (ys, g, at) = absurd (either s ys l g h own)
formats_one c environ s (Err d) (Err e) (a, h, own, is) (b, g, other, at) = ap (λ z. Err z) (is ∙ (ap (λ (l : LangError). error_of_lang l) (refusal_one s a b h own g other) ∙ sym at))

-- all of them
pub texts_agree : PrintersAgree → TextsAgree
texts_agree agree = record { listings = listings_one agree; prints = prints_one agree; evaluates = evaluates_one; formats = formats_one; feeds = feeds_one agree }
