-- Each text of a project's parts is one thing.
use Rattle.std.proofs.Common.{◌≡◌, ◌++◌, ℕ, List, Option, Some, None, Result, Ok, Err, sym, ◌∙◌, ap, subst}
use Rattle.std.specs.Prelude.{◌≢◌, codes}
use Rattle.just_lang_types.specs.declared.project.Justfile.{Justfile}
use Rattle.just_lang_types.specs.declared.project.LangError.{LangError}
use Rattle.just_lang_types.specs.declared.project.LangError.TheVariants as lang
use Rattle.just_lang_types.specs.Modules.{path_of, Located}
use Rattle.just_config.specs.declared.config.Config.{Config}
use Rattle.just_eval_words.specs.Names.{Target}
use Rattle.just_exec.specs.Refusals.{error_of_lang}
use Rattle.just_exec.specs.declared.error.Error.{Error}
use Rattle.just_exec.specs.declared.error.Error.TheVariants as error
use Rattle.just_print_entries.specs.declared.options.ListOptions.{ListOptions}
use Rattle.just_print_entries.specs.Listings.{IsListing, unknown_group}
use Rattle.just_print_lists.specs.declared.listed.ListedModule.{ListedModule}
use Rattle.just_print_lists.specs.LongUsages.{usage_text}
use Rattle.just_print_tree.specs.Told.{ToldRecipe, found_told}
use Rattle.just_print_commands.specs.declared.error.ShowError.{ShowError}
use Rattle.just_print_commands.specs.declared.error.ShowError.TheVariants as show_error
use Rattle.just_print_commands.specs.declared.error.ListTextError.{ListTextError}
use Rattle.just_print_commands.specs.declared.error.ListTextError.TheVariants as list_error
use Rattle.just_print_commands.specs.Places.{listed_at}
use Rattle.just_print_commands.specs.Projects.{Parts}
use Rattle.just_print_commands.specs.Refusals.{IsUnshown, IsUnlisted}
use Rattle.just_print_commands.specs.Texts.{inner_of, named_of, IsListedAt, IsFound, alias_text, written_text}
use Rattle.just_cli_texts.specs.Agree.{PrintersAgree, TextsAgree}
use Rattle.just_cli_texts.specs.Targets.{error_of_list, error_of_show, UnshownBy, Lists, Shows, Uses}
use Rattle.just_cli_texts.proofs.Agreeing.{ends_one, texts_agree}
use Rattle.just_cli_texts.proofs.OneListing.{listing_one, turns_one, paths_one}
use Rattle.just_cli_texts.proofs.OneTree.{tree_one}

-- an answer is one thing
one_ok : {A E : Type 0} (r : Result A E) (x y : A) → r ≡ Ok x → r ≡ Ok y → x ≡ y
one_ok {A = A} {E = E} r x y is at = let both : ◌≡◌ {A = Result A E} (Ok x) (Ok y) = sym is ∙ at in cc

one_err : {A E : Type 0} (r : Result A E) (x y : E) → r ≡ Err x → r ≡ Err y → x ≡ y
one_err {A = A} {E = E} r x y is at = let both : ◌≡◌ {A = Result A E} (Err x) (Err y) = sym is ∙ at in cc

ok_or_err : {A E : Type 0} (r : Result A E) (x : A) (e : E) → r ≡ Ok x → r ≡ Err e → ⊥
ok_or_err {A = A} {E = E} r x e is at = let both : ◌≡◌ {A = Result A E} (Ok x) (Err e) = sym is ∙ at in let no : ⊥ = cc in no

one_some : {A : Type 0} (o : Option A) (x y : A) → o ≡ Some x → o ≡ Some y → x ≡ y
one_some {A = A} o x y is at = let both : ◌≡◌ {A = Option A} (Some x) (Some y) = sym is ∙ at in cc

none_or_some : {A : Type 0} (o : Option A) (x : A) → o ≡ None → o ≡ Some x → ⊥
none_or_some {A = A} o x is at = let both : ◌≡◌ {A = Option A} None (Some x) = sym is ∙ at in let no : ⊥ = cc in no

-- a refusal that isn't want of memory
remembered : (l : LangError) (e : Error) → e ≡ error_of_lang l → e ≢ error.NoMemory → l ≢ lang.NoMemory
remembered l e is known wants = known (is ∙ ap (λ (x : LangError). error_of_lang x) wants)

-- ---- listings

module _ (p : Parts) (names : List (List ℕ)) where
  listed_one : (l k : ListedModule) → IsListedAt p names l → IsListedAt p names k → l ≡ k
  listed_one l k h g =
      let inner : h.inner ≡ g.inner = one_ok (inner_of p names) h.inner g.inner h.leads g.leads in
      one_some (listed_at (path_of g.inner).components p.tree) l k (ap (λ (j : Justfile). listed_at (path_of j).components p.tree) (sym inner) ∙ h.shown) g.shown

  module _ (o u : ListOptions) (groups : o.groups.now ≡ u.groups.now) where
    -- a module is listed, or refused
    list_or_not : (l : ListedModule) → IsListedAt p names l → unknown_group o.groups.now l ≡ None → (why : ListTextError) (e : Error) → IsUnlisted p u names why → e ≡ error_of_list why → e ≢ error.NoMemory → ⊥
    list_or_not l there known (list_error.Path f) e lost is own = ok_or_err (inner_of p names) there.inner f there.leads (lost (remembered f e is own))
    list_or_not l there known (list_error.UnknownGroup group) e (k, also, unknown) is own =
        none_or_some (unknown_group u.groups.now k) group
        (ap (λ (gs : List (List ℕ)). unknown_group gs k) (sym groups) ∙ (ap (λ (z : ListedModule). unknown_group o.groups.now z) (listed_one k l also there) ∙ known)) unknown
    list_or_not l there known list_error.NoMemory e lost is own = own is

    -- for one reason
    unlisted_one : (why because : ListTextError) (d e : Error) → IsUnlisted p o names why → d ≡ error_of_list why → d ≢ error.NoMemory → IsUnlisted p u names because → e ≡ error_of_list because → e ≢ error.NoMemory → d ≡ e
    unlisted_one (list_error.Path f) (list_error.Path g) d e h is own k at other =
        is ∙ (ap (λ (x : LangError). error_of_lang x) (one_err (inner_of p names) f g (h (remembered f d is own)) (k (remembered g e at other))) ∙ sym at)
    unlisted_one (list_error.Path f) (list_error.UnknownGroup group) d e h is own (l, there, unknown) at other = absurd (ok_or_err (inner_of p names) there.inner f there.leads (h (remembered f d is own)))
    unlisted_one (list_error.UnknownGroup group) (list_error.Path g) d e (l, there, unknown) is own k at other = absurd (ok_or_err (inner_of p names) there.inner g there.leads (k (remembered g e at other)))
    unlisted_one (list_error.UnknownGroup group) (list_error.UnknownGroup named) d e (l, there, unknown) is own (k, also, unfound) at other =
        let first : unknown_group u.groups.now k ≡ Some group = ap (λ (gs : List (List ℕ)). unknown_group gs k) (sym groups) ∙ (ap (λ (z : ListedModule). unknown_group o.groups.now z) (listed_one k l also there) ∙ unknown) in
        is ∙ (ap (λ g. error.UnknownGroup g) (one_some (unknown_group u.groups.now k) group named first unfound) ∙ sym at)
    unlisted_one list_error.NoMemory because d e h is own k at other = absurd (own is)
    unlisted_one why list_error.NoMemory d e h is own k at other = absurd (other at)

lists_one : (c : Config) (p : Parts) (names : List (List ℕ)) (x y : Result (List ℕ) Error) → Lists c p names x → Lists c p names y → x ≡ y
lists_one c p names (Ok s) (Ok t) (o, a, h) (u, b, g) =
    let there : g.listed ≡ h.listed = listed_one p names g.listed h.listed g.there h.there in
    ap (λ z. Ok z)
    (listing_one o u (a.prefix ∙ sym b.prefix) (a.alias_style ∙ sym b.alias_style) (a.list_submodules ∙ sym b.list_submodules) (a.unsorted ∙ sym b.unsorted) (a.heading ∙ sym b.heading) (a.groups ∙ sym b.groups) h.listed s t h.listing
    (subst (λ (l : ListedModule). IsListing u l t) there g.listing))
lists_one c p names (Ok s) (Err e) (o, a, h) (u, b, g) = absurd (list_or_not p names o u (a.groups ∙ sym b.groups) h.listed h.there h.known g.why e g.unlisted g.error_is g.known)
lists_one c p names (Err d) (Ok t) (o, a, h) (u, b, g) = absurd (list_or_not p names u o (b.groups ∙ sym a.groups) g.listed g.there g.known h.why d h.unlisted h.error_is h.known)
lists_one c p names (Err d) (Err e) (o, a, h) (u, b, g) =
    ap (λ z. Err z) (unlisted_one p names o u (a.groups ∙ sym b.groups) h.why g.why d e h.unlisted h.error_is h.known g.unlisted g.error_is g.known)

-- ---- recipes

one_recipe : (l k : Located) → Target.to_recipe l ≡ Target.to_recipe k → l ≡ k
one_recipe l k is = cc

recipe_or_module : (l : Located) (m : Justfile) → Target.to_recipe l ≡ Target.to_module m → ⊥
recipe_or_module l m is = let no : ⊥ = cc in no

module _ (p : Parts) (names : List (List ℕ)) where
  recipe_one : (l k : Located) (line row : List ℕ) → IsFound p names l line → IsFound p names k row → l ≡ k
  recipe_one l k line row h g = one_recipe l k (one_ok (named_of p names) (Target.to_recipe l) (Target.to_recipe k) h.recipe g.recipe)

  line_one : (l k : Located) (line row : List ℕ) → IsFound p names l line → IsFound p names k row → line ≡ row
  line_one l k line row h g =
      let ends = ends_one h.front g.front h.last g.last (sym h.split ∙ g.split) in
      let inner : h.named.inner ≡ g.named.inner = one_ok (inner_of p g.front) h.named.inner g.named.inner (ap (λ (f : List (List ℕ)). inner_of p f) (sym ends.0) ∙ h.named.leads) g.named.leads in
      h.named.line_is ∙ (ap (λ (j : Justfile). alias_text p.layout j h.last) inner ∙ (ap (λ (n : List ℕ). alias_text p.layout g.named.inner n) ends.1 ∙ sym g.named.line_is))

  -- a recipe is shown, or refused
  found_or_not : (l : Located) (line : List ℕ) → IsFound p names l line → (name : List ℕ) (why : ShowError) (e : Error) → IsUnshown p names why → e ≡ error_of_show name why → e ≢ error.NoMemory → ⊥
  found_or_not l line h name show_error.Required e (m, named) is own = recipe_or_module l m (one_ok (named_of p names) (Target.to_recipe l) (Target.to_module m) h.recipe named)
  found_or_not l line h name (show_error.Path f) e lost is own = ok_or_err (named_of p names) (Target.to_recipe l) f h.recipe (lost (remembered f e is own))
  found_or_not l line h name show_error.NoMemory e lost is own = own is

  -- for one reason
  unshown_one : (name : List ℕ) (d e : Error) → UnshownBy p name names d → UnshownBy p name names e → d ≡ e
  unshown_one name d e h g = by_reason h.why g.why h.unshown h.error_is h.known g.unshown g.error_is g.known
    where
      by_reason : (why because : ShowError) → IsUnshown p names why → d ≡ error_of_show name why → d ≢ error.NoMemory → IsUnshown p names because → e ≡ error_of_show name because → e ≢ error.NoMemory → d ≡ e
      by_reason show_error.Required show_error.Required a is own b at other = is ∙ sym at
      by_reason show_error.Required (show_error.Path f) (m, named) is own b at other = absurd (ok_or_err (named_of p names) (Target.to_module m) f named (b (remembered f e at other)))
      by_reason (show_error.Path f) show_error.Required a is own (m, named) at other = absurd (ok_or_err (named_of p names) (Target.to_module m) f named (a (remembered f d is own)))
      by_reason (show_error.Path f) (show_error.Path k) a is own b at other =
          is ∙ (ap (λ (x : LangError). error_of_lang x) (one_err (named_of p names) f k (a (remembered f d is own)) (b (remembered k e at other))) ∙ sym at)
      by_reason show_error.NoMemory because a is own b at other = absurd (own is)
      by_reason why show_error.NoMemory a is own b at other = absurd (other at)

shows_one : (c : Config) (p : Parts) (names : List (List ℕ)) (x y : Result (List ℕ) Error) → Shows c p names x → Shows c p names y → x ≡ y
shows_one c p names (Ok s) (Ok t) h g =
    let located : h.located ≡ g.located = recipe_one p names h.located g.located h.line g.line h.found g.found in
    let line : h.line ≡ g.line = line_one p names h.located g.located h.line g.line h.found g.found in
    let told : h.told ≡ g.told = one_some (found_told p.recipes g.located.recipe.path) h.told g.told (ap (λ (l : Located). found_told p.recipes l.recipe.path) (sym located) ∙ h.written) g.written in
    ap (λ z. Ok z)
    (h.text_is
    ∙ (ap (λ (r : List ℕ). r ++ written_text c.indentation h.located.parent h.told) line
    ∙ (ap (λ (l : Located). g.line ++ written_text c.indentation l.parent h.told) located ∙ (ap (λ (x : ToldRecipe). g.line ++ written_text c.indentation g.located.parent x) told ∙ sym g.text_is))))
shows_one c p names (Ok s) (Err e) h g = absurd (found_or_not p names h.located h.line h.found (codes "show") g.why e g.unshown g.error_is g.known)
shows_one c p names (Err d) (Ok t) h g = absurd (found_or_not p names g.located g.line g.found (codes "show") h.why d h.unshown h.error_is h.known)
shows_one c p names (Err d) (Err e) h g = ap (λ z. Err z) (unshown_one p names (codes "show") d e h g)

uses_one : (p : Parts) (names : List (List ℕ)) (x y : Result (List ℕ) Error) → Uses p names x → Uses p names y → x ≡ y
uses_one p names (Ok s) (Ok t) h g =
    let located : h.located ≡ g.located = recipe_one p names h.located g.located h.line g.line h.found g.found in
    let line : h.line ≡ g.line = line_one p names h.located g.located h.line g.line h.found g.found in
    ap (λ z. Ok z) (h.text_is ∙ (ap (λ (r : List ℕ). r ++ usage_text names h.located.recipe.parameters) line ∙ (ap (λ (l : Located). g.line ++ usage_text names l.recipe.parameters) located ∙ sym g.text_is)))
uses_one p names (Ok s) (Err e) h g = absurd (found_or_not p names h.located h.line h.found (codes "usage") g.why e g.unshown g.error_is g.known)
uses_one p names (Err d) (Ok t) h g = absurd (found_or_not p names g.located g.line g.found (codes "usage") h.why d h.unshown h.error_is h.known)
uses_one p names (Err d) (Err e) h g = ap (λ z. Err z) (unshown_one p names (codes "usage") d e h g)

-- ---- all of them

printers : PrintersAgree
printers = record { trees = tree_one; lists = lists_one; shows = shows_one; uses = uses_one; paths = paths_one; turns = turns_one }

pub texts : TextsAgree
texts = texts_agree printers
