-- What was loaded, one after the other, is what the root leads to.
use Rattle.std.proofs.Common.{◌≡◌, ℕ, true, List, [], ◌∷◌, ◌++◌, Option, None, is_some, refl, ap, sym, ◌∙◌, subst, append_assoc}
use Rattle.std.specs.Prelude.{Contains, Result, Ok, Err, OnOk}
use Rattle.std.specs.List.{AllByRecursion}
use Rattle.std.proofs.lemmas.List.{append-nil}
use Rattle.std.proofs.lemmas.List.Elements.{Contains-append_left, Contains-append_right, All-contains_itself, recursion_from_All}
use Rattle.just_path.specs.Clean.{cleaned}
use Rattle.just_path_text.specs.declared.environ.Environ.{Environ}
use Rattle.just_lang_types.specs.declared.source.Source.{Source}
use Rattle.just_lang_layout.specs.Paths.{Pairs}
use Rattle.just_host_record.specs.World.{World}
use Rattle.just_env.specs.declared.search_error.SearchError.{SearchError}
use Rattle.just_search_load.specs.Loads.{source_at, is_loaded, Loads, LoadsAll, Ends}
use Rattle.just_env.specs.Answers.{GivesEnviron}
use Rattle.just_search_load.specs.Named.{SourceNames}
use Rattle.just_search_load.specs.Numbers.{number_of}
use Rattle.just_search_load.specs.Whole.{IsNamed, AreReached, IsClosed, IsWhole}
use Rattle.just_search_load.proofs.Numbered.{number_stays, number_last}

each : {A : Type 0} {P Q : A → Type 0} → ((x : A) → P x → Q x) → (xs : List A) → AllByRecursion P xs → AllByRecursion Q xs
each f [] h = tt
each f (x ∷ xs) h = (f x h.0, each f xs h.1)

both : {A : Type 0} (P : A → Type 0) (xs ys : List A) → AllByRecursion P xs → AllByRecursion P ys → AllByRecursion P (xs ++ ys)
both P [] ys h g = g
both P (x ∷ xs) ys h g = (h.0, both P xs ys h.1 g)

front_of : {A : Type 0} (P : A → Type 0) (xs ys : List A) → AllByRecursion P (xs ++ ys) → AllByRecursion P xs
front_of P [] ys h = tt
front_of P (x ∷ xs) ys h = (h.0, front_of P xs ys h.1)

rest_of : {A : Type 0} (P : A → Type 0) (xs ys : List A) → AllByRecursion P (xs ++ ys) → AllByRecursion P ys
rest_of P [] ys h = h
rest_of P (x ∷ xs) ys h = rest_of P xs ys h.1

itself : {A : Type 0} (xs : List A) → AllByRecursion (λ x. Contains xs x) xs
itself xs = recursion_from_All (λ x. Contains xs x) xs (All-contains_itself xs)

-- a path that has a number keeps one
stays_loaded : (s : List Source) (x : Source) (path : List ℕ) → is_loaded s path ≡ true → is_loaded (s ++ x ∷ []) path ≡ true
stays_loaded s x path h = number_stays s x path h

last_loaded : (s : List Source) (path text : List ℕ) → number_of s path ≡ None → is_loaded (s ++ source_at path text ∷ []) path ≡ true
last_loaded s path text none = ap is_some (number_last s (s ++ source_at path text ∷ []) path text (cleaned path) refl none refl)

module _ (told : Option World) (environ : Pairs) (before : List Source) (root : List ℕ) where
  -- what loading some paths behind further sources comes to: it keeps what was there, and all that is loaded then is reached and closed
  abbrev pub ComesTo : List Source → List (List ℕ) → Result (List Source) SearchError → Type 0
  ComesTo more paths (Err e) = Unit {0}
  ComesTo more paths (Ok new) =
      (added : List Source) × (new ≡ before ++ (more ++ added)) × AreReached told environ before root (more ++ added) × ((path : List ℕ) → is_loaded (before ++ more) path ≡ true → is_loaded new path ≡ true)
      × AllByRecursion (λ path. is_loaded new path ≡ true) paths × AllByRecursion (IsClosed told environ new) added

  named_still : (more : List Source) (x : Source) (path : List ℕ) → IsNamed told environ root more path → IsNamed told environ root (more ++ x ∷ []) path
  named_still more x path (IsNamed.as_root is) = IsNamed.as_root is
  named_still more x path (IsNamed.by_source s named among names has) = IsNamed.by_source s named (Contains-append_left more (x ∷ []) s among) names has

  loaded_first : (more : List Source) (path : List ℕ) (paths : List (List ℕ)) (r : Result (List Source) SearchError) → is_loaded (before ++ more) path ≡ true → ComesTo more paths r → ComesTo more (path ∷ paths) r
  loaded_first more path paths (Err e) h so = tt
  loaded_first more path paths (Ok new) h so = (so.0, so.1, so.2, so.3, (so.3 path h, so.4), so.5)

  loaded_then : (more : List Source) (path text : List ℕ) (found paths : List (List ℕ)) (r : Result (List Source) SearchError) → number_of (before ++ more) path ≡ None → SourceNames told environ (source_at path text) (Ok found)
      → ComesTo (more ++ source_at path text ∷ []) (found ++ paths) r → ComesTo more (path ∷ paths) r
  loaded_then more path text found paths (Err e) none names so = tt
  loaded_then more path text found paths (Ok new) none names so =
      let x = source_at path text in
      let behind : before ++ (more ++ x ∷ []) ≡ (before ++ more) ++ x ∷ [] = sym (append_assoc before more (x ∷ [])) in (
        x ∷ so.0,
        so.1 ∙ ap (λ xs. before ++ xs) (append_assoc more (x ∷ []) so.0),
        subst (λ xs. AreReached told environ before root xs) (append_assoc more (x ∷ []) so.0) so.2,
        (λ p h. so.3 p (ap (λ xs. is_loaded xs p) behind ∙ stays_loaded (before ++ more) x p h)),
        (so.3 path (ap (λ xs. is_loaded xs path) behind ∙ last_loaded (before ++ more) path text none), rest_of (λ p. is_loaded new p ≡ true) found paths so.4),
        (record { named = found; names = names; there = front_of (λ p. is_loaded new p ≡ true) found paths so.4 }, so.5),
      )

  comes : (now : List Source) (paths : List (List ℕ)) (r : Result (List Source) SearchError) → Loads told environ now paths r → (more : List Source) → now ≡ before ++ more → AreReached told environ before root more
      → AllByRecursion (IsNamed told environ root more) paths → ComesTo more paths r
  comes _ _ _ (Loads.nothing_left now) more is reached named =
      ([], is ∙ ap (λ xs. before ++ xs) (sym (append-nil more)), subst (λ xs. AreReached told environ before root xs) (sym (append-nil more)) reached, (λ p h. ap (λ xs. is_loaded xs p) is ∙ h), tt, tt)
  comes _ _ _ (Loads.loaded_before now path paths n r number rest) more is reached named =
      loaded_first more path paths r (ap (λ xs. is_loaded xs path) (sym is) ∙ ap is_some number) (comes now paths r rest more is reached named.1)
  comes _ _ _ (Loads.loaded_now now path paths text found r none read names rest) more is reached named =
      let x = source_at path text in
      let new = subst (λ xs. number_of xs path ≡ None) is none in
      let last : Contains (more ++ x ∷ []) x = Contains-append_right more (x ∷ []) x (itself (x ∷ [])).0 in
      let all = both (IsNamed told environ root (more ++ x ∷ [])) found paths (each (λ p has. IsNamed.by_source x found last names has) found (itself found)) (each (named_still more x) paths named.1) in
      loaded_then more path text found paths r new names
      (comes (now ++ x ∷ []) (found ++ paths) r rest (more ++ x ∷ []) (ap (λ xs. xs ++ x ∷ []) is ∙ append_assoc before more (x ∷ [])) (AreReached.one_more more path text reached new read named.0) all)
  comes _ _ _ (Loads.unread now path paths e none read) more is reached named = tt
  comes _ _ _ (Loads.unseen now path paths text e none read names) more is reached named = tt

-- what is loaded is what the root leads to
pub whole : (told : Option World) (before : List Source) (root : List ℕ) (new : List Source) → LoadsAll told before root (Ok new) → IsWhole told before root new
whole told before root new (LoadsAll.over_environ environ given loads) =
    let so = comes told environ.pairs before root before (root ∷ []) (Ok new) loads [] (sym (append-nil before)) AreReached.none (IsNamed.as_root refl, tt) in
    record { environ = environ; given = given; more = so.0; behind = so.1; root_there = so.4.0; reached = so.2; closed = so.5 }
whole told before root new (LoadsAll.no_environ e given is) = absurd (let no : ⊥ = cc in no)

-- the same over an environment that the host gives
pub whole_over : (told : Option World) (before new : List Source) (root : List ℕ) (environ : Environ) (r : Result (Unit {0}) SearchError) → GivesEnviron told (Ok environ) → Ends (Loads told environ.pairs before (root ∷ [])) new r → OnOk r (IsWhole told before root new)
whole_over told before new root environ (Ok x) given loads = whole told before root new (LoadsAll.over_environ environ given loads)
whole_over told before new root environ (Err e) given loads = tt
