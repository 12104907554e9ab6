-- What was found is what evaluating the project answers, and nothing else is.
use Rattle.std.proofs.Common.{rules, ◌≡◌, ◌≢◌, ℕ, List, [], ◌∷◌, map, Ok, Err, sym, ap, ◌∙◌, subst}
use Rattle.std.specs.List.{All}
use Rattle.std.proofs.lemmas.Option.{MatchOption-at_none, MatchOption-at_some}
use Rattle.just_lang_types.specs.declared.project.Justfile.{Justfile}
use Rattle.just_lang_types.specs.declared.project.LangError.TheVariants.{NoMemory}
use Rattle.just_lang_types.specs.declared.recipe.Modulepath.{Modulepath}
use Rattle.just_lang_types.specs.declared.scope.DotenvOf.{DotenvOf}
use Rattle.just_lang_types.specs.declared.scope.Scope.{Scope}
use Rattle.just_lang_types.specs.declared.scope.Scopes.{Scopes}
use Rattle.just_path_text.specs.declared.environ.Environ.{Environ}
use Rattle.just_eval_closure.specs.Answers.{Answer}
use Rattle.just_lang_types.specs.Modules.{AreModules, assignments_of}
use Rattle.just_lang_types.proofs.Nesting.{same_modules}
use Rattle.just_eval.specs.Evaluations.{Evaluates, IsEvaluation}
use Rattle.just_eval.specs.Overrides.{AreUnknown}
use Rattle.just_eval.specs.Uses.{AreEnding}
use Rattle.just_eval.proofs.Evaluating.{is_unknown, is_known, is_refused}
use Rattle.just_eval.proofs.Only.{only_unknown, only_known}
use Rattle.just_eval.proofs.evaluation.evaluate.Goals as goal

abbrev scopes_of : List (Modulepath × Scope) → List DotenvOf → Environ → Answer Scopes
scopes_of scopes dotenv environ = Ok (record { scopes = scopes; dotenv = dotenv; environ = environ })

pub scopes-requires : goal.scopes-requires
scopes-requires c =
    subst (λ l. All (λ j. AreEnding (assignments_of j)) (map (λ m. m.now) l)) (sym c.as_slice-list.ensures.value) (c.requires.ends (map (λ m. m.now) c.in_ok-modules.modules.items) c.in_ok-modules.ensures)

pub returns-in-Some-clause-refused : goal.returns-in-Some-clause-refused
returns-in-Some-clause-refused c =
    let ms = map (λ m. m.now) c.as_slice-list.result.now in
    let first = c.args.justfile.now ∷ [] in
    let found : AreModules first ms = subst (λ l. AreModules first (map (λ m. m.now) l)) (sym c.as_slice-list.ensures.value) c.in_ok-modules.ensures in
    λ h modules are. is_unknown first ms modules found are c.args.dotenv.now c.args.environ.now c.args.overrides.now c.in-Some.texts (MatchOption-at_some _ _ c.in-Some.texts c.in-Some.is c.in_ok-texts.ensures)

pub returns-in-Some-clause-only : goal.returns-in-Some-clause-only
returns-in-Some-clause-only c =
    let ms = map (λ m. m.now) c.as_slice-list.result.now in
    let first = c.args.justfile.now ∷ [] in
    let found : AreModules first ms = subst (λ l. AreModules first (map (λ m. m.now) l)) (sym c.as_slice-list.ensures.value) c.in_ok-modules.ensures in
    let u = MatchOption-at_some _ _ c.in-Some.texts c.in-Some.is c.in_ok-texts.ensures in
    λ modules are answer evaluated h. only_unknown modules c.args.overrides.now c.args.dotenv.now c.args.environ.now u.0 c.in-Some.texts u.1 (subst (λ l. AreUnknown l c.args.overrides.now u.0) (same_modules first ms modules found are) u.2) u.3 answer evaluated

pub returns-in_err-found-clause-refused : goal.returns-in_err-found-clause-refused
returns-in_err-found-clause-refused c =
    let ms = map (λ m. m.now) c.as_slice-list.result.now in
    let first = c.args.justfile.now ∷ [] in
    let found : AreModules first ms = subst (λ l. AreModules first (map (λ m. m.now) l)) (sym c.as_slice-list.ensures.value) c.in_ok-modules.ensures in
    let e = c.in_err-found.field-0.0 in
    let refused : e ≢ NoMemory → (modules : List Justfile) → AreModules first modules → IsEvaluation modules c.args.dotenv.now c.args.environ.now c.args.overrides.now (Err e) =
    λ h modules are. is_refused first ms modules found are c.args.dotenv.now c.args.environ.now c.args.overrides.now e (MatchOption-at_none _ _ c.in_default.is c.in_ok-texts.ensures) (c.in_err-found.ensures.refused h) in
    search (rules, refused)

pub returns-in_err-found-clause-only : goal.returns-in_err-found-clause-only
returns-in_err-found-clause-only c =
    let ms = map (λ m. m.now) c.as_slice-list.result.now in
    let first = c.args.justfile.now ∷ [] in
    let found : AreModules first ms = subst (λ l. AreModules first (map (λ m. m.now) l)) (sym c.as_slice-list.ensures.value) c.in_ok-modules.ensures in
    let e = c.in_err-found.field-0.0 in
    let only : (modules : List Justfile) → AreModules first modules → (answer : Answer Scopes) → IsEvaluation modules c.args.dotenv.now c.args.environ.now c.args.overrides.now answer → e ≢ NoMemory → answer ≡ Err e =
    λ modules are answer evaluated h.
    let same = same_modules first ms modules found are in
    only_known modules c.args.overrides.now c.args.dotenv.now c.args.environ.now (Err e) (subst (λ l. AreUnknown l c.args.overrides.now []) same (MatchOption-at_none _ _ c.in_default.is c.in_ok-texts.ensures)) (λ f ev. c.in_err-found.ensures.only f (subst (λ l. Evaluates c.args.dotenv.now c.args.environ.now.pairs c.args.overrides.now l f) (sym same) ev) h) answer evaluated in
    search (rules, only)

-- the scopes with the pairs and the environment that were given are those with their copies
with_copies : (scopes : List (Modulepath × Scope)) (dotenv copies : List DotenvOf) (environ : Environ) (pairs : List (List ℕ × List ℕ)) → copies ≡ dotenv → pairs ≡ environ.pairs → scopes_of scopes dotenv environ ≡ scopes_of scopes copies (record { pairs = pairs })
with_copies scopes dotenv copies environ pairs same alike = ap (λ (ds : List DotenvOf). scopes_of scopes ds environ) (sym same) ∙ ap (λ (ps : List (List ℕ × List ℕ)). scopes_of scopes copies (record { pairs = ps })) (sym alike)

pub returns-clause-evaluated : goal.returns-clause-evaluated
returns-clause-evaluated c =
    let ms = map (λ m. m.now) c.as_slice-list.result.now in
    let first = c.args.justfile.now ∷ [] in
    let found : AreModules first ms = subst (λ l. AreModules first (map (λ m. m.now) l)) (sym c.as_slice-list.ensures.value) c.in_ok-modules.ensures in
    λ modules are. subst (λ (answer : Answer Scopes). IsEvaluation modules c.args.dotenv.now c.args.environ.now c.args.overrides.now answer) (with_copies c.in_ok-found.found c.args.dotenv.now c.in_ok-copies.copies c.args.environ.now c.in_ok-pairs.pairs c.in_ok-copies.ensures c.in_ok-pairs.ensures)
    (is_known first ms modules found are c.args.dotenv.now c.args.environ.now c.args.overrides.now c.in_ok-found.found (MatchOption-at_none _ _ c.in_default.is c.in_ok-texts.ensures) c.in_ok-found.ensures.scopes)

pub returns-clause-only : goal.returns-clause-only
returns-clause-only c =
    let ms = map (λ m. m.now) c.as_slice-list.result.now in
    let first = c.args.justfile.now ∷ [] in
    let found : AreModules first ms = subst (λ l. AreModules first (map (λ m. m.now) l)) (sym c.as_slice-list.ensures.value) c.in_ok-modules.ensures in
    λ modules are answer evaluated.
    only_known modules c.args.overrides.now c.args.dotenv.now c.args.environ.now (Ok c.in_ok-found.found) (subst (λ l. AreUnknown l c.args.overrides.now []) (same_modules first ms modules found are) (MatchOption-at_none _ _ c.in_default.is c.in_ok-texts.ensures))
    (λ f ev. c.in_ok-found.ensures.only f (subst (λ l. Evaluates c.args.dotenv.now c.args.environ.now.pairs c.args.overrides.now l f) (sym (same_modules first ms modules found are)) ev)) answer evaluated
    ∙ with_copies c.in_ok-found.found c.args.dotenv.now c.in_ok-copies.copies c.args.environ.now c.in_ok-pairs.pairs c.in_ok-copies.ensures c.in_ok-pairs.ensures
