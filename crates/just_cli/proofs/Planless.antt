-- Refusals of plans are of no call, and leave no entry in the record.
use Rattle.std.proofs.Common.{◌≡◌, ℕ, Bool, true, false, List, [], ◌∷◌, Option, Some, None, Result, Ok, Err, refl, sym, ◌∙◌, ap, subst}
use Rattle.std.specs.Prelude.{if◌then◌else◌, codes, bytes_eq}
use Rattle.just_lang_types.specs.declared.project.LangError.{LangError}
use Rattle.just_lang_types.specs.declared.project.LangError.TheVariants as lang
use Rattle.just_exec_work.specs.declared.error.CommandError.TheVariants as command_error
use Rattle.just_exec.specs.Refusals.{error_of_lang}
use Rattle.just_exec.specs.declared.error.Error.{Error}
use Rattle.just_cli_plan.specs.Own.{OrMemory}
use Rattle.just_cli_plan.specs.Planned.{error_of_plan}
use Rattle.just_cli_plan.specs.Request.{SourcesRequest, LoadedRequest, ScopesRequest, Outline, AssemblesJustfile, ChecksFeatures, EvaluatesVariables, InvokesKeys, ClosesKeys, MakesPlan, FindsProject, PlansKeys}
use Rattle.just_cli_plan.specs.Steps.{Then}
use Rattle.just_exec.specs.declared.plan_error.PlanError.{PlanError}
use Rattle.just_exec.specs.declared.plan_error.PlanError.TheVariants as plan_error
use Rattle.just_exec.specs.declared.error.Error.TheVariants as error
use Rattle.just_lang_types.specs.declared.project.Justfile.{Justfile}
use Rattle.just_lang_types.specs.Modules.{AreModules, assignments_of}
use Rattle.just_lang_types.specs.declared.scope.Scopes.{Scopes}
use Rattle.just_lang_types.specs.declared.source.Source.{Source}
use Rattle.just_lang_layout.specs.Paths.{Pairs}
use Rattle.just_config_words.specs.declared.subcommand.Subcommand.{Subcommand}
use Rattle.just_config_words.specs.declared.subcommand.Subcommand.TheVariants as command
use Rattle.just_config.specs.declared.config.Config.{Config}
use Rattle.just_eval_words.specs.Names.{module_named}
use Rattle.just_print_lists.specs.declared.variable.Evaluated.{Evaluated}
use Rattle.just_print_lists.specs.declared.variable.EvaluateFormat.{EvaluateFormat}
use Rattle.just_print_lists.specs.NameLists.{variables_text, groups_text}
use Rattle.just_print_commands.specs.declared.error.ListTextError.{ListTextError}
use Rattle.just_print_commands.specs.declared.error.ListTextError.TheVariants as list_error
use Rattle.just_print_commands.specs.declared.error.ShowError.{ShowError}
use Rattle.just_print_commands.specs.declared.error.ShowError.TheVariants as show_error
use Rattle.just_print_commands.specs.Projects.{Parts}
use Rattle.just_cli_texts.specs.declared.printed.Printed.{Printed}
use Rattle.just_cli_texts.specs.Defaults.{ListsLaid}
use Rattle.just_cli_texts.specs.Evaluated.{names_of_words, format_of, variables_of, variable_named, step_in, evaluated_module, text_named, EvaluatesNames}
use Rattle.just_cli_texts.specs.Formatted.{Formats}
use Rattle.just_cli_texts.specs.Laid.{LaidSources, LaidRequest}
use Rattle.just_cli_texts.specs.ListOptions.{prefix_of}
use Rattle.just_cli_texts.specs.Prints.{alone, as_printed, dump_text, PrintsOf, Prints}
use Rattle.just_config.specs.declared.config_error.ConfigError.TheVariants as config_error
use Rattle.just_config.specs.declared.request.Request.{Request}
use Rattle.just_config.specs.declared.request.Request.TheVariants as request
use Rattle.just_cli_texts.specs.Responses.{responded}
use Rattle.just_cli_texts.specs.Targets.{names_of, error_of_list, error_of_show, UnshownBy, Lists, Shows, Uses}
use Rattle.just_cli.specs.declared.task.Other.{Other}
use Rattle.just_cli.specs.declared.task.Other.TheVariants as no_run
use Rattle.just_cli.specs.Commands.{as_shown, checked, anew_or, EvaluatesIt, InvokesIt}
use Rattle.just_cli.specs.Replies.{Reply, as_list, as_plan, Replies, RepliesLoaded}
use Rattle.just_cli_children.specs.Faults.{entries_of}
use Rattle.just_cli.specs.Options.{is_lacking, is_missing}
use Rattle.just_cli.proofs.Silent.{IsSilent, then_silent, or_silent}

lang_silent : (l : LangError) → entries_of (error_of_lang l) ≡ []
lang_silent lang.NoMemory = refl
lang_silent _ = refl

plan_error_silent : (p : PlanError) → entries_of (error_of_plan p) ≡ []
plan_error_silent (plan_error.Lang l) = lang_silent l
plan_error_silent (plan_error.Command (command_error.InvalidShebang recipe shebang)) = refl
plan_error_silent (plan_error.Command command_error.NoMemory) = refl

by_lang : (l : LangError) (e : Error) → e ≡ error_of_lang l → entries_of e ≡ []
by_lang l e is = ap (λ x. entries_of x) is ∙ lang_silent l

keys_silent : IsSilent PlansKeys
keys_silent =
    then_silent InvokesKeys _ (λ k e why. by_lang why.0 e why.2)
    (then_silent ClosesKeys MakesPlan (λ k e why. by_lang why.0 e why.2) (λ k e why. ap (λ x. entries_of x) why.2 ∙ plan_error_silent why.0))

finds_silent : IsSilent FindsProject
finds_silent = then_silent AssemblesJustfile ChecksFeatures (λ s e why. by_lang why.0 e why.2) (λ p e why. ap (λ x. entries_of x) why.2)

pub sources_silent : (s : SourcesRequest) (e : Error) → OrMemory (λ x. FindsProject s (Err x)) e → entries_of e ≡ []
sources_silent s e why = or_silent (λ x. FindsProject s (Err x)) e (finds_silent s) why

-- ---- refusals of texts

list_silent : (x : ListTextError) → entries_of (error_of_list x) ≡ []
list_silent (list_error.Path l) = lang_silent l
list_silent (list_error.UnknownGroup group) = refl
list_silent list_error.NoMemory = refl

show_silent : (name : List ℕ) (x : ShowError) → entries_of (error_of_show name x) ≡ []
show_silent name show_error.Required = refl
show_silent name (show_error.Path l) = lang_silent l
show_silent name show_error.NoMemory = refl

unlisted_silent : (c : Config) (p : Parts) (names : List (List ℕ)) (e : Error) → Lists c p names (Err e) → entries_of e ≡ []
unlisted_silent c p names e (o, are, why) = ap (λ x. entries_of x) why.error_is ∙ list_silent why.why

unshown_silent : (p : Parts) (name : List ℕ) (names : List (List ℕ)) (e : Error) → UnshownBy p name names e → entries_of e ≡ []
unshown_silent p name names e why = ap (λ x. entries_of x) why.error_is ∙ show_silent name why.why

-- of a text that stands alone the refusal is its own
alone_refused : (holds : Result (List ℕ) Error → Type 0) → ((f : Error) → holds (Err f) → entries_of f ≡ []) → (x : Result (List ℕ) Error) (e : Error) → holds x → ◌≡◌ {A = Result Printed Error} (Err e) (as_printed x) → entries_of e ≡ []
alone_refused holds each (Ok text) e is same = absurd (let no : ⊥ = cc in no)
alone_refused holds each (Err f) e is same = let one : e ≡ f = cc in ap (λ x. entries_of x) one ∙ each f is

found_refused : {A : Type 0} (x : A) (e : Error) → ◌≡◌ {A = Result A Error} (Err e) (Ok x) → entries_of e ≡ []
found_refused x e is = absurd (let no : ⊥ = cc in no)

prints_of_silent : (c : Config) (s : Option Subcommand) (p : Parts) (e : Error) → PrintsOf c s p (Err e) → entries_of e ≡ []
prints_of_silent c None p e is = absurd is
prints_of_silent c (Some (command.Dump ws)) p e is = found_refused (alone (dump_text c p)) e is
prints_of_silent c (Some (command.Groups ws)) p e is = found_refused (alone (groups_text c.unsorted (prefix_of c) p.tree)) e is
prints_of_silent c (Some (command.List ws)) p e (x, lists, is) = alone_refused (Lists c p (names_of ws)) (unlisted_silent c p (names_of ws)) x e lists is
prints_of_silent c (Some (command.Show ws)) p e (x, shows, is) = alone_refused (Shows c p (names_of ws)) (unshown_silent p (codes "show") (names_of ws)) x e shows is
prints_of_silent c (Some (command.Summary ws)) p e (x, sums, is) = found_refused x e is
prints_of_silent c (Some (command.Usage ws)) p e (x, uses, is) = alone_refused (Uses p (names_of ws)) (unshown_silent p (codes "usage") (names_of ws)) x e uses is
prints_of_silent c (Some (command.Variables ws)) p e is = found_refused (alone (variables_text (assignments_of p.root))) e is
prints_of_silent c (Some (command.Choose ws)) p e is = absurd is
prints_of_silent c (Some (command.Clean ws)) p e is = absurd is
prints_of_silent c (Some (command.Command ws)) p e is = absurd is
prints_of_silent c (Some (command.Edit ws)) p e is = absurd is
prints_of_silent c (Some (command.Evaluate ws)) p e is = absurd is
prints_of_silent c (Some (command.Fmt ws)) p e is = absurd is
prints_of_silent c (Some (command.Init ws)) p e is = absurd is
prints_of_silent c (Some (command.Request ws)) p e is = absurd is
prints_of_silent c (Some (command.Vectors ws)) p e is = absurd is

pub prints_silent : (environ : Pairs) (c : Config) (l : LaidSources) (e : Error) → OrMemory (λ x. Prints environ c l (Err x)) e → entries_of e ≡ []
prints_silent environ c l e why = or_silent (λ x. Prints environ c l (Err x)) e (λ x prints. prints_of_silent c c.subcommand prints.0 x prints.2) why

-- ---- replies

lists_silent : (environ : Pairs) (c : Config) (l : LaidSources) (names : List (List ℕ)) (e : Error) → ListsLaid environ c l names (Err e) → entries_of e ≡ []
lists_silent environ c l names e (p, are, (x, lists, is)) = alone_refused (Lists c p names) (unlisted_silent c p names) x e lists is

listed_silent : (environ : Pairs) (c : Config) (l : LaidSources) (names : List (List ℕ)) (x : Result Printed Error) (e : Error) → ListsLaid environ c l names x → ◌≡◌ {A = Result Reply Error} (Err e) (as_list x) → entries_of e ≡ []
listed_silent environ c l names (Ok p) e lists is = absurd (let no : ⊥ = cc in no)
listed_silent environ c l names (Err f) e lists is = let one : e ≡ f = cc in ap (λ x. entries_of x) one ∙ lists_silent environ c l names f lists

planned_silent : (s : ScopesRequest) (x : Result Outline Error) (e : Error) → PlansKeys s x → ◌≡◌ {A = Result Reply Error} (Err e) (as_plan x) → entries_of e ≡ []
planned_silent s (Ok o) e plans is = absurd (let no : ⊥ = cc in no)
planned_silent s (Err f) e plans is = let one : e ≡ f = cc in ap (λ x. entries_of x) one ∙ keys_silent s f plans

replies_silent : (c : Config) (q : LaidRequest) → IsSilent (Replies c q)
replies_silent c q s e (Replies.by_list names x some lists is) = listed_silent q.environ.pairs c q.laid names x e lists is
replies_silent c q s e (Replies.by_plan x none plans is) = planned_silent s x e plans is

loaded_silent : (c : Config) (q : LaidRequest) → IsSilent (RepliesLoaded c q)
loaded_silent c q = then_silent EvaluatesVariables (Replies c q) (λ p e why. by_lang why.0 e why.2) (replies_silent c q)

-- what is told whatever the list of modules
all_silent : {B : Type 0} (looks : LoadedRequest → Result B Error → Type 0) → IsSilent looks → (p : List Justfile → LoadedRequest) (j : Justfile) (modules : List Justfile) → AreModules (j ∷ []) modules → (e : Error)
    → OrMemory (λ x. (ms : List Justfile) → AreModules (j ∷ []) ms → looks (p ms) (Err x)) e → entries_of e ≡ []
all_silent looks silent p j modules are e why = or_silent (λ x. (ms : List Justfile) → AreModules (j ∷ []) ms → looks (p ms) (Err x)) e (λ x gives. silent (p modules) x (gives modules are)) why

pub reply_silent : (c : Config) (q : LaidRequest) (p : List Justfile → LoadedRequest) (j : Justfile) (modules : List Justfile) → AreModules (j ∷ []) modules → (e : Error)
    → OrMemory (λ x. (ms : List Justfile) → AreModules (j ∷ []) ms → RepliesLoaded c q (p ms) (Err x)) e → entries_of e ≡ []
reply_silent c q p j modules are e why = all_silent (RepliesLoaded c q) (loaded_silent c q) p j modules are e why

-- ---- values

step_silent : (ms : List Justfile) (go : Justfile → Result Justfile Error) (name : List ℕ) (o : Option Justfile) (e : Error) → ((m : Justfile) → go m ≡ Err e → entries_of e ≡ []) → step_in ms o go name ≡ Err e → entries_of e ≡ []
step_silent ms go name None e each same = let one : error.EvalUnknownSubmodule name ≡ e = cc in ap (λ x. entries_of x) (sym one)
step_silent ms go name (Some m) e each same = each m same

module_silent : (ms : List Justfile) (names : List (List ℕ)) (j : Justfile) (e : Error) → evaluated_module ms names j ≡ Err e → entries_of e ≡ []
module_silent ms [] j e is = absurd (let no : ⊥ = cc in no)
module_silent ms (name ∷ names) j e is = step_silent ms (λ m. evaluated_module ms names m) name (module_named ms j name) e (λ m same. module_silent ms names m e same) is

text_silent : (f : EvaluateFormat) (ms : List Justfile) (scopes : Scopes) (name : List ℕ) (v : Option Evaluated) (m : Option Justfile) (e : Error) → Err e ≡ text_named f ms scopes name v m → entries_of e ≡ []
text_silent f ms scopes name (Some v) m e is = absurd (let no : ⊥ = cc in no)
text_silent f ms scopes name None (Some m) e is = absurd (let no : ⊥ = cc in no)
text_silent f ms scopes name None None e is = let one : e ≡ error.EvalUnknownSubmoduleOrVariable name = cc in ap (λ x. entries_of x) one

names_silent : (f : EvaluateFormat) (ms : List Justfile) (scopes : Scopes) (root : Justfile) (names : List (List ℕ)) (e : Error) → EvaluatesNames f ms scopes root names (Err e) → entries_of e ≡ []
names_silent f ms scopes root names e (EvaluatesNames.whole none is) = absurd (let no : ⊥ = cc in no)
names_silent f ms scopes root names e (EvaluatesNames.lost front last d split lost is) = let one : e ≡ d = cc in ap (λ x. entries_of x) one ∙ module_silent ms front root d lost
names_silent f ms scopes root names e (EvaluatesNames.named front last j split leads is) = text_silent f ms scopes last (variable_named (variables_of scopes j) last) (module_named ms j last) e is

shown_refused : (x : Result (List ℕ) Error) (e : Error) → ((f : Error) → x ≡ Err f → entries_of f ≡ []) → ◌≡◌ {A = Result Other Error} (Err e) (as_shown (as_printed x)) → entries_of e ≡ []
shown_refused (Ok text) e each is = absurd (let no : ⊥ = cc in no)
shown_refused (Err f) e each is = let one : e ≡ f = cc in ap (λ x. entries_of x) one ∙ each f refl

evaluates_silent : (c : Config) → IsSilent (EvaluatesIt c)
evaluates_silent c s e (x, gives, is) =
    shown_refused x e (λ f same. names_silent (format_of c) s.modules s.scopes s.justfile (names_of_words s.wanted.words) f (subst (λ z. EvaluatesNames (format_of c) s.modules s.scopes s.justfile (names_of_words s.wanted.words) z) same gives)) is

pub values_silent : (c : Config) (p : List Justfile → LoadedRequest) (j : Justfile) (modules : List Justfile) → AreModules (j ∷ []) modules → (e : Error)
    → OrMemory (λ x. (ms : List Justfile) → AreModules (j ∷ []) ms → Then EvaluatesVariables (EvaluatesIt c) (p ms) (Err x)) e → entries_of e ≡ []
values_silent c p j modules are e why =
    all_silent (Then EvaluatesVariables (EvaluatesIt c)) (then_silent EvaluatesVariables (EvaluatesIt c) (λ k f told. by_lang told.0 f told.2) (evaluates_silent c)) p j modules are e why

-- ---- children of words

invokes_silent : (c : Config) → IsSilent (InvokesIt c)
invokes_silent c s e is = absurd (let no : ⊥ = cc in no)

pub invocation_silent : (c : Config) (p : List Justfile → LoadedRequest) (j : Justfile) (modules : List Justfile) → AreModules (j ∷ []) modules → (e : Error)
    → OrMemory (λ x. (ms : List Justfile) → AreModules (j ∷ []) ms → Then EvaluatesVariables (InvokesIt c) (p ms) (Err x)) e → entries_of e ≡ []
invocation_silent c p j modules are e why =
    all_silent (Then EvaluatesVariables (InvokesIt c)) (then_silent EvaluatesVariables (InvokesIt c) (λ k f told. by_lang told.0 f told.2) (invokes_silent c)) p j modules are e why

-- ---- a text that is made anew

anew_silent : (check file same : Bool) (path new : List ℕ) (e : Error)
    → ◌≡◌ {A = Result Other Error} (Err e) (if check then checked same else (if file then (if same then Ok no_run.Nothing else Ok (no_run.Write path new)) else Ok (no_run.Show (alone new)))) → entries_of e ≡ []
anew_silent true file true path new e is = absurd (let no : ⊥ = cc in no)
anew_silent true file false path new e is = let one : e ≡ error.FormatCheckFoundDiff = cc in ap (λ x. entries_of x) one
anew_silent false true true path new e is = absurd (let no : ⊥ = cc in no)
anew_silent false true false path new e is = absurd (let no : ⊥ = cc in no)
anew_silent false false same path new e is = absurd (let no : ⊥ = cc in no)

pub formats_silent : (c : Config) (environ : Pairs) (source : Source) (file : Bool) (path : List ℕ) (e : Error)
    → OrMemory (λ x. (y : Result (List ℕ) Error) × Formats c environ source y × ◌≡◌ {A = Result Other Error} (Err x) (anew_or c.check file path source.text y)) e → entries_of e ≡ []
formats_silent c environ source file path e why = or_silent (λ x. (y : Result (List ℕ) Error) × Formats c environ source y × ◌≡◌ {A = Result Other Error} (Err x) (anew_or c.check file path source.text y)) e each why
  where
    by_text : (y : Result (List ℕ) Error) (x : Error) → Formats c environ source y → ◌≡◌ {A = Result Other Error} (Err x) (anew_or c.check file path source.text y) → entries_of x ≡ []
    by_text (Ok text) x formats is = anew_silent c.check file (bytes_eq text source.text) path text x is
    by_text (Err d) x (l, refuses, not, is_lang) is = let one : x ≡ d = cc in ap (λ z. entries_of z) one ∙ by_lang l d is_lang

    each : (x : Error) → ((y : Result (List ℕ) Error) × Formats c environ source y × ◌≡◌ {A = Result Other Error} (Err x) (anew_or c.check file path source.text y)) → entries_of x ≡ []
    each x k = by_text k.0 x k.1 k.2

-- ---- responses

pub response_silent : (environ : Pairs) (q : Option Request) (e : Error) → OrMemory (λ x. responded environ q ≡ Err x) e → entries_of e ≡ []
response_silent environ q e why = or_silent (λ x. responded environ q ≡ Err x) e (λ x is. by_request q x is) why
  where
    by_request : (q : Option Request) (x : Error) → responded environ q ≡ Err x → entries_of x ≡ []
    by_request None x is = let one : error.Config config_error.RequestParse ≡ x = cc in ap (λ z. entries_of z) (sym one)
    by_request (Some (request.EnvironmentVariable name)) x is = absurd (let no : ⊥ = cc in no)

-- ---- names that are missing

pub lacking_silent : (e : Error) → is_lacking e ≡ true → entries_of e ≡ []
lacking_silent (error.UnknownRecipe recipe) is = refl
lacking_silent (error.UnknownSubmodule path) is = refl
lacking_silent _ is = absurd (cc)

pub missing_silent : (e : Error) → is_missing e ≡ true → entries_of e ≡ []
missing_silent (error.UnknownRecipe recipe) is = refl
missing_silent (error.UnknownSubmodule path) is = refl
missing_silent (error.ModuleAbsent m) is = refl
missing_silent _ is = absurd (cc)
