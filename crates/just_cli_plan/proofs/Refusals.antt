-- Refusals of lower layers: each is the error of the run that tells it, or memory is wanting.
use Rattle.std.proofs.Common.{◌≡◌, ◌≢◌, inl, inr, Result, Err}
use Rattle.just_lang_types.specs.declared.project.LangError.{LangError}
use Rattle.just_lang_types.specs.declared.project.LangError.TheVariants as lang
use Rattle.just_exec_work.specs.declared.error.CommandError.TheVariants as command
use Rattle.just_exec.specs.declared.plan_error.PlanError.{PlanError}
use Rattle.just_exec.specs.declared.plan_error.PlanError.TheVariants as plan_error
use Rattle.just_exec.specs.Refusals.{error_of_lang}
use Rattle.just_exec.specs.declared.error.Error.{Error}
use Rattle.just_cli_plan.specs.Own.{OrMemory}
use Rattle.just_cli_plan.specs.Planned.{error_of_plan}

-- ---- of a project, or of a request of its recipes

-- the error of a refusal of which that holds
abbrev pub RefusedBy : (LangError → Type 0) → Error → Type 0
RefusedBy holds e = (l : LangError) × holds l × (e ≡ error_of_lang l)

other : (holds : LangError → Type 0) (l : LangError) → (l ≡ lang.NoMemory → ⊥) → (l ≢ lang.NoMemory → holds l) → (e : Error) → e ≡ error_of_lang l → OrMemory (RefusedBy holds) e
other holds l not why e is = inr (l, why not, is)

by_kind : (holds : LangError → Type 0) (l : LangError) → (l ≢ lang.NoMemory → holds l) → (e : Error) → e ≡ error_of_lang l → OrMemory (RefusedBy holds) e
by_kind holds lang.NoMemory why e is = inl is
by_kind holds l why e is = other holds l (λ same. let f : ⊥ = cc in f) why e is

pub lang_refused : (holds : LangError → Type 0) (l : LangError) → (l ≢ lang.NoMemory → holds l) → (e : Error) → e ≡ error_of_lang l → OrMemory (RefusedBy holds) e
lang_refused holds l why e is = by_kind holds l why e is

-- ---- of plans

-- the error of a refusal of that answer
abbrev pub RefusesPlans : {A : Type 0} → Result A PlanError → Error → Type 0
RefusesPlans answer e = (f : PlanError) × (answer ≡ Err f) × (e ≡ error_of_plan f)

by_lines : {A : Type 0} (answer : Result A PlanError) (e : Error) → OrMemory (RefusedBy (λ l. answer ≡ Err (plan_error.Lang l))) e → OrMemory (RefusesPlans answer) e
by_lines answer e (inl wants) = inl wants
by_lines answer e (inr why) = inr (plan_error.Lang why.0, why.1, why.2)

same_lang : (l m : LangError) → plan_error.Lang l ≡ plan_error.Lang m → l ≡ m
same_lang l m is = cc

pub plan_refused : {A : Type 0} (answer : Result A PlanError) (f : PlanError) → (f ≢ plan_error.Lang lang.NoMemory → f ≢ plan_error.Command command.NoMemory → answer ≡ Err f) → (e : Error) → e ≡ error_of_plan f → OrMemory (RefusesPlans answer) e
plan_refused answer (plan_error.Lang l) why e is =
    by_lines answer e (lang_refused (λ m. answer ≡ Err (plan_error.Lang m)) l (λ not. why (λ same. not (same_lang l lang.NoMemory same)) (λ same. let f : ⊥ = cc in f)) e is)
plan_refused answer (plan_error.Command (command.InvalidShebang recipe shebang)) why e is =
    inr (plan_error.Command (command.InvalidShebang recipe shebang), why (λ same. let f : ⊥ = cc in f) (λ same. let f : ⊥ = cc in f), is)
plan_refused answer (plan_error.Command command.NoMemory) why e is = inl is
