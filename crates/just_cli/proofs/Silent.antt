-- Refusals of no call leave no entry in the record.
use Rattle.std.proofs.Common.{◌≡◌, inl, inr, [], Result, Err, ◌∙◌, ap}
use Rattle.just_path_text.specs.declared.environ.Environ.{Environ}
use Rattle.just_exec.specs.declared.error.Error.{Error}
use Rattle.just_cli_plan.specs.Own.{OrMemory}
use Rattle.just_cli_plan.specs.Steps.{Then, stops, goes_on}
use Rattle.just_cli_children.specs.Faults.{entries_of}
use Rattle.just_cli.specs.Words.{WordsRequest, FolderRequest, ReadsWords, Configures}

-- a step refuses by no call
abbrev pub IsSilent : {A B : Type 0} → (A → Result B Error → Type 0) → Type 0
IsSilent {A} step = (known : A) (e : Error) → step known (Err e) → entries_of e ≡ []

-- so do two steps, each of which does
pub then_silent : {A B C : Type 0} (one : A → Result B Error → Type 0) (two : B → Result C Error → Type 0) → IsSilent one → IsSilent two → IsSilent (Then one two)
then_silent one two a b known e (stops f p is) = let same : e ≡ f = cc in ap (λ x. entries_of x) same ∙ a known f p
then_silent one two a b known e (goes_on x p more) = b x e more

pub or_silent : (holds : Error → Type 0) (e : Error) → ((x : Error) → holds x → entries_of x ≡ []) → OrMemory holds e → entries_of e ≡ []
or_silent holds e each (inl wants) = ap (λ x. entries_of x) wants
or_silent holds e each (inr is) = each e is

pub words_silent : (q : WordsRequest) (e : Error) → OrMemory (λ x. ReadsWords q (Err x)) e → entries_of e ≡ []
words_silent q e why = or_silent (λ x. ReadsWords q (Err x)) e (λ x faulty. ap (λ y. entries_of y) faulty.2) why

configures_silent : IsSilent Configures
configures_silent q e why = ap (λ x. entries_of x) why.2

pub configuration_silent : (q : Environ → FolderRequest) (environ : Environ) (e : Error) → OrMemory (λ x. (k : Environ) → Configures (q k) (Err x)) e → entries_of e ≡ []
configuration_silent q environ e why = or_silent (λ x. (k : Environ) → Configures (q k) (Err x)) e (λ x configures. configures_silent (q environ) x (configures environ)) why
