-- What the calls say of their contexts and results.
use Rattle.std.specs.Prelude.{◌≡◌, ℕ, List, Option, Some, None, Result, Ok, Err, String, string_bytes, IfOk}
use Rattle.std.specs.Option.{option_map}
use Rattle.std.specs.Cow.{cow_str_bytes}
use Rattle.std.specs.Fn.{CalledAt, Mut, Once}
use Rattle.std.specs.declared.alloc.Global.{Global}
use Rattle.std.specs.declared.borrow.CowStr.{CowStr}
use Rattle.std.specs.declared.convert.Infallible.{Infallible}
use denote.Ref.{Bor}
use Rattle.just_path_text.specs.declared.memory.NoMemory.{NoMemory}
use Rattle.just_expand.specs.Expansion.{Reply, ExpandsTo, FailsAt}
use Rattle.just_expand.specs.Tilde.{FullyExpandsTo}
use Rattle.just_path_text.specs.Environ.{value_of}
use Rattle.just_expand.specs.declared.error.NotPresent.{NotPresent}
use Rattle.just_expand.specs.declared.error.Expand.{Expand}
use Rattle.just_expand.specs.declared.error.Expand.TheVariants as expand

-- the answer that a closure's result is
abbrev pub reply_of : {E : Type 0} → Result (Option (String Global)) E → Reply E
reply_of (Ok v) = Ok (option_map string_bytes v)
reply_of (Err e) = Err e

-- a closure as a context: asked for n in the state s, a call may answer r and leave the state s'
abbrev pub Answers : {C E : Type 0} → Mut C (Bor (List ℕ) × Unit {0}) (Result (Option (String Global)) E) → C → List ℕ → Reply E → C → Type 0
Answers {C} {E} g s n r s' = (x : Result (Option (String Global)) E) × CalledAt g s n x s' × (r ≡ reply_of x)

-- the same of a closure that gives no errors
abbrev pub AnswersWithoutError : {C : Type 0} → Mut C (Bor (List ℕ) × Unit {0}) (Option (String Global)) → C → List ℕ → Reply Infallible → C → Type 0
AnswersWithoutError {C} g s n r s' = (x : Option (String Global)) × CalledAt g s n x s' × (r ≡ Ok (option_map string_bytes x))

-- the answer to a name that has that value in an environment
abbrev pub environ_reply : Option (List ℕ) → Reply NotPresent
environ_reply (Some v) = Ok (Some v)
environ_reply None = Err (record {})

-- an environment as a context: its pairs are the state, and stay
abbrev pub EnvironAnswers : List (List ℕ × List ℕ) → List ℕ → Reply NotPresent → List (List ℕ × List ℕ) → Type 0
EnvironAnswers s n r s' = (r ≡ environ_reply (value_of n s)) × (s' ≡ s)

-- the text is refused for that cause
abbrev pub IsCause : {S E : Type 0} → (S → List ℕ → Reply E → S → Type 0) → S → List ℕ → Expand E → Type 0
IsCause asks s t (expand.Lookup l) = FailsAt asks s t (string_bytes l.var_name) l.cause
IsCause asks s t expand.NoMemory = Unit {0}

-- the result of an expansion of the text: what it becomes, or the cause of its refusal
abbrev pub IsExpansion : {S E : Type 0} → (S → List ℕ → Reply E → S → Type 0) → S → List ℕ → Result (CowStr Global) (Expand E) → Type 0
IsExpansion asks s t (Ok x) = ExpandsTo asks s t (cow_str_bytes x)
IsExpansion asks s t (Err e) = IsCause asks s t e

-- the same where the context gives no errors
abbrev pub IsSureExpansion : {S : Type 0} → (S → List ℕ → Reply Infallible → S → Type 0) → S → List ℕ → Result (CowStr Global) NoMemory → Type 0
IsSureExpansion asks s t result = IfOk result (λ x. ExpandsTo asks s t (cow_str_bytes x))

-- a closure as the home folder: a call may give h
abbrev pub GivesHome : {H : Type 0} → Once H (Unit {0}) (Option (String Global)) → H → Option (List ℕ) → Type 0
GivesHome {H} g f h = (x : Option (String Global)) × g.post f tt x × (h ≡ option_map string_bytes x)

-- a home folder that is known: it is that one
abbrev pub IsHome : Option (List ℕ) → Option (List ℕ) → Type 0
IsHome told h = h ≡ told

-- the closure may be called for the home folder
abbrev pub MayCall : {H : Type 0} → Once H (Unit {0}) (Option (String Global)) → H → Type 0
MayCall g f = g.pre f tt

-- the result of an expansion of the text, its variables first and then its tilde
abbrev pub IsFullExpansion : {S E : Type 0} → (S → List ℕ → Reply E → S → Type 0) → (Option (List ℕ) → Type 0) → S → List ℕ → Result (CowStr Global) (Expand E) → Type 0
IsFullExpansion asks home s t (Ok x) = FullyExpandsTo asks home s t (cow_str_bytes x)
IsFullExpansion asks home s t (Err e) = IsCause asks s t e
