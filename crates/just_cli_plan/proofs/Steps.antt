-- A chain of steps that give one answer of their own at most gives one such answer at most.
use Rattle.std.proofs.Common.{◌≡◌, Result, Ok, Err, ap, sym, ◌∙◌, subst}
use Rattle.just_exec.specs.declared.error.Error.{Error}
use Rattle.just_cli_plan.specs.Own.{IsOwn}
use Rattle.just_cli_plan.specs.Steps.{Then, stops, goes_on}

-- the step gives one answer at most that is no fault of the host's and no pattern's
abbrev pub GivesOwn : {A B : Type 0} → (A → Result B Error → Type 0) → Type 0
GivesOwn {A} {B} step = (known : A) (r s : Result B Error) → step known r → IsOwn r → step known s → IsOwn s → r ≡ s

-- two refusals that are one, of another kind of answer
pub same_refusal : {A B : Type 0} (e f : Error) → ◌≡◌ {A = Result A Error} (Err e) (Err f) → ◌≡◌ {A = Result B Error} (Err e) (Err f)
same_refusal e f is = let same : e ≡ f = cc in ap (λ x. Err x) same

-- a refusal is nothing that was found
pub refused_or_found : {A : Type 0} (e : Error) (x : A) → ◌≡◌ {A = Result A Error} (Err e) (Ok x) → ⊥
refused_or_found e x is = let no : ⊥ = cc in no

-- what was found is one thing
pub same_found : {A : Type 0} (x y : A) → ◌≡◌ {A = Result A Error} (Ok x) (Ok y) → x ≡ y
same_found x y is = cc

-- an answer that is a refusal has what the refusal has
pub own_refusal : {A : Type 0} (r : Result A Error) (e : Error) → r ≡ Err e → IsOwn r → IsOwn {A = A} (Err e)
own_refusal {A = A} r e is own = subst (λ (z : Result A Error). IsOwn z) is own

-- of two steps that give one such answer at most, so does the second behind the first
pub then_own : {A B C : Type 0} (one : A → Result B Error → Type 0) (two : B → Result C Error → Type 0) → GivesOwn one → GivesOwn two → GivesOwn (Then one two)
then_own one two a b known r s (stops e p is) own (stops f q at) other =
    is ∙ same_refusal e f (a known (Err e) (Err f) p (own_refusal r e is own) q (own_refusal s f at other)) ∙ sym at
then_own one two a b known r s (stops e p is) own (goes_on y q more) other = absurd (refused_or_found e y (a known (Err e) (Ok y) p (own_refusal r e is own) q tt))
then_own one two a b known r s (goes_on x p more) own (stops f q at) other = absurd (refused_or_found f x (a known (Err f) (Ok x) q (own_refusal s f at other) p tt))
then_own one two a b known r s (goes_on x p more) own (goes_on y q further) other =
    b y r s (subst (λ z. two z r) (same_found x y (a known (Ok x) (Ok y) p tt q tt)) more) own further other

-- ---- of what has some property

-- the step gives one answer of its own at most from what has the property
abbrev pub GivesOwnOf : {A B : Type 0} → (A → Type 0) → (A → Result B Error → Type 0) → Type 0
GivesOwnOf {A} {B} has step = (known : A) → has known → (r s : Result B Error) → step known r → IsOwn r → step known s → IsOwn s → r ≡ s

-- what it finds has a property too
abbrev pub Finds : {A B : Type 0} → (A → Type 0) → (A → Result B Error → Type 0) → (B → Type 0) → Type 0
Finds {A} {B} has step has_next = (known : A) → has known → (found : B) → step known (Ok found) → has_next found

-- a step that gives one such answer at most from anything
pub own_of : {A B : Type 0} (has : A → Type 0) (step : A → Result B Error → Type 0) → GivesOwn step → GivesOwnOf has step
own_of has step own known h r s p a q b = own known r s p a q b

-- of two steps the second of which gives one such answer at most from what the first finds, so do both
pub then_own_of : {A B C : Type 0} (has : A → Type 0) (has_next : B → Type 0) (one : A → Result B Error → Type 0) (two : B → Result C Error → Type 0)
    → GivesOwnOf has one → Finds has one has_next → GivesOwnOf has_next two → GivesOwnOf has (Then one two)
then_own_of has has_next one two a finds b known h r s (stops e p is) own (stops f q at) other =
    is ∙ same_refusal e f (a known h (Err e) (Err f) p (own_refusal r e is own) q (own_refusal s f at other)) ∙ sym at
then_own_of has has_next one two a finds b known h r s (stops e p is) own (goes_on y q more) other =
    absurd (refused_or_found e y (a known h (Err e) (Ok y) p (own_refusal r e is own) q tt))
then_own_of has has_next one two a finds b known h r s (goes_on x p more) own (stops f q at) other =
    absurd (refused_or_found f x (a known h (Err f) (Ok x) q (own_refusal s f at other) p tt))
then_own_of has has_next one two a finds b known h r s (goes_on x p more) own (goes_on y q further) other =
    b y (finds known h y q) r s (subst (λ z. two z r) (same_found x y (a known h (Ok x) (Ok y) p tt q tt)) more) own further other

-- what two steps find has the property that the second one's has
pub finds_then : {A B C : Type 0} (has : A → Type 0) (has_next : B → Type 0) (has_last : C → Type 0) (one : A → Result B Error → Type 0) (two : B → Result C Error → Type 0)
    → Finds has one has_next → Finds has_next two has_last → Finds has (Then one two) has_last
finds_then has has_next has_last one two f g known h found (stops e p is) = absurd (refused_or_found e found (sym is))
finds_then has has_next has_last one two f g known h found (goes_on x p more) = g x (f known h x p) found more
