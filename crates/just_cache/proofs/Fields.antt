-- The fields of a key are plain, and each is read back from its data.
use Rattle.std.proofs.Common.{◌≡◌, ℕ, suc, List, [], ◌∷◌, map, Less, Equal, Greater, nat_cmp, Option, Some, None, refl, ap}
use Rattle.std.specs.Cmp.Lexicographic.{slice_cmp}
use Rattle.std.specs.Ordering.{match_ordering}
use Rattle.serde_json.specs.Data.{Data, null, boolean, number, string, array, object, Items, no_items, item, Members, no_members, member, put}
use Rattle.serde_json.specs.View.{items_of}
use Rattle.just_cache.specs.declared.key.KeyExecutor.{KeyExecutor}
use Rattle.just_cache.specs.declared.key.KeyExecutor.TheVariants as executor
use Rattle.just_cache.specs.Members.{text_or_null, texts, texts_or_null, object_by, environment, inputs, executor_data}
use Rattle.just_cache.proofs.Plain.{IsPlain, ArePlain, HasPlain}

-- ---- plain

pub text_plain : (o : Option (List ℕ)) (n : ℕ) → IsPlain (text_or_null o) n
text_plain None n = tt
text_plain (Some t) n = tt

items_plain : (ts : List (List ℕ)) (n : ℕ) → ArePlain (items_of (map string ts)) n
items_plain [] n = tt
items_plain (t ∷ ts) n = (tt, items_plain ts n)

pub texts_plain : (ts : List (List ℕ)) (n : ℕ) → IsPlain (texts ts) (suc n)
texts_plain ts n = items_plain ts n

pub texts_or_null_plain : (o : Option (List (List ℕ))) (n : ℕ) → IsPlain (texts_or_null o) (suc n)
texts_or_null_plain None n = tt
texts_or_null_plain (Some ts) n = texts_plain ts n

put_plain : (k : List ℕ) (d : Data) (ms : Members) (n : ℕ) → IsPlain d n → HasPlain ms n → HasPlain (put k d ms) n
put_plain k d no_members n p q = (p, tt)
put_plain k d (member l e ms) n p q =
    elim (slice_cmp nat_cmp k l) as (λ o. HasPlain (match_ordering o (member k d (member l e ms)) (member l d ms) (member l e (put k d ms))) n) [
      | Less ↦ (p, q)
      | Equal ↦ (p, q.1)
      | Greater ↦ (q.0, put_plain k d ms n p q.1)
    ]

pub object_plain : {A : Type 0} (value : A → Data) (n : ℕ) → ((a : A) → IsPlain (value a) n) → (ms : Members) → HasPlain ms n → (pairs : List (List ℕ × A)) → HasPlain (object_by value ms pairs) n
object_plain value n each ms h [] = h
object_plain value n each ms h (p ∷ ps) = object_plain value n each (put p.0 (value p.1) ms) (put_plain p.0 (value p.1) ms n (each p.1) h) ps

pub environment_plain : (pairs : List (List ℕ × Option (List ℕ))) (n : ℕ) → IsPlain (environment pairs) (suc n)
environment_plain pairs n = object_plain text_or_null n (λ o. text_plain o n) no_members tt pairs

pub inputs_plain : (i : Option (List (List ℕ × List ℕ))) (n : ℕ) → IsPlain (inputs i) (suc n)
inputs_plain None n = tt
inputs_plain (Some []) n = tt
inputs_plain (Some (p ∷ ps)) n = object_plain string n (λ t. tt) no_members tt (p ∷ ps)

pub executor_plain : (e : KeyExecutor) (n : ℕ) → IsPlain (executor_data e) (suc (suc n))
executor_plain (executor.Command i) n = (texts_plain i.arguments n, (tt, (tt, tt)))
executor_plain (executor.Shebang argument interpreter) n = (text_plain argument (suc n), (tt, (tt, tt)))

-- ---- read back from its data

abbrev pub text_in : Data → List ℕ
text_in null = []
text_in (boolean b) = []
text_in (number x) = []
text_in (string s) = s
text_in (array ds) = []
text_in (object ms) = []

abbrev pub optional_in : Data → Option (List ℕ)
optional_in null = None
optional_in (boolean b) = None
optional_in (number x) = None
optional_in (string s) = Some s
optional_in (array ds) = None
optional_in (object ms) = None

abbrev pub strings_in : Items → List (List ℕ)
strings_in no_items = []
strings_in (item d ds) = text_in d ∷ strings_in ds

abbrev pub texts_in : Data → List (List ℕ)
texts_in null = []
texts_in (boolean b) = []
texts_in (number x) = []
texts_in (string s) = []
texts_in (array ds) = strings_in ds
texts_in (object ms) = []

abbrev pub optional_texts_in : Data → Option (List (List ℕ))
optional_texts_in null = None
optional_texts_in (boolean b) = None
optional_texts_in (number x) = None
optional_texts_in (string s) = None
optional_texts_in (array ds) = Some (strings_in ds)
optional_texts_in (object ms) = None

abbrev pub members_in : Data → Members
members_in null = no_members
members_in (boolean b) = no_members
members_in (number x) = no_members
members_in (string s) = no_members
members_in (array ds) = no_members
members_in (object ms) = ms

abbrev pub first_in : Members → Data
first_in no_members = null
first_in (member k d ms) = d

abbrev pub later_in : Members → Members
later_in no_members = no_members
later_in (member k d ms) = ms

abbrev pub executor_of : Data → Data → KeyExecutor
executor_of null d = executor.Shebang None (text_in d)
executor_of (boolean b) d = executor.Shebang None (text_in d)
executor_of (number x) d = executor.Shebang None (text_in d)
executor_of (string s) d = executor.Shebang (Some s) (text_in d)
executor_of (array ds) d = executor.Command (record { command = text_in d; arguments = strings_in ds })
executor_of (object ms) d = executor.Shebang None (text_in d)

abbrev pub executor_in : Data → KeyExecutor
executor_in d = executor_of (first_in (members_in d)) (first_in (later_in (members_in d)))

pub text_back : (o : Option (List ℕ)) → optional_in (text_or_null o) ≡ o
text_back None = refl
text_back (Some t) = refl

strings_back : (ts : List (List ℕ)) → strings_in (items_of (map string ts)) ≡ ts
strings_back [] = refl
strings_back (t ∷ ts) = ap (λ l. t ∷ l) (strings_back ts)

pub texts_back : (ts : List (List ℕ)) → texts_in (texts ts) ≡ ts
texts_back ts = strings_back ts

pub texts_or_null_back : (o : Option (List (List ℕ))) → optional_texts_in (texts_or_null o) ≡ o
texts_or_null_back None = refl
texts_or_null_back (Some ts) = ap Some (strings_back ts)

pub executor_back : (e : KeyExecutor) → executor_in (executor_data e) ≡ e
executor_back (executor.Command i) = ap (λ a. executor.Command (record { command = i.command; arguments = a })) (strings_back i.arguments)
executor_back (executor.Shebang None interpreter) = refl
executor_back (executor.Shebang (Some t) interpreter) = refl
