-- What things give, one behind the other, as a walk comes to it.
use Rattle.std.proofs.Common.{◌≡◌, inl, inr, ℕ, suc, ◌+◌, ◌<◌, ◌≤◌, List, [], ◌∷◌, ◌++◌, drop, length, get_or, ap, sym, ◌∙◌, subst, append_assoc, add-one}
use Rattle.std.proofs.Math.ListN.{drop_of_length-le}
use Rattle.std.proofs.Math.Seq.{drop-cons}
use Rattle.std.specs.Prelude.{Result, Ok, Err}
use Rattle.std.proofs.lemmas.List.{append-nil}
use Rattle.just_env.specs.declared.search_error.SearchError.{SearchError}
use Rattle.just_search_load.specs.Gathers.{Gathers, Adds}

-- what was gathered so far, before what the rest gives
pub record Leads {A B : Type 0} (gives : A → Result (List B) SearchError → Type 0) (all rest : List A) (found : List B) : Type 0 where
  pub more : (zs : List B) → Gathers gives rest (Ok zs) → Gathers gives all (Ok (found ++ zs))
  pub refused : (e : SearchError) → Gathers gives rest (Err e) → Gathers gives all (Err e)

pub leads_none : {A B : Type 0} (gives : A → Result (List B) SearchError → Type 0) (all : List A) → Leads gives all all []
leads_none gives all = record { more = λ zs g. g; refused = λ e g. g }

pub leads_one : {A B : Type 0} (gives : A → Result (List B) SearchError → Type 0) (all rest : List A) (found : List B) (x : A) (ys : List B) → Leads gives all (x ∷ rest) found → gives x (Ok ys) → Leads gives all rest (found ++ ys)
leads_one gives all rest found x ys so given = record {
  more = λ zs g. subst (λ r. Gathers gives all (Ok r)) (sym (append_assoc found ys zs)) (so.more (ys ++ zs) (Gathers.more x rest ys zs given g));
  refused = λ e g. so.refused e (Gathers.refused_later x rest ys e given g);
}

pub leads_refused : {A B : Type 0} (gives : A → Result (List B) SearchError → Type 0) (all rest : List A) (found : List B) (x : A) (e : SearchError) → Leads gives all (x ∷ rest) found → gives x (Err e) → Gathers gives all (Err e)
leads_refused gives all rest found x e so given = so.refused e (Gathers.refused_first x rest e given)

pub leads_all : {A B : Type 0} (gives : A → Result (List B) SearchError → Type 0) (all : List A) (found : List B) → Leads gives all [] found → Gathers gives all (Ok found)
leads_all gives all found so = subst (λ r. Gathers gives all (Ok r)) (append-nil found) (so.more [] Gathers.nothing)

-- what one thing alone gives
pub one_alone : {A B : Type 0} (gives : A → Result (List B) SearchError → Type 0) (x : A) (ys : List B) → gives x (Ok ys) → Gathers gives (x ∷ []) (Ok ys)
one_alone gives x ys given = subst (λ r. Gathers gives (x ∷ []) (Ok r)) (append-nil ys) (Gathers.more x [] ys [] given Gathers.nothing)

-- what is added so far, before what the things from a place on give
abbrev pub Added : {A B : Type 0} (gives : A → Result (List B) SearchError → Type 0) (all : List A) (i : ℕ) (old now : List B) → Type 0
Added {A} {B} gives all i old now = (more : List B) × Leads gives all (drop i all) more × (now ≡ old ++ more)

pub added_none : {A B : Type 0} (gives : A → Result (List B) SearchError → Type 0) (all : List A) (old : List B) → Added gives all 0 old old
added_none gives all old = ([], leads_none gives all, sym (append-nil old))

-- one thing more
pub added_one : {A B : Type 0} (gives : A → Result (List B) SearchError → Type 0) (all : List A) (i : ℕ) (x : A) (old now new : List B) → i < length all → x ≡ get_or all i x → Added gives all i old now → Adds (gives x) now new (Ok tt) → Added gives all (i + 1) old new
added_one gives all i x old now new less is so here =
    let cons : drop i all ≡ x ∷ drop (i + 1) all = rw (add-one, drop-cons all i x less) (ap (λ y. y ∷ drop (suc i) all) (sym is)) in
    (so.0 ++ here.0, leads_one gives all (drop (i + 1) all) so.0 x here.0 (subst (λ xs. Leads gives all xs so.0) cons so.1) here.1, here.2 ∙ ap (λ xs. xs ++ here.0) so.2 ∙ append_assoc old so.0 here.0)

-- a thing that is refused, or want of memory
pub added_refused : {A B : Type 0} (gives : A → Result (List B) SearchError → Type 0) (all : List A) (i : ℕ) (x : A) (old now new : List B) (e : SearchError) → i < length all → x ≡ get_or all i x → Added gives all i old now → Adds (gives x) now new (Err e) → Adds (Gathers gives all) old new (Err e)
added_refused gives all i x old now new e less is so (inl memory) = inl memory
added_refused gives all i x old now new e less is so (inr given) =
    let cons : drop i all ≡ x ∷ drop (i + 1) all = rw (add-one, drop-cons all i x less) (ap (λ y. y ∷ drop (suc i) all) (sym is)) in
    inr (leads_refused gives all (drop (i + 1) all) so.0 x e (subst (λ xs. Leads gives all xs so.0) cons so.1) given)

-- where all were asked
pub added_all : {A B : Type 0} (gives : A → Result (List B) SearchError → Type 0) (all : List A) (i : ℕ) (old now : List B) → length all ≤ i → Added gives all i old now → Adds (Gathers gives all) old now (Ok tt)
added_all gives all i old now over so = (so.0, leads_all gives all so.0 (subst (λ xs. Leads gives all xs so.0) (drop_of_length-le all over) so.1), so.2)
