-- What things give, in their order, as a walk comes to it.
use Rattle.std.proofs.Common.{◌≡◌, ◌⊎◌, inl, inr, ℕ, suc, ◌+◌, ◌<◌, ◌≤◌, List, [], ◌∷◌, ◌++◌, drop, length, get_or, Option, Some, None, refl, ap, sym, ◌∙◌, subst, append_assoc, add-one}
use Rattle.std.proofs.Math.ListN.{drop_of_length-le}
use Rattle.std.proofs.Math.Seq.{drop-cons}
use Rattle.std.specs.Prelude.{Result, Ok, Err}
use Rattle.std.proofs.lemmas.List.{append-nil}
use Rattle.just_path.specs.Path.{pushed}
use Rattle.just_host_record.specs.World.{World}
use Rattle.just_dotenv.specs.Meaning.{Pairs}
use Rattle.just_env.specs.declared.env_error.EnvError.{EnvError}
use Rattle.just_env.specs.declared.env_error.EnvError.TheVariants as error
use Rattle.just_env.specs.Files.{LoadsFile, LoadsUnder, join, joined, all_under}
use Rattle.just_env.specs.Sequences.{Each}

-- ---- pairs of several files

join_none : (found : Option Pairs) → join found None ≡ found
join_none None = refl
join_none (Some pairs) = refl

join_assoc : (a b c : Option Pairs) → join (join a b) c ≡ join a (join b c)
join_assoc None b c = refl
join_assoc (Some x) None c = refl
join_assoc (Some x) (Some y) None = refl
join_assoc (Some x) (Some y) (Some z) = ap (λ l. Some l) (append_assoc x y z)

joined_more : (founds : List (Option Pairs)) (found : Option Pairs) → joined (founds ++ found ∷ []) ≡ join (joined founds) found
joined_more [] found = join_none found
joined_more (f ∷ fs) found = ap (λ o. join f o) (joined_more fs found) ∙ sym (join_assoc f (joined fs) found)

-- ---- the walk

-- what was gathered so far, before what the rest gives
pub record Leads {A B : Type 0} (gives : A → Result B EnvError → Type 0) (all rest : List A) (ys : List B) : Type 0 where
  pub more : (zs : List B) → Each gives rest (Ok zs) → Each gives all (Ok (ys ++ zs))
  pub refused : (e : EnvError) → Each gives rest (Err e) → Each gives all (Err e)

leads_none : {A B : Type 0} (gives : A → Result B EnvError → Type 0) (all : List A) → Leads gives all all []
leads_none gives all = record { more = λ zs g. g; refused = λ e g. g }

leads_one : {A B : Type 0} (gives : A → Result B EnvError → Type 0) (all rest : List A) (ys : List B) (x : A) (y : B) → Leads gives all (x ∷ rest) ys → gives x (Ok y) → Leads gives all rest (ys ++ y ∷ [])
leads_one gives all rest ys x y so given = record {
  more = λ zs g. subst (λ r. Each gives all (Ok r)) (sym (append_assoc ys (y ∷ []) zs)) (so.more (y ∷ zs) (Each.more x rest y zs given g));
  refused = λ e g. so.refused e (Each.refused_later x rest y e given g);
}

-- ---- of the files under a folder

-- the pairs of the files so far, before those of the names from a place on
abbrev pub Loaded : Option World → Pairs → List ℕ → List (List ℕ) → ℕ → Option Pairs → Type 0
Loaded told environ folder names i found =
    (each : List (Option Pairs)) × Leads (LoadsFile told environ) (all_under folder names) (all_under folder (drop i names)) each × (found ≡ joined each)

pub loaded_none : (told : Option World) (environ : Pairs) (folder : List ℕ) (names : List (List ℕ)) → Loaded told environ folder names 0 None
loaded_none told environ folder names = ([], leads_none (LoadsFile told environ) (all_under folder names), refl)

under_from : (folder : List ℕ) (names : List (List ℕ)) (i : ℕ) (name : List ℕ) → i < length names → name ≡ get_or names i name → all_under folder (drop i names) ≡ pushed folder name ∷ all_under folder (drop (i + 1) names)
under_from folder names i name less is =
    let cons : drop i names ≡ name ∷ drop (i + 1) names = rw (add-one, drop-cons names i name less) (ap (λ y. y ∷ drop (suc i) names) (sym is)) in
    ap (λ l. all_under folder l) cons

-- over a host whose world stays
module _ (told now : Option World) (environ : Pairs) (folder : List ℕ) (names : List (List ℕ)) (i : ℕ) (name : List ℕ) (found : Option Pairs) (same : now ≡ told) (less : i < length names) (is : name ≡ get_or names i name)
    (so : Loaded told environ folder names i found) where
  here : (r : Result (Option Pairs) EnvError) → LoadsFile now environ (pushed folder name) r → LoadsFile told environ (pushed folder name) r
  here r given = subst (λ t. LoadsFile t environ (pushed folder name) r) same given

  -- one more file, if it is there
  pub loaded_one : (more new : Option Pairs) → LoadsFile now environ (pushed folder name) (Ok more) → new ≡ join found more → Loaded told environ folder names (i + 1) new
  loaded_one more new given joins = (
    so.0 ++ more ∷ [],
    leads_one (LoadsFile told environ) (all_under folder names) (all_under folder (drop (i + 1) names)) so.0 (pushed folder name) more
        (subst (λ xs. Leads (LoadsFile told environ) (all_under folder names) xs so.0) (under_from folder names i name less is) so.1) (here (Ok more) given),
    joins ∙ ap (λ o. join o more) so.2 ∙ sym (joined_more so.0 more),
  )

  -- a file that is refused, or want of memory
  pub loaded_refused : (e : EnvError) → (e ≡ error.NoMemory) ⊎ LoadsFile now environ (pushed folder name) (Err e) → (e ≡ error.NoMemory) ⊎ LoadsUnder told environ names folder (Err e)
  loaded_refused e (inl memory) = inl memory
  loaded_refused e (inr given) =
      inr (so.1.refused e (subst (λ xs. Each (LoadsFile told environ) xs (Err e)) (sym (under_from folder names i name less is))
      (Each.refused_first (pushed folder name) (all_under folder (drop (i + 1) names)) e (here (Err e) given))))

-- where all were asked
pub loaded_all : (told : Option World) (environ : Pairs) (folder : List ℕ) (names : List (List ℕ)) (i : ℕ) (found : Option Pairs) → length names ≤ i
    → Loaded told environ folder names i found → LoadsUnder told environ names folder (Ok found)
loaded_all told environ folder names i found over so =
    let last : Leads (LoadsFile told environ) (all_under folder names) [] so.0 =
    subst (λ xs. Leads (LoadsFile told environ) (all_under folder names) (all_under folder xs) so.0) (drop_of_length-le names over) so.1 in
    (so.0, subst (λ r. Each (LoadsFile told environ) (all_under folder names) (Ok r)) (append-nil so.0) (last.more [] Each.none), so.2)
