-- A text is a module path exactly where the walk over its bytes ends within a name.
use Rattle.std.proofs.Common.{◌≡◌, ℕ, ◌==◌, Bool, true, false, cond, List, [], ◌∷◌, ◌++◌, refl, ap, ◌∙◌, arith}
use Rattle.std.specs.Prelude.{All, flat_map, ◌&&◌, codes}
use Rattle.std.specs.List.{fold, list_all}
use Rattle.std.proofs.lemmas.Bool.{and_parts, eqb-true}
use Rattle.std.proofs.lemmas.List.Elements.{All-cons, All-head, All-tail}
use Rattle.just_lang_read.specs.Characters.{begins_name, in_name}
use Rattle.just_lang_types.specs.Names.{IsName}
use Rattle.just_cache.specs.Members.{path_text}
use Rattle.just_cache_clean.specs.declared.place.Place.{Place}
use Rattle.just_cache_clean.specs.declared.place.Place.TheVariants.{Begin, Within, Colon, Nowhere}
use Rattle.just_cache_clean.specs.EntryTexts.{IsPath}
use Rattle.just_cache_clean.specs.PathTexts.{behind_byte, is_within, is_path}

abbrev walk : Place → List ℕ → Bool
walk p text = is_within (fold behind_byte p text)

-- what stands behind the first name
abbrev pub behind : List (List ℕ) → List ℕ
behind xs = flat_map (λ y. codes "::" ++ y) xs

-- ---- a path is walked

name_walked : (x r : List ℕ) → list_all in_name x ≡ true → walk Within (x ++ r) ≡ walk Within r
name_walked [] r h = refl
name_walked (c ∷ cs) r h =
    let both = and_parts (in_name c) (list_all in_name cs) h in
    ap (λ (b : Bool). is_within (fold behind_byte (cond b Within (cond (c == 58) Colon Nowhere)) (cs ++ r))) both.0 ∙ name_walked cs r both.1

begun : (x r : List ℕ) → IsName x → walk Begin (x ++ r) ≡ walk Within r
begun [] r h = absurd h
begun (c ∷ cs) r h = ap (λ (b : Bool). is_within (fold behind_byte (cond b Within Nowhere) (cs ++ r))) h.0 ∙ name_walked cs r h.1

others_walked : (xs : List (List ℕ)) → All IsName xs → walk Within (behind xs) ≡ true
others_walked [] h = refl
others_walked (x ∷ xs) h = begun x (behind xs) (All-head IsName x xs h) ∙ others_walked xs (All-tail IsName x xs h)

pub path_walked : (path : List (List ℕ)) → IsPath path → is_path (path_text path) ≡ true
path_walked [] h = absurd h
path_walked (x ∷ xs) h = begun x (behind xs) (All-head IsName x xs h) ∙ others_walked xs (All-tail IsName x xs h)

-- ---- what is walked is a path

-- a text that goes on with a name and further names
abbrev GoesOn : List ℕ → Type 0
GoesOn t = (r : List ℕ) × (xs : List (List ℕ)) × (list_all in_name r ≡ true) × All IsName xs × (t ≡ r ++ behind xs)

-- one that begins with a name
abbrev Begins : List ℕ → Type 0
Begins t = (x : List ℕ) × (xs : List (List ℕ)) × IsName x × All IsName xs × (t ≡ x ++ behind xs)

-- one that has the second colon and then begins with a name
abbrev BeginsNext : List ℕ → Type 0
BeginsNext t = (x : List ℕ) × (xs : List (List ℕ)) × IsName x × All IsName xs × (t ≡ 58 ∷ (x ++ behind xs))

no_names : All IsName []
no_names k d h = absurd (omega (arith, h))

nowhere : (t : List ℕ) → walk Nowhere t ≡ true → ⊥
nowhere [] h = absurd (let no : ⊥ = cc in no)
nowhere (c ∷ cs) h = nowhere cs h

-- by the byte that a text begins with, and what is behind it
begins_by : (c : ℕ) (cs : List ℕ) (b : Bool) → begins_name c ≡ b → (walk Within cs ≡ true → GoesOn cs) → is_within (fold behind_byte (cond b Within Nowhere) cs) ≡ true → Begins (c ∷ cs)
begins_by c cs true is on k = let (r, xs, names, all, e) = on k in (c ∷ r, xs, (is, names), all, ap (λ (l : List ℕ). c ∷ l) e)
begins_by c cs false is on k = absurd (nowhere cs k)

ends_by : (c : ℕ) (cs : List ℕ) (b : Bool) → (c == 58) ≡ b → (walk Colon cs ≡ true → BeginsNext cs) → is_within (fold behind_byte (cond b Colon Nowhere) cs) ≡ true → GoesOn (c ∷ cs)
ends_by c cs true is next k =
    let (x, xs, name, all, e) = next k in
    let colon : c ≡ 58 = eqb-true c 58 is in
    ([], x ∷ xs, refl, All-cons IsName x xs name all, ap (λ (d : ℕ). d ∷ cs) colon ∙ ap (λ (l : List ℕ). 58 ∷ l) e)
ends_by c cs false is next k = absurd (nowhere cs k)

goes_by : (c : ℕ) (cs : List ℕ) (b : Bool) → in_name c ≡ b → (walk Within cs ≡ true → GoesOn cs) → (walk Colon cs ≡ true → BeginsNext cs)
    → is_within (fold behind_byte (cond b Within (cond (c == 58) Colon Nowhere)) cs) ≡ true → GoesOn (c ∷ cs)
goes_by c cs true is on next k = let (r, xs, names, all, e) = on k in (c ∷ r, xs, ap (λ (b : Bool). b && list_all in_name r) is ∙ names, all, ap (λ (l : List ℕ). c ∷ l) e)
goes_by c cs false is on next k = ends_by c cs (c == 58) refl next k

next_by : (c : ℕ) (cs : List ℕ) (b : Bool) → (c == 58) ≡ b → (walk Begin cs ≡ true → Begins cs) → is_within (fold behind_byte (cond b Begin Nowhere) cs) ≡ true → BeginsNext (c ∷ cs)
next_by c cs true is front k =
    let (x, xs, name, all, e) = front k in
    let colon : c ≡ 58 = eqb-true c 58 is in
    (x, xs, name, all, ap (λ (d : ℕ). d ∷ cs) colon ∙ ap (λ (l : List ℕ). 58 ∷ l) e)
next_by c cs false is front k = absurd (nowhere cs k)

mutual
  begins : (t : List ℕ) → walk Begin t ≡ true → Begins t
  begins [] h = absurd (let none : ⊥ = cc in none)
  begins (c ∷ cs) h = begins_by c cs (begins_name c) refl (λ k. goes_on cs k) h

  goes_on : (t : List ℕ) → walk Within t ≡ true → GoesOn t
  goes_on [] h = ([], [], refl, no_names, refl)
  goes_on (c ∷ cs) h = goes_by c cs (in_name c) refl (λ k. goes_on cs k) (λ k. begins_next cs k) h

  begins_next : (t : List ℕ) → walk Colon t ≡ true → BeginsNext t
  begins_next [] h = absurd (let none : ⊥ = cc in none)
  begins_next (c ∷ cs) h = next_by c cs (c == 58) refl (λ k. begins cs k) h

pub path_found : (t : List ℕ) → is_path t ≡ true → (path : List (List ℕ)) × IsPath path × (t ≡ path_text path)
path_found t h = let (x, xs, name, all, e) = begins t h in (x ∷ xs, All-cons IsName x xs name all, e)
