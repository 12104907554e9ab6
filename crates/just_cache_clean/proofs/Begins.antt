-- The text of a path begins with that of another one exactly where the path does, name by name.
use Rattle.std.proofs.Common.{◌≡◌, ◌≢◌, ◌↔◌, ℕ, ◌==◌, Bool, true, false, not, List, [], ◌∷◌, ◌++◌, append_assoc, refl, sym, ap, ◌∙◌}
use Rattle.std.specs.Prelude.{⊤, IsTrue, All, ◌&&◌, ◌||◌}
use Rattle.std.specs.List.{list_all}
use Rattle.std.proofs.lemmas.Bool.{and_parts, eqb-true}
use Rattle.std.proofs.lemmas.List.Elements.{All-head, All-tail}
use Rattle.just_lang_read.specs.Characters.{in_name, is_digit}
use Rattle.just_lang_types.specs.Names.{IsName}
use Rattle.just_cache.specs.Members.{path_text}
use Rattle.just_cache_clean.specs.EntryTexts.{IsPath, BeginsWith}
use Rattle.just_cache_clean.specs.PathTexts.{is_path, ends_name, BeginsText, IsOtherText}
use Rattle.just_cache_clean.proofs.Cuts.{same_behind}
use Rattle.just_cache_clean.proofs.PathWalks.{behind}

-- ---- names end at colons

no_colon : (c : ℕ) → in_name c ≡ true → c ≡ 58 → ⊥
no_colon c h is = let no : false ≡ true = ap in_name (sym is) ∙ h in absurd (let f : ⊥ = cc in f)

pub name_part : (x : List ℕ) → IsName x → list_all in_name x ≡ true
name_part [] h = absurd h
name_part (c ∷ cs) h = ap (λ b. (b || (is_digit c || c == 45)) && list_all in_name cs) h.0 ∙ h.1

-- a text that is nothing or begins with a colon
abbrev Colons : List ℕ → Type 0
Colons [] = ⊤
Colons (c ∷ cs) = c ≡ 58

same_name : (x y s t : List ℕ) → list_all in_name x ≡ true → list_all in_name y ≡ true → Colons s → Colons t → x ++ s ≡ y ++ t → (x ≡ y) × (s ≡ t)
same_name [] [] s t p q a b e = (refl, e)
same_name [] (d ∷ y) [] t p q a b e = absurd (let no : ⊥ = cc in no)
same_name [] (d ∷ y) (c ∷ s) t p q a b e = let one : c ≡ d = cc in absurd (no_colon d (and_parts (in_name d) (list_all in_name y) q).0 (sym one ∙ a))
same_name (c ∷ x) [] s [] p q a b e = absurd (let no : ⊥ = cc in no)
same_name (c ∷ x) [] s (d ∷ t) p q a b e = let one : c ≡ d = cc in absurd (no_colon c (and_parts (in_name c) (list_all in_name x) p).0 (one ∙ b))
same_name (c ∷ x) (d ∷ y) s t p q a b e =
    let one : c ≡ d = cc in
    let rest : x ++ s ≡ y ++ t = cc in
    let (same, more) = same_name x y s t (and_parts (in_name c) (list_all in_name x) p).1 (and_parts (in_name d) (list_all in_name y) q).1 a b rest in
    (ap (λ (k : ℕ). k ∷ x) one ∙ ap (λ (l : List ℕ). d ∷ l) same, more)

colons : (xs : List (List ℕ)) → Colons (behind xs)
colons [] = tt
colons (x ∷ xs) = refl

ends : (t : List ℕ) → ends_name t ≡ true → Colons t
ends [] h = tt
ends (c ∷ []) h = absurd (let no : ⊥ = cc in no)
ends (c ∷ d ∷ t) h = eqb-true c 58 (and_parts (c == 58) (d == 58) h).0

ends_more : (xs : List (List ℕ)) (t : List ℕ) → ends_name t ≡ true → Colons (behind xs ++ t)
ends_more [] t h = ends t h
ends_more (x ∷ xs) t h = refl

ends_behind : (xs : List (List ℕ)) → ends_name (behind xs) ≡ true
ends_behind [] = refl
ends_behind (x ∷ xs) = refl

-- ---- further names

behind_more : (xs ys : List (List ℕ)) → behind (xs ++ ys) ≡ behind xs ++ behind ys
behind_more [] ys = refl
behind_more (x ∷ xs) ys = ap (λ (l : List ℕ). 58 ∷ 58 ∷ (x ++ l)) (behind_more xs ys) ∙ ap (λ (l : List ℕ). 58 ∷ 58 ∷ l) (sym (append_assoc x (behind xs) (behind ys)))

-- names whose text goes on behind that of others are these and more
others_begin : (xs ys : List (List ℕ)) (t : List ℕ) → All IsName xs → All IsName ys → ends_name t ≡ true → behind ys ≡ behind xs ++ t → (zs : List (List ℕ)) × (ys ≡ xs ++ zs)
others_begin [] ys t p q h e = (ys, refl)
others_begin (x ∷ xs) [] t p q h e = absurd (let no : ⊥ = cc in no)
others_begin (x ∷ xs) (y ∷ ys) t p q h e =
    let named : y ++ behind ys ≡ x ++ (behind xs ++ t) = two (y ++ behind ys) ((x ++ behind xs) ++ t) e ∙ append_assoc x (behind xs) t in
    let (same, more) = same_name y x (behind ys) (behind xs ++ t) (name_part y (All-head IsName y ys q)) (name_part x (All-head IsName x xs p)) (colons ys) (ends_more xs t h) named in
    let (zs, are) = others_begin xs ys t (All-tail IsName x xs p) (All-tail IsName y ys q) h more in
    (zs, ap (λ (l : List ℕ). l ∷ ys) same ∙ ap (λ (ls : List (List ℕ)). x ∷ ls) are)
  where
    two : (a b : List ℕ) → 58 ∷ 58 ∷ a ≡ 58 ∷ 58 ∷ b → a ≡ b
    two a b h = cc

-- ---- paths

pub text_begins : (prefix path : List (List ℕ)) → IsPath prefix → BeginsWith prefix path → BeginsText (path_text prefix) (path_text path)
text_begins [] path h b = absurd h
text_begins (x ∷ xs) path h (zs, is) = (
  behind zs,
  ap (λ (p : List (List ℕ)). path_text p) is ∙ ap (λ (l : List ℕ). x ++ l) (behind_more xs zs) ∙ sym (append_assoc x (behind xs) (behind zs)),
  ends_behind zs,
)

pub path_begins : (prefix path : List (List ℕ)) → IsPath prefix → IsPath path → BeginsText (path_text prefix) (path_text path) → BeginsWith prefix path
path_begins [] path h k b = absurd h
path_begins (x ∷ xs) [] h k b = absurd k
path_begins (x ∷ xs) (y ∷ ys) h k (t, is, end) =
    let named : y ++ behind ys ≡ x ++ (behind xs ++ t) = is ∙ append_assoc x (behind xs) t in
    let (same, more) = same_name y x (behind ys) (behind xs ++ t) (name_part y (All-head IsName y ys k)) (name_part x (All-head IsName x xs h)) (colons ys) (ends_more xs t end) named in
    let (zs, are) = others_begin xs ys t (All-tail IsName x xs h) (All-tail IsName y ys k) end more in
    (zs, ap (λ (l : List ℕ). l ∷ ys) same ∙ ap (λ (ls : List (List ℕ)). x ∷ ls) are)

-- ---- what the code tests

pub begins_not : (text prefix : List ℕ) → ((rest : List ℕ) → text ≢ prefix ++ rest) → IsTrue false ↔ BeginsText prefix text
begins_not text prefix h = (λ t. absurd (let no : ⊥ = cc in no), λ b. absurd (h b.0 b.1))

pub begins_so : (text prefix rest : List ℕ) (b : Bool) → text ≡ prefix ++ rest → b ≡ ends_name rest → IsTrue b ↔ BeginsText prefix text
begins_so text prefix rest b is e = (
  λ t. (rest, is, sym e ∙ t),
  λ s. e ∙ ap ends_name (same_behind prefix rest s.0 (sym is ∙ s.1)) ∙ s.2,
)

pub other_is : (prefix text : List ℕ) (a b : Bool) → a ≡ is_path text → (IsTrue b ↔ BeginsText prefix text) → IsTrue (a && not b) ↔ IsOtherText prefix text
other_is prefix text true true is h = (λ t. absurd (let f : ⊥ = cc in f), λ o. absurd (o.other (h.0 refl)))
other_is prefix text true false is h = (λ t. record { path = sym is; other = λ b. let no : false ≡ true = h.1 b in absurd (let f : ⊥ = cc in f) }, λ o. refl)
other_is prefix text false b is h = (λ t. absurd (let f : ⊥ = cc in f), λ o. let no : false ≡ true = is ∙ o.path in absurd (let f : ⊥ = cc in f))
