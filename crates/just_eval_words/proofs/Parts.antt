-- The parts of a word between its `::`, and paths as texts.
use Rattle.std.proofs.Common.{◌≡◌, ◌≢◌, ℕ, suc, ◌+◌, ◌<◌, ◌≤◌, ◌==◌, Bool, true, false, List, [], ◌∷◌, ◌++◌, append-nil, append_assoc, length, take, drop, length-append, Bor, Option, Some, None, codes, eqb-true, refl, sym, ap, ◌∙◌, subst, arith}
use Rattle.std.specs.Prelude.{if◌then◌else◌}
use Rattle.std.specs.Option.{MatchOption}
use Rattle.std.specs.Str.Pattern.{FindsText}
use Rattle.std.proofs.lemmas.Str.Pattern.{split_text_parts}
use Rattle.just_eval_words.specs.Paths.{Word, further, joined_path, put_in_front, parts_behind, parts}

is_equal : (c x : ℕ) → (x == c) ≡ true → x ≡ c
is_equal c x h = eqb-true x c h

-- ---- paths as texts

further_more : (names : List (List ℕ)) (last : List ℕ) → further (names ++ last ∷ []) ≡ further names ++ (codes "::" ++ last)
further_more [] last = ap (λ t. codes "::" ++ t) (append-nil last)
further_more (name ∷ names) last =
    ap (λ t. codes "::" ++ (name ++ t)) (further_more names last) ∙ ap (λ t. codes "::" ++ t) (sym (append_assoc name (further names) (codes "::" ++ last))) ∙ sym (append_assoc (codes "::") (name ++ further names) (codes "::" ++ last))

pub joined_none : (names : List (List ℕ)) (last : List ℕ) → names ≡ [] → joined_path (names ++ last ∷ []) ≡ last
joined_none names last is = ap (λ ns. joined_path (ns ++ last ∷ [])) is ∙ append-nil last

pub joined_more : (names others : List (List ℕ)) (first last : List ℕ) → names ≡ first ∷ others → joined_path (names ++ last ∷ []) ≡ ((first ++ further others) ++ codes "::") ++ last
joined_more names others first last is =
    ap (λ ns. joined_path (ns ++ last ∷ [])) is ∙ ap (λ t. first ++ t) (further_more others last) ∙ sym (append_assoc first (further others) (codes "::" ++ last)) ∙ sym (append_assoc (first ++ further others) (codes "::") last)

-- ---- words without `::`

abbrev Lacks : Word → ℕ → Type 0
Lacks s i = (rest : Word) → drop i s ≢ 58 ∷ 58 ∷ rest

abbrev LacksAll : Word → Type 0
LacksAll s = (i : ℕ) → i ≤ length s → Lacks s i

-- without them it is one part
abbrev IsAlone : Word → Type 0
IsAlone s = (LacksAll s → parts_behind false s ≡ s ∷ []) × (LacksAll (58 ∷ s) → parts_behind true s ≡ (58 ∷ s) ∷ [])

alone : (s : Word) → IsAlone s
alone [] = (λ h. refl, λ h. refl)
alone (c ∷ cs) = pick (c == 58) refl (alone cs)
  where
    pick : (b : Bool) → (c == 58) ≡ b → IsAlone cs → IsAlone (c ∷ cs)
    pick true is both =
        let same : c ≡ 58 = is_equal 58 c is in (
          λ h. rw is (both.1 (subst (λ x. LacksAll (x ∷ cs)) same h) ∙ ap (λ x. (x ∷ cs) ∷ []) (sym same)),
          λ h. absurd (h 0 (omega arith) cs (ap (λ x. 58 ∷ x ∷ cs) same)),
        )
    pick false is both = (
      λ h. rw is (ap (put_in_front c) (both.0 (λ i le rest. h (suc i) (omega (arith, le)) rest))),
      λ h. rw is (ap (λ ps. put_in_front 58 (put_in_front c ps)) (both.0 (λ i le rest. h (suc (suc i)) (omega (arith, le)) rest))),
    )

-- ---- words with it

module _ (ys : Word) where
  abbrev LacksBefore : Word → Type 0
  LacksBefore xs = (i : ℕ) → i < length xs → Lacks (xs ++ (58 ∷ 58 ∷ ys)) i

  abbrev LacksBehind : Word → Type 0
  LacksBehind xs = (i : ℕ) → i < suc (length xs) → Lacks (58 ∷ (xs ++ (58 ∷ 58 ∷ ys))) i

  -- the first part ends in front of them
  abbrev IsDivided : Word → Type 0
  IsDivided xs = (LacksBefore xs → parts_behind false (xs ++ (58 ∷ 58 ∷ ys)) ≡ xs ∷ parts_behind false ys) × (LacksBehind xs → parts_behind true (xs ++ (58 ∷ 58 ∷ ys)) ≡ (58 ∷ xs) ∷ parts_behind false ys)

  divided : (xs : Word) → IsDivided xs
  divided [] = (λ h. refl, λ h. absurd (h 0 (omega arith) (58 ∷ ys) refl))
  divided (x ∷ xs) = pick (x == 58) refl (divided xs)
    where
      pick : (b : Bool) → (x == 58) ≡ b → IsDivided xs → IsDivided (x ∷ xs)
      pick true is both =
          let same : x ≡ 58 = is_equal 58 x is in (
            λ h. rw is (both.1 (λ i lt. subst (λ y. Lacks (y ∷ (xs ++ (58 ∷ 58 ∷ ys))) i) same (h i lt)) ∙ ap (λ y. (y ∷ xs) ∷ parts_behind false ys) (sym same)),
            λ h. absurd (h 0 (omega arith) (xs ++ (58 ∷ 58 ∷ ys)) (ap (λ y. 58 ∷ y ∷ (xs ++ (58 ∷ 58 ∷ ys))) same)),
          )
      pick false is both = (
        λ h. rw is (ap (put_in_front x) (both.0 (λ i lt rest. h (suc i) (omega (arith, lt)) rest))),
        λ h. rw is (ap (λ ps. put_in_front 58 (put_in_front x ps)) (both.0 (λ i lt rest. h (suc (suc i)) (omega (arith, lt)) rest))),
      )

-- ---- what `split_once` answers

abbrev IsSplit : Word → Option (Bor Word × Bor Word) → Type 0
IsSplit s r = MatchOption r (FindsText (codes "::") s None)
    (λ x. (i : ℕ) × (j : ℕ) × FindsText (codes "::") s (Some (i, j)) × (x.0.now ≡ take i s) × (x.1.now ≡ drop j s) × (i ≤ j) × (length x.0.now ≡ i) × (length x.1.now + j ≡ length s))

abbrev IsFirstPart : Word → Option (Bor Word × Bor Word) → Type 0
IsFirstPart s r = MatchOption r (parts s ≡ s ∷ []) (λ x. (parts s ≡ x.0.now ∷ parts x.1.now) × (length x.1.now < length s))

shorter : (xs ys : Word) → length ys < length (xs ++ (58 ∷ 58 ∷ ys))
shorter xs ys = omega (arith, length-append xs (58 ∷ 58 ∷ ys))

pub first_part : (s : Word) (r : Option (Bor Word × Bor Word)) → IsSplit s r → IsFirstPart s r
first_part s None h = (alone s).0 h
first_part s (Some x) h =
    let whole : s ≡ x.0.now ++ (58 ∷ 58 ∷ x.1.now) = split_text_parts (codes "::") s (Some x) h in
    let lacks : LacksBefore x.1.now x.0.now = λ i lt. subst (λ t. Lacks t i) whole (h.2.0 i (subst (λ n. i < n) h.6 lt)) in (
      ap parts whole ∙ (divided x.1.now x.0.now).0 lacks,
      subst (λ (t : Word). length x.1.now < length t) (sym whole) (shorter x.0.now x.1.now),
    )

-- there is a part
pub some_part : (s : Word) → (p : Word) × (ps : List Word) × (parts s ≡ p ∷ ps)
some_part s = behind false s
  where
    in_front : (c : ℕ) (ps : List Word) → (p : Word) × (qs : List Word) × (put_in_front c ps ≡ p ∷ qs)
    in_front c [] = (c ∷ [], [], refl)
    in_front c (p ∷ ps) = (c ∷ p, ps, refl)

    behind : (b : Bool) (t : Word) → (p : Word) × (ps : List Word) × (parts_behind b t ≡ p ∷ ps)
    behind false [] = ([], [], refl)
    behind true [] = (58 ∷ [], [], refl)
    behind false (c ∷ cs) = elim (c == 58) as (λ x. (p : Word) × (ps : List Word) × ((if x then parts_behind true cs else put_in_front c (parts_behind false cs)) ≡ p ∷ ps)) [ true ↦ behind true cs | false ↦ in_front c (parts_behind false cs) ]
    behind true (c ∷ cs) = elim (c == 58) as (λ x. (p : Word) × (ps : List Word) × ((if x then [] ∷ parts_behind false cs else put_in_front 58 (put_in_front c (parts_behind false cs))) ≡ p ∷ ps)) [ true ↦ ([], parts_behind false cs, refl) | false ↦ in_front 58 (put_in_front c (parts_behind false cs)) ]
