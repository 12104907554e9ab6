-- What stands between the white space of a text, one piece after another.
use Rattle.std.proofs.Common.{◌≡◌, ℕ, ◌<◌, Bool, true, false, not, ◌||◌, ◌&&◌, List, [], ◌∷◌, ◌++◌, length, refl, sym, ap, ◌∙◌, append_assoc, append-nil, arith}
use Rattle.std.specs.Prelude.{if◌then◌else◌}
use Rattle.std.specs.Char.{is_whitespace, is_not_whitespace}
use Rattle.std.specs.List.{list_any}
use Rattle.std.specs.Str.{chars, IsUtf8, NonePass, NoCharPasses, EmptyOrStartsWithPassing}
use Rattle.std.proofs.lemmas.Str.{chars-nil, chars_from_encodes, chars_past_char, cons_from_encodes, encode_same, length-le-encodes, IsUtf8-past_char}
use lib.Utf8.{scalar, scalars, encode, encodes}
use Rattle.just_config.specs.ModulePaths.{unless_empty, pieces_behind, pieces}

-- what was found of a text, and what is left of it
pub record Cut (text rest : List ℕ) (found : List (List ℕ)) : Type 0 where
  pub utf8 : IsUtf8 rest
  pub same : found ++ pieces rest ≡ pieces text

-- ---- white space is left out, and the rest is gathered

white_is : (b : Bool) → not b ≡ false → b ≡ true
white_is true h = refl
white_is false h = sym h

skipped : (gs cs : List ℕ) → NonePass is_not_whitespace gs → pieces_behind [] (gs ++ cs) ≡ pieces_behind [] cs
skipped [] cs n = refl
skipped (g ∷ gs) cs n =
    ap (λ b. if b then unless_empty [] ++ pieces_behind [] (gs ++ cs) else pieces_behind ([] ++ encode g) (gs ++ cs)) (white_is (is_whitespace g) n.0) ∙ skipped gs cs n.1

gathered : (w xs cs : List ℕ) → NonePass is_whitespace xs → pieces_behind w (xs ++ cs) ≡ pieces_behind (w ++ encodes xs) cs
gathered w [] cs n = ap (λ v. pieces_behind v cs) (sym (append-nil w))
gathered w (x ∷ xs) cs n =
    ap (λ b. if b then unless_empty w ++ pieces_behind [] (xs ++ cs) else pieces_behind (w ++ encode x) (xs ++ cs)) n.0
    ∙ gathered (w ++ encode x) xs cs n.1
    ∙ ap (λ v. pieces_behind v cs) (append_assoc w (encode x) (encodes xs))

full_alone : (w : List ℕ) → 0 < length w → unless_empty w ≡ w ∷ []
full_alone [] h = absurd (omega (arith, h))
full_alone (c ∷ cs) h = refl

-- whether nothing is left, or white space follows
abbrev ends_here : List ℕ → Bool
ends_here [] = true
ends_here (c ∷ cs) = is_whitespace c

ended : (w cs : List ℕ) → 0 < length w → ends_here cs ≡ true → pieces_behind w cs ≡ w ∷ pieces_behind [] cs
ended w [] l e = full_alone w l
ended w (c ∷ cs) l e =
    ap (λ b. if b then unless_empty w ++ pieces_behind [] cs else pieces_behind (w ++ encode c) cs) e
    ∙ ap (λ (u : List (List ℕ)). u ++ pieces_behind [] cs) (full_alone w l)
    ∙ ap (λ (u : List (List ℕ)). w ∷ u) (sym (ap (λ b. if b then unless_empty [] ++ pieces_behind [] cs else pieces_behind ([] ++ encode c) cs) e))

-- ---- the characters behind those in front

behind : (gs ds r : List ℕ) → encodes ds ≡ encodes gs ++ r → (es : List ℕ) × (ds ≡ gs ++ es) × (encodes es ≡ r)
behind [] ds r e = (ds, refl, e)
behind (g ∷ gs) ds r e =
    let first = cons_from_encodes ds (encodes gs ++ r) g (e ∙ append_assoc (encode g) (encodes gs) r) in
    let more = behind gs first.0 r first.2 in
    (more.0, first.1 ∙ ap (λ (u : List ℕ). g ∷ u) more.1, more.2)

and_right : (a b : Bool) → (a && b) ≡ true → b ≡ true
and_right true b h = h
and_right false true h = refl
and_right false false h = h

scalars_behind : (gs es : List ℕ) → scalars (gs ++ es) ≡ true → scalars es ≡ true
scalars_behind [] es h = h
scalars_behind (g ∷ gs) es h = scalars_behind gs es (and_right (scalar g) (scalars (gs ++ es)) h)

begins_white : (es rest more : List ℕ) → encodes es ≡ rest → EmptyOrStartsWithPassing is_whitespace rest more → ends_here es ≡ true
begins_white [] rest more e f = refl
begins_white (d ∷ es) rest more e f =
    let some : 0 < length rest = omega (arith, length-le-encodes (d ∷ es), ap length e) in
    let it = f some in
    let same = encode_same it.0 d more (encodes es) (sym it.2 ∙ sym e) in
    ap is_whitespace (sym same.0) ∙ it.1

-- ---- a piece, and the end

pub cut_next : {bs x rest : List ℕ}
    → IsUtf8 bs
    → (gap : List ℕ) × (bs ≡ gap ++ (x ++ rest)) × (0 < length x) × NoCharPasses is_not_whitespace gap × NoCharPasses is_whitespace x × ((more : List ℕ) × EmptyOrStartsWithPassing is_whitespace rest more)
    → IsUtf8 rest × (pieces bs ≡ x ∷ pieces rest)
cut_next {bs} {x} {rest} u it =
    let gap = it.3 in
    let word = it.4 in
    let past_gap = behind gap.0 u.0 (x ++ rest) (u.1.1 ∙ it.1 ∙ ap (λ (a : List ℕ). a ++ (x ++ rest)) (sym gap.1)) in
    let past_word = behind word.0 past_gap.0 rest (past_gap.2 ∙ ap (λ (a : List ℕ). a ++ rest) (sym word.1)) in
    let es = past_word.0 in
    let whole : u.0 ≡ gap.0 ++ (word.0 ++ es) = past_gap.1 ∙ ap (λ (a : List ℕ). gap.0 ++ a) past_word.1 in
    let good : scalars es ≡ true = scalars_behind word.0 es (scalars_behind gap.0 (word.0 ++ es) (sym (ap scalars whole) ∙ u.1.0)) in
    let left : IsUtf8 rest = (es, (good, past_word.2)) in (
      left,
      ap (pieces_behind []) (sym (chars_from_encodes u.0 bs u u.1.1) ∙ whole)
          ∙ skipped gap.0 (word.0 ++ es) gap.2
          ∙ gathered [] word.0 es word.2
          ∙ ap (λ (v : List ℕ). pieces_behind v es) word.1
          ∙ ended x es it.2 (begins_white es rest it.5.0 past_word.2 it.5.1)
          ∙ ap (λ (cs : List ℕ). x ∷ pieces_behind [] cs) (chars_from_encodes es rest left past_word.2),
    )

pub cut_end : {bs : List ℕ} → IsUtf8 bs → NoCharPasses is_not_whitespace bs → pieces bs ≡ []
cut_end {bs} u n = ap (pieces_behind []) (sym (chars_from_encodes n.0 bs u n.1) ∙ sym (append-nil n.0)) ∙ skipped n.0 [] n.2

-- one more piece was found
pub found_next : {text bs x rest : List ℕ} {found : List (List ℕ)} → Cut text bs found
    → (gap : List ℕ) × (bs ≡ gap ++ (x ++ rest)) × (0 < length x) × NoCharPasses is_not_whitespace gap × NoCharPasses is_whitespace x × ((more : List ℕ) × EmptyOrStartsWithPassing is_whitespace rest more)
    → Cut text rest (found ++ (x ∷ []))
found_next {text} {bs} {x} {rest} {found} c it =
    let next = cut_next c.utf8 it in
    record {
      utf8 = next.0;
      same = append_assoc found (x ∷ []) (pieces rest) ∙ ap (λ (u : List (List ℕ)). found ++ u) (sym next.1) ∙ c.same;
    }

-- all pieces were found
pub found_all : {text bs : List ℕ} {found : List (List ℕ)} → Cut text bs found → NoCharPasses is_not_whitespace bs → found ≡ pieces text
found_all {text} {bs} {found} c n = sym (append-nil found) ∙ ap (λ (u : List (List ℕ)). found ++ u) (sym (cut_end c.utf8 n)) ∙ c.same

-- ---- whether a text holds white space

-- what is left of a text tells the same
pub record Told (text rest : List ℕ) : Type 0 where
  pub utf8 : IsUtf8 rest
  pub same : list_any is_whitespace (chars rest) ≡ list_any is_whitespace (chars text)

first_of : {bs : List ℕ} (c : ℕ) (rest : List ℕ) → IsUtf8 bs → bs ≡ encode c ++ rest → list_any is_whitespace (chars bs) ≡ (is_whitespace c || list_any is_whitespace (chars rest))
first_of {bs} c rest u e = ap (list_any is_whitespace) (chars_past_char bs rest c u e)

pub told_next : {text bs rest : List ℕ} (c : ℕ) → Told text bs → bs ≡ encode c ++ rest → is_whitespace c ≡ false → Told text rest
told_next {text} {bs} {rest} c t e h = record {
  utf8 = IsUtf8-past_char bs rest c t.utf8 e;
  same = ap (λ b. b || list_any is_whitespace (chars rest)) (sym h) ∙ sym (first_of c rest t.utf8 e) ∙ t.same;
}

pub told_here : {text bs : List ℕ} (c : ℕ) (rest : List ℕ) → Told text bs → bs ≡ encode c ++ rest → is_whitespace c ≡ true → true ≡ list_any is_whitespace (chars text)
told_here {text} {bs} c rest t e h = ap (λ b. b || list_any is_whitespace (chars rest)) (sym h) ∙ sym (first_of c rest t.utf8 e) ∙ t.same

none_left : (bs : List ℕ) → length bs ≡ 0 → bs ≡ []
none_left [] e = refl
none_left (c ∷ bs) e = absurd (omega (arith, e))

pub told_none : {text bs : List ℕ} → Told text bs → length bs ≡ 0 → false ≡ list_any is_whitespace (chars text)
told_none {text} {bs} t e = ap (list_any is_whitespace) (sym (ap chars (none_left bs e) ∙ chars-nil)) ∙ t.same
