-- Runs of name characters: what a search for another character finds, and that a text begins with one run at most.
use Rattle.std.proofs.Common.{◌≡◌, ◌≢◌, ℕ, ◌++◌, List, [], ◌∷◌, Bool, true, false, not, refl, sym, ◌∙◌, ap, subst, length, drop, arith, length-append, append_assoc, lit<}
use Rattle.std.specs.List.{AllByRecursion}
use Rattle.std.specs.Str.{NoCharPasses, NonePass}
use Rattle.std.specs.Str.Pattern.{HasPassingCharAt}
use Rattle.std.specs.Char.{encode_utf8}
use Rattle.std.specs.Str.{encode_utf8_all}
use Rattle.std.proofs.lemmas.Str.{encode_same, encode_ascii, length-encode, len_utf8_bounds}
use Rattle.ucd_table.specs.Rows.{in_ranges, value_in}
use Rattle.ucd_derived.specs.AlphabeticRanges.{alphabetic_ranges}
use Rattle.ucd_category.specs.GeneralCategoryRows.{general_category_rows}
use Rattle.unicode.specs.Binary.{is_alphabetic}
use Rattle.unicode.specs.GeneralCategory.{general_category}
use Rattle.just_expand.specs.Bytes.{dollar_sign, open_brace}
use Rattle.just_expand.specs.Pieces.{is_name_char, IsNameRun, BeginsWithoutName}

-- whether a character may not stand in a name
abbrev pub is_other : ℕ → Bool
is_other c = not (is_name_char c)

-- a test whose contrary fails holds
not_not : (b : Bool) → not b ≡ false → b ≡ true
not_not true e = refl
not_not false e = sym e

-- a test whose contrary holds fails
not_true : (b : Bool) → not b ≡ true → b ≡ false
not_true true e = sym e
not_true false e = refl

-- characters of which none is another are name characters
all_names : (cs : List ℕ) → NonePass is_other cs → AllByRecursion (λ c. is_name_char c ≡ true) cs
all_names [] h = tt
all_names (c ∷ cs) h = (not_not (is_name_char c) h.0, all_names cs h.1)

-- a text in which no other character is found is a run of name characters
pub name_run : (bs : List ℕ) → NoCharPasses is_other bs → IsNameRun bs
name_run bs h = (h.0, sym h.1, all_names h.0 h.2)

-- behind what stands before the first other character begins no name
pub without_name : (s : List ℕ) (i j : ℕ) → HasPassingCharAt is_other s i j → BeginsWithoutName (drop i s)
without_name s i j h = λ c rest e.
    let same = encode_same c h.0 rest (drop j s) (sym e ∙ h.2.split) in
    not_true (is_name_char c) (ap is_other same.0 ∙ h.1)

-- the empty text begins with no character
no_char_in_nothing : (c : ℕ) (rest : List ℕ) → [] ≡ encode_utf8 c ++ rest → ⊥
no_char_in_nothing c rest e =
    let l = ap length e in
    omega (arith, l, length-append (encode_utf8 c) rest, length-encode c, (len_utf8_bounds c).0)

-- so it begins with no name
pub without_name_nil : BeginsWithoutName []
without_name_nil = λ c rest e. absurd (no_char_in_nothing c rest e)

-- a test doesn't hold and fail
not_both : (b : Bool) → b ≡ true → b ≡ false → ⊥
not_both b e f = let g : true ≡ false = sym e ∙ f in cc

-- characters of a name don't begin a text that begins with no name
no_name_of : (cs n u : List ℕ) → n ≢ [] → n ≡ encode_utf8_all cs → AllByRecursion (λ c. is_name_char c ≡ true) cs → BeginsWithoutName (n ++ u) → ⊥
no_name_of [] n u some e all without = some e
no_name_of (c ∷ cs) n u some e all without =
    not_both (is_name_char c) all.0 (without c (encode_utf8_all cs ++ u) (ap (λ t. t ++ u) e ∙ append_assoc (encode_utf8 c) (encode_utf8_all cs) u))

-- a run of name characters doesn't begin a text that begins with no name
pub no_name : (n u : List ℕ) → n ≢ [] → IsNameRun n → BeginsWithoutName (n ++ u) → ⊥
no_name n u some run without = no_name_of run.0 n u some run.1 run.2 without

-- two runs, each with no name behind it, that begin one text are the same, and so is what stands behind them
pub same_name : (cs ds u v : List ℕ) → encode_utf8_all cs ++ u ≡ encode_utf8_all ds ++ v → AllByRecursion (λ c. is_name_char c ≡ true) cs → BeginsWithoutName u → AllByRecursion (λ c. is_name_char c ≡ true) ds → BeginsWithoutName v → (encode_utf8_all cs ≡ encode_utf8_all ds) × (u ≡ v)
same_name [] [] u v e hc hu hd hv = (refl, e)
same_name [] (d ∷ ds) u v e hc hu hd hv = absurd (not_both (is_name_char d) hd.0 (hu d (encode_utf8_all ds ++ v) (e ∙ append_assoc (encode_utf8 d) (encode_utf8_all ds) v)))
same_name (c ∷ cs) [] u v e hc hu hd hv = absurd (not_both (is_name_char c) hc.0 (hv c (encode_utf8_all cs ++ u) (sym e ∙ append_assoc (encode_utf8 c) (encode_utf8_all cs) u)))
same_name (c ∷ cs) (d ∷ ds) u v e hc hu hd hv =
    let both = encode_same c d (encode_utf8_all cs ++ u) (encode_utf8_all ds ++ v) (sym (append_assoc (encode_utf8 c) (encode_utf8_all cs) u) ∙ e ∙ append_assoc (encode_utf8 d) (encode_utf8_all ds) v) in
    let rest = same_name cs ds u v both.1 hc.1 hu hd.1 hv in
    (ap (λ k. encode_utf8 k ++ encode_utf8_all cs) both.0 ∙ ap (λ k. encode_utf8 d ++ k) rest.0, rest.1)

-- `$` is no name character
pub no_name_at_dollar : is_name_char dollar_sign ≡ false
unfolding is_name_char is_alphabetic general_category in_ranges alphabetic_ranges value_in general_category_rows
no_name_at_dollar = refl

-- nor is `{`
pub no_name_at_brace : is_name_char open_brace ≡ false
unfolding is_name_char is_alphabetic general_category in_ranges alphabetic_ranges value_in general_category_rows
no_name_at_brace = refl

-- what begins with a byte that is no name character begins with no name
ascii_first : (b : ℕ) (w : List ℕ) → encode_utf8 b ≡ b ∷ [] → is_name_char b ≡ false → BeginsWithoutName (b ∷ w)
ascii_first b w one other = λ c rest e.
    let same = encode_same b c w rest (ap (λ t. t ++ w) one ∙ e) in
    ap is_name_char (sym same.0) ∙ other

-- so a run of name characters doesn't begin it
no_name_then : (n u w : List ℕ) (b : ℕ) → n ≢ [] → IsNameRun n → n ++ u ≡ b ∷ w → encode_utf8 b ≡ b ∷ [] → is_name_char b ≡ false → ⊥
no_name_then n u w b some run e one other = no_name n u some run (subst BeginsWithoutName (sym e) (ascii_first b w one other))

-- a run of name characters doesn't begin with `$`
pub no_dollar_name : (n u w : List ℕ) → n ≢ [] → IsNameRun n → n ++ u ≡ dollar_sign ∷ w → ⊥
no_dollar_name n u w some run e = no_name_then n u w 36 some run e (encode_ascii 36 (lit< tt)) no_name_at_dollar

-- nor with `{`
pub no_brace_name : (n u w : List ℕ) → n ≢ [] → IsNameRun n → n ++ u ≡ open_brace ∷ w → ⊥
no_brace_name n u w some run e = no_name_then n u w 123 some run e (encode_ascii 123 (lit< tt)) no_name_at_brace
