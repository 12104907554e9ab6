-- Numbers are read back from their digits.
use Rattle.std.proofs.Common.{◌≡◌, ℕ, suc, pred, ◌<◌, ◌≤◌, ◌^◌, ◌&&◌, nat_le, Bool, true, false, if◌then◌else◌, List, [], ◌∷◌, ◌++◌, length, drop, decimal, ℤ, pos, negsuc, ap, ◌∙◌, refl, append_assoc, le-leb, arith}
use Rattle.std.specs.Char.{digit_value}
use Rattle.std.specs.Fmt.{signed_decimal}
use Rattle.std.specs.Int.Signed.{mag}
use Rattle.std.specs.Str.Parse.{AllDigits, digits_value}
use Rattle.std.proofs.lemmas.Fmt.{decimal_is_IsNumeral}
use Rattle.std.proofs.lemmas.Str.Parse.{digit_from_value}
use Rattle.just_sched_lines.proofs.Reading.{first, is_digit, front, after, number, skip, signed}

digit_is : (c : ℕ) → digit_value c < 10 → is_digit c ≡ true
digit_is c h =
    let r = digit_from_value c h in
    ap (λ (b : Bool). b && nat_le c 57) (le-leb 48 c r.0) ∙ le-leb c 57 r.1

front_digits : (ds t : List ℕ) → AllDigits 10 ds → is_digit (first t) ≡ false → front (ds ++ t) ≡ ds
front_digits [] [] d q = refl
front_digits [] (c ∷ cs) d q = ap (λ (b : Bool). if b then c ∷ front cs else []) q
front_digits (x ∷ ds) t d q =
    ap (λ (b : Bool). if b then x ∷ front (ds ++ t) else []) (digit_is x d.0)
    ∙ ap (λ (r : List ℕ). x ∷ r) (front_digits ds t d.1 q)

after_digits : (ds t : List ℕ) → AllDigits 10 ds → is_digit (first t) ≡ false → after (ds ++ t) ≡ t
after_digits [] [] d q = refl
after_digits [] (c ∷ cs) d q = ap (λ (b : Bool). if b then after cs else c ∷ cs) q
after_digits (x ∷ ds) t d q =
    ap (λ (b : Bool). if b then after (ds ++ t) else x ∷ (ds ++ t)) (digit_is x d.0) ∙ after_digits ds t d.1 q

-- a number, up to what is no digit
pub number_read : (n : ℕ) (t : List ℕ) → n < 2 ^ 32 → is_digit (first t) ≡ false → number (decimal n ++ t) ≡ n
number_read n t h q =
    let d = decimal_is_IsNumeral n (omega arith) in
    ap (λ (ds : List ℕ). digits_value 10 ds) (front_digits (decimal n) t d.0.1 q) ∙ d.1

-- what stands behind it
pub after_read : (n : ℕ) (t : List ℕ) → n < 2 ^ 32 → is_digit (first t) ≡ false → after (decimal n ++ t) ≡ t
after_read n t h q = after_digits (decimal n) t (decimal_is_IsNumeral n (omega arith)).0.1 q

-- the same in front of a byte that is no digit, in a line that is cut behind it
pub number_then : (n c : ℕ) (x r : List ℕ) → n < 2 ^ 32 → is_digit c ≡ false → number ((decimal n ++ (c ∷ x)) ++ r) ≡ n
number_then n c x r h q =
    ap (λ (t : List ℕ). number t) (append_assoc (decimal n) (c ∷ x) r) ∙ number_read n (c ∷ (x ++ r)) h q

pub skip_then : (n c : ℕ) (x r : List ℕ) → n < 2 ^ 32 → is_digit c ≡ false → skip ((decimal n ++ (c ∷ x)) ++ r) ≡ x ++ r
skip_then n c x r h q =
    ap (λ (t : List ℕ). skip t) (append_assoc (decimal n) (c ∷ x) r)
    ∙ ap (λ (t : List ℕ). drop 1 t) (after_read n (c ∷ (x ++ r)) h q)

leads : (ds t : List ℕ) → 0 < length ds → AllDigits 10 ds → is_digit (first (ds ++ t)) ≡ true
leads [] t p d = absurd (omega arith)
leads (c ∷ cs) t p d = digit_is c d.0

leading : (n : ℕ) (t : List ℕ) → n < 2 ^ 32 → is_digit (first (decimal n ++ t)) ≡ true
leading n t h = let d = decimal_is_IsNumeral n (omega arith) in leads (decimal n) t d.0.0 d.0.1

pub signed_read : (z : ℤ) (t : List ℕ) → mag z ≤ 2 ^ 31 → is_digit (first t) ≡ false → signed (signed_decimal z ++ t) ≡ z
signed_read (pos n) t h q =
    ap (λ (b : Bool). if b then pos (number (decimal n ++ t)) else negsuc (pred (number (drop 1 (decimal n ++ t))))) (leading n t (omega arith))
    ∙ ap (λ (m : ℕ). pos m) (number_read n t (omega arith) q)
signed_read (negsuc n) t h q = ap (λ (m : ℕ). negsuc (pred m)) (number_read (suc n) t (omega arith) q)
