-- Sums are read back from their digits.
use Rattle.std.proofs.Common.{◌≡◌, ℕ, zero, suc, ◌*◌, ◌≤◌, false, List, [], ◌∷◌, ◌++◌, length, take, drop, Result, refl, sym, ap, ◌∙◌, append_assoc, length-append, arith}
use Rattle.std.specs.List.{AllByRecursion, flat_map}
use Rattle.std.proofs.Math.Seq.{take-append_seam, drop-append_seam}
use Rattle.hex.specs.Hex.{lower_digits, encode_lower, decode_of}
use Rattle.hex.specs.declared.error.FromHexError.{FromHexError}
use Rattle.hex.proofs.HexLemmas.{length-encode_with, decode_of-encode_lower}
use Rattle.just_sched_lines.specs.Lines.{sum_text}
use Rattle.just_sched_lines.specs.Fitting.{IsSum}
use Rattle.just_sched_lines.proofs.Reading.{first, is_digit, bytes_of, sums_in}

size : (s : List ℕ) → length s ≡ 32 → 64 ≡ length (encode_lower s)
size s h = sym (length-encode_with lower_digits s ∙ ap (λ (n : ℕ). 2 * n) h)

-- the digits of a sum, with whatever stands behind them
taken : (s x r : List ℕ) → length s ≡ 32 → take 64 ((encode_lower s ++ x) ++ r) ≡ encode_lower s
taken s x r h =
    ap (λ (t : List ℕ). take 64 t) (append_assoc (encode_lower s) x r)
    ∙ ap (λ (n : ℕ). take n (encode_lower s ++ (x ++ r))) (size s h)
    ∙ take-append_seam (encode_lower s) (x ++ r)

left : (s x r : List ℕ) → length s ≡ 32 → drop 64 ((encode_lower s ++ x) ++ r) ≡ x ++ r
left s x r h =
    ap (λ (t : List ℕ). drop 64 t) (append_assoc (encode_lower s) x r)
    ∙ ap (λ (n : ℕ). drop n (encode_lower s ++ (x ++ r))) (size s h)
    ∙ drop-append_seam (encode_lower s) (x ++ r)

pub sums_read : (k : ℕ) (sums : List (List ℕ)) (r : List ℕ) → length sums ≤ k → AllByRecursion IsSum sums
    → sums_in k (flat_map sum_text sums ++ (10 ∷ r)) ≡ sums
sums_read zero [] r l h = refl
sums_read zero (s ∷ ss) r l h = absurd (omega arith)
sums_read (suc k) [] r l h = refl
sums_read (suc k) (s ∷ ss) r l h =
    let x : List ℕ = flat_map sum_text ss in
    let digits = ap (λ (t : List ℕ). bytes_of (decode_of t)) (taken s x (10 ∷ r) h.0.0)
    ∙ ap (λ (d : Result (List ℕ) FromHexError). bytes_of d) (decode_of-encode_lower s h.0.1) in
    let rest = ap (λ (t : List ℕ). sums_in k t) (left s x (10 ∷ r) h.0.0) ∙ sums_read k ss r (omega arith) h.1 in
    λ i. digits i ∷ rest i

-- each sum takes a byte at least
pub sums_size : (sums : List (List ℕ)) → length sums ≤ length (flat_map sum_text sums)
sums_size [] = omega arith
sums_size (s ∷ ss) = omega (arith, sums_size ss, length-append (encode_lower s) (flat_map sum_text ss))

-- no digit stands before a sum, or behind the last
pub no_digit : (sums : List (List ℕ)) (r : List ℕ) → is_digit (first (flat_map sum_text sums ++ (10 ∷ r))) ≡ false
no_digit [] r = refl
no_digit (s ∷ ss) r = refl
