-- A digest has 64 digits, and they are hexadecimal ones with lower-case letters.
use Rattle.std.proofs.Common.{◌≡◌, ℕ, zero, suc, ◌<◌, ◌*◌, ◌/◌, ◌%◌, ◌^◌, List, [], ◌∷◌, ◌++◌, length, slice_index, true, refl, ap, ◌∙◌, arith}
use Rattle.std.specs.Prelude.{◌&&◌}
use Rattle.std.specs.Int.{w32, byte_at, bytes_high_first, to_be_bytes}
use Rattle.std.specs.List.{AllByRecursion, AllPass, list_all}
use Rattle.std.proofs.lemmas.List.Sums.{AllPass-from_list_all}
use Rattle.sha2.specs.Sha256.{sha256, digest_bytes, final_hash, initial_hash_256}
use Rattle.sha2.proofs.Facts256.{length-sha256}
use Rattle.hex.specs.Hex.{lower_digits, encode_with}
use Rattle.hex.proofs.HexLemmas.{length-encode_with}
use Rattle.just_cache.specs.Digests.{digest, is_lower_hex}

pub size : (text : List ℕ) → length (digest text) ≡ 64
size text = length-encode_with lower_digits (sha256 text) ∙ ap (λ n. 2 * n) (length-sha256 text)

abbrev AreBytes : List ℕ → Type 0
AreBytes = AllByRecursion (λ b. b < 256)

rest_small : (n : ℕ) → n % 256 < 256
rest_small n = omega arith

byte_small : (i n : ℕ) → byte_at i n < 256
byte_small zero n = rest_small n
byte_small (suc i) n = rest_small (n / 256 ^ suc i)

high_first : (k n : ℕ) → AreBytes (bytes_high_first k n)
high_first zero n = tt
high_first (suc k) n = (byte_small k n, high_first k n)

both : (xs ys : List ℕ) → AreBytes xs → AreBytes ys → AreBytes (xs ++ ys)
both [] ys p q = q
both (x ∷ xs) ys p q = (p.0, both xs ys p.1 q)

digest_small : (h : List ℕ) (n : ℕ) → AreBytes (digest_bytes h n)
unfolding digest_bytes
digest_small h zero = tt
digest_small h (suc n) = both (digest_bytes h n) (to_be_bytes w32 (slice_index h n)) (digest_small h n) (high_first 4 (slice_index h n))

sum_small : (text : List ℕ) → AreBytes (sha256 text)
unfolding sha256
sum_small text = digest_small (final_hash initial_hash_256 text) 8

digit : (d : ℕ) → d < 16 → is_lower_hex (slice_index lower_digits d) ≡ true
digit d lt = AllPass-from_list_all is_lower_hex lower_digits refl d 0 lt

encoded : (xs : List ℕ) → AreBytes xs → list_all is_lower_hex (encode_with lower_digits xs) ≡ true
unfolding encode_with
encoded [] h = refl
encoded (b ∷ rest) h =
    let high = digit (b / 16) (omega (arith, h.0)) in
    let low = digit (b % 16) (omega arith) in
    ap (λ v. v && (is_lower_hex (slice_index lower_digits (b % 16)) && list_all is_lower_hex (encode_with lower_digits rest))) high
    ∙ ap (λ v. v && list_all is_lower_hex (encode_with lower_digits rest)) low ∙ encoded rest h.1

pub digits : (text : List ℕ) → AllPass is_lower_hex (digest text)
digits text = AllPass-from_list_all is_lower_hex (digest text) (encoded (sha256 text) (sum_small text))
