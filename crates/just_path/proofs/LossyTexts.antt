-- Bytes with U+FFFD for each broken sequence, chunk by chunk.
use Rattle.std.proofs.Common.{◌≡◌, ◌∙◌, ℕ, List, [], ◌∷◌, ◌++◌, length, drop, refl, sym, ap, arith, append_assoc}
use Rattle.std.proofs.lemmas.List.{append-nil}
use Rattle.std.specs.Str.Lossy.{utf8_valid_len, utf8_invalid_len, utf8_lossy, replacement_bytes}
use Rattle.std.proofs.lemmas.Str.{utf8_lossy_chunk, utf8_lossy_last_chunk}
use Rattle.just_path.specs.Utf8.{chunk_shown}

-- the text of bytes is that of their first chunk, and then that of the others
pub lossy_parts : (bs v i r : List ℕ) → bs ≡ v ++ (i ++ r) → (length i ≡ 0 → length r ≡ 0) → length v ≡ utf8_valid_len bs → length i ≡ utf8_invalid_len (drop (utf8_valid_len bs) bs) → utf8_lossy bs ≡ chunk_shown v i ++ utf8_lossy r
lossy_parts bs v [] r e z f g = utf8_lossy_last_chunk bs v [] r e f refl (z refl) ∙ ap (λ x. x ++ utf8_lossy r) (sym (append-nil v))
lossy_parts bs v (b ∷ i) r e z f g = utf8_lossy_chunk bs v (b ∷ i) r e f g (omega arith) ∙ sym (append_assoc v replacement_bytes (utf8_lossy r))
