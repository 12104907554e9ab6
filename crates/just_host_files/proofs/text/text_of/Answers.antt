-- The bytes are a text within the limit, or which of the two they aren't.
use Rattle.std.proofs.Common.{◌≡◌, ◌≤◌, List, ℕ, length, nat_lt, true, false, Ok, Err, refl, sym, ap, subst, ◌∙◌, arith, string_bytes}
use Rattle.std.specs.Str.{is_utf8, IsUtf8}
use Rattle.std.proofs.lemmas.Str.{is_utf8-from_IsUtf8, IsUtf8-from_is_utf8, IsUtf8-string_bytes}
use Rattle.std.proofs.lemmas.Bool.Decides.{nat_tests}
use Rattle.just_path.specs.declared.host.Miss.TheVariants as miss
use Rattle.just_host_record.specs.declared.outside.TheConstants.{MAX_BYTES}
use Rattle.just_host_record.specs.World.{text_in}
use Rattle.just_host_files.proofs.text.text_of.Goals as goal

-- bytes within the limit that are UTF-8 are a text
text_of_utf8 : (bytes : List ℕ) → length bytes ≤ MAX_BYTES → is_utf8 bytes ≡ true → text_in bytes ≡ Ok bytes
text_of_utf8 bytes small is =
    let within : nat_lt MAX_BYTES (length bytes) ≡ false = grind (arith, nat_tests) in rw (within, is)

-- bytes within the limit that aren't UTF-8 are none
no_text : (bytes : List ℕ) → length bytes ≤ MAX_BYTES → is_utf8 bytes ≡ false → text_in bytes ≡ Err miss.NotUtf8
no_text bytes small is =
    let within : nat_lt MAX_BYTES (length bytes) ≡ false = grind (arith, nat_tests) in rw (within, is)

pub returns-in-Ok-clause-told : goal.returns-in-Ok-clause-told
returns-in-Ok-clause-told c =
    let same : string_bytes c.in-Ok.text ≡ c.args.bytes.items = ap (λ v. v.items) c.in-Ok.ensures.ok in
    let is : is_utf8 c.args.bytes.items ≡ true = is_utf8-from_IsUtf8 _ (subst IsUtf8 same (IsUtf8-string_bytes c.in-Ok.text)) in
    text_of_utf8 c.args.bytes.items (omega (arith, c.args.bytes.ok.0)) is ∙ ap (λ t. Ok t) (sym same)

pub returns-clause-told : goal.returns-clause-told
returns-clause-told c =
    no_text c.args.bytes.items (omega (arith, c.args.bytes.ok.0))
    (elim (is_utf8 c.args.bytes.items) as (λ b. is_utf8 c.args.bytes.items ≡ b → b ≡ false) [
      | true ↦ λ e. (let never : false ≡ true = c.in-Err.ensures.succeeds (IsUtf8-from_is_utf8 _ e) in cc)
      | false ↦ λ e. refl
    ] refl)
