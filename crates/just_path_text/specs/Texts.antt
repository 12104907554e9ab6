-- The bytes of a text.
use Rattle.std.specs.Prelude.{ℕ, List, string_bytes}
use Rattle.just_path_text.specs.declared.text.Kept.{Kept}
use Rattle.just_path_text.specs.declared.text.Kept.TheVariants as kept

abbrev pub kept_bytes : Kept → List ℕ
kept_bytes (kept.Short s) = s.bytes
kept_bytes (kept.Long s) = string_bytes s
