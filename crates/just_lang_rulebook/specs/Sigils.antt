-- The sigils in front of a text.
use Rattle.std.specs.Prelude.{ℕ, ◌==◌, Bool, not, ◌&&◌, ◌||◌, if◌then◌else◌, List, [], ◌∷◌, ◌++◌}
use Rattle.std.specs.List.{list_any}

-- `@`, `-` and `?`
abbrev pub is_sigil : ℕ → Bool
is_sigil c = c == 64 || (c == 45 || c == 63)

abbrev pub has : ℕ → List ℕ → Bool
has c cs = list_any (λ d. d == c) cs

-- the sigils in front of a text, each once, behind those that were seen
abbrev pub sigils_behind : List ℕ → List ℕ → List ℕ
sigils_behind seen [] = seen
sigils_behind seen (c ∷ cs) = if not (is_sigil c) || has c seen then seen else sigils_behind (seen ++ c ∷ []) cs

-- whether both `?` and `-` are among them
abbrev pub is_guard_and_infallible : List ℕ → Bool
is_guard_and_infallible text = has 63 (sigils_behind [] text) && has 45 (sigils_behind [] text)
