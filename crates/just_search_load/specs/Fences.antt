-- The lines that open and close code blocks.
use Rattle.std.specs.Prelude.{ℕ, ◌==◌, ◌&&◌, ◌||◌, not, nat_le, Bool, if◌then◌else◌, List, take, drop, Option, Some, None, codes, bytes_eq}
use Rattle.std.specs.List.{list_any, list_all, prefix_len}
use Rattle.just_path_text.specs.Environ.{or_else}
use Rattle.just_search_load.specs.declared.fence.Fence.{Fence}

abbrev pub is_sign : ℕ → ℕ → Bool
is_sign sign b = b == sign

-- how many of a sign a line begins with
abbrev pub run_of : ℕ → List ℕ → ℕ
run_of sign line = prefix_len (is_sign sign) line

-- what stands behind them
abbrev pub behind_run : ℕ → List ℕ → List ℕ
behind_run sign line = drop (run_of sign line) line

abbrev pub is_blank : ℕ → Bool
is_blank b = b == 32 || b == 9

abbrev pub is_no_blank : ℕ → Bool
is_no_blank b = not (is_blank b)

-- a text without the blanks in front
abbrev pub without_blanks : List ℕ → List ℕ
without_blanks text = drop (prefix_len is_blank text) text

-- what stands before the first blank of a text
abbrev pub before_blank : List ℕ → List ℕ
before_blank text = take (prefix_len is_no_blank text) text

-- the first word of a text
abbrev pub first_word : List ℕ → List ℕ
first_word text = before_blank (without_blanks text)

-- a fence of a sign: at least three of it, and behind them what the block is
abbrev pub fence_with : ℕ → List ℕ → Option Fence
fence_with sign line =
    if nat_le 3 (run_of sign line) then Some (record { sign = sign; count = run_of sign line; is_just = bytes_eq (first_word (behind_run sign line)) (codes "just") }) else None

-- a fence of backticks has none behind them
abbrev pub backtick_fence : List ℕ → Option Fence
backtick_fence line = if list_any (is_sign 96) (behind_run 96 line) then None else fence_with 96 line

-- the fence that a line is, of backticks or of tildes
abbrev pub fence_of : List ℕ → Option Fence
fence_of line = or_else (backtick_fence line) (fence_with 126 line)

-- whether a line closes the block of a fence: at least as many of its sign, and only blanks behind
abbrev pub closes : Fence → List ℕ → Bool
closes fence line = nat_le fence.count (run_of fence.sign line) && list_all is_blank (behind_run fence.sign line)
