-- Tangling line by line, as a loop comes to it.
use Rattle.std.proofs.Common.{◌≡◌, ℕ, suc, ◌+◌, ◌<◌, ◌≤◌, List, [], ◌∷◌, ◌++◌, length, drop, map, get_or, drop-cons, Option, sym, ap, ◌∙◌, append_assoc, append-nil, arith}
use Rattle.std.proofs.lemmas.List.{drop_all}
use Rattle.just_search_load.specs.declared.fence.Fence.{Fence}
use Rattle.just_search_load.specs.Running.{line_out, fence_behind, out_of}
use Rattle.just_search_load.specs.Tangles.{text_of_lines}

-- what is written, before what the lines from a place on become
pub record Written {A : Type 0} (line_of : A → List ℕ) (lines : List A) (i : ℕ) (block : Option Fence) (text all : List ℕ) : Type 0 where
  pub so : text ++ text_of_lines (out_of block (map line_of (drop i lines))) ≡ all

pub lines_begun : {A : Type 0} (line_of : A → List ℕ) (lines : List A) (block : Option Fence) (text : List ℕ) → text ≡ [] → Written line_of lines 0 block text (text_of_lines (out_of block (map line_of lines)))
lines_begun line_of lines block text none = record { so = ap (λ t. t ++ text_of_lines (out_of block (map line_of lines))) none }

one : (i : ℕ) → i + 1 ≡ suc i
one i = omega arith

here : {A : Type 0} (lines : List A) (i : ℕ) (line : A) → i < length lines → line ≡ get_or lines i line → drop i lines ≡ line ∷ drop (i + 1) lines
here lines i line less is = drop-cons lines i line less ∙ ap (λ x. x ∷ drop (suc i) lines) (sym is) ∙ ap (λ k. line ∷ drop k lines) (sym (one i))

pub lines_more : {A : Type 0} (line_of : A → List ℕ) (lines : List A) (i : ℕ) (line : A) (block : Option Fence) (text new all : List ℕ) → i < length lines → line ≡ get_or lines i line → Written line_of lines i block text all
    → new ≡ text ++ (line_out block (line_of line) ++ 10 ∷ []) → Written line_of lines (i + 1) (fence_behind block (line_of line)) new all
lines_more line_of lines i line block text new all less is before pushed =
    let rest = text_of_lines (out_of (fence_behind block (line_of line)) (map line_of (drop (i + 1) lines))) in
    record { so = ap (λ t. t ++ rest) pushed ∙ append_assoc text (line_out block (line_of line) ++ 10 ∷ []) rest ∙ ap (λ xs. text ++ text_of_lines (out_of block (map line_of xs))) (sym (here lines i line less is)) ∙ before.so }

pub lines_ended : {A : Type 0} (line_of : A → List ℕ) (lines : List A) (i : ℕ) (block : Option Fence) (text all : List ℕ) → length lines ≤ i → Written line_of lines i block text all → text ≡ all
lines_ended line_of lines i block text all over before =
    sym (append-nil text) ∙ ap (λ xs. text ++ text_of_lines (out_of block (map line_of xs))) (sym (drop_all i lines over)) ∙ before.so
