-- Lines of a script, one behind the other.
use Rattle.std.proofs.Common.{◌≡◌, ℕ, suc, ◌+◌, ◌<◌, ◌≤◌, Bool, true, false, cond, List, [], ◌∷◌, ◌++◌, length, drop, get_or, drop-cons, replicate, append-nil, append_assoc, sym, ap, ◌∙◌, arith}
use Rattle.std.proofs.lemmas.List.{drop_all}
use Rattle.just_lang_types.specs.declared.node.BodyLine.{BodyLine}
use Rattle.just_exec_work.specs.Scripts.{ended, shebang_count, shebang_lines, is_shebang_line, gap, placed}

module _ (ls : List BodyLine) (n : ℕ) (l : BodyLine) (lt : n < length ls) (is : l ≡ get_or ls n l) where
  one : n + 1 ≡ suc n
  one = omega arith

  here : drop n ls ≡ l ∷ drop (suc n) ls
  here = drop-cons ls n l lt ∙ ap (λ z. z ∷ drop (suc n) ls) (sym is)

  -- a line that begins with `#!`, and the first that doesn't
  pub count_more : is_shebang_line l ≡ true → (n + 1) + shebang_count (drop (n + 1) ls) ≡ n + shebang_count (drop n ls)
  count_more h =
      let more : shebang_count (drop n ls) ≡ 1 + shebang_count (drop (suc n) ls) = ap shebang_count here ∙ ap (λ b. cond b (1 + shebang_count (drop (suc n) ls)) 0) h in
      let same : shebang_count (drop (n + 1) ls) ≡ shebang_count (drop (suc n) ls) = ap (λ k. shebang_count (drop k ls)) one in
      omega (arith, more, same)

  pub count_ends : is_shebang_line l ≡ false → n + shebang_count (drop n ls) ≡ n
  count_ends h =
      let none : shebang_count (drop n ls) ≡ 0 = ap shebang_count here ∙ ap (λ b. cond b (1 + shebang_count (drop (suc n) ls)) 0) h in
      omega (arith, none)

  -- a line, or a blank one
  pub shebang_more : (kept : Bool) (old new : List ℕ) → new ≡ old ++ ended (cond kept l.text []) → new ++ shebang_lines kept (drop (n + 1) ls) ≡ old ++ shebang_lines kept (drop n ls)
  shebang_more kept old new h =
      let rest : shebang_lines kept (drop n ls) ≡ ended (cond kept l.text []) ++ shebang_lines kept (drop (suc n) ls) = ap (shebang_lines kept) here in
      ap (λ k. new ++ shebang_lines kept (drop k ls)) one ∙ ap (λ u. u ++ shebang_lines kept (drop (suc n) ls)) h ∙ append_assoc old (ended (cond kept l.text [])) (shebang_lines kept (drop (suc n) ls)) ∙ sym (ap (λ u. old ++ u) rest)

  -- a line at its number
  pub placed_more : (above : ℕ) (old new : List ℕ) → new ≡ old ++ (replicate (gap above l) 10 ++ ended l.text) → new ++ placed (above + gap above l + 1) (drop (n + 1) ls) ≡ old ++ placed above (drop n ls)
  placed_more above old new h =
      let blanks : List ℕ = replicate (gap above l) 10 in
      let rest : List ℕ = placed (above + gap above l + 1) (drop (suc n) ls) in
      let whole : placed above (drop n ls) ≡ blanks ++ (ended l.text ++ rest) = ap (placed above) here in
      ap (λ k. new ++ placed (above + gap above l + 1) (drop k ls)) one ∙ ap (λ u. u ++ rest) h ∙ append_assoc old (blanks ++ ended l.text) rest ∙ ap (λ u. old ++ u) (append_assoc blanks (ended l.text) rest) ∙ sym (ap (λ u. old ++ u) whole)

pub count_all : (ls : List BodyLine) (n : ℕ) → length ls ≤ n → n + shebang_count (drop n ls) ≡ n
count_all ls n le =
    let none : shebang_count (drop n ls) ≡ 0 = ap shebang_count (drop_all n ls le) in
    omega (arith, none)

pub shebang_all : (ls : List BodyLine) (n : ℕ) (kept : Bool) (t : List ℕ) → length ls ≤ n → t ++ shebang_lines kept (drop n ls) ≡ t
shebang_all ls n kept t le = ap (λ u. t ++ shebang_lines kept u) (drop_all n ls le) ∙ append-nil t

pub placed_all : (ls : List BodyLine) (n above : ℕ) (t : List ℕ) → length ls ≤ n → t ++ placed above (drop n ls) ≡ t
placed_all ls n above t le = ap (λ u. t ++ placed above u) (drop_all n ls le) ∙ append-nil t

-- a text behind which two others were put
pub two_texts : (old mid new a b : List ℕ) → mid ≡ old ++ a → new ≡ mid ++ b → new ≡ old ++ (a ++ b)
two_texts old mid new a b g h = h ∙ ap (λ u. u ++ b) g ∙ append_assoc old a b

-- a front behind which no line stands
pub no_line : (t : List ℕ) (above : ℕ) → t ≡ t ++ placed above []
no_line t above = sym (append-nil t)
