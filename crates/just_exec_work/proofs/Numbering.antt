-- Each line of a script stands at its number.
use Rattle.std.proofs.Common.{◌≡◌, ℕ, zero, suc, ◌+◌, ◌-◌, ◌<◌, ◌≤◌, Bool, true, false, cond, List, [], ◌∷◌, ◌++◌, length, take, drop, replicate, Some, append_assoc, refl, sym, ap, ◌∙◌, subst, arith}
use Rattle.std.specs.Prelude.{slice_get}
use Rattle.std.specs.List.{list_any, slice_split, onto_first, AllByRecursion}
use Rattle.std.proofs.lemmas.List.Sums.{prefix_len-le-length}
use Rattle.std.proofs.Math.Seq.{drop-append_seam}
use Rattle.just_lang_types.specs.declared.node.BodyLine.{BodyLine}
use Rattle.just_exec_work.specs.Cuts.{is_newline}
use Rattle.just_exec_work.specs.Shebangs.{keeps_shebang_lines}
use Rattle.just_exec_work.specs.Scripts.{Runner, by_command, by_shebang, ended, shebang_count, shebang_lines, is_shebang_line, gap, placed, byte_order_mark, script_text}
use Rattle.just_exec_work.proofs.LastPieces.{neither}
use Rattle.just_exec_work.specs.Lines.{lines_of, StandsAtNumber, AreRising, IsOneLine, KeepsNumbers}

-- ---- lines of a text

split_cons : (c : ℕ) (cs t rest : List ℕ) → is_newline c ≡ false → slice_split is_newline t ≡ cs ∷ slice_split is_newline rest → slice_split is_newline (c ∷ t) ≡ (c ∷ cs) ∷ slice_split is_newline rest
split_cons c cs t rest e h = ap (λ b. cond b ([] ∷ slice_split is_newline t) (onto_first c (slice_split is_newline t))) e ∙ ap (onto_first c) h

split_behind : (t rest : List ℕ) → list_any is_newline t ≡ false → slice_split is_newline (t ++ 10 ∷ rest) ≡ t ∷ slice_split is_newline rest
split_behind [] rest h = refl
split_behind (c ∷ cs) rest h =
    let apart = neither (is_newline c) (list_any is_newline cs) h in
    split_cons c cs (cs ++ 10 ∷ rest) rest apart.0 (split_behind cs rest apart.1)

-- a line in front
line_in_front : (t rest : List ℕ) → list_any is_newline t ≡ false → lines_of (ended t ++ rest) ≡ t ∷ lines_of rest
line_in_front t rest h = ap lines_of (append_assoc t (10 ∷ []) rest) ∙ split_behind t rest h

-- blank lines in front
behind_blank_lines : (k i : ℕ) (rest : List ℕ) → slice_get (lines_of (replicate k 10 ++ rest)) (k + i) ≡ slice_get (lines_of rest) i
behind_blank_lines zero i rest = let e : 0 + i ≡ i = omega arith in ap (slice_get (lines_of rest)) e
behind_blank_lines (suc k) i rest = let e : suc k + i ≡ suc (k + i) = omega arith in ap (slice_get ([] ∷ lines_of (replicate k 10 ++ rest))) e ∙ behind_blank_lines k i rest

-- ---- numbers that rise

rising_less : (m n : ℕ) (ls : List BodyLine) → m ≤ n → AreRising n ls → AreRising m ls
rising_less m n [] le r = tt
rising_less m n (l ∷ ls) le r = let lt = r.0 in (omega (arith, lt), r.1)

rising_drop : (n k : ℕ) (ls : List BodyLine) → AreRising n ls → AreRising (n + k) (drop k ls)
rising_drop n zero ls r = let e : n + 0 ≤ n = omega arith in rising_less (n + 0) n ls e r
rising_drop n (suc k) [] r = tt
rising_drop n (suc k) (l ∷ ls) r =
    let lt = r.0 in
    rising_less (n + suc k) (l.number + k) (drop k ls) (omega (arith, lt)) (rising_drop l.number k ls r.1)

all_above : (n : ℕ) (ls : List BodyLine) → AreRising n ls → AllByRecursion (λ l. n < l.number) ls
all_above n [] r = tt
all_above n (l ∷ ls) r = let lt = r.0 in (r.0, all_above n ls (rising_less n l.number ls (omega (arith, lt)) r.1))

both : {A : Type 0} (P Q R : A → Type 0) (xs : List A) → ((x : A) → P x → Q x → R x) → AllByRecursion P xs → AllByRecursion Q xs → AllByRecursion R xs
both P Q R [] f p q = tt
both P Q R (x ∷ xs) f p q = (f x p.0 q.0, both P Q R xs f p.1 q.1)

dropped : {A : Type 0} (P : A → Type 0) (k : ℕ) (xs : List A) → AllByRecursion P xs → AllByRecursion P (drop k xs)
dropped P zero xs p = p
dropped P (suc k) [] p = tt
dropped P (suc k) (x ∷ xs) p = dropped P k xs p.1

-- ---- placed lines

-- the text of the line stands in the text that many lines further up than its number
abbrev Stands : ℕ → List ℕ → BodyLine → Type 0
Stands above text l = slice_get (lines_of text) (l.number - 1 - above) ≡ Some l.text

module _ (above : ℕ) (l : BodyLine) (ls : List BodyLine) (lt : above < l.number) (line : list_any is_newline l.text ≡ false) where
  next : ℕ
  next = above + gap above l + 1

  rest : List ℕ
  rest = ended l.text ++ placed (above + gap above l + 1) ls

  front_line : Stands above (placed above (l ∷ ls)) l
  front_line =
      let none : gap above l + 0 ≡ gap above l = omega arith in
      ap (slice_get (lines_of (placed above (l ∷ ls)))) (sym none) ∙ behind_blank_lines (gap above l) 0 (ended l.text ++ placed (above + gap above l + 1) ls) ∙ ap (λ xs. slice_get xs 0) (line_in_front l.text (placed (above + gap above l + 1) ls) line)

  later_line : (m : BodyLine) → l.number < m.number → Stands (above + gap above l + 1) (placed (above + gap above l + 1) ls) m → Stands above (placed above (l ∷ ls)) m
  later_line m up stands =
      let tail : List ℕ = placed (above + gap above l + 1) ls in
      let i : ℕ = m.number - 1 - (above + gap above l + 1) in
      let at : m.number - 1 - above ≡ gap above l + suc i = omega (arith, up, lt) in
      ap (slice_get (lines_of (placed above (l ∷ ls)))) at ∙ behind_blank_lines (gap above l) (suc i) (ended l.text ++ tail) ∙ ap (λ xs. slice_get xs (suc i)) (line_in_front l.text tail line) ∙ stands

pub placed_stand : (above : ℕ) (ls : List BodyLine) → AreRising above ls → AllByRecursion IsOneLine ls → AllByRecursion (Stands above (placed above ls)) ls
placed_stand above [] r o = tt
placed_stand above (l ∷ ls) r o =
    let lt : above < l.number = r.0 in
    let next : above + gap above l + 1 ≡ l.number = omega (arith, lt) in
    let up : AllByRecursion (λ m. l.number < m.number) ls = all_above l.number ls r.1 in
    let stand : AllByRecursion (Stands (above + gap above l + 1) (placed (above + gap above l + 1) ls)) ls = placed_stand (above + gap above l + 1) ls (rising_less (above + gap above l + 1) l.number ls (omega (arith, next)) r.1) o.1 in
    (front_line above l ls lt o.0, both (λ m. l.number < m.number) (Stands (above + gap above l + 1) (placed (above + gap above l + 1) ls)) (Stands above (placed above (l ∷ ls))) ls (later_line above l ls lt o.0) up stand)

-- ---- lines of a shebang in front

behind_shebang_lines : (kept : Bool) (k : ℕ) (ls : List BodyLine) (rest : List ℕ) (i : ℕ) → k ≤ length ls → AllByRecursion IsOneLine ls → slice_get (lines_of (shebang_lines kept (take k ls) ++ rest)) (k + i) ≡ slice_get (lines_of rest) i
behind_shebang_lines kept zero ls rest i le o = let e : 0 + i ≡ i = omega arith in ap (slice_get (lines_of rest)) e
behind_shebang_lines kept (suc k) [] rest i le o = absurd (omega (arith, le))
behind_shebang_lines kept (suc k) (l ∷ ls) rest i le o =
    let more : List ℕ = shebang_lines kept (take k ls) in
    let e : suc k + i ≡ suc (k + i) = omega arith in
    ap (λ u. slice_get (lines_of u) (suc k + i)) (append_assoc (ended (cond kept l.text [])) more rest)
    ∙ ap (λ xs. slice_get xs (suc k + i)) (line_in_front (cond kept l.text []) (more ++ rest) (one_line kept))
    ∙ ap (slice_get (cond kept l.text [] ∷ lines_of (more ++ rest))) e
    ∙ behind_shebang_lines kept k ls rest i (omega (arith, le)) o.1
  where
    one_line : (b : Bool) → list_any is_newline (cond b l.text []) ≡ false
    one_line true = o.0
    one_line false = refl

-- ---- scripts

each_one : {A : Type 0} (P Q : A → Type 0) (xs : List A) → ((x : A) → P x → Q x) → AllByRecursion P xs → AllByRecursion Q xs
each_one P Q [] f p = tt
each_one P Q (x ∷ xs) f p = (f x p.0, each_one P Q xs f p.1)

pub command_stands : (m : List ℕ) (ls : List BodyLine) → AreRising 0 ls → AllByRecursion IsOneLine ls → AllByRecursion (StandsAtNumber (drop (length m) (m ++ placed 0 ls))) ls
command_stands m ls r o = each_one (Stands 0 (placed 0 ls)) (StandsAtNumber (drop (length m) (m ++ placed 0 ls))) ls stands (placed_stand 0 ls r o)
  where
    stands : (l : BodyLine) → Stands 0 (placed 0 ls) l → StandsAtNumber (drop (length m) (m ++ placed 0 ls)) l
    stands l p =
        let at : l.number - 1 ≡ l.number - 1 - 0 = omega arith in
        ap (λ u. slice_get (lines_of u) (l.number - 1)) (drop-append_seam m (placed 0 ls)) ∙ ap (slice_get (lines_of (placed 0 ls))) at ∙ p

pub shebang_stands : (kept : Bool) (ls : List BodyLine) → AreRising 0 ls → AllByRecursion IsOneLine ls → AllByRecursion (StandsAtNumber (shebang_lines kept (take (shebang_count ls) ls) ++ placed (shebang_count ls) (drop (shebang_count ls) ls))) (drop (shebang_count ls) ls)
shebang_stands kept ls r o =
    let rising : AreRising (shebang_count ls) (drop (shebang_count ls) ls) = rising_less (shebang_count ls) (0 + shebang_count ls) (drop (shebang_count ls) ls) (omega arith) (rising_drop 0 (shebang_count ls) ls r) in
    both (λ l. shebang_count ls < l.number) (Stands (shebang_count ls) (placed (shebang_count ls) (drop (shebang_count ls) ls))) (StandsAtNumber (shebang_lines kept (take (shebang_count ls) ls) ++ placed (shebang_count ls) (drop (shebang_count ls) ls))) (drop (shebang_count ls) ls) stands (all_above (shebang_count ls) (drop (shebang_count ls) ls) rising) (placed_stand (shebang_count ls) (drop (shebang_count ls) ls) rising (dropped IsOneLine (shebang_count ls) ls o))
  where
    stands : (l : BodyLine) → shebang_count ls < l.number → Stands (shebang_count ls) (placed (shebang_count ls) (drop (shebang_count ls) ls)) l → StandsAtNumber (shebang_lines kept (take (shebang_count ls) ls) ++ placed (shebang_count ls) (drop (shebang_count ls) ls)) l
    stands l lt p =
        let rest : List ℕ = placed (shebang_count ls) (drop (shebang_count ls) ls) in
        let at : l.number - 1 ≡ shebang_count ls + (l.number - 1 - shebang_count ls) = omega (arith, lt) in
        ap (slice_get (lines_of (shebang_lines kept (take (shebang_count ls) ls) ++ rest))) at ∙ behind_shebang_lines kept (shebang_count ls) ls rest (l.number - 1 - shebang_count ls) (prefix_len-le-length is_shebang_line ls) o ∙ p

-- the script of a body keeps the numbers of its lines
pub script_keeps_numbers : (r : Runner) (ls : List BodyLine) (t : List ℕ) → t ≡ script_text r ls → KeepsNumbers r ls t
script_keeps_numbers r ls t h = subst (KeepsNumbers r ls) (sym h) (kept r)
  where
    kept : (r : Runner) → KeepsNumbers r ls (script_text r ls)
    kept (by_command i) = λ rising lines. command_stands (byte_order_mark (by_command i)) ls rising lines
    kept (by_shebang n) = λ rising lines. shebang_stands (keeps_shebang_lines n) ls rising lines
