-- Lines with those that they go on with, one after the other.
use Rattle.std.proofs.Common.{◌≡◌, ℕ, suc, ◌+◌, ◌<◌, ◌≤◌, Bool, true, false, List, [], ◌∷◌, ◌++◌, append_assoc, map, length, take, drop, get_or, drop-cons, Option, Some, None, refl, sym, ap, ◌∙◌, arith}
use Rattle.std.specs.Prelude.{◌-◌, if◌then◌else◌}
use Rattle.std.specs.Option.{option_map}
use Rattle.std.proofs.lemmas.List.{drop_all}
use Rattle.just_lang_syntax.specs.declared.ast.Fragment.{Fragment}
use Rattle.just_lang_syntax.specs.declared.ast.Fragment.TheVariants as fragment
use Rattle.just_lang_syntax.specs.declared.ast.Line.{Line}
use Rattle.just_eval.specs.declared.continuation.Gathered.{Gathered}
use Rattle.just_eval.specs.Bodies.{is_marked, without_end, goes_on, without_mark, without_indentation, with_next, joined}
use Rattle.just_eval.specs.Parts.{line_of, behind_unfinished, rejoined, with_rest}

-- the blanks at the front of a line that goes on are those of its own text
indented : (fs rest : List Fragment) → goes_on fs ≡ true → without_indentation (without_mark fs ++ rest) ≡ without_indentation (without_mark fs) ++ rest
indented [] rest h = absurd (let no : ⊥ = cc in no)
indented (f ∷ []) rest h = refl
indented (f ∷ g ∷ fs) rest h = refl

last_same : (f : Fragment) → is_marked f ≡ false → without_end f ≡ f
last_same (fragment.Text t) h = ap (λ b. fragment.Text (if b then take (length t - 1) t else t)) h
last_same (fragment.Value x) h = refl

unmarked : (fs : List Fragment) → goes_on fs ≡ false → without_mark fs ≡ fs
unmarked [] h = refl
unmarked (f ∷ []) h = ap (λ g. g ∷ []) (last_same f h)
unmarked (f ∷ g ∷ fs) h = ap (λ r. f ∷ r) (unmarked (g ∷ fs) h)

abbrev without : Line → Line
without l = record { number = l.number; fragments = without_mark l.fragments }

twice : (o l : Line) (ms : List Line) → goes_on l.fragments ≡ true → with_next (behind_unfinished (Some o) l) ms ≡ with_next o (with_next (without l) ms)
twice o l [] h = refl
twice o l (m ∷ ms) h =
    ap (λ fs. record { number = o.number; fragments = fs } ∷ ms) (append_assoc o.fragments (without_indentation (without_mark l.fragments)) (without_indentation m.fragments) ∙ ap (λ fs. o.fragments ++ fs) (sym (indented l.fragments (without_indentation m.fragments) h)))

module _ (l : Line) (rest : List Line) where
  by_test : (b : Bool) → goes_on l.fragments ≡ b → joined (l ∷ rest) ≡ (if b then with_next (without l) (joined rest) else l ∷ joined rest)
  by_test b h = ap (λ c. if c then with_next (without l) (joined rest) else l ∷ joined rest) h

  open_by : (o : Option Line) → goes_on l.fragments ≡ true → with_next (behind_unfinished o l) (joined rest) ≡ rejoined o (joined (l ∷ rest))
  open_by None h = sym (by_test true h)
  open_by (Some o) h = twice o l (joined rest) h ∙ sym (ap (with_next o) (by_test true h))

  whole_by : (o : Option Line) → goes_on l.fragments ≡ false → behind_unfinished o l ∷ joined rest ≡ rejoined o (joined (l ∷ rest))
  whole_by None h = ap (λ fs. record { number = l.number; fragments = fs } ∷ joined rest) (unmarked l.fragments h) ∙ sym (by_test false h)
  whole_by (Some o) h =
      ap (λ fs. record { number = o.number; fragments = o.fragments ++ without_indentation fs } ∷ joined rest) (unmarked l.fragments h) ∙ sym (ap (with_next o) (by_test false h))

  -- a line that goes on
  pub line_goes_on : (ws : List Line) (o : Option Line) (c : Line) → goes_on l.fragments ≡ true → c ≡ behind_unfinished o l → ws ++ with_next c (joined rest) ≡ ws ++ rejoined o (joined (l ∷ rest))
  line_goes_on ws o c h is = ap (λ d. ws ++ with_next d (joined rest)) is ∙ ap (λ ls. ws ++ ls) (open_by o h)

  -- one that doesn't
  pub line_ends : (ws : List Line) (o : Option Line) (c : Line) → goes_on l.fragments ≡ false → c ≡ behind_unfinished o l → (ws ++ c ∷ []) ++ joined rest ≡ ws ++ rejoined o (joined (l ∷ rest))
  line_ends ws o c h is = append_assoc ws (c ∷ []) (joined rest) ∙ ap (λ d. ws ++ d ∷ joined rest) is ∙ ap (λ ls. ws ++ ls) (whole_by o h)

-- a line more is gathered
pub joined_more : (old new : Gathered) (ls : List Line) (n : ℕ) (l : Line) → n < length ls → l ≡ get_or ls n l → ((rest : List Line) → with_rest new (joined rest) ≡ with_rest old (joined (l ∷ rest))) → with_rest new (joined (drop (n + 1) ls)) ≡ with_rest old (joined (drop n ls))
joined_more old new ls n l lt is gathers =
    let one : n + 1 ≡ suc n = omega arith in
    ap (λ k. with_rest new (joined (drop k ls))) one ∙ gathers (drop (suc n) ls) ∙ sym (ap (λ ms. with_rest old (joined ms)) (drop-cons ls n l lt ∙ ap (λ z. z ∷ drop (suc n) ls) (sym is)))

-- all are
pub joined_all : (g : Gathered) (ls : List Line) (n : ℕ) → length ls ≤ n → with_rest g (joined (drop n ls)) ≡ map line_of g.whole.items ++ rejoined (option_map line_of g.unfinished) []
joined_all g ls n le = ap (λ ms. with_rest g (joined ms)) (drop_all n ls le)
