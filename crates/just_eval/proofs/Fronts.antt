-- The text in front of the first value, part by part.
use Rattle.std.proofs.Common.{◌≡◌, ℕ, suc, ◌+◌, ◌<◌, ◌≤◌, List, [], ◌∷◌, ◌++◌, append_assoc, length, drop, get_or, drop-cons, sym, ap, ◌∙◌, arith, Bor}
use Rattle.std.proofs.lemmas.List.{drop_all}
use Rattle.just_lang_syntax.specs.declared.ast.Expr.{Expr}
use Rattle.just_eval.specs.declared.part.Part.{Part}
use Rattle.just_eval.specs.declared.part.Part.TheVariants as part
use Rattle.just_eval.specs.Bodies.{front, behind_front}
use Rattle.just_eval.specs.Parts.{fragment_of, fragments_of}

module _ (ps : List Part) (n : ℕ) (p : Part) (lt : n < length ps) (is : p ≡ get_or ps n p) where
  one : n + 1 ≡ suc n
  one = omega arith

  here : fragments_of (drop n ps) ≡ fragment_of p ∷ fragments_of (drop (suc n) ps)
  here = ap fragments_of (drop-cons ps n p lt ∙ ap (λ z. z ∷ drop (suc n) ps) (sym is))

  -- a text more
  pub text_more : (t : Bor (List ℕ)) (old new : List ℕ) → p ≡ part.Text t → new ≡ old ++ t.now → new ++ front (fragments_of (drop (n + 1) ps)) ≡ old ++ front (fragments_of (drop n ps))
  text_more t old new text added =
      ap (λ k. new ++ front (fragments_of (drop k ps))) one
      ∙ ap (λ u. u ++ front (fragments_of (drop (suc n) ps))) added
      ∙ append_assoc old t.now (front (fragments_of (drop (suc n) ps)))
      ∙ sym (ap (λ fs. old ++ front fs) here ∙ ap (λ q. old ++ front (fragment_of q ∷ fragments_of (drop (suc n) ps))) text)

  pub text_passed : (t : Bor (List ℕ)) → p ≡ part.Text t → behind_front (fragments_of (drop (n + 1) ps)) ≡ behind_front (fragments_of (drop n ps))
  text_passed t text =
      ap (λ k. behind_front (fragments_of (drop k ps))) one ∙ sym (ap behind_front here ∙ ap (λ q. behind_front (fragment_of q ∷ fragments_of (drop (suc n) ps))) text)

  -- a value
  pub value_ends : (x : Bor Expr) → p ≡ part.Value x → front (fragments_of (drop n ps)) ≡ []
  value_ends x value = ap front here ∙ ap (λ q. front (fragment_of q ∷ fragments_of (drop (suc n) ps))) value

  pub value_stays : (x : Bor Expr) → p ≡ part.Value x → fragments_of (drop n ps) ≡ behind_front (fragments_of (drop n ps))
  value_stays x value =
      here ∙ ap (λ q. fragment_of q ∷ fragments_of (drop (suc n) ps)) value ∙ sym (ap behind_front here ∙ ap (λ q. behind_front (fragment_of q ∷ fragments_of (drop (suc n) ps))) value)

-- nothing is left
module _ (ps : List Part) (n : ℕ) (le : length ps ≤ n) where
  nothing : fragments_of (drop n ps) ≡ []
  nothing = ap fragments_of (drop_all n ps le)

  pub all_texts : front (fragments_of (drop n ps)) ≡ []
  all_texts = ap front nothing

  pub all_passed : fragments_of (drop (length ps) ps) ≡ behind_front (fragments_of (drop n ps))
  all_passed = ap fragments_of (drop_all (length ps) ps (omega arith)) ∙ sym (ap behind_front nothing)
