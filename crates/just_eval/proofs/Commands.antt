-- Lines with their texts.
use Rattle.std.proofs.Common.{◌≡◌, ◌<◌, ℕ, false, List, [], ◌∷◌, ◌++◌, length, get_or, Ok, Err, refl, sym, ap, ◌∙◌, arith}
use Rattle.just_lang_types.specs.declared.project.LangError.{LangError}
use Rattle.just_eval_closure.specs.Answers.{Answer, and_then}
use Rattle.just_eval.specs.declared.sigils.Sigils.{Sigils}
use Rattle.just_eval.specs.declared.part.Part.{Part}
use Rattle.just_eval.specs.Bodies.{body_line, is_hashed, begin_comment}
use Rattle.just_eval.specs.Parts.{fragment_of, fragments_of, put_behind}

pub nothing_begins : (ps : List Part) → length ps ≡ 0 → begin_comment (fragments_of ps) ≡ false
nothing_begins [] none = refl
nothing_begins (p ∷ ps) none = absurd (omega (arith, none))

pub first_begins : (ps : List Part) (p : Part) → 0 < length ps → p ≡ get_or ps 0 p → begin_comment (fragments_of ps) ≡ is_hashed (fragment_of p)
first_begins [] p lt is = absurd (omega (arith, lt))
first_begins (q ∷ ps) p lt is = ap (λ r. is_hashed (fragment_of r)) (sym is)

module _ (n : ℕ) (s : Sigils) (a : Answer (List ℕ)) where
  line_by : (u : List ℕ) (b : Answer (List ℕ)) → put_behind u a ≡ b → and_then a (λ x. Ok (body_line n s (u ++ x))) ≡ and_then b (λ x. Ok (body_line n s x))
  line_by u b h = pick a ∙ ap (λ c. and_then c (λ x. Ok (body_line n s x))) h
    where
      pick : (c : Answer (List ℕ)) → and_then c (λ x. Ok (body_line n s (u ++ x))) ≡ and_then (put_behind u c) (λ x. Ok (body_line n s x))
      pick (Ok x) = refl
      pick (Err e) = refl

  pub line_is : (u t : List ℕ) → put_behind u a ≡ Ok t → and_then a (λ x. Ok (body_line n s (u ++ x))) ≡ Ok (body_line n s t)
  line_is u t h = line_by u (Ok t) h

  pub line_refused : (u : List ℕ) (e : LangError) → put_behind u a ≡ Err e → and_then a (λ x. Ok (body_line n s (u ++ x))) ≡ Err e
  line_refused u e h = line_by u (Err e) h

  pub script_is : (t : List ℕ) → a ≡ Ok t → and_then a (λ x. Ok (body_line n s x)) ≡ Ok (body_line n s t)
  script_is t h = ap (λ c. and_then c (λ x. Ok (body_line n s x))) h

  pub script_refused : (e : LangError) → a ≡ Err e → and_then a (λ x. Ok (body_line n s x)) ≡ Err e
  script_refused e h = ap (λ c. and_then c (λ x. Ok (body_line n s x))) h
