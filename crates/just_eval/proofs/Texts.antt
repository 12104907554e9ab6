-- Texts, one behind the other.
use Rattle.std.proofs.Common.{◌≡◌, ℕ, suc, ◌+◌, ◌<◌, ◌≤◌, List, [], ◌∷◌, ◌++◌, append_assoc, append-nil, length, drop, get_or, drop-cons, Ok, Err, refl, sym, ap, ◌∙◌, arith}
use Rattle.std.proofs.lemmas.List.{drop_all}
use Rattle.just_lang_syntax.specs.declared.ast.Fragment.{Fragment}
use Rattle.just_lang_types.specs.declared.key.Value.{Value}
use Rattle.just_lang_types.specs.declared.scope.Scopes.{Scopes}
use Rattle.just_lang_types.specs.declared.project.LangError.{LangError}
use Rattle.just_eval_closure.specs.Answers.{Answer, and_then}
use Rattle.just_lang_types.specs.Modules.{Located}
use Rattle.just_eval.specs.declared.part.Part.{Part}
use Rattle.just_eval.specs.Bodies.{fragment_text, text_of_fragments}
use Rattle.just_eval.specs.Parts.{fragment_of, fragments_of, put_behind}

-- a text that was put behind another one, and what is behind it
moved : (old new : List ℕ) (a rest : Answer (List ℕ)) → put_behind old a ≡ Ok new → put_behind new rest ≡ put_behind old (and_then a (λ t. and_then rest (λ ts. Ok (t ++ ts))))
moved old new (Ok t) (Ok ts) h =
    let is : old ++ t ≡ new = cc in
    ap (λ u. Ok (u ++ ts)) (sym is) ∙ ap (λ u. Ok u) (append_assoc old t ts)
moved old new (Ok t) (Err e) h = refl
moved old new (Err e) rest h = absurd (let no : ⊥ = cc in no)

pub nothing_behind : (t : List ℕ) → put_behind t (Ok []) ≡ Ok t
nothing_behind t = ap (λ u. Ok u) (append-nil t)

pub nothing_in_front : (a : Answer (List ℕ)) → put_behind [] a ≡ a
nothing_in_front (Ok t) = refl
nothing_in_front (Err e) = refl

module _ (scopes : Scopes) (from : Located) (values : List Value) where
  more : (old new : List ℕ) (f : Fragment) (fs : List Fragment) → put_behind old (fragment_text scopes from values f) ≡ Ok new → put_behind new (text_of_fragments scopes from values fs) ≡ put_behind old (text_of_fragments scopes from values (f ∷ fs))
  more old new f fs h = moved old new (fragment_text scopes from values f) (text_of_fragments scopes from values fs) h

  refused : (old : List ℕ) (f : Fragment) (fs : List Fragment) (e : LangError) → fragment_text scopes from values f ≡ Err e → put_behind old (text_of_fragments scopes from values (f ∷ fs)) ≡ Err e
  refused old f fs e h = ap (λ a. put_behind old (and_then a (λ t. and_then (text_of_fragments scopes from values fs) (λ ts. Ok (t ++ ts))))) h

  module _ (ps : List Part) (n : ℕ) (p : Part) (lt : n < length ps) (is : p ≡ get_or ps n p) where
    part_here : fragments_of (drop n ps) ≡ fragment_of p ∷ fragments_of (drop (suc n) ps)
    part_here = ap fragments_of (drop-cons ps n p lt ∙ ap (λ z. z ∷ drop (suc n) ps) (sym is))

    pub part_more : (old new : List ℕ) → put_behind old (fragment_text scopes from values (fragment_of p)) ≡ Ok new → put_behind new (text_of_fragments scopes from values (fragments_of (drop (n + 1) ps))) ≡ put_behind old (text_of_fragments scopes from values (fragments_of (drop n ps)))
    part_more old new h =
        let one : n + 1 ≡ suc n = omega arith in
        ap (λ k. put_behind new (text_of_fragments scopes from values (fragments_of (drop k ps)))) one ∙ more old new (fragment_of p) (fragments_of (drop (suc n) ps)) h ∙ sym (ap (λ fs. put_behind old (text_of_fragments scopes from values fs)) part_here)

    pub part_refused : (old : List ℕ) (e : LangError) → fragment_text scopes from values (fragment_of p) ≡ Err e → put_behind old (text_of_fragments scopes from values (fragments_of (drop n ps))) ≡ Err e
    part_refused old e h = ap (λ fs. put_behind old (text_of_fragments scopes from values fs)) part_here ∙ refused old (fragment_of p) (fragments_of (drop (suc n) ps)) e h

  pub parts_end : (ps : List Part) (n : ℕ) (t : List ℕ) → length ps ≤ n → put_behind t (text_of_fragments scopes from values (fragments_of (drop n ps))) ≡ Ok t
  parts_end ps n t le = ap (λ qs. put_behind t (text_of_fragments scopes from values (fragments_of qs))) (drop_all n ps le) ∙ nothing_behind t

  module _ (gs : List Fragment) (n : ℕ) (g : Fragment) (lt : n < length gs) (is : g ≡ get_or gs n g) where
    fragment_here : drop n gs ≡ g ∷ drop (suc n) gs
    fragment_here = drop-cons gs n g lt ∙ ap (λ z. z ∷ drop (suc n) gs) (sym is)

    pub fragment_more : (old new : List ℕ) → put_behind old (fragment_text scopes from values g) ≡ Ok new → put_behind new (text_of_fragments scopes from values (drop (n + 1) gs)) ≡ put_behind old (text_of_fragments scopes from values (drop n gs))
    fragment_more old new h =
        let one : n + 1 ≡ suc n = omega arith in
        ap (λ k. put_behind new (text_of_fragments scopes from values (drop k gs))) one ∙ more old new g (drop (suc n) gs) h ∙ sym (ap (λ fs. put_behind old (text_of_fragments scopes from values fs)) fragment_here)

    pub fragment_refused : (old : List ℕ) (e : LangError) → fragment_text scopes from values g ≡ Err e → put_behind old (text_of_fragments scopes from values (drop n gs)) ≡ Err e
    fragment_refused old e h = ap (λ fs. put_behind old (text_of_fragments scopes from values fs)) fragment_here ∙ refused old g (drop (suc n) gs) e h

  pub fragments_end : (gs : List Fragment) (n : ℕ) (t : List ℕ) → length gs ≤ n → put_behind t (text_of_fragments scopes from values (drop n gs)) ≡ Ok t
  fragments_end gs n t le = ap (λ qs. put_behind t (text_of_fragments scopes from values qs)) (drop_all n gs le) ∙ nothing_behind t
