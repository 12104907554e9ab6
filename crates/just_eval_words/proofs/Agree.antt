-- Words ask for one thing.
use Rattle.std.proofs.Common.{◌≡◌, List, [], ◌∷◌, Ok, Err, refl, sym, ap, ◌∙◌}
use Rattle.just_lang_types.specs.declared.key.Key.{Key}
use Rattle.just_lang_types.specs.declared.scope.Scopes.{Scopes}
use Rattle.just_lang_types.specs.declared.project.Justfile.{Justfile}
use Rattle.just_lang_types.specs.declared.project.LangError.{LangError}
use Rattle.just_eval_closure.specs.Answers.{Answer, and_then}
use Rattle.just_eval_words.specs.Paths.{Word}
use Rattle.just_eval_words.specs.Invocations.{first_key, Invokes, InvocationsAgree}

abbrev First : Type 0
First = Answer (Key × List Word)

abbrev first_ok : Key → List Word → First
first_ok k ws = Ok (k, ws)

abbrev first_err : LangError → First
first_err e = Err e

same_refusal : (e f : LangError) → first_err e ≡ first_err f → e ≡ f
same_refusal e f h = cc

abbrev key_or : Key → First → Key
key_or k (Ok c) = c.0
key_or k (Err e) = k

abbrev left_or : List Word → First → List Word
left_or ws (Ok c) = c.1
left_or ws (Err e) = ws

same_key : (k l : Key) (us ws : List Word) → first_ok k us ≡ first_ok l ws → k ≡ l
same_key k l us ws h = ap (key_or k) h

same_left : (k l : Key) (us ws : List Word) → first_ok k us ≡ first_ok l ws → us ≡ ws
same_left k l us ws h = ap (left_or us) h

no_both : (k : Key) (us : List Word) (e : LangError) → first_ok k us ≡ first_err e → ⊥
no_both k us e h = let no : ⊥ = cc in no

empty_not : (w : Word) (ws : List Word) → [] ≡ w ∷ ws → ⊥
empty_not w ws h = let no : ⊥ = cc in no

module _ (ms : List Justfile) (scopes : Scopes) (root : Justfile) where
  abbrev key : List Word → First
  key ws = first_key ms scopes root ws

  agree_by : (us ws : List Word) (a b : Answer (List Key)) → Invokes ms scopes root us a → Invokes ms scopes root ws b → us ≡ ws → a ≡ b
  agree_by us ws a b (Invokes.refused vs e h) (Invokes.refused xs f k) is = ap (λ x. Err x) (same_refusal e f (sym h ∙ ap key is ∙ k))
  agree_by us ws a b (Invokes.refused vs e h) (Invokes.last xs l k) is = absurd (no_both l [] e (sym k ∙ sym (ap key is) ∙ h))
  agree_by us ws a b (Invokes.refused vs e h) (Invokes.more xs ys y l others k rest) is = absurd (no_both l (y ∷ ys) e (sym k ∙ sym (ap key is) ∙ h))
  agree_by us ws a b (Invokes.last vs j h) (Invokes.refused xs f k) is = absurd (no_both j [] f (sym h ∙ ap key is ∙ k))
  agree_by us ws a b (Invokes.last vs j h) (Invokes.last xs l k) is = ap (λ x. Ok (x ∷ [])) (same_key j l [] [] (sym h ∙ ap key is ∙ k))
  agree_by us ws a b (Invokes.last vs j h) (Invokes.more xs ys y l others k rest) is = absurd (empty_not y ys (same_left j l [] (y ∷ ys) (sym h ∙ ap key is ∙ k)))
  agree_by us ws a b (Invokes.more vs ts t j some h later) (Invokes.refused xs f k) is = absurd (no_both j (t ∷ ts) f (sym h ∙ ap key is ∙ k))
  agree_by us ws a b (Invokes.more vs ts t j some h later) (Invokes.last xs l k) is = absurd (empty_not t ts (sym (same_left j l (t ∷ ts) [] (sym h ∙ ap key is ∙ k))))
  agree_by us ws a b (Invokes.more vs ts t j some h later) (Invokes.more xs ys y l others k rest) is =
      let both : first_ok j (t ∷ ts) ≡ first_ok l (y ∷ ys) = sym h ∙ ap key is ∙ k in
      ap (λ x. and_then some (λ ks. Ok (x ∷ ks))) (same_key j l (t ∷ ts) (y ∷ ys) both) ∙ ap (λ o. and_then o (λ ks. Ok (l ∷ ks))) (agree_by (t ∷ ts) (y ∷ ys) some others later rest (same_left j l (t ∷ ts) (y ∷ ys) both))

pub agree : InvocationsAgree
agree ms scopes root ws a b h k = agree_by ms scopes root ws ws a b h k refl
