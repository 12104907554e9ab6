-- An entry stays by its text exactly where it does by its path.
use Rattle.std.proofs.Common.{◌≡◌, ◌↔◌, ◌⊎◌, inl, inr, ℕ, List, ◌++◌, sym, ap, ◌∙◌, subst}
use Rattle.just_cache.specs.Members.{path_text}
use Rattle.just_cache_clean.specs.EntryTexts.{IsPath, Stays, entry1, entry2, front1, front2, back}
use Rattle.just_cache_clean.specs.PathTexts.{BeginsText, StaysText}
use Rattle.just_cache_clean.proofs.Begins.{text_begins, path_begins}
use Rattle.just_cache_clean.proofs.PathWalks.{path_walked, path_found}
use Rattle.just_cache_clean.proofs.Saved.{entry1_is}

to_path : (prefix : List (List ℕ)) (digest text : List ℕ) → IsPath prefix → StaysText (path_text prefix) digest text → Stays prefix digest text
to_path prefix digest text known (inner, form, other) =
    let (path, is, e) = path_found inner other.path in
    (path, (is, form_of path is e form), λ b. other.other (subst (λ (t : List ℕ). BeginsText (path_text prefix) t) (sym e) (text_begins prefix path known b)))
  where
    form_of : (path : List (List ℕ)) → IsPath path → inner ≡ path_text path → (text ≡ front1 ++ (inner ++ back)) ⊎ (text ≡ front2 digest ++ (inner ++ back)) → (text ≡ entry1 path) ⊎ (text ≡ entry2 path digest)
    form_of path p e (inl is) = inl (is ∙ ap (λ (t : List ℕ). front1 ++ (t ++ back)) e ∙ sym (entry1_is path p))
    form_of path p e (inr is) = inr (is ∙ ap (λ (t : List ℕ). front2 digest ++ (t ++ back)) e)

to_text : (prefix : List (List ℕ)) (digest text : List ℕ) → IsPath prefix → Stays prefix digest text → StaysText (path_text prefix) digest text
to_text prefix digest text known (path, (is, form), other) =
    (path_text path, form_of form, record { path = path_walked path is; other = λ b. other (path_begins prefix path known is b) })
  where
    form_of : (text ≡ entry1 path) ⊎ (text ≡ entry2 path digest) → (text ≡ front1 ++ (path_text path ++ back)) ⊎ (text ≡ front2 digest ++ (path_text path ++ back))
    form_of (inl e) = inl (e ∙ entry1_is path is)
    form_of (inr e) = inr e

pub stays_is : (prefix : List (List ℕ)) (digest text : List ℕ) → IsPath prefix → StaysText (path_text prefix) digest text ↔ Stays prefix digest text
stays_is prefix digest text known = (to_path prefix digest text known, to_text prefix digest text known)
