-- The comment behind a line of attributes is that of its last one.
use Rattle.std.proofs.Common.{◌≡◌, ℕ, List, [], ◌∷◌, ◌++◌, Option, refl, ap}
use Rattle.just_lang_syntax.specs.declared.ast.Attribute.{Attribute}
use Rattle.just_lang_syntax.specs.Attributes.{with_comment}

-- where there is no attribute, a comment changes nothing
pub comment_none : (comment : Option (List ℕ)) → with_comment comment [] ≡ []
comment_none comment = refl

-- the comment is the last attribute's
pub comment_last : (comment : Option (List ℕ)) (front : List Attribute) (x : Attribute)
    → with_comment comment (front ++ x ∷ []) ≡ front ++ record x { comment = comment } ∷ []
comment_last comment [] x = refl
comment_last comment (y ∷ []) x = refl
comment_last comment (y ∷ z ∷ front) x = ap (λ (r : List Attribute). y ∷ r) (comment_last comment (z ∷ front) x)
