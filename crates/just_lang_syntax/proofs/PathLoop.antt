-- The loop over the names of a path.
use Rattle.std.proofs.Common.{◌≡◌, ℕ, ◌<◌, ◌≤◌, ◌==◌, true, false, List, [], ◌∷◌, ◌++◌, length, Some, Ok, Err, codes, refl, ◌∙◌, arith}
use Rattle.just_lang_read.specs.Place.{Place, Rule, AreMany, next, past, first, begins}
use Rattle.just_lang_read.specs.Reader.{Reader}
use Rattle.just_lang_read.specs.declared.error.ReadError.{ReadError}
use Rattle.just_lang_read.proofs.Laws.{bind_ok}
use Rattle.just_lang_read.proofs.Laws.{past_le, next_shorter, starts_at}
use Rattle.just_lang_read.proofs.Laws.{same}
use Rattle.just_lang_syntax.specs.declared.ast.Name.{Name}
use Rattle.just_lang_read.specs.Characters.{is_blank, in_name}
use Rattle.just_lang_syntax.specs.Places.{IsName}
use Rattle.just_lang_syntax.specs.Readers as reader
use Rattle.just_lang_read.specs.Tokens as tokens
use Rattle.just_lang_syntax.proofs.Collect.{to_come, more_is, end_is, wrong_is}
use Rattle.just_lang_syntax.proofs.Tokens.{token_ok, token_lt, name_ok}

-- where a character comes first, a step takes it
pub first_lt : (p : Place) (c : ℕ) → first p ≡ Some c → length (next p).rest < length p.rest
first_lt p c f = next_shorter (λ d. d == c) p (starts_at (λ d. d == c) p c f ∙ same c)

-- behind a chain no more is left, if each of its links takes a character
pub are_le : {A : Type 0} (Is : Rule A) (less : (p q : Place) (x : A) → Is p q x → length q.rest < length p.rest) (p q : Place) (xs : List A)
    → AreMany Is p q xs → length q.rest ≤ length p.rest
are_le Is less p q [] e = rw e (omega arith)
are_le Is less p q (x ∷ xs) (m, i, are) = omega (arith, less p m x i, are_le Is less m q xs are)

-- a name takes nothing back
pub name_le : (p q : Place) (x : Name) → IsName p q x → length q.rest ≤ length p.rest
name_le p q x (b, e, z) = rw e (omega (arith, past_le is_blank (past in_name p), past_le in_name p))

-- a further name takes a character
pub shorter : (p q : Place) (x : Name) → begins (codes "::") p ≡ true → reader.further_name p ≡ Ok (x, q) → length q.rest < length p.rest
unfolding reader.further_name
shorter p q x m h =
    let (u, n, t, k) = bind_ok (tokens.token (codes "::") p) (λ _. reader.name) x q h in
    omega (arith, token_lt 58 (58 ∷ []) p n (token_ok (codes "::") p u n t), name_le n q x (name_ok n x q k))

-- the names that were found, and those to come
unfoldable pub names_to_come : List Name → Reader (List Name)
names_to_come found = to_come (begins (codes "::")) reader.further_name found

-- behind the first name the others are to come
pub begin : (p m : Place) (first : Name) → reader.name p ≡ Ok (first, m) → reader.path p ≡ names_to_come (first ∷ []) m
unfolding reader.path names_to_come to_come
begin p m first h = rw h refl

-- a further name is one that was found
pub more : (p q : Place) (x : Name) (found : List Name) → begins (codes "::") p ≡ true → reader.further_name p ≡ Ok (x, q)
    → names_to_come found p ≡ names_to_come (found ++ x ∷ []) q
unfolding names_to_come
more p q x found m o = more_is (begins (codes "::")) reader.further_name shorter p q x found m o

-- where no further one begins, all were found
pub done : (p : Place) (found : List Name) → begins (codes "::") p ≡ false → names_to_come found p ≡ Ok (found, p)
unfolding names_to_come
done p found m = end_is (begins (codes "::")) reader.further_name shorter p found m

-- where one begins that isn't read, the path is refused as it is
pub wrong : (p : Place) (found : List Name) (e : ReadError) → begins (codes "::") p ≡ true → reader.further_name p ≡ Err e → names_to_come found p ≡ Err e
unfolding names_to_come
wrong p found e m o = wrong_is (begins (codes "::")) reader.further_name shorter p found e m o

-- where no name is read, the path is refused as it is
pub path_wrong : (p : Place) (e : ReadError) → reader.name p ≡ Err e → reader.path p ≡ Err e
unfolding reader.path
path_wrong p e h = rw h refl
