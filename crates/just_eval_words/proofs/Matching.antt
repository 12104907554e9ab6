-- Patterns that were built.
use Rattle.std.proofs.Common.{◌≡◌, ◌≢◌, ℕ, suc, ◌+◌, ◌<◌, ◌≤◌, Bool, true, false, List, [], ◌∷◌, ◌++◌, length, get_or, drop, drop-cons, append-nil, Option, Some, None, is_some, IsSomeAnd, string_bytes, inl, inr, le-leb, refl, sym, ap, ◌∙◌, arith}
use Rattle.std.specs.Prelude.{◌&&◌, ◌||◌, ◌⊎◌, nat_le, IfSome, chars}
use Rattle.std.specs.List.{list_any}
use Rattle.std.proofs.lemmas.Bool.Decides.{nat_tests}
use Rattle.std.proofs.lemmas.List.{drop_all}
use Rattle.regex.specs.Patterns.{Re, SameCaptures, find_str, default_config, Reads}
use Rattle.regex.specs.Strings.{regex_pattern, regex_source, regex_config, IsReadFromSource}
use Rattle.regex.specs.declared.string.regex.Regex.{Regex}
use Rattle.regex.specs.declared.error.Error.{Error}
use Rattle.regex.specs.declared.error.Error.TheVariants as failure
use Rattle.regex.specs.Sources.{IsRefusal}
use Rattle.regex.specs.Failures.{IsRightKind}
use Rattle.regex.proofs.ForCallers.{is_match_alike}
use Rattle.regex_syntax.specs.Brackets.{Nested}
use Rattle.regex_syntax.specs.Grammar.{Names, group_count, read}
use Rattle.regex_syntax.specs.Verdict.{Refuses}
use Rattle.regex_syntax.specs.declared.error.Error as parser
use Rattle.regex_syntax.specs.declared.error.ErrorKind.{ErrorKind}
use Rattle.regex_syntax.specs.declared.error.ErrorKind.TheVariants.{OutOfMemory, NestLimitExceeded}
use Rattle.just_eval_words.specs.Patterns.{whole, is_found, matches, matches_built}
use Rattle.just_eval_words.specs.Built.{AreBytes, IsBuilt, AreBuilt}

within : (n m : ℕ) → n ≤ m → nat_le n m ≡ true
within n m h = le-leb n m h

without : (n m : ℕ) → m < n → nat_le n m ≡ false
without n m h = grind (arith, nat_tests)

-- what matches as the grammar reads it is found where that is
found_alike : (a : Re) (names : Names) (o : Option (Nested Re × Names)) (text : List ℕ) → AreBytes text
    → IsSomeAnd o (λ (re, found). (re.depth ≤ default_config.nest_limit) × SameCaptures a re.value × (names ≡ found) × (group_count a ≤ length names))
    → is_some (find_str a text 0) ≡ is_found o text
found_alike a names None text bytes h = absurd h
found_alike a names (Some (re, found)) text bytes h =
    is_match_alike h.1 text bytes true 0 ∙ sym (ap (λ b. b && is_some (find_str re.value text 0)) (within re.depth default_config.nest_limit h.0))

-- what the grammar doesn't read, or reads past its limit, isn't found
found_nowhere : (o : Option (Nested Re × Names)) (kind : ErrorKind) (text : List ℕ) → kind ≢ OutOfMemory
    → (kind ≡ OutOfMemory) ⊎ ((o ≡ None) ⊎ ((kind ≡ NestLimitExceeded) × IfSome o (λ (re, _). default_config.nest_limit < re.depth)))
    → false ≡ is_found o text
found_nowhere o kind text apart (inl h) = absurd (apart h)
found_nowhere o kind text apart (inr (inl h)) = sym (ap (λ x. is_found x text) h)
found_nowhere None kind text apart (inr (inr h)) = refl
found_nowhere (Some (re, found)) kind text apart (inr (inr h)) =
    sym (ap (λ b. b && is_some (find_str re.value text 0)) (without re.depth default_config.nest_limit h.1))

module _ (pattern source : List ℕ) (is : source ≡ whole pattern) where
  -- a pattern that was built
  pub built_is : (r : Regex) → regex_source r ≡ source → regex_config r ≡ default_config → IsReadFromSource r → IsBuilt pattern (Some r)
  unfolding matches Reads
  built_is r is_source is_config is_read text bytes =
      found_alike (regex_pattern r) _ (read default_config (chars (whole pattern))) text bytes (rw (is_source, is, is_config) at is_read)

  -- one that is none
  pub none_is : (e : parser.Error) → IsRefusal default_config source (failure.Syntax e) → IsRightKind default_config source (failure.Syntax e) → IsBuilt pattern None
  unfolding matches Refuses
  none_is e refusal kind text bytes =
      found_nowhere (read default_config (chars (whole pattern))) e.kind text kind (rw is at (refusal e refl))

-- ---- several patterns

-- those that were built, or those from the place n on
abbrev pub AreBuiltTo : List (List ℕ) → ℕ → List (Option Regex) → Type 0
AreBuiltTo patterns n all = (text : List ℕ) → AreBytes text → (list_any (λ r. matches_built r text) all || list_any (λ p. matches p text) (drop n patterns)) ≡ list_any (λ p. matches p text) patterns

any_joined : (f : Option Regex → Bool) (xs : List (Option Regex)) (y : Option Regex) (b : Bool) → (list_any f (xs ++ y ∷ []) || b) ≡ (list_any f xs || (f y || b))
any_joined f [] y b = either (f y) b
  where
    either : (a c : Bool) → ((a || false) || c) ≡ (a || c)
    either true c = refl
    either false c = refl
any_joined f (x ∷ xs) y b = first (f x) (list_any f (xs ++ y ∷ [])) b ∙ ap (λ c. f x || c) (any_joined f xs y b) ∙ sym (first (f x) (list_any f xs) (f y || b))
  where
    first : (a c d : Bool) → ((a || c) || d) ≡ (a || (c || d))
    first true c d = refl
    first false c d = refl

pub built_more : (patterns : List (List ℕ)) (n : ℕ) (p : List ℕ) (all : List (Option Regex)) (r : Option Regex) → n < length patterns → p ≡ get_or patterns n p → IsBuilt p r → AreBuiltTo patterns n all → AreBuiltTo patterns (n + 1) (all ++ r ∷ [])
built_more patterns n p all r lt is built before text bytes =
    let one : n + 1 ≡ suc n = omega arith in
    let here : drop n patterns ≡ p ∷ drop (suc n) patterns = drop-cons patterns n p lt ∙ ap (λ z. z ∷ drop (suc n) patterns) (sym is) in
    ap (λ m. list_any (λ x. matches_built x text) (all ++ r ∷ []) || list_any (λ q. matches q text) (drop m patterns)) one ∙ any_joined (λ x. matches_built x text) all r (list_any (λ q. matches q text) (drop (suc n) patterns)) ∙ ap (λ b. list_any (λ x. matches_built x text) all || (b || list_any (λ q. matches q text) (drop (suc n) patterns))) (built text bytes) ∙ ap (λ ps. list_any (λ x. matches_built x text) all || list_any (λ q. matches q text) ps) (sym here) ∙ before text bytes

pub built_first : (patterns : List (List ℕ)) → AreBuiltTo patterns 0 []
built_first patterns text bytes = refl

pub built_all : (patterns : List (List ℕ)) (n : ℕ) (all : List (Option Regex)) → length patterns ≤ n → AreBuiltTo patterns n all → AreBuilt patterns all
built_all patterns n all le before text bytes =
    sym (or_none (list_any (λ x. matches_built x text) all)) ∙ ap (λ ps. list_any (λ x. matches_built x text) all || list_any (λ q. matches q text) ps) (sym (drop_all n patterns le)) ∙ before text bytes
  where
    or_none : (b : Bool) → (b || false) ≡ b
    or_none true = refl
    or_none false = refl
