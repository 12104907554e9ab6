-- From the results over texts to those over paths.
use Rattle.std.proofs.Common.{◌≡◌, ℕ, List, sym, ◌∙◌, subst, Option, Bor}
use Rattle.std.specs.Prelude.{Result, Ok, Err, IfOk}
use Rattle.std.specs.Cow.{cow_str_bytes, IsBorrowedStr}
use Rattle.std.specs.declared.alloc.Global.{Global}
use Rattle.std.specs.declared.borrow.CowStr.{CowStr}
use Rattle.std.specs.declared.borrow.CowStr.TheVariants as text
use Rattle.just_expand.specs.Bytes.{dollar_sign}
use Rattle.just_expand.specs.Pieces.{Lacks}
use Rattle.just_expand.specs.Expansion.{Reply, ExpandsTo}
use Rattle.just_expand.specs.Tilde.{FullyExpandsTo}
use Rattle.just_expand.specs.Contexts.{IsCause, IsExpansion, IsFullExpansion}
use Rattle.just_expand.specs.declared.error.Expand.{Expand}
use Rattle.just_expand.specs.declared.path.Expanded.{Expanded}
use Rattle.just_expand.specs.declared.path.Expanded.TheVariants as path
use Rattle.just_expand.specs.Paths.{expanded_bytes, IsBorrowedPath, IsSamePath, IsPathOf, IsPathResultOf, IsPathExpansion, IsFullPathExpansion}

-- a path of a text has its bytes
same_bytes : (x : CowStr Global) (y : Expanded) → IsPathOf x y → expanded_bytes y ≡ cow_str_bytes x
same_bytes (text.Borrowed r) (path.Borrowed p) h = h
same_bytes (text.Borrowed r) (path.Owned p) h = absurd h
same_bytes (text.Owned s) (path.Borrowed p) h = absurd h
same_bytes (text.Owned s) (path.Owned p) h = h

-- what holds of a text and what it becomes holds of the path of that text
over_path : (P : List ℕ → List ℕ → Type 0) (s t : List ℕ) (x : CowStr Global) (y : Expanded) → s ≡ t → IsPathOf x y → P s (cow_str_bytes x) → P t (expanded_bytes y)
over_path P s t x y e h p = let Q : List ℕ → Type 0 = λ u. P u (expanded_bytes y) in subst Q e (subst (P s) (sym (same_bytes x y h)) p)

-- the same of a result without refusals but want of memory
pub sure_over_path : {X : Type 0} (P : List ℕ → List ℕ → Type 0) (s t : List ℕ) (r : Result (CowStr Global) X) (r' : Result Expanded X) → s ≡ t → IsPathResultOf r r' → IfOk r (λ x. P s (cow_str_bytes x)) → IfOk r' (λ y. P t (expanded_bytes y))
sure_over_path P s t (Ok x) (Ok y) e h p = over_path P s t x y e h p
sure_over_path P s t (Ok x) (Err f) e h p = tt
sure_over_path P s t (Err f) (Ok y) e h p = absurd h
sure_over_path P s t (Err f) (Err g) e h p = tt

module _ {S E : Type 0} (asks : S → List ℕ → Reply E → S → Type 0) (s : S) where
  -- equal texts are refused for equal causes
  same_cause : (a b : List ℕ) (f g : Expand E) → a ≡ b → g ≡ f → IsCause asks s a f → IsCause asks s b g
  same_cause a b f g e h p = let Q : List ℕ → Type 0 = λ u. IsCause asks s u g in subst Q e (subst (IsCause asks s a) (sym h) p)

  -- an expansion of a text is one of its path
  pub expansion_over_path : (a b : List ℕ) (r : Result (CowStr Global) (Expand E)) (r' : Result Expanded (Expand E)) → a ≡ b → IsPathResultOf r r' → IsExpansion asks s a r → IsPathExpansion asks s b r'
  expansion_over_path a b (Ok x) (Ok y) e h p = over_path (ExpandsTo asks s) a b x y e h p
  expansion_over_path a b (Ok x) (Err f) e h p = absurd h
  expansion_over_path a b (Err f) (Ok y) e h p = absurd h
  expansion_over_path a b (Err f) (Err g) e h p = same_cause a b f g e h p

  -- and so is one with its tilde
  pub full_expansion_over_path : (home : Option (List ℕ) → Type 0) (a b : List ℕ) (r : Result (CowStr Global) (Expand E)) (r' : Result Expanded (Expand E)) → a ≡ b → IsPathResultOf r r' → IsFullExpansion asks home s a r → IsFullPathExpansion asks home s b r'
  full_expansion_over_path home a b (Ok x) (Ok y) e h p = over_path (FullyExpandsTo asks home s) a b x y e h p
  full_expansion_over_path home a b (Ok x) (Err f) e h p = absurd h
  full_expansion_over_path home a b (Err f) (Ok y) e h p = absurd h
  full_expansion_over_path home a b (Err f) (Err g) e h p = same_cause a b f g e h p

-- a result over a borrowed text is its path, borrowed
same_path_of_borrowed : {X : Type 0} (i : Bor (List ℕ)) (t : List ℕ) (r' : Result Expanded X) → IsPathResultOf (Ok (text.Borrowed i)) r' → i.now ≡ t → IsSamePath t r'
same_path_of_borrowed i t (Ok (path.Borrowed p)) h e = h ∙ e
same_path_of_borrowed i t (Ok (path.Owned p)) h e = h
same_path_of_borrowed i t (Err f) h e = h

-- a result that is the text itself, borrowed, is its path, borrowed
pub same_path_over_path : {X : Type 0} (i : Bor (List ℕ)) (t : List ℕ) (r : Result (CowStr Global) X) (r' : Result Expanded X) → r ≡ Ok (text.Borrowed i) → IsPathResultOf r r' → i.now ≡ t → IsSamePath t r'
same_path_over_path i t r r' e h n = same_path_of_borrowed i t r' (subst (λ k. IsPathResultOf k r') e h) n

-- a path is borrowed of a borrowed text alone
borrowed_over_path : (x : CowStr Global) (y : Expanded) → IsPathOf x y → IsBorrowedPath y → IsBorrowedStr x
borrowed_over_path (text.Borrowed r) (path.Borrowed p) h b = tt
borrowed_over_path (text.Borrowed r) (path.Owned p) h b = absurd h
borrowed_over_path (text.Owned s) (path.Borrowed p) h b = absurd h
borrowed_over_path (text.Owned s) (path.Owned p) h b = b

-- so it is borrowed where the text has no `$` alone
pub borrowed_without_dollar : {X : Type 0} (s t : List ℕ) (r : Result (CowStr Global) X) (r' : Result Expanded X) → s ≡ t → IsPathResultOf r r' → IfOk r (λ x. IsBorrowedStr x → Lacks dollar_sign s) → IfOk r' (λ y. IsBorrowedPath y → Lacks dollar_sign t)
borrowed_without_dollar s t (Ok x) (Ok y) e h p = λ b. subst (Lacks dollar_sign) e (p (borrowed_over_path x y h b))
borrowed_without_dollar s t (Ok x) (Err f) e h p = tt
borrowed_without_dollar s t (Err f) (Ok y) e h p = absurd h
borrowed_without_dollar s t (Err f) (Err g) e h p = tt
