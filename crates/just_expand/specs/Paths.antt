-- The calls over paths: a path is its text.
use Rattle.std.specs.Prelude.{◌≡◌, ℕ, List, Result, Ok, Err, string_bytes}
use Rattle.std.specs.declared.alloc.Global.{Global}
use Rattle.std.specs.declared.borrow.CowStr.{CowStr}
use Rattle.std.specs.declared.borrow.CowStr.TheVariants as text
use Rattle.just_path.specs.Path.{text_of}
use Rattle.just_expand.specs.Expansion.{Reply, ExpandsTo}
use Rattle.just_expand.specs.Tilde.{FullyExpandsTo}
use Rattle.std.specs.Prelude.{Option}
use Rattle.just_expand.specs.Contexts.{IsCause}
use Rattle.just_expand.specs.declared.error.Expand.{Expand}
use Rattle.just_expand.specs.declared.path.Expanded.{Expanded}
use Rattle.just_expand.specs.declared.path.Expanded.TheVariants as path

-- the bytes of an expanded path's text
abbrev pub expanded_bytes : Expanded → List ℕ
expanded_bytes (path.Borrowed p) = text_of p
expanded_bytes (path.Owned p) = p

-- the path is borrowed, as one that was given is
abbrev pub IsBorrowedPath : Expanded → Type 0
IsBorrowedPath (path.Borrowed p) = Unit {0}
IsBorrowedPath (path.Owned p) = ⊥

-- the result is a path of that text, borrowed
abbrev pub IsSamePath : {X : Type 0} → List ℕ → Result Expanded X → Type 0
IsSamePath t (Ok (path.Borrowed p)) = text_of p ≡ t
IsSamePath t (Ok (path.Owned p)) = ⊥
IsSamePath t (Err e) = ⊥

-- a text and a path of the same bytes, both borrowed or both owned
abbrev pub IsPathOf : CowStr Global → Expanded → Type 0
IsPathOf (text.Borrowed r) (path.Borrowed p) = text_of p ≡ r.now
IsPathOf (text.Borrowed r) (path.Owned p) = ⊥
IsPathOf (text.Owned s) (path.Borrowed p) = ⊥
IsPathOf (text.Owned s) (path.Owned p) = p ≡ string_bytes s

-- the same of two results, with the same refusal
abbrev pub IsPathResultOf : {X : Type 0} → Result (CowStr Global) X → Result Expanded X → Type 0
IsPathResultOf (Ok x) (Ok y) = IsPathOf x y
IsPathResultOf (Ok x) (Err e) = ⊥
IsPathResultOf (Err e) (Ok y) = ⊥
IsPathResultOf (Err e) (Err f) = f ≡ e

-- the result of an expansion of a path's text
abbrev pub IsPathExpansion : {S E : Type 0} → (S → List ℕ → Reply E → S → Type 0) → S → List ℕ → Result Expanded (Expand E) → Type 0
IsPathExpansion asks s t (Ok x) = ExpandsTo asks s t (expanded_bytes x)
IsPathExpansion asks s t (Err e) = IsCause asks s t e

-- the result of an expansion of a path's text, its variables first and then its tilde
abbrev pub IsFullPathExpansion : {S E : Type 0} → (S → List ℕ → Reply E → S → Type 0) → (Option (List ℕ) → Type 0) → S → List ℕ → Result Expanded (Expand E) → Type 0
IsFullPathExpansion asks home s t (Ok x) = FullyExpandsTo asks home s t (expanded_bytes x)
IsFullPathExpansion asks home s t (Err e) = IsCause asks s t e
