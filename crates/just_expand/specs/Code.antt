-- What the values of the code stand for.
use Rattle.std.specs.Prelude.{◌≡◌, ◌++◌, ℕ, List, Option, Some, Result, Ok, Err, string_bytes}
use Rattle.std.specs.Prelude.{String}
use denote.Ref.{Bor}
use Rattle.just_path_text.specs.declared.memory.NoMemory.{NoMemory}
use Rattle.std.specs.declared.alloc.Global.{Global}
use Rattle.std.specs.Fn.{CalledAt, Mut}
use Rattle.just_expand.specs.Pieces.{Piece, plain, dollar, bare, braced, defaulted, unclosed, lone}
use Rattle.just_expand.specs.Expansion.{Reply, question, outcome, Puts}
use Rattle.just_expand.specs.Contexts.{reply_of, environ_reply}
use Rattle.just_expand.specs.declared.piece.Piece.{Piece as CodePiece}
use Rattle.just_expand.specs.declared.piece.Piece.TheVariants as code
use Rattle.just_expand.specs.declared.error.NotPresent.{NotPresent}
use Rattle.just_expand.specs.declared.error.Expand.{Expand}
use Rattle.just_expand.specs.declared.error.Expand.TheVariants as expand

-- the piece that a value of the code stands for
abbrev pub piece_of : CodePiece → Piece
piece_of (code.Plain t) = plain t.now
piece_of code.Dollar = dollar
piece_of (code.Bare n) = bare n.now
piece_of (code.Braced n) = braced n.now
piece_of (code.Defaulted n d) = defaulted n.now d.now
piece_of code.Unclosed = unclosed
piece_of code.Lone = lone

-- what is put out grew by the text that a piece became, or the error that it became is told, with the piece's name
abbrev pub PutsOrFails : {E : Type 0} → List ℕ → List ℕ → List ℕ → Result (List ℕ) E → Result (Unit {0}) (Expand E) → Type 0
PutsOrFails old new n became (Ok x) = (u : List ℕ) × (became ≡ Ok u) × (new ≡ old ++ u)
PutsOrFails old new n became (Err (expand.Lookup l)) = (became ≡ Err l.cause) × (string_bytes l.var_name ≡ n)
PutsOrFails old new n became (Err expand.NoMemory) = Unit {0}

-- a piece is put out, and leads from the state s and the text `out` to those behind it; or the error that it becomes is told,
-- with its name and the answer that gave it
abbrev pub PutsPiece : {S E : Type 0} → (S → List ℕ → Reply E → S → Type 0) → S → List ℕ → Piece → S → List ℕ → Result (Unit {0}) (Expand E) → Type 0
PutsPiece asks s out p s' out' (Ok x) = Puts asks (s, out) p (s', out')
PutsPiece {S} {E} asks s out p s' out' (Err (expand.Lookup l)) =
    (r : Reply E) × (question p ≡ Some (string_bytes l.var_name)) × asks s (string_bytes l.var_name) r s' × (outcome p r ≡ Err l.cause)
PutsPiece asks s out p s' out' (Err expand.NoMemory) = Unit {0}

-- a closure as a context, as `Answers` is, which may be out of memory besides: what it answers where memory suffices
abbrev pub AnswersWithMemory : {C E : Type 0} → Mut C (Bor (List ℕ) × Unit {0}) (Result (Result (Option (String Global)) E) NoMemory) → C → List ℕ → Reply E → C → Type 0
AnswersWithMemory {C} {E} g s n r s' = (x : Result (Option (String Global)) E) × CalledAt g s n (Ok x) s' × (r ≡ reply_of x)

-- the result hands on a call of another closure, which answered r and left the state c
abbrev pub IsCallOf : {C R E : Type 0} → (R → C → Type 0) → Result R E → C → Type 0
IsCallOf called (Ok r) c = called r c
IsCallOf called (Err e) c = ⊥

-- the answer of an environment to a name whose value is v, unless memory is wanting
abbrev pub IsLookup : Option (List ℕ) → Result (Result (Option (String Global)) NotPresent) NoMemory → Type 0
IsLookup v (Ok x) = reply_of x ≡ environ_reply v
IsLookup v (Err e) = Unit {0}
