-- Files of sources, one more; and where a path goes on behind a name's path.
use Rattle.std.proofs.Common.{◌≡◌, ℕ, ◌+◌, ◌<◌, true, List, [], ◌∷◌, ◌++◌, length, take, get_or, min, subst, ap, ◌∙◌, arith, length-take}
use Rattle.std.specs.Prelude.{nat_eq, IsUtf8}
use Rattle.std.specs.List.{starts_with}
use Rattle.std.specs.Str.{IsCharBoundary}
use Rattle.std.proofs.lemmas.Str.{IsCharBoundary-from_take}
use Rattle.std.proofs.lemmas.Slice.Eq.{bytes_eq-Decides}
use Rattle.just_lang_types.specs.declared.source.Source.{Source}
use Rattle.just_lang_layout.specs.declared.layout.File.{File}
use Rattle.just_lang_layout.specs.Files.{IsFileOf, AreFilesOf}
use Rattle.just_lang_layout.proofs.Lists.{front_more}

-- the files of sources, and that of one more
more : (ss : List Source) (fs : List File) (s : Source) (f : File) → AreFilesOf ss fs → IsFileOf s f → AreFilesOf (ss ++ s ∷ []) (fs ++ f ∷ [])
more [] [] s f h k = (k, tt)
more [] (g ∷ gs) s f h k = absurd h
more (t ∷ ts) [] s f h k = absurd h
more (t ∷ ts) (g ∷ gs) s f h k = (h.0, more ts gs s f h.1 k)

-- the files of the sources so far, and that of the next
pub next_source : (ss : List Source) (i : ℕ) (fs : List File) (s : Source) (f : File)
    → i < length ss → s ≡ get_or ss i s → AreFilesOf (take i ss) fs → IsFileOf s f → AreFilesOf (take (i + 1) ss) (fs ++ f ∷ [])
next_source ss i fs s f h is so k =
    subst (λ (ts : List Source). AreFilesOf ts (fs ++ f ∷ [])) (front_more ss i s h is) (more (take i ss) fs s f so k)

-- a text may be cut behind a text that it begins with
pub boundary : (path base : List ℕ) → IsUtf8 path → IsUtf8 base → starts_with nat_eq path base ≡ true → IsCharBoundary path (length base)
boundary path base u v h =
    let same : base ≡ take (length base) path = (bytes_eq-Decides base (take (length base) path)).0 h in
    let long : length base ≡ min (length base) (length path) = ap length same ∙ length-take (length base) path in
    IsCharBoundary-from_take path (length base) u (omega (arith, long)) (subst IsUtf8 same v)
