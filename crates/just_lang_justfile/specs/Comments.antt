-- The comments directly above what stands in files.
use Rattle.std.specs.Prelude.{ℕ, List, [], ◌∷◌, slice_get, Option}
use Rattle.std.specs.Option.{option_and_then}
use Rattle.just_lang_syntax.specs.declared.ast.Name.{Name}
use Rattle.just_lang_layout.specs.declared.layout.File.{File}
use Rattle.just_lang_shapes.specs.declared.comments.Comments.{Comments}
use Rattle.just_lang_shapes.specs.Comments.{comment_above, comment_in, AreComments}

-- what the comment says that stands directly above the recipe or module of that name in the file of that number
abbrev pub above_in : List File → ℕ → Name → Option (List ℕ)
above_in files file n = option_and_then (λ (f : File). comment_above f.items n) (slice_get files file)

-- each of the tables is that of the file at its place
abbrev pub AreCommentsOf : List File → List Comments → Type 0
AreCommentsOf [] [] = Unit {0}
AreCommentsOf [] (c ∷ cs) = ⊥
AreCommentsOf (f ∷ fs) [] = ⊥
AreCommentsOf (f ∷ fs) (c ∷ cs) = AreComments f.items c × AreCommentsOf fs cs

-- what the table at a place has
abbrev pub above_at : List Comments → ℕ → Name → Option (List ℕ)
above_at comments file n = option_and_then (λ (c : Comments). comment_in c n) (slice_get comments file)
