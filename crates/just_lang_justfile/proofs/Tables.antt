-- The tables of comments, one file at a time.
use Rattle.std.proofs.Common.{◌≡◌, ℕ, zero, suc, ◌+◌, ◌<◌, List, [], ◌∷◌, ◌++◌, length, take, get_or, refl, sym, ap, subst}
use Rattle.std.specs.Prelude.{Option, Some, None, Result, IfOk}
use Rattle.just_path_text.specs.declared.memory.NoMemory.{NoMemory}
use Rattle.just_lang_syntax.specs.declared.ast.AstRecipe.{AstRecipe}
use Rattle.just_lang_types.specs.declared.recipe.Dependency.{Dependency}
use Rattle.just_lang_types.specs.declared.recipe.Modulepath.{Modulepath}
use Rattle.just_lang_types.specs.declared.recipe.Recipe.{Recipe}
use Rattle.just_lang_shapes.specs.Recipes.{recipe_of}
use Rattle.just_lang_syntax.specs.declared.ast.AstItem.{AstItem}
use Rattle.just_lang_syntax.specs.declared.ast.AstItem.TheVariants as item
use Rattle.just_lang_syntax.specs.declared.ast.Name.{Name}
use Rattle.just_lang_syntax.specs.declared.ast.StringLiteral.{StringLiteral}
use Rattle.just_lang_layout.specs.declared.layout.File.{File}
use Rattle.just_lang_shapes.specs.declared.comments.Comments.{Comments}
use Rattle.just_lang_shapes.specs.Comments.{AreComments}
use Rattle.just_lang_spots.proofs.ListLaws.{take_here}
use Rattle.just_lang_shapes.specs.Attributes.{doc_of}
use Rattle.just_lang_justfile.specs.Declarations.{doc_by, doc_in}
use Rattle.just_lang_justfile.specs.Comments.{above_in, above_at, AreCommentsOf}

one_more : (fs : List File) (cs : List Comments) (f : File) (c : Comments) → AreCommentsOf fs cs → AreComments f.items c → AreCommentsOf (fs ++ f ∷ []) (cs ++ c ∷ [])
one_more [] [] f c h k = (k, tt)
one_more [] (d ∷ ds) f c h k = absurd h
one_more (e ∷ es) [] f c h k = absurd h
one_more (e ∷ es) (d ∷ ds) f c h k = (h.0, one_more es ds f c h.1 k)

pub files_step : (files : List File) (i : ℕ) (f : File) (cs : List Comments) (c : Comments) → i < length files → f ≡ get_or files i f
    → AreCommentsOf (take i files) cs → AreComments f.items c → AreCommentsOf (take (i + 1) files) (cs ++ c ∷ [])
files_step files i f cs c lt e h k = subst (λ (fs : List File). AreCommentsOf fs (cs ++ c ∷ [])) (sym (take_here files i f lt e)) (one_more (take i files) cs f c h k)

-- the table at a place has what stands above in the file at that place
pub above_is : (files : List File) (comments : List Comments) (file : ℕ) (n : Name) → AreCommentsOf files comments → above_at comments file n ≡ above_in files file n
above_is [] [] file n h = refl
above_is [] (c ∷ cs) file n h = absurd h
above_is (f ∷ fs) [] file n h = absurd h
above_is (f ∷ fs) (c ∷ cs) zero n h = h.0 n
above_is (f ∷ fs) (c ∷ cs) (suc file) n h = above_is fs cs file n h.1

-- what a listing says of a module, by the tables
pub doc_is : (text_of : StringLiteral → Option (List ℕ)) (files : List File) (comments : List Comments) (declaration : Option (ℕ × AstItem)) → AreCommentsOf files comments
    → doc_by text_of (above_at comments) declaration ≡ doc_in text_of files declaration
doc_is text_of files comments None h = refl
doc_is text_of files comments (Some (n, item.Module attributes optional name path comment)) h = ap (doc_of text_of attributes) (above_is files comments n name h)
doc_is text_of files comments (Some (n, item.Blank)) h = refl
doc_is text_of files comments (Some (n, item.Comment text)) h = refl
doc_is text_of files comments (Some (n, item.Alias name path comment)) h = refl
doc_is text_of files comments (Some (n, item.Import optional path comment)) h = refl
doc_is text_of files comments (Some (n, item.Assignment export name value comment)) h = refl
doc_is text_of files comments (Some (n, item.Unexport name comment)) h = refl
doc_is text_of files comments (Some (n, item.Setting name value comment)) h = refl
doc_is text_of files comments (Some (n, item.Recipe r)) h = refl

-- a recipe by what stands above it and what it depends on
pub recipe_by : (text_of : StringLiteral → Option (List ℕ)) (path : Modulepath) (r : AstRecipe) (result : Result Recipe NoMemory) (a b : Option (List ℕ)) (ps qs ss ts : List Dependency)
    → IfOk result (λ (x : Recipe). x ≡ recipe_of text_of path a ps ss r) → a ≡ b → ps ≡ qs → ss ≡ ts → IfOk result (λ (x : Recipe). x ≡ recipe_of text_of path b qs ts r)
recipe_by text_of path r result a b ps qs ss ts h e f k =
    subst (λ (us : List Dependency). IfOk result (λ (x : Recipe). x ≡ recipe_of text_of path b qs us r)) k
    (subst (λ (us : List Dependency). IfOk result (λ (x : Recipe). x ≡ recipe_of text_of path b us ss r)) f
    (subst (λ (c : Option (List ℕ)). IfOk result (λ (x : Recipe). x ≡ recipe_of text_of path c ps ss r)) e h))
