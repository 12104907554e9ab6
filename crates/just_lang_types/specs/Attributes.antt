-- The names of attributes, and bodies that are one script.
use Rattle.std.specs.Prelude.{ℕ, Bool, false, ◌&&◌, ◌||◌, ◌==◌, List, [], ◌∷◌, bytes_eq, codes}
use Rattle.std.specs.List.{list_any}
use Rattle.just_lang_syntax.specs.declared.ast.Attribute.{Attribute}
use Rattle.just_lang_syntax.specs.declared.ast.AstRecipe.{AstRecipe}
use Rattle.just_lang_syntax.specs.declared.ast.Fragment.{Fragment}
use Rattle.just_lang_syntax.specs.declared.ast.Fragment.TheVariants as fragment
use Rattle.just_lang_syntax.specs.declared.ast.Line.{Line}

abbrev pub is_called : List ℕ → Attribute → Bool
is_called name a = bytes_eq a.name.text name

-- whether a text begins with `#!`
abbrev pub begins_shebang : List ℕ → Bool
begins_shebang [] = false
begins_shebang (a ∷ []) = false
begins_shebang (a ∷ b ∷ rest) = a == 35 && b == 33

abbrev pub fragments_begin_shebang : List Fragment → Bool
fragments_begin_shebang [] = false
fragments_begin_shebang (fragment.Text text ∷ rest) = begins_shebang text
fragments_begin_shebang (fragment.Value x ∷ rest) = false

-- whether the first line of a body begins with `#!`
abbrev pub is_shebang : List Line → Bool
is_shebang [] = false
is_shebang (line ∷ lines) = fragments_begin_shebang line.fragments

abbrev pub has_script : List Attribute → Bool
has_script attributes = list_any (is_called (codes "script")) attributes

-- whether a body is one script: it has a shebang, or the recipe the attribute `script`
abbrev pub is_script : AstRecipe → Bool
is_script r = is_shebang r.body || has_script r.attributes
