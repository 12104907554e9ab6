-- A recipe by itself, as `--show` prints it.
use Rattle.std.specs.Prelude.{ℕ, Bool, true, false, List, [], ◌∷◌, ◌++◌, map, None, bytes_eq, codes}
use Rattle.std.specs.List.{list_any}
use Rattle.just_lang_syntax.specs.declared.ast.Attribute.{Attribute}
use Rattle.just_lang_syntax.specs.declared.ast.AstRecipe.{AstRecipe}
use Rattle.just_print.specs.Printed.{newline, printed_recipe}

-- no comment stands behind a line
abbrev pub plain_attribute : Attribute → Attribute
plain_attribute x = record { name = x.name; colon = x.colon; arguments = x.arguments; comment = None }

abbrev pub plain_recipe : AstRecipe → AstRecipe
plain_recipe x = record {
  attributes = map plain_attribute x.attributes;
  quiet = x.quiet;
  name = x.name;
  parameters = x.parameters;
  priors = x.priors;
  subsequents = x.subsequents;
  comment = None;
  body = x.body;
}

abbrev pub is_doc : Attribute → Bool
is_doc x = bytes_eq x.name.text (codes "doc")

-- the doc on a line, unless there is none or an attribute has it
abbrev pub doc_line : Bool → List ℕ → List ℕ
doc_line true doc = []
doc_line false [] = []
doc_line false (c ∷ cs) = codes "# " ++ ((c ∷ cs) ++ newline)

-- the doc, and the recipe
abbrev pub shown_text : List ℕ → List ℕ → AstRecipe → List ℕ
shown_text doc indentation x = doc_line (list_any is_doc x.attributes) doc ++ printed_recipe indentation (plain_recipe x)
