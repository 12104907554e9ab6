-- The attributes that there are.
use Rattle.std.specs.Prelude.{ℕ, Bool, if◌then◌else◌, List, [], ◌∷◌, codes}
use Rattle.just_lang_syntax.specs.Forms.{attributes}

-- the attributes of modules
abbrev pub module_attributes : List (List ℕ)
module_attributes = codes "doc" ∷ codes "group" ∷ codes "private" ∷ []

-- the attributes of modules, or else those of recipes
abbrev pub attributes_of : Bool → List (List ℕ)
attributes_of of_module = if of_module then module_attributes else attributes
