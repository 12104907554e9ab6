-- What a value of the program is as a component.
use Rattle.std.specs.Prelude.{List, [], ◌∷◌, Option, Some, None}
use Rattle.just_path.specs.Comps.{Comp, prefix, root, current, parent, normal}
use Rattle.just_path.specs.Prefix.{prefix_text}
use Rattle.just_path.specs.declared.component.Utf8Component.{Utf8Component}
use Rattle.just_path.specs.declared.component.Utf8Component.TheVariants as c

-- the component that a value stands for
abbrev pub comp_of : Utf8Component → Comp
comp_of (c.Prefix p) = prefix (prefix_text p)
comp_of c.RootDir = root
comp_of c.CurDir = current
comp_of c.ParentDir = parent
comp_of (c.Normal name) = normal name.now

-- an optional component, as a list of at most one
abbrev pub one_of : Option Utf8Component → List Comp
one_of None = []
one_of (Some x) = comp_of x ∷ []
