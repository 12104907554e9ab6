-- Stacks of components that no rewrite applies to.
use Rattle.std.specs.Prelude.{Bool, true, false, not, ◌&&◌, List, [], ◌∷◌, map}
use Rattle.just_path.specs.Comps.{Comp, prefix, root, current, parent, normal}
use Rattle.just_path.specs.Component.{comp_of}
use Rattle.just_path.specs.declared.component.Utf8Component.{Utf8Component}

-- the components that values stand for
abbrev pub comps_of : List Utf8Component → List Comp
comps_of cs = map comp_of cs

-- whether the first is `..`
abbrev pub begins_with_parent : List Comp → Bool
begins_with_parent [] = false
begins_with_parent (prefix t ∷ cs) = false
begins_with_parent (root ∷ cs) = false
begins_with_parent (current ∷ cs) = false
begins_with_parent (parent ∷ cs) = true
begins_with_parent (normal n ∷ cs) = false

-- whether no rewrite begins at a component with these behind it
abbrev pub may_precede : Comp → List Comp → Bool
may_precede (prefix t) cs = true
may_precede root cs = not (begins_with_parent cs)
may_precede current cs = false
may_precede parent cs = true
may_precede (normal n) cs = not (begins_with_parent cs)

-- whether no rewrite applies
abbrev pub is_reduced : List Comp → Bool
is_reduced [] = true
is_reduced (c ∷ cs) = may_precede c cs && is_reduced cs
