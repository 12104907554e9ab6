-- What the components that an iterator still gives are, and the slices of the path that they make.
use Rattle.std.specs.Prelude.{ℕ, ◌+◌, List, length, if◌then◌else◌, map}
use Rattle.just_path.specs.Comps.{Comp, comp_text, names, comps}
use Rattle.just_path.specs.Parts.{name_slice, slice}
use Rattle.just_path.specs.declared.components.Utf8Components.{Utf8Components}
use Rattle.just_path.specs.declared.iter.Iter.{Iter}

-- the components that are still to come
abbrev pub comps_left : Utf8Components → List Comp
comps_left s = if s.started then names s.text.now else comps s.text.now

-- the slice from the component that comes as number n to the last, or to the last but k
abbrev pub slice_left : Utf8Components → ℕ → ℕ → List ℕ
slice_left s n k = if s.started then name_slice n k s.text.now else slice n k s.text.now

-- a bound on how many come
abbrev pub left_bound : Utf8Components → ℕ
left_bound s = length s.text.now + (if s.started then 0 else 1)

-- the same of the iterator over their texts
abbrev pub texts_left : Iter → List (List ℕ)
texts_left s = map comp_text (comps_left s.inner)

-- and their slices
abbrev pub texts_slice_left : Iter → ℕ → ℕ → List ℕ
texts_slice_left s n k = slice_left s.inner n k

-- and the bound
abbrev pub texts_bound : Iter → ℕ
texts_bound s = left_bound s.inner
