-- The inputs of a key: names with the digits of their files' sums, as an ordered map.
use Rattle.std.specs.Prelude.{ℕ, ◌≡◌, ◌⊎◌, List, [], ◌∷◌, map, Result, Ok, Err, bytes_eq}
use Rattle.std.specs.BTreeMap.{insert_entry}
use Rattle.std.specs.Cmp.Lexicographic.{slice_cmp}
use Rattle.std.specs.Map.{lookup}
use Rattle.std.specs.Ordering.{nat_cmp}
use Rattle.std.specs.declared.cmp.Ordering.{Ordering}
use Rattle.hex.specs.Hex.{encode_lower}
use Rattle.just_path_text.specs.Environ.{value_of}
use Rattle.just_host_record.specs.World.{Moment}
use Rattle.just_cache.specs.Members.{object_of_inputs}
use Rattle.just_cache.specs.Readable.{AreInOrder}
use Rattle.just_cache.specs.declared.cache_error.CacheError.{CacheError}
use Rattle.just_cache.specs.declared.cache_error.CacheError.TheVariants as error
use Rattle.just_cache.specs.Sums.{AreSummed, IsRefused}

-- the order of texts by their bytes
abbrev pub text_cmp : List ℕ → List ℕ → Ordering
text_cmp a b = slice_cmp nat_cmp a b

-- a name with its sum in hexadecimal digits
abbrev pub with_digits : List ℕ × List ℕ → List ℕ × List ℕ
with_digits g = (g.0, encode_lower g.1)

-- the ordered map that these pairs make of one, each in the place of an earlier one of its name
abbrev pub put_all : List (List ℕ × List ℕ) → List (List ℕ × List ℕ) → List (List ℕ × List ℕ)
put_all done [] = done
put_all done (p ∷ ps) = put_all (insert_entry text_cmp done p.0 p.1) ps

-- each name once, in the order of their bytes, with the last value that was given to it; as JSON it is the object of all pairs, so
-- the text of a key is the same with either
pub record AreLast (given pairs : List (List ℕ × List ℕ)) : Type 0 where
  pub last : (name : List ℕ) → lookup (bytes_eq name) pairs ≡ value_of name given
  pub ordered : AreInOrder pairs
  pub object : object_of_inputs pairs ≡ object_of_inputs given

-- the sums of the names, each name once with its last sum; else the first refusal, or want of memory behind the sums
abbrev pub GivesInputs : Moment → Moment → List ℕ → List (List ℕ) → Result (List (List ℕ × List ℕ)) CacheError → Type 0
GivesInputs before after folder names (Ok pairs) =
    (given : List (List ℕ × List ℕ)) × AreSummed before after folder names given × AreLast (map with_digits given) pairs
GivesInputs before after folder names (Err e) =
    IsRefused before after folder names e ⊎ ((given : List (List ℕ × List ℕ)) × AreSummed before after folder names given × (e ≡ error.NoMemory))
