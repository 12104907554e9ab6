-- The texts of entries, and which of them stay.
use Rattle.std.specs.Prelude.{◌≡◌, ◌⊎◌, ℕ, true, List, [], ◌∷◌, ◌++◌, length, All, codes}
use Rattle.std.specs.List.{list_all}
use Rattle.just_lang_types.specs.Names.{IsName}
use Rattle.just_cache.specs.Digests.{is_lower_hex}
use Rattle.just_cache.specs.Members.{path_text, entry_data}
use Rattle.serde_json.specs.Written.{compact_text}

-- the file name of the entry of that digest
abbrev pub entry_name : List ℕ → List ℕ
entry_name digest = digest ++ codes ".json"

-- 64 hexadecimal digits with lower-case letters
abbrev pub IsDigest : List ℕ → Type 0
IsDigest digest = (length digest ≡ 64) × (list_all is_lower_hex digest ≡ true)

-- a file name is that of the entry of that digest
abbrev pub IsEntryName : List ℕ → List ℕ → Type 0
IsEntryName digest name = IsDigest digest × (name ≡ entry_name digest)

-- ---- texts

-- what a cache saves of the path of a recipe whose body ended well: its entry in the first form
abbrev pub entry1 : List (List ℕ) → List ℕ
entry1 path = compact_text (entry_data path)

-- what stands in an entry in front of the path, in the first form and in the second
abbrev pub front1 : List ℕ
front1 = codes "{\"recipe\":\""

abbrev pub front2 : List ℕ → List ℕ
front2 digest = codes "{\"digest\":\"" ++ (digest ++ codes "\",\"format\":2,\"recipe\":\"")

abbrev pub back : List ℕ
back = codes "\"}"

-- the entry of a path in the second form, under that digest
abbrev pub entry2 : List (List ℕ) → List ℕ → List ℕ
entry2 path digest = front2 digest ++ (path_text path ++ back)

-- some names, which are a module path
abbrev pub IsPath : List (List ℕ) → Type 0
IsPath [] = ⊥
IsPath (n ∷ ns) = All IsName (n ∷ ns)

-- a text is the entry of a module path under that digest
abbrev pub IsEntryOf : List ℕ → List (List ℕ) → List ℕ → Type 0
IsEntryOf digest path text = IsPath path × ((text ≡ entry1 path) ⊎ (text ≡ entry2 path digest))

-- a path begins with another one, name by name
abbrev pub BeginsWith : List (List ℕ) → List (List ℕ) → Type 0
BeginsWith prefix path = (rest : List (List ℕ)) × (path ≡ prefix ++ rest)

-- a text is the entry of a path that doesn't begin with that one; any other text goes
abbrev pub Stays : List (List ℕ) → List ℕ → List ℕ → Type 0
Stays prefix digest text = (path : List (List ℕ)) × IsEntryOf digest path text × (BeginsWith prefix path → ⊥)
