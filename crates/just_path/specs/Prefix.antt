-- The prefixes of Windows.
use Rattle.std.specs.Prelude.{ℕ, Bool, true, false, List}
use Rattle.just_path.specs.declared.prefix.Utf8Prefix.{Utf8Prefix}
use Rattle.just_path.specs.declared.prefix.Utf8Prefix.TheVariants as a
use Rattle.just_path.specs.declared.prefix.Utf8PrefixComponent.{Utf8PrefixComponent}

-- whether a prefix begins with `\\?\`
abbrev pub is_verbatim : Utf8Prefix → Bool
is_verbatim (a.Verbatim t) = true
is_verbatim (a.VerbatimUNC s t) = true
is_verbatim (a.VerbatimDisk d) = true
is_verbatim (a.DeviceNS t) = false
is_verbatim (a.UNC s t) = false
is_verbatim (a.Disk d) = false

-- the text of a prefix, and what it was read as
abbrev pub prefix_text : Utf8PrefixComponent → List ℕ
prefix_text p = p.raw.now

-- what it was read as
abbrev pub prefix_kind : Utf8PrefixComponent → Utf8Prefix
prefix_kind p = p.parsed
