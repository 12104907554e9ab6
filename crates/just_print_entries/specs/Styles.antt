-- How the other names of recipes are shown.
use Rattle.std.specs.Prelude.{Bool, true, false}
use Rattle.just_print_entries.specs.declared.options.AliasStyle.{AliasStyle}
use Rattle.just_print_entries.specs.declared.options.AliasStyle.TheVariants.{Left, Right, Separate, Hidden}

-- not at all
abbrev pub is_hidden : AliasStyle → Bool
is_hidden Left = false
is_hidden Right = false
is_hidden Separate = false
is_hidden Hidden = true

-- in front of the doc
abbrev pub is_left : AliasStyle → Bool
is_left Left = true
is_left Right = false
is_left Separate = false
is_left Hidden = false

-- behind the signature
abbrev pub is_inline : AliasStyle → Bool
is_inline Left = true
is_inline Right = true
is_inline Separate = false
is_inline Hidden = false

-- as entries of their own
abbrev pub is_separate : AliasStyle → Bool
is_separate Left = false
is_separate Right = false
is_separate Separate = true
is_separate Hidden = false
