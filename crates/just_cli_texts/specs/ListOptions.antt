-- How a configuration lists a project.
use Rattle.std.specs.Prelude.{◌≡◌, ℕ, if◌then◌else◌, List, codes, bytes_eq}
use Rattle.std.specs.Option.{option_map_or, unwrap_or}
use Rattle.just_config.specs.declared.config.Config.{Config}
use Rattle.just_print_entries.specs.declared.options.AliasStyle.{AliasStyle}
use Rattle.just_print_entries.specs.declared.options.AliasStyle.TheVariants as style
use Rattle.just_print_entries.specs.declared.options.ListOptions.{ListOptions}

-- the style of other names that a word means
abbrev pub style_named : List ℕ → AliasStyle
style_named word = if bytes_eq word (codes "left") then style.Left else (if bytes_eq word (codes "separate") then style.Separate else style.Right)

-- the style that is given, else the right one; none is shown where none is to be
abbrev pub style_of : Config → AliasStyle
style_of c = if c.no_aliases then style.Hidden else option_map_or style_named c.alias_style style.Right

-- what is printed first, and what before each line
abbrev pub heading_of : Config → List ℕ
heading_of c = unwrap_or c.list_heading (codes "Available recipes:\n")

abbrev pub prefix_of : Config → List ℕ
prefix_of c = unwrap_or c.list_prefix (codes "    ")

-- the options of a listing are those of a configuration
pub record AreOptionsOf (c : Config) (o : ListOptions) : Type 0 where
  pub heading : o.heading.now ≡ heading_of c
  pub prefix : o.prefix.now ≡ prefix_of c
  pub groups : o.groups.now ≡ c.group
  pub unsorted : o.unsorted ≡ c.unsorted
  pub alias_style : o.alias_style ≡ style_of c
  pub list_submodules : o.list_submodules ≡ c.list_submodules
