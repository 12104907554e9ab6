-- Switches of options.
use Rattle.std.specs.Prelude.{ℕ, List, ◌++◌, codes, encode_utf8}
use Rattle.just_lang_types.specs.declared.switch.Switch.{Switch}
use Rattle.just_lang_types.specs.declared.switch.Switch.TheVariants as switch

-- what a switch looks like in a command line
abbrev pub switch_text : Switch → List ℕ
switch_text (switch.Long name) = codes "--" ++ name
switch_text (switch.Short letter) = codes "-" ++ encode_utf8 letter
