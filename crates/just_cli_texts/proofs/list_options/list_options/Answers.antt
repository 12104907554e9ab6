-- Each option is that of the configuration.
use Rattle.std.proofs.Common.{refl}
use Rattle.just_cli_texts.proofs.list_options.list_options.Goals as goal

pub returns : goal.returns
returns c = record { heading = c.text_or.ensures; prefix = c.prefix_of.ensures; groups = c.as_slice.ensures; unsorted = refl; alias_style = c.style_of.ensures; list_submodules = refl }
