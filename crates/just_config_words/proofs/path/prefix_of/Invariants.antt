-- The modules to come follow those so far.
use Rattle.std.proofs.Common.{◌≡◌, ◌++◌, drop, string_bytes}
use Rattle.just_config_words.specs.Paths.{prefix_of}
use Rattle.just_config_words.proofs.path.prefix_of.Given as goal

abbrev pub invariant-path : goal.invariant-path
invariant-path l = string_bytes l.text ++ prefix_of (drop l.component-index l.path) ≡ prefix_of l.path
