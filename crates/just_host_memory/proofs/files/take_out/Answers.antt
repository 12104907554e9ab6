-- To keep what stands elsewhere is to take out what stands at the place.
use Rattle.std.proofs.Common.{not, ap, ◌∙◌, rules, tests}
use Rattle.std.specs.Str.{bytes_eq}
use Rattle.std.proofs.lemmas.Fn.{filter_same}
use Rattle.just_host_memory.specs.Files.{files_in}
use Rattle.just_host_memory.proofs.Things.{files_in-without}
use Rattle.just_host_memory.proofs.files.take_out.Goals as goal

pub returns-clause-tree : goal.returns-clause-tree
returns-clause-tree c =
    ap files_in (filter_same _ (λ e. not (bytes_eq e.0.path c.args.place.now)) _ (λ x b q k. (search (rules, tests), search (rules, tests))) _ _ c.retain.ensures.filtered)
    ∙ files_in-without c.args.place.now c.args.things.now.items
