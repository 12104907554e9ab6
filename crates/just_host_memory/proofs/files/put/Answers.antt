-- A thing is put where its place was taken out.
use Rattle.std.proofs.Common.{ap, ◌∙◌}
use Rattle.std.specs.FinMap.{remove}
use Rattle.just_host_memory.specs.Files.{files_in}
use Rattle.just_host_memory.proofs.Things.{files_in-replaced}
use Rattle.just_host_memory.proofs.files.put.Goals as goal

pub returns-clause-tree : goal.returns-clause-tree
returns-clause-tree c =
    ap files_in c.push_reserved.ensures.items
    ∙ files_in-replaced c.args.place c.args.thing c.take_out.new.things.items (files_in c.args.things.now.items) (c.take_out.ensures.tree ∙ ap (remove (files_in c.args.things.now.items)) c.as_str.ensures)
