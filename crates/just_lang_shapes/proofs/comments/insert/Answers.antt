-- The table with one more name.
use Rattle.just_lang_shapes.proofs.Above.{insert_step}
use Rattle.just_lang_shapes.proofs.comments.insert.Goals as goal

pub returns : goal.returns
returns c = λ place. insert_step c.args.table.now c.insert.new.self c.args.name.now c.args.above place c.in_ok-insert.ensures.updates
