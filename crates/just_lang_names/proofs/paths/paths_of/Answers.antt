-- One more module has its number under its path.
use Rattle.just_lang_names.proofs.Inserts.{path_insert}
use Rattle.just_lang_names.proofs.paths.paths_of.Goals as goal

pub modules-preserved : goal.modules-preserved
modules-preserved c = λ path.
    path_insert c.args.modules.now c.modules.number c.index-modules-number.result path c.as_slice.result c.modules.numbers c.insert.new.self c.modules-test.true c.index-modules-number.is
    c.as_slice.ensures c.in_ok-insert.ensures.updates (c.modules.invariant path)
