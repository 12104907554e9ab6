-- One more file.
use Rattle.std.proofs.Common.{◌∙◌, ap, sym}
use Rattle.just_lang_layout.specs.declared.layout.File.{File}
use Rattle.just_lang_spots.specs.Spots.{first_spot}
use Rattle.just_lang_rules.specs.FaultSpots.{fault_spot}
use Rattle.just_lang_rulebook.proofs.FileSteps.{faults_step}
use Rattle.just_lang_rulebook.proofs.files.first_among_files.Goals as goal

pub files-preserved : goal.files-preserved
files-preserved c =
    faults_step c.args.kind c.files.found c.fault_spot-here.result c.earlier-found.result c.args.files.now c.files.number c.index-files-number.result
    c.files-test.true c.index-files-number.is
    (c.fault_spot-here.ensures ∙ ap (λ (f : File). first_spot (fault_spot c.args.kind c.files.number f.fault)) (sym c.index-files-number.is)) c.earlier-found.ensures ∙ c.files.invariant
