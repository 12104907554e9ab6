-- The justfile is checked behind the rules, and it ends; or the rule that the sources break is the answer.
use Rattle.just_cli_plan.proofs.Chain.{rules_refused, features_refused}
use Rattle.just_cli_plan.proofs.EndingLaws.{is_ending}
use Rattle.just_cli_texts.proofs.LayLaws.{justfile_of, sound_of, laid_found}
use Rattle.just_cli_texts.proofs.laying.laid_of_sources.Goals as goal

pub returns-in-Err-clause-refused : goal.returns-in-Err-clause-refused
returns-in-Err-clause-refused c = rules_refused c.args.wanted.now c.args.environ.now c.args.sources.now c.in-Err.error c.in-Err.ensures.refused _ c.from.ensures

pub returns-in-Ok-check_project-clause-laid : goal.returns-in-Ok-check_project-clause-laid
returns-in-Ok-check_project-clause-laid c = laid_found c.args.wanted.now c.args.environ.now c.args.sources.now c.in-Ok.laid c.in-Ok.ensures.laid c.in-Ok-check_project.ensures.stable

pub returns-in-Ok-check_project-clause-ending : goal.returns-in-Ok-check_project-clause-ending
returns-in-Ok-check_project-clause-ending c = is_ending c.projects_end.ensures _ _ _ (justfile_of c.args.wanted.now c.args.environ.now c.args.sources.now c.in-Ok.laid c.in-Ok.ensures.laid)

pub returns-in-Ok-check_project-clause-sound : goal.returns-in-Ok-check_project-clause-sound
returns-in-Ok-check_project-clause-sound c = sound_of c.args.wanted.now c.args.environ.now c.args.sources.now c.in-Ok.laid c.in-Ok.ensures.laid

pub returns-in-Err-check_project-clause-refused : goal.returns-in-Err-check_project-clause-refused
returns-in-Err-check_project-clause-refused c =
    features_refused c.args.wanted.now c.args.environ.now c.args.sources.now c.in-Ok.laid.justfile
    (justfile_of c.args.wanted.now c.args.environ.now c.args.sources.now c.in-Ok.laid c.in-Ok.ensures.laid) _ c.in-Err-check_project.ensures.refused
