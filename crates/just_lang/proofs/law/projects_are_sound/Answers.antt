-- The law.
use Rattle.just_lang.proofs.Projects as law
use Rattle.just_lang.proofs.law.projects_are_sound.Goals as goal

pub returns : goal.returns
returns c = law.projects_are_sound
