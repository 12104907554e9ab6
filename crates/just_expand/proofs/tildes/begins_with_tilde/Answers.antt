-- A text from which no tilde is stripped begins with none.
use Rattle.just_expand.proofs.tildes.begins_with_tilde.Goals as goal

pub returns-in-None : goal.returns-in-None
unfolding lib.Utf8.encode
returns-in-None c = c.in-None.ensures.cases
