-- The first entries so far are in the index.
use Rattle.just_eval_closure.proofs.EntryLists.{Indexes}
use Rattle.just_eval_closure.proofs.index.index_of.Given as goal

abbrev pub invariant-entries : goal.invariant-entries
invariant-entries l =
    Indexes l.all l.entry-index l.index
