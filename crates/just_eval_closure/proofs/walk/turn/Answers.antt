-- A turn that gives a key its place.
use Rattle.std.proofs.Common.{◌≡◌, ◌≢◌, ◌≤◌, ◌++◌, [], ◌∷◌, length, Ok, Err}
use Rattle.just_lang_types.specs.declared.project.LangError.TheVariants.{NoMemory, ClosureLimit}
use Rattle.just_eval_closure.specs.declared.TheConstants.{CLOSURE_LIMIT}
use Rattle.just_eval_closure.specs.Pending.{Finishes, AreBeside}
use Rattle.just_eval_closure.specs.Places.{numbers_of}
use Rattle.just_eval_closure.specs.Ran.{places_of}
use Rattle.just_eval_closure.proofs.Tasks.{turned, turned_over, on_both, if_err}
use Rattle.just_eval_closure.proofs.walk.turn.Goals as goal

pub returns-in-Settle-clause-beside : goal.returns-in-Settle-clause-beside
returns-in-Settle-clause-beside g c =
    let around = g.S.Surroundings.around c.args.surroundings.now in
    let rank = g.S.Surroundings.rank c.args.surroundings.now in
    on_both (places_of c.settle.new.ran ≡ places_of c.args.ran.now ++ c.in-Settle.place ∷ []) (c.settle.new.beside.items ≡ c.args.beside.now.items ++ record { priors = numbers_of (places_of c.args.ran.now) c.in-Settle.place.round c.in-Settle.priors; subsequents = c.in-Settle.subsequents } ∷ []) (AreBeside around (places_of c.settle.new.ran) c.settle.new.beside.items) c.settle.result
    (turned around rank c.args.pending.now.items c.args.task (places_of c.args.ran.now) (places_of c.settle.new.ran) c.args.beside.now.items c.settle.new.beside.items c.in-Settle.place c.in-Settle.priors c.in-Settle.subsequents c.in-Settle.is c.requires.right c.requires.beside)
    c.settle.ensures.places c.settle.ensures.beside

pub returns-in-Settle-clause-refused : goal.returns-in-Settle-clause-refused
returns-in-Settle-clause-refused g c =
    let around = g.S.Surroundings.around c.args.surroundings.now in
    let rank = g.S.Surroundings.rank c.args.surroundings.now in
    if_err (λ e. e ≢ NoMemory → (e ≡ ClosureLimit) × (CLOSURE_LIMIT ≤ length (places_of c.args.ran.now))) (λ e. e ≢ NoMemory → Finishes around (c.args.pending.now.items ++ c.args.task ∷ []) (Ok (places_of c.args.ran.now)) (Err e)) c.settle.result
    (λ e h other. turned_over around rank c.args.pending.now.items c.args.task (places_of c.args.ran.now) c.in-Settle.place c.in-Settle.priors c.in-Settle.subsequents e c.in-Settle.is c.requires.right (h other))
    c.settle.ensures.refused
