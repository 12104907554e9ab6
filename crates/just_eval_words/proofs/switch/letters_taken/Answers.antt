-- A letter is refused.
use Rattle.std.proofs.Common.{rules, ◌≡◌, ◌≢◌, ◌<◌, length, get_or, false, Ok, Err, sym, ◌∙◌}
use Rattle.just_lang_types.specs.declared.project.LangError.TheVariants.{NoMemory}
use Rattle.just_eval_words.specs.Switches.{words_of, awaited, letters_taken, Awaited}
use Rattle.just_eval_words.proofs.Letters.{letter_refused_at}
use Rattle.just_eval_words.proofs.switch.letters_taken.Goals as goal

pub returns-in_err-next-clause-refused : goal.returns-in_err-next-clause-refused
returns-in_err-next-clause-refused c =
    let r = c.args.recipe.now in
    let cs = c.args.letters.now in
    let n = c.letters.at in
    let x = c.index-letters-at.result in
    let e = c.in_err-next.field-0.0 in
    let lt : n < length cs = search rules in
    let is : x ≡ get_or cs n x = c.index-letters-at.is in
    let refused : e ≢ NoMemory → letters_taken r cs (Ok (words_of c.args.taken.now, Awaited.a_word false)) ≡ Err e =
    λ h. sym c.letters.invariant ∙ letter_refused_at r cs n (words_of c.letters.taken) (awaited c.letters.next) x e lt is (c.in_err-next.ensures.refused h) in
    search (rules, refused)
