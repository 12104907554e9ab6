-- What the words come to is what they mean.
use Rattle.std.proofs.Common.{◌∙◌, ℕ, List, IfOk, ap, subst, sym}
use Rattle.just_config_words.specs.declared.front.Front.{Front}
use Rattle.just_config_words.specs.Steps.{IsFront}
use Rattle.just_config_words.specs.Words.{Means, fault, help, version}
use Rattle.just_config_words.proofs.Meanings.{single_meaning}
use Rattle.just_config_words.proofs.words.meaning_of.Goals as goal

pub returns-in-Split : goal.returns-in-Split
returns-in-Split c =
    subst (λ (f : Front). IfOk c.meaning.result (λ r. (words : List (List ℕ)) → IsFront words f → Means words c.args.environ.now.pairs r)) (sym c.in-Split.is) c.meaning.ensures

pub returns-in_ok-usage-in-Fault : goal.returns-in_ok-usage-in-Fault
returns-in_ok-usage-in-Fault c = λ words h.
    single_meaning c.args.environ.now.pairs c.in-Fault.kind c.in-Fault.word.now c.in_ok-usage-in-Fault.usage
    (c.in_ok-usage-in-Fault.ensures ∙ ap (λ (w : List ℕ). fault c.in-Fault.kind w) c.as_str.ensures) words
    (subst (λ (f : Front). IsFront words f) c.in-Fault.is h)

pub returns-in-Help : goal.returns-in-Help
returns-in-Help c = λ words h. help (subst (λ (f : Front). IsFront words f) c.in-Help.is h)

pub returns-in-Version : goal.returns-in-Version
returns-in-Version c = λ words h. version (subst (λ (f : Front). IsFront words f) c.in-Version.is h)
