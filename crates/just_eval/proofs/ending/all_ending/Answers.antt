-- Whether no variable of a module more leads to itself.
use Rattle.std.proofs.Common.{◌≡◌, ◌≤◌, true, false, length, refl, sym, ◌∙◌, subst, arith}
use Rattle.just_eval.specs.Uses.{AreEnding}
use Rattle.just_eval.proofs.Leading.{module_more, all_ending, not_ending}
use Rattle.just_eval.proofs.ending.all_ending.Goals as goal

never : false ≡ true → ⊥
never e = let no : ⊥ = cc in no

pub returns-then-not-is_ending : goal.returns-then-not-is_ending
returns-then-not-is_ending c = (
  λ f. absurd (never f),
  λ all. absurd (not_ending c.args.modules.now c.modules.module-index c.module-item.result c.modules-test.true c.module-item.is (λ ending. never (sym c.if-not-is_ending.true ∙ c.in_ok-is_ending.ensures.1 (subst (λ xs. AreEnding xs) (sym c.as_slice.ensures) ending))) all),
)

pub modules-preserved : goal.modules-preserved
modules-preserved c =
    module_more c.args.modules.now c.modules.module-index c.module-item.result c.modules-test.true c.module-item.is (subst (λ xs. AreEnding xs) c.as_slice.ensures (c.in_ok-is_ending.ensures.0 c.if-not-is_ending.false)) c.modules.invariant

pub returns : goal.returns
returns c =
    let le : length c.args.modules.now ≤ c.modules.module-index = omega arith in
    (λ _. all_ending c.args.modules.now c.modules.module-index le c.modules.invariant, λ _. refl)
