-- A number more.
use Rattle.std.proofs.Common.{ℕ, ◌+◌, ◌<◌, sym, subst}
use Rattle.std.specs.List.{All, Contains}
use Rattle.std.proofs.lemmas.List.Elements.{All-push}
use Rattle.just_eval.proofs.Leading.{number_in}
use Rattle.just_eval.proofs.ending.numbers_below.Goals as goal

pub count-preserved : goal.count-preserved
count-preserved c =
    record {
      within = subst (λ l. All (λ n. n < c.args.count) l) (sym c.in_ok-push.ensures.items) (All-push (λ n. n < c.args.count) c.count.below.items c.count.at c.count.invariant.within c.count-test.true);
      all = subst (λ l. (n : ℕ) → n < c.count.at + 1 → Contains l n) (sym c.in_ok-push.ensures.items) (number_in c.count.below.items c.count.at c.count.invariant.all);
    }
