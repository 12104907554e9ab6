-- The numbers of the sorted keys.
use Rattle.std.proofs.Common.{◌≡◌, ◌∙◌, List, ap, map}
use Rattle.just_lang.specs.SpotOrder.{Key}
use Rattle.just_lang.proofs.SpotOrder.{numbers_within, numbers_whole, numbers_ordered}
use Rattle.just_lang.proofs.first.in_order.Goals as goal

pub returns-clause-within : goal.returns-clause-within
returns-clause-within c =
    let are : c.in_ok-numbers.numbers.items ≡ map (λ (k : Key). k.3) c.sort.new.self.items = c.in_ok-numbers.ensures ∙ ap (λ (ks : List Key). map (λ (k : Key). k.3) ks) c.as_slice.ensures.value in
    numbers_within c.args.spots.now c.in_ok-keys.keys.items c.sort.new.self.items c.in_ok-numbers.numbers.items c.in_ok-keys.ensures c.in_ok-sort.ensures.permutation are

pub returns-clause-whole : goal.returns-clause-whole
returns-clause-whole c =
    let are : c.in_ok-numbers.numbers.items ≡ map (λ (k : Key). k.3) c.sort.new.self.items = c.in_ok-numbers.ensures ∙ ap (λ (ks : List Key). map (λ (k : Key). k.3) ks) c.as_slice.ensures.value in
    numbers_whole c.args.spots.now c.in_ok-keys.keys.items c.sort.new.self.items c.in_ok-numbers.numbers.items c.in_ok-keys.ensures c.in_ok-sort.ensures.permutation are

pub returns-clause-order : goal.returns-clause-order
returns-clause-order c =
    let are : c.in_ok-numbers.numbers.items ≡ map (λ (k : Key). k.3) c.sort.new.self.items = c.in_ok-numbers.ensures ∙ ap (λ (ks : List Key). map (λ (k : Key). k.3) ks) c.as_slice.ensures.value in
    numbers_ordered c.args.spots.now c.in_ok-keys.keys.items c.sort.new.self.items c.in_ok-numbers.numbers.items c.in_ok-keys.ensures c.in_ok-sort.ensures.permutation c.in_ok-sort.ensures.sorted are
