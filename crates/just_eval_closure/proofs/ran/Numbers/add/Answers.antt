-- The register with a place more, whose number is kept by itself or by its hash.
use Rattle.std.proofs.Common.{rules, ◌≡◌, ◌++◌, [], ◌∷◌, false, length, is_some, sym, ◌∙◌, subst}
use Rattle.std.specs.BTreeMap.{get}
use Rattle.std.specs.Ordering.{nat_cmp}
use Rattle.just_eval_closure.specs.Numbers.{AreNumbered}
use Rattle.just_eval_closure.proofs.Numbered.{numbered_other, numbered_first}
use Rattle.just_eval_closure.proofs.ran.Numbers.add.Goals as goal
use Rattle.just_eval_closure.proofs.ran.Numbers.add.Goals.{then-contains_key+in_ok-try_clone+in_ok-insert, else-contains_key+in_ok-insert-2}

pub returns-clause-numbered : goal.returns-clause-numbered
returns-clause-numbered c =
    let list = c.args.self.now.places.items in
    let new = c.push_reserved.new.self.items in
    let firsts = c.args.self.now.firsts in
    let others = c.args.self.now.others in
    let number : c.in-Ok.number ≡ length list = search rules in
    let is : new ≡ list ++ c.args.place ∷ [] = search rules in
    elim c.if-contains_key.branch [
      | then-contains_key+in_ok-try_clone+in_ok-insert w ↦
          subst (λ s. AreNumbered new s.firsts s.others) (sym w.self-is) (numbered_other list new firsts others w.insert.new.self c.args.place w.in_ok-try_clone.field-0 c.in-Ok.number c.requires.numbered w.in_ok-insert.ensures.updates w.in_ok-try_clone.ensures number is c.requires.new)
      | else-contains_key+in_ok-insert-2 w ↦
          let free : is_some (get nat_cmp firsts c.place_hash-hash.result) ≡ false = sym c.contains_key.ensures ∙ w.if-contains_key.false in
          subst (λ s. AreNumbered new s.firsts s.others) (sym w.self-is) (numbered_first list new firsts w.insert-else-contains_key.new.self others c.args.place c.place_hash-hash.result c.in-Ok.number c.requires.numbered c.place_hash-hash.ensures free w.in_ok-insert-2.ensures.updates number is c.requires.new)
    ]
