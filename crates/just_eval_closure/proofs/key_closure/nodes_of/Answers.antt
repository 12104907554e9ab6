-- A node more.
use Rattle.std.proofs.Common.{rules, ◌≡◌, ℕ, ◌++◌, [], ◌∷◌, List, sym, ap, ◌∙◌, reverse}
use Rattle.just_eval_closure.specs.Closures.{nodes_with}
use Rattle.just_eval_closure.proofs.Popped.{even_popped, node_popped}
use Rattle.just_eval_closure.proofs.key_closure.nodes_of.Goals as goal

pub places-preserved-in-Continue-branch-2 : goal.places-preserved-in-Continue-branch-2
places-preserved-in-Continue-branch-2 c =
    let places = c.places.places.items in
    let numbers = c.places.numbers.items in
    let nodes = c.places.nodes.items in
    let xs = c.pop.new.self.items in
    let ms = c.pop-in-Some.new.self.items in
    let x = c.in-Some.place in
    let m : List ℕ × List ℕ = (c.in-Some-pop.priors, c.in-Some-pop.subsequents) in
    let was : places ≡ xs ++ x ∷ [] = search rules in
    let had : numbers ≡ ms ++ m ∷ [] = search rules in
    let more : c.push.new.self.items ≡ nodes ++ record { round = x.round; key = x.key; priors = m.0; subsequents = m.1 } ∷ [] = search rules in
    let even = even_popped xs ms x m places numbers was had c.places.invariant.even in
    record {
      even = even;
      nodes =
          ap (λ ns. nodes_with xs ms ++ reverse ns) more ∙ node_popped xs ms x m nodes even ∙ ap (λ ps. nodes_with ps (ms ++ m ∷ []) ++ reverse nodes) (sym was) ∙ ap (λ ns. nodes_with places ns ++ reverse nodes) (sym had) ∙ c.places.invariant.nodes;
    }
