-- The names in front of the last one lead to a module, and the last one is looked up there.
use Rattle.std.proofs.Common.{rules, ◌≡◌, [], ◌∷◌, ◌++◌, map, Ok}
use Rattle.just_cli_texts.specs.Evaluated.{evaluated_module}
use Rattle.just_cli_texts.proofs.EvaluateLaws.{names_lost, names_named, names_unnamed}
use Rattle.just_cli_texts.proofs.values.text_of_names.Goals as goal

pub returns-in-Err-clause-refused : goal.returns-in-Err-clause-refused
returns-in-Err-clause-refused c =
    let front = c.in-Some.front.now in
    let last = c.in-Some.last.now in
    let split : c.args.names.now ≡ front ++ last ∷ [] = search rules in
    names_lost c.args.format (map (λ m. m.now) c.args.modules.now) c.args.scopes.now c.args.root.now c.args.names.now front last split _ c.in-Err.ensures.refused

pub returns-in-Err-text_in-clause-refused : goal.returns-in-Err-text_in-clause-refused
returns-in-Err-text_in-clause-refused c =
    let ms = map (λ m. m.now) c.args.modules.now in
    let front = c.in-Some.front.now in
    let last = c.in-Some.last.now in
    let split : c.args.names.now ≡ front ++ last ∷ [] = search rules in
    let leads : evaluated_module ms front c.args.root.now ≡ Ok c.in-Ok.inner.now = search rules in
    names_unnamed c.args.format ms c.args.scopes.now c.args.root.now c.args.names.now front last split c.in-Ok.inner.now _ leads (rw c.as_str.ensures at c.in-Err-text_in.ensures.refused)

pub returns-clause-text : goal.returns-clause-text
returns-clause-text c =
    let ms = map (λ m. m.now) c.args.modules.now in
    let front = c.in-Some.front.now in
    let last = c.in-Some.last.now in
    let split : c.args.names.now ≡ front ++ last ∷ [] = search rules in
    let leads : evaluated_module ms front c.args.root.now ≡ Ok c.in-Ok.inner.now = search rules in
    names_named c.args.format ms c.args.scopes.now c.args.root.now c.args.names.now front last split c.in-Ok.inner.now _ leads (rw c.as_str.ensures at c.in-Ok-text_in.ensures.text)
