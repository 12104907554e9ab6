-- The first element, and each other one behind a blank.
use Rattle.std.proofs.Common.{rules, ◌≡◌, ◌≤◌, ◌++◌, length, get_or, drop, string_bytes, ap, ◌∙◌}
use Rattle.std.specs.List.{join_with_byte}
use Rattle.just_eval_closure.specs.Scopes.{further}
use Rattle.just_eval_closure.proofs.Bindings.{joined_at, others_are}
use Rattle.just_eval_closure.proofs.scope.text_of.Goals as goal

pub returns-in_ok-push_further-in-len1-up : goal.returns-in_ok-push_further-in-len1-up
returns-in_ok-push_further-in-len1-up c =
    let es = c.as_slice.result.now in
    let first = c.first-item.result in
    let long : 1 ≤ length es = search rules in
    let is : first ≡ get_or es 0 first = search rules in
    let front : string_bytes c.push_str.new.self ≡ first = search rules in
    let whole : c.from-in-len1-up.result ≡ string_bytes c.push_str.new.self ++ further (drop 1 es) = c.from-in-len1-up.ensures ∙ c.in_ok-push_further-in-len1-up.ensures ∙ ap (λ xs. string_bytes c.push_str.new.self ++ further xs) (others_are es) in
    whole ∙ ap (λ t. t ++ further (drop 1 es)) front ∙ joined_at es first long is ∙ ap (λ xs. join_with_byte 32 xs) c.as_slice.ensures
