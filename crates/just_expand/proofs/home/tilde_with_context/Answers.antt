-- The home folder takes the place of the tilde.
use Rattle.std.proofs.Common.{inl, ◌∙◌, ◌++◌, ap, string_bytes}
use Rattle.std.specs.Prelude.{Some}
use Rattle.just_expand.proofs.home.tilde_with_context.Goals as goal

pub returns-clause-expanded : goal.returns-clause-expanded
returns-clause-expanded g c =
    inl (c.in-Some.behind.now, Some (string_bytes c.in-Some-ask_home.home), c.in-Some.ensures, c.in-Some-ask_home.ensures, c.in_ok-out.ensures ∙ ap (λ t. t ++ c.in-Some.behind.now) c.as_str.ensures.value)
