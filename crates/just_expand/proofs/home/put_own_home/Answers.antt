-- The home folder takes the place of a tilde that calls for it and wasn't brought.
use Rattle.std.proofs.Common.{string_bytes, ◌∙◌, ◌++◌, ap}
use Rattle.std.specs.Cow.{cow_str_bytes}
use Rattle.just_expand.specs.Contexts.{GivesHome}
use Rattle.just_expand.proofs.TildeLaws.{becomes_home, stays_without_home}
use Rattle.just_expand.proofs.home.put_own_home.Goals as goal

pub ask_home-requires : goal.ask_home-requires
ask_home-requires g c = c.requires.home c.in-Some.behind.now c.in-Some.ensures.calls.0 c.in-Some.ensures.calls.1

pub returns-clause-expanded : goal.returns-clause-expanded
returns-clause-expanded g c =
    becomes_home (GivesHome g.H.FnOnce c.args.home_dir) c.args.input.now (cow_str_bytes c.args.expanded) c.in-Some.behind.now (string_bytes c.in-Some-ask_home.home) (string_bytes c.in_ok-out.out) c.in-Some.ensures.calls c.in-Some-ask_home.ensures (c.in_ok-out.ensures ∙ ap (λ t. t ++ c.in-Some.behind.now) c.as_str.ensures.value)

pub returns-in_default-ask_home-clause-expanded : goal.returns-in_default-ask_home-clause-expanded
returns-in_default-ask_home-clause-expanded g c =
    stays_without_home (GivesHome g.H.FnOnce c.args.home_dir) c.args.input.now (cow_str_bytes c.args.expanded) c.in-Some.behind.now c.in-Some.ensures.calls c.in_default-ask_home.ensures
