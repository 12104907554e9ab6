-- The environment's home folder takes the place of a tilde that calls for it and wasn't brought.
use Rattle.std.proofs.Common.{string_bytes}
use Rattle.std.specs.Cow.{cow_str_bytes}
use Rattle.just_path_text.specs.Environ.{home_of}
use Rattle.just_expand.specs.Contexts.{IsHome}
use Rattle.just_expand.proofs.TildeLaws.{becomes_home, stays_without_home}
use Rattle.just_expand.proofs.home.put_known_home.Goals as goal

pub returns-clause-expanded : goal.returns-clause-expanded
returns-clause-expanded c =
    becomes_home (IsHome (home_of c.args.environ.now.pairs)) c.args.input.now (cow_str_bytes c.args.expanded) c.in-Some.behind.now c.in-Some-home.home.now (string_bytes c.in_ok-out.out) c.in-Some.ensures.calls c.in-Some-home.ensures c.in_ok-out.ensures

pub returns-in_default-home-clause-expanded : goal.returns-in_default-home-clause-expanded
returns-in_default-home-clause-expanded c =
    stays_without_home (IsHome (home_of c.args.environ.now.pairs)) c.args.input.now (cow_str_bytes c.args.expanded) c.in-Some.behind.now c.in-Some.ensures.calls c.in_default-home.ensures
