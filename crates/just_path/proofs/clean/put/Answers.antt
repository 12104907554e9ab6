-- A name, a root or a prefix may stand behind anything; a `.` goes.
use Rattle.std.proofs.Common.{◌≡◌, ◌∙◌, sym, ap, [], ◌∷◌, ◌++◌}
use Rattle.just_path.specs.Component.{comp_of}
use Rattle.just_path.specs.Clean.{normal_form}
use Rattle.just_path.specs.Reduced.{begins_with_parent, may_precede, comps_of}
use Rattle.just_path.proofs.NormalForms.{drops_current, reduced_plain}
use Rattle.just_path.proofs.clean.put.Goals as goal

pub returns-in-CurDir-clause-same : goal.returns-in-CurDir-clause-same
returns-in-CurDir-clause-same c = λ rest.
    sym (ap (λ x. normal_form (comps_of c.args.kept.now.items ++ comp_of x ∷ rest)) c.in-CurDir.is ∙ drops_current (comps_of c.args.kept.now.items) rest)

pub push_on-requires : goal.push_on-requires
push_on-requires c =
    reduced_plain (comps_of c.args.kept.now.items) (comp_of c.args.component)
    (ap (λ x. begins_with_parent (comp_of x ∷ [])) c.in-Prefix.is) (ap (λ x. may_precede (comp_of x) []) c.in-Prefix.is) c.requires

pub push_on-requires-in-RootDir : goal.push_on-requires-in-RootDir
push_on-requires-in-RootDir c =
    reduced_plain (comps_of c.args.kept.now.items) (comp_of c.args.component)
    (ap (λ x. begins_with_parent (comp_of x ∷ [])) c.in-RootDir.is) (ap (λ x. may_precede (comp_of x) []) c.in-RootDir.is) c.requires

pub push_on-requires-in-Normal : goal.push_on-requires-in-Normal
push_on-requires-in-Normal c =
    reduced_plain (comps_of c.args.kept.now.items) (comp_of c.args.component)
    (ap (λ x. begins_with_parent (comp_of x ∷ [])) c.in-Normal.is) (ap (λ x. may_precede (comp_of x) []) c.in-Normal.is) c.requires
