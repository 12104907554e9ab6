-- The components so far are pushed.
use Rattle.std.proofs.Common.{◌≡◌, [], drop, fold}
use Rattle.just_path.specs.Path.{pushed}
use Rattle.just_path.specs.Comps.{comp_text}
use Rattle.just_path.specs.Component.{comp_of}
use Rattle.just_path.proofs.clean.path_of.Given as goal

abbrev pub invariant-loop-component : goal.invariant-loop-component
invariant-loop-component l =
    fold (λ path component. pushed path (comp_text (comp_of component))) l.path (drop l.component-index l.components)
    ≡ fold (λ path component. pushed path (comp_text (comp_of component))) [] l.components
