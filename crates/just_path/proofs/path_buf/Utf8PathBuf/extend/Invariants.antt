-- The parts so far are pushed.
use Rattle.std.proofs.Common.{◌≡◌, drop, fold}
use Rattle.just_path.specs.Path.{pushed}
use Rattle.just_path.proofs.path_buf.Utf8PathBuf.extend.Given as goal

abbrev pub invariant-loop-part : goal.invariant-loop-part
invariant-loop-part l = fold (λ path part. pushed path part.now) l.path (drop l.part-index l.parts) ≡ fold (λ path part. pushed path part.now) l.initial.path l.parts
