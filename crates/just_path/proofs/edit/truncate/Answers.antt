-- A front that is text ends where the text may be cut.
use Rattle.std.specs.Str.{IsCharBoundary}
use Rattle.std.specs.String.{string_bytes}
use Rattle.std.proofs.lemmas.Str.{IsCharBoundary-from_take, IsUtf8-string_bytes}
use Rattle.just_path.proofs.edit.truncate.Goals as goal

pub truncate-requires : goal.truncate-requires
truncate-requires c =
    let at : IsCharBoundary (string_bytes c.args.text.now) c.args.end = IsCharBoundary-from_take (string_bytes c.args.text.now) c.args.end (IsUtf8-string_bytes c.args.text.now) c.requires.fits c.requires.utf8 in
    λ h. (at.0, λ z. at.1)
