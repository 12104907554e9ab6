-- What stands in front of the end is no digest.
use Rattle.std.proofs.Common.{◌∙◌, sym}
use Rattle.just_cache_clean.proofs.Cuts.{no_digest}
use Rattle.just_cache_clean.proofs.entry_text.digest_in.Goals as goal

pub returns-else-is_digest : goal.returns-else-is_digest
returns-else-is_digest c =
    no_digest c.args.name.now c.in-Some.digest.now c.is_digest.result (sym c.as_bytes.ensures.value ∙ c.in-Some.ensures) c.is_digest.ensures c.if-is_digest.false
