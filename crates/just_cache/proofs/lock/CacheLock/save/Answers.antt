-- The entry of the lock, with its recipe's text.
use Rattle.std.proofs.Common.{◌≡◌, arith}
use Rattle.std.proofs.lemmas.Grind.{common_steps}
use Rattle.just_path.specs.Path.{text_of}
use Rattle.just_cache.specs.Keys.{entry_text}
use Rattle.just_cache.proofs.Told.{save_moved}
use Rattle.just_cache.proofs.lock.CacheLock.save.Goals as goal

pub returns-clause-saved : goal.returns-clause-saved
returns-clause-saved g c =
    let same : c.as_str.result.now ≡ entry_text (record { recipe = c.args.self.recipe }) = first_of (cc, grind (arith, common_steps)) in
    save_moved (g.H.Host.told c.args.host.now) _ (text_of c.as_path.result) c.args.self.path c.as_str.result.now (entry_text (record { recipe = c.args.self.recipe })) _ c.save_text.ensures.saved c.as_path.ensures same
