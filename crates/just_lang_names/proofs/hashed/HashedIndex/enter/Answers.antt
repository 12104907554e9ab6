-- A name at whose hash another one is kept.
use Rattle.std.proofs.Common.{rules, ◌≡◌, true, refl}
use Rattle.std.specs.Ordering.{nat_cmp}
use Rattle.std.specs.BTreeMap.{get}
use Rattle.just_lang_names.specs.Hashes.{name_hash}
use Rattle.just_lang_names.specs.HashedPlaces.{is_another}
use Rattle.just_lang_names.proofs.Entered.{entered_other}
use Rattle.just_lang_names.proofs.hashed.HashedIndex.enter.Goals as goal

pub returns-then-is_another : goal.returns-then-is_another
returns-then-is_another c =
    let hash : c.name_hash-hash.result ≡ name_hash c.args.name.now = search rules in
    let another : is_another c.args.name.now (get nat_cmp c.args.self.now.firsts c.name_hash-hash.result) ≡ true = search rules in
    entered_other c.args.self.now (record { firsts = c.args.self.now.firsts; others = c.insert.new.self }) c.args.name c.args.place c.name_hash-hash.result hash another refl
    c.in_ok-insert.ensures.updates
