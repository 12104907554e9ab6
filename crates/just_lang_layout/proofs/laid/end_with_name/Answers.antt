-- A path may be cut behind a text with which it begins.
use Rattle.just_lang_layout.proofs.Sources.{boundary}
use Rattle.just_lang_layout.proofs.laid.end_with_name.Goals as goal

pub split_at-requires : goal.split_at-requires
split_at-requires c = boundary c.args.path.now c.args.base.now c.utf8.path c.utf8.base c.requires
