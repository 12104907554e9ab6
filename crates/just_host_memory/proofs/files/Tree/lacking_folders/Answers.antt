-- Where something else than a folder stands on the way up, no folder can be made.
use Rattle.std.proofs.Common.{◌≡◌, ◌<◌, false, length, is_none, sym, ap, subst, ◌∙◌}
use Rattle.std.specs.FinMap.{get}
use Rattle.just_host_record.specs.Changes.{holds_folder}
use Rattle.just_host_record.specs.NewFolders.{with_folders}
use Rattle.just_host_memory.specs.Trees.{files_of}
use Rattle.just_host_memory.proofs.Climbs.{climb_blocked}
use Rattle.just_host_memory.proofs.files.Tree.lacking_folders.Goals as goal

pub returns-then-not-is_free : goal.returns-then-not-is_free
returns-then-not-is_free c =
    let inside : c.loop.counter < length c.args.place.path = subst (λ t. c.loop.counter < length t) c.as_str-end.ensures c.loop-test.true in
    let none : c.holds_folder.result ≡ false = cc in
    let filled : c.is_free.result ≡ false = cc in
    let no : holds_folder (files_of c.args.self.now) c.loop.at.path ≡ false = ap (λ t. holds_folder (files_of c.args.self.now) t) (sym c.as_str.ensures) ∙ sym c.holds_folder.ensures ∙ none in
    let stands : is_none (get (files_of c.args.self.now) c.loop.at.path) ≡ false = ap (λ t. is_none (get (files_of c.args.self.now) t)) (sym c.as_str-in-loop.ensures) ∙ sym c.is_free.ensures ∙ filled in
    climb_blocked (files_of c.args.self.now) (length c.args.place.path) c.loop.counter c.loop.lacking.items c.loop.at.path (with_folders (files_of c.args.self.now) (length c.args.place.path) c.args.place.path) inside no stands c.loop.invariant
