-- The thing at a place is the first one that has it.
use Rattle.std.proofs.Common.{◌≡◌, true, false, ap, sym, ◌∙◌, map}
use Rattle.std.specs.Ordering.{nat_cmp}
use Rattle.std.proofs.lemmas.Cmp.{nat_list_cmp_total}
use Rattle.std.specs.Cmp.Lexicographic.{slice_cmp}
use Rattle.std.specs.FinMap.{find, get-from_entries}
use Rattle.std.specs.Str.{bytes_eq}
use Rattle.just_host_memory.specs.Files.{by_text}
use Rattle.just_host_memory.proofs.Things.{thing_hit, thing_missed}
use Rattle.just_host_memory.proofs.files.Tree.find.Goals as goal

pub loop-entry-init : goal.loop-entry-init
loop-entry-init c =
    get-from_entries nat_list_cmp_total (map by_text c.args.self.now.things.items) c.args.place.now
    ∙ ap (λ xs. find (slice_cmp nat_cmp) c.args.place.now (map by_text xs)) (sym c.deref-entry-items.ensures.value)

pub returns-then-eq : goal.returns-then-eq
returns-then-eq c =
    let named : c.as_bytes.result.now ≡ c.entry-item.result.0.path = cc in
    let same : bytes_eq c.args.place.now c.as_bytes.result.now ≡ true = cc in
    sym (c.loop-entry.invariant ∙ thing_hit _ _ _ _ c.entry-item.result c.loop-entry-test.true c.entry-item.is named same)

pub loop-entry-preserved : goal.loop-entry-preserved
loop-entry-preserved c =
    let named : c.as_bytes.result.now ≡ c.entry-item.result.0.path = cc in
    let other : bytes_eq c.args.place.now c.as_bytes.result.now ≡ false = cc in
    c.loop-entry.invariant ∙ thing_missed _ _ _ _ c.entry-item.result c.loop-entry-test.true c.entry-item.is named other
