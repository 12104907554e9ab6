-- An item goes between two others, or replaces one.
use Rattle.std.proofs.Common.{◌≡◌, ◌<◌, true, length, bytes_eq, ap, ◌∙◌, arith}
use Rattle.std.proofs.lemmas.Grind.{common_steps}
use Rattle.just_path.specs.View.{named}
use Rattle.just_host_files.proofs.Places.{put_between, put_over, placed}
use Rattle.just_host_files.proofs.items.put_item.Goals as goal
use Rattle.just_host_files.proofs.items.put_item.Goals.{else-at-len-via-then-at-len+else-eq, else-at-len-via-else-at-len}

pub returns-then-eq : goal.returns-then-eq
returns-then-eq c =
    let inside : c.place_of-at.result < length c.args.items.now.items = grind (arith, common_steps) in
    let same : bytes_eq c.args.item.name c.index.result.now.name ≡ true = cc in
    put_over c.args.items.now.items c.args.item c.place_of-at.result c.index.result.now
    (placed c.args.item.name c.as_str.result.now c.args.items.now.items c.as_slice.result.now c.place_of-at.result c.as_str.ensures c.as_slice.ensures.value c.place_of-at.ensures)
    inside c.index.ensures same

pub returns : goal.returns
returns c =
    ap named c.in_ok-insert.ensures.items
    ∙ put_between c.args.items.now.items c.args.item c.place_of-at.result
    (placed c.args.item.name c.as_str.result.now c.args.items.now.items c.as_slice.result.now c.place_of-at.result c.as_str.ensures c.as_slice.ensures.value c.place_of-at.ensures)
    (λ inside. elim c.else-at-len.branch [
      | else-at-len-via-then-at-len+else-eq w ↦ (w.index.result.now, w.index.ensures, cc)
      | else-at-len-via-else-at-len w ↦ absurd (grind (arith, common_steps))
    ])
