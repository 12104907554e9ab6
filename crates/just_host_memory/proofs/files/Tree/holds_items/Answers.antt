-- Something stands below the place where a thing is found that does, and else nothing.
use Rattle.std.proofs.Common.{◌≡◌, [], true, false, map, sym, ap, subst, ◌∙◌}
use Rattle.std.specs.Ordering.{nat_cmp}
use Rattle.std.specs.Cmp.Lexicographic.{slice_cmp}
use Rattle.std.specs.FinMap.{find, get-from_entries}
use Rattle.std.proofs.lemmas.Cmp.{nat_list_cmp_total}
use Rattle.just_path.specs.Path.{text_of, pushed}
use Rattle.just_host_memory.specs.Files.{by_text}
use Rattle.just_host_memory.specs.Trees.{files_of}
use Rattle.just_host_memory.specs.Removals.{IsAfter}
use Rattle.just_host_memory.proofs.Below.{below_hit, below_pass}
use Rattle.just_host_memory.proofs.files.Tree.holds_items.Goals as goal

pub loop-entry-init : goal.loop-entry-init
loop-entry-init c = λ below isb.
    get-from_entries nat_list_cmp_total (map by_text c.args.self.now.things.items) below
    ∙ ap (λ xs. find (slice_cmp nat_cmp) below (map by_text xs)) (sym c.deref-entry-items.ensures.value)

pub returns-then-is_behind : goal.returns-then-is_behind
returns-then-is_behind c =
    let named : c.as_str-in-loop-entry.result.now ≡ c.entry-item.result.0.path = cc in
    let fronted : c.as_str.result.now ≡ pushed c.args.place.now.path [] =
    c.as_str.ensures ∙ c.in_ok-front.ensures.path ∙ ap (λ t. pushed t (text_of c.new.result)) c.as_path.ensures.text ∙ ap (λ t. pushed c.args.place.now.path t) c.new.ensures in
    let holds : c.is_behind.result ≡ true = cc in
    let after : IsAfter true c.as_str.result.now c.as_str-in-loop-entry.result.now =
    subst (λ b. IsAfter b c.as_str.result.now c.as_str-in-loop-entry.result.now) holds c.is_behind.ensures in
    below_hit (files_of c.args.self.now) c.args.place.now.path c.as_str.result.now c.as_str-in-loop-entry.result.now c.deref-entry-items.result.now c.loop-entry.entry-index c.entry-item.result c.loop-entry-test.true c.entry-item.is named fronted after c.loop-entry.invariant

pub loop-entry-preserved : goal.loop-entry-preserved
loop-entry-preserved c =
    let named : c.as_str-in-loop-entry.result.now ≡ c.entry-item.result.0.path = cc in
    let fronted : c.as_str.result.now ≡ pushed c.args.place.now.path [] =
    c.as_str.ensures ∙ c.in_ok-front.ensures.path ∙ ap (λ t. pushed t (text_of c.new.result)) c.as_path.ensures.text ∙ ap (λ t. pushed c.args.place.now.path t) c.new.ensures in
    let fails : c.is_behind.result ≡ false = cc in
    let after : IsAfter false c.as_str.result.now c.as_str-in-loop-entry.result.now =
    subst (λ b. IsAfter b c.as_str.result.now c.as_str-in-loop-entry.result.now) fails c.is_behind.ensures in
    below_pass (files_of c.args.self.now) c.args.place.now.path c.as_str.result.now c.as_str-in-loop-entry.result.now c.deref-entry-items.result.now c.loop-entry.entry-index c.entry-item.result c.loop-entry-test.true c.entry-item.is named fronted after c.loop-entry.invariant
