-- One more text, among those that were seen or not.
use Rattle.std.proofs.Common.{◌≡◌, ◌+◌, ◌∙◌, ℕ, List, [], ◌∷◌, ◌++◌, take, drop, get_or, not, sym, ap}
use Rattle.std.proofs.lemmas.List.{get_or_default}
use denote.Ref.{Bor}
use Rattle.just_lang_spots.specs.Repeated.{is_among}
use Rattle.just_lang_spots.proofs.ListLaws.{take_here, drop_here, map_end}
use Rattle.just_lang_spots.proofs.Seen.{sees_more}
use Rattle.just_lang.specs.DisablingTables.{text, texts}
use Rattle.just_lang.proofs.CauseLaws.{once_step}
use Rattle.just_lang.proofs.disabled.each_once.Goals as goal

abbrev none : Bor (List ℕ)
none = record { ref_ptr = (0, 0); now = [] }

pub all-preserved : goal.all-preserved
all-preserved c =
    let xs = c.args.all.now in
    let i = c.all.name-index in
    let x = get_or xs i none in
    let before : List (List ℕ) = texts (take i xs) in
    let taken : texts (take (i + 1) xs) ≡ before ++ x.now ∷ [] = ap texts (take_here xs i x c.all-test.true (get_or_default xs i none x c.all-test.true)) ∙ map_end text (take i xs) x in
    record {
      same = λ q.
          sees_more q x c.all.seen c.insert.new.self before c.in_ok-is_new.ensures.updates (c.all.invariant.same q) ∙ ap (λ (ns : List (List ℕ)). is_among q.now ns) (sym taken);
      rest =
          once_step before (texts (take (i + 1) xs)) x.now (texts (drop (i + 1) xs)) (texts (drop i xs)) c.all.once.items c.push_some.new.list.items c.text_where.result c.in_ok-is_new.is_new
          taken (ap texts (drop_here xs i x c.all-test.true (get_or_default xs i none x c.all-test.true))) (c.in_ok-is_new.ensures.added ∙ ap not (c.all.invariant.same x)) c.text_where.ensures c.in_ok-push_some.ensures
          ∙ c.all.invariant.rest;
    }
