-- Each name that stands behind an equal one is among those that were seen.
use Rattle.std.proofs.Common.{ℕ, List, [], get_or, take, map, not, ◌∙◌, sym, ap}
use Rattle.just_lang_spots.specs.declared.repeated.Named.{Named}
use Rattle.just_lang_spots.specs.Repeated.{is_among}
use Rattle.just_lang_spots.proofs.Seen.{sees_more, names_more, repeated_step, text_of_name}
use Rattle.just_lang_spots.proofs.repeated.first_repeated.Goals as goal

abbrev none : Named
none = record { name = record { ref_ptr = (0, 0); now = [] }; spot = record { file = 0; line = 0; column = 0 } }

pub names-preserved : goal.names-preserved
names-preserved c =
    let key = (get_or c.args.names.now c.names.name-index none).name in
    record {
      same = λ q.
          sees_more q key c.names.seen c.insert.new.self (map text_of_name (take c.names.name-index c.args.names.now)) c.in_ok-is_new.ensures.updates (c.names.invariant.same q)
          ∙ ap (λ (ns : List (List ℕ)). is_among q.now ns) (sym (names_more text_of_name c.args.names.now c.names.name-index none c.names-test.true));
      rest =
          repeated_step c.names.found c.spot_where-in-names.result c.earlier-found.result c.args.names.now c.names.name-index none c.in_ok-is_new.is_new c.names-test.true
          (c.in_ok-is_new.ensures.added ∙ ap not (c.names.invariant.same key)) c.spot_where-in-names.ensures c.earlier-found.ensures ∙ c.names.invariant.rest;
    }
