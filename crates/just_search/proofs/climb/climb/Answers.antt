-- A folder that decides; the ceiling; and a folder that is passed.
use Rattle.std.proofs.Common.{rules, ◌≡◌, inr, ◌∷◌, sym, ◌∙◌}
use Rattle.std.proofs.lemmas.List.{append-nil}
use Rattle.just_path.specs.Ancestors.{ancestors_left}
use Rattle.just_path.specs.Path.{text_of}
use Rattle.just_search.specs.Climb.{up_to}
use Rattle.just_search.proofs.Climbs.{climbs_next, climbs_found, climbs_refused, climbs_top}
use Rattle.just_search.proofs.climb.climb.Goals as goal

pub returns-in-Ok-Some-clause-found : goal.returns-in-Ok-Some-clause-found
returns-in-Ok-Some-clause-found g c =
    let parts : ancestors_left c.folders.folders ≡ text_of c.in-Some.folder ∷ ancestors_left c.next.new.self = search rules in
    climbs_found (g.H.Host.told c.args.host.now).world (g.H.Host.told c.folders.host).world c.args.wanted.now c.args.ceiling.now (up_to c.args.ceiling.now (ancestors_left c.args.folders)) (ancestors_left c.folders.folders) (ancestors_left c.next.new.self) (text_of c.in-Some.folder) c.in-Ok-Some.found
    c.folders.invariant.world c.folders.invariant.along parts (rw c.in-Ok-Some.field-0-is at c.in-Ok-Some.ensures.looks)

pub returns-in-Err-clause-found : goal.returns-in-Err-clause-found
returns-in-Err-clause-found g c =
    let parts : ancestors_left c.folders.folders ≡ text_of c.in-Some.folder ∷ ancestors_left c.next.new.self = search rules in
    climbs_refused (g.H.Host.told c.args.host.now).world (g.H.Host.told c.folders.host).world c.args.wanted.now c.args.ceiling.now (up_to c.args.ceiling.now (ancestors_left c.args.folders)) (ancestors_left c.folders.folders) (ancestors_left c.next.new.self) (text_of c.in-Some.folder) c.in-Err.error
    c.folders.invariant.world c.folders.invariant.along parts c.in-Err.ensures.looks

pub returns-then-is_ceiling-clause-found : goal.returns-then-is_ceiling-clause-found
returns-then-is_ceiling-clause-found g c =
    let parts : ancestors_left c.folders.folders ≡ text_of c.in-Some.folder ∷ ancestors_left c.next.new.self = search rules in
    inr (climbs_top (g.H.Host.told c.args.host.now).world (g.H.Host.told c.folders.host).world c.args.wanted.now c.args.ceiling.now (up_to c.args.ceiling.now (ancestors_left c.args.folders)) (ancestors_left c.folders.folders) (ancestors_left c.next.new.self) (text_of c.in-Some.folder)
    c.folders.invariant.world c.folders.invariant.along parts (rw c.in-Ok-None.field-0-is at c.in-Ok-None.ensures.looks) (sym c.is_ceiling.ensures ∙ c.if-is_ceiling.true))

pub folders-preserved : goal.folders-preserved
folders-preserved g c =
    let parts : ancestors_left c.folders.folders ≡ text_of c.in-Some.folder ∷ ancestors_left c.next.new.self = search rules in
    record {
      along = climbs_next (g.H.Host.told c.args.host.now).world (g.H.Host.told c.folders.host).world c.args.wanted.now c.args.ceiling.now (up_to c.args.ceiling.now (ancestors_left c.args.folders)) (ancestors_left c.folders.folders) (ancestors_left c.next.new.self) (text_of c.in-Some.folder)
          c.folders.invariant.world c.folders.invariant.along parts (rw c.in-Ok-None.field-0-is at c.in-Ok-None.ensures.looks) (sym c.is_ceiling.ensures ∙ c.if-is_ceiling.false);
      entries = c.in-Ok-None.ensures.entries ∙ append-nil _ ∙ c.folders.invariant.entries;
      world = c.look_in.ensures.world ∙ c.folders.invariant.world;
    }
