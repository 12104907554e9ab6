-- A folder that decides; the ceiling; and a folder that is passed.
use Rattle.std.proofs.Common.{rules, ◌≡◌, [], ◌∷◌, ◌++◌, refl, ap, sym, ◌∙◌}
use Rattle.std.specs.Prelude.{Ok}
use Rattle.std.proofs.lemmas.List.{append-nil}
use Rattle.just_path.specs.Ancestors.{ancestors_left}
use Rattle.just_path.specs.Path.{text_of}
use Rattle.just_env.specs.Answers.{entries_of}
use Rattle.just_search.specs.Climb.{folders_from}
use Rattle.just_search.specs.Root.{FindsRoot}
use Rattle.just_search.proofs.Climbs.{marks_start, marks_next, marks_found, marks_refused, marks_top, marks_over}
use Rattle.just_search.proofs.Deciding.{answers_at, told_nothing}
use Rattle.just_search.proofs.root.root_of.Goals as goal

pub returns-in-Ok-Some-clause-root : goal.returns-in-Ok-Some-clause-root
returns-in-Ok-Some-clause-root g c =
    let parts : ancestors_left c.folders.folders ≡ text_of c.in-Some.folder ∷ ancestors_left c.next.new.self = search rules in
    marks_found (g.H.Host.told c.args.host.now).world (g.H.Host.told c.folders.host).world c.args.ceiling.now (folders_from c.args.ceiling.now (text_of c.args.start)) (ancestors_left c.folders.folders) (ancestors_left c.next.new.self) (text_of c.in-Some.folder) (text_of c.args.start) c.in-Ok-Some.root
    c.folders.invariant.world c.folders.invariant.along parts (rw c.in-Ok-Some.field-0-is at c.in-Ok-Some.ensures.looks)

pub returns-in-Err-clause-root : goal.returns-in-Err-clause-root
returns-in-Err-clause-root g c =
    let parts : ancestors_left c.folders.folders ≡ text_of c.in-Some.folder ∷ ancestors_left c.next.new.self = search rules in
    marks_refused (g.H.Host.told c.args.host.now).world (g.H.Host.told c.folders.host).world c.args.ceiling.now (folders_from c.args.ceiling.now (text_of c.args.start)) (ancestors_left c.folders.folders) (ancestors_left c.next.new.self) (text_of c.in-Some.folder) (text_of c.args.start) c.in-Err.error
    c.folders.invariant.world c.folders.invariant.along parts c.in-Err.ensures.looks

pub returns-then-is_ceiling-clause-root : goal.returns-then-is_ceiling-clause-root
returns-then-is_ceiling-clause-root g c =
    let parts : ancestors_left c.folders.folders ≡ text_of c.in-Some.folder ∷ ancestors_left c.next.new.self = search rules in
    answers_at (FindsRoot (g.H.Host.told c.args.host.now).world c.args.ceiling.now (text_of c.args.start)) (Ok (text_of c.args.start)) _
    (marks_top (g.H.Host.told c.args.host.now).world (g.H.Host.told c.folders.host).world c.args.ceiling.now (folders_from c.args.ceiling.now (text_of c.args.start)) (ancestors_left c.folders.folders) (ancestors_left c.next.new.self) (text_of c.in-Some.folder) (text_of c.args.start) (text_of c.args.start)
    c.folders.invariant.world c.folders.invariant.along parts (rw c.in-Ok-None.field-0-is at c.in-Ok-None.ensures.looks) (sym c.is_ceiling.ensures ∙ c.if-is_ceiling.true) refl) c.itself.ensures.root

pub returns-clause-root : goal.returns-clause-root
returns-clause-root g c =
    let over : ancestors_left c.folders.folders ≡ [] = search rules in
    answers_at (FindsRoot (g.H.Host.told c.args.host.now).world c.args.ceiling.now (text_of c.args.start)) (Ok (text_of c.args.start)) _
    (marks_over (g.H.Host.told c.args.host.now).world c.args.ceiling.now (folders_from c.args.ceiling.now (text_of c.args.start)) (ancestors_left c.folders.folders) (text_of c.args.start) (text_of c.args.start) c.folders.invariant.along over refl) c.itself-2.ensures.root

pub returns-in-Ok-Some-clause-entries : goal.returns-in-Ok-Some-clause-entries
returns-in-Ok-Some-clause-entries g c = c.in-Ok-Some.ensures.entries ∙ ap (λ es. es ++ []) c.folders.invariant.entries

pub returns-in-Err-clause-entries : goal.returns-in-Err-clause-entries
returns-in-Err-clause-entries g c = c.in-Err.ensures.entries ∙ ap (λ es. es ++ entries_of c.in-Err.error) c.folders.invariant.entries

pub returns-then-is_ceiling-clause-entries : goal.returns-then-is_ceiling-clause-entries
returns-then-is_ceiling-clause-entries g c = told_nothing _ _ _ c.itself.ensures.unheard (c.in-Ok-None.ensures.entries ∙ ap (λ es. es ++ []) c.folders.invariant.entries)

pub returns-clause-entries : goal.returns-clause-entries
returns-clause-entries g c = told_nothing _ _ _ c.itself-2.ensures.unheard (c.folders.invariant.entries ∙ sym (append-nil _))

pub folders-init : goal.folders-init
folders-init g c = record {
  along = marks_start (g.H.Host.told c.args.host.now).world c.args.ceiling.now (text_of c.args.start) (ancestors_left c.ancestors-folders.result) (search rules);
  entries = refl;
  world = refl;
}

pub folders-preserved : goal.folders-preserved
folders-preserved g c =
    let parts : ancestors_left c.folders.folders ≡ text_of c.in-Some.folder ∷ ancestors_left c.next.new.self = search rules in
    record {
      along = marks_next (g.H.Host.told c.args.host.now).world (g.H.Host.told c.folders.host).world c.args.ceiling.now (folders_from c.args.ceiling.now (text_of c.args.start)) (ancestors_left c.folders.folders) (ancestors_left c.next.new.self) (text_of c.in-Some.folder)
          c.folders.invariant.world c.folders.invariant.along parts (rw c.in-Ok-None.field-0-is at c.in-Ok-None.ensures.looks) (sym c.is_ceiling.ensures ∙ c.if-is_ceiling.false);
      entries = c.in-Ok-None.ensures.entries ∙ append-nil _ ∙ c.folders.invariant.entries;
      world = c.look_for_mark.ensures.world ∙ c.folders.invariant.world;
    }

pub returns-in-Ok-Some-clause-world : goal.returns-in-Ok-Some-clause-world
returns-in-Ok-Some-clause-world g c = c.look_for_mark.ensures.world ∙ c.folders.invariant.world

pub returns-in-Err-clause-world : goal.returns-in-Err-clause-world
returns-in-Err-clause-world g c = c.look_for_mark.ensures.world ∙ c.folders.invariant.world

pub returns-then-is_ceiling-clause-world : goal.returns-then-is_ceiling-clause-world
returns-then-is_ceiling-clause-world g c = c.look_for_mark.ensures.world ∙ c.folders.invariant.world
