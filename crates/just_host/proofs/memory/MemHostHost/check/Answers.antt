-- A check asks of the first output that isn't found why it isn't.
use Rattle.std.proofs.Common.{◌≡◌, true, length, Some, sym, ap, subst, ◌∙◌}
use Rattle.std.specs.List.{Contains}
use Rattle.just_path.specs.Path.{text_of}
use Rattle.just_path.specs.View.{meta_told}
use Rattle.just_host_record.specs.declared.entry.Call.TheVariants as call
use Rattle.just_host_record.specs.Looks.{first_missing, absent_or, told_check}
use Rattle.just_host_record.specs.World.{view_of}
use Rattle.just_host.specs.Mem.{record_of, world_of}
use Rattle.just_host_record.specs.Logs.{entries_of}
use Rattle.just_host.proofs.Checks.{missing_inside, absent_within, check_told, missing_contained, failed_check, refused_check, refused_shows}
use Rattle.just_host.proofs.memory.MemHostHost.check.Goals as goal

pub returns-then-strike-clause-entries : goal.returns-then-strike-clause-entries
returns-then-strike-clause-entries c = failed_check (record_of c.args.self.now) (entries_of c.fail.new.log) c.args.outputs.now call.Check c.fail.result c.fail.ensures.kind c.fail.ensures.entries

pub bounds-outputs-number : goal.bounds-outputs-number
bounds-outputs-number c =
    let first : first_missing (view_of (world_of c.args.self.now)) c.args.outputs.now ≡ Some c.in-Some.number = sym c.in_ok-number.ensures ∙ c.in-Some.is in
    missing_inside (view_of (world_of c.args.self.now)) c.args.outputs.now c.in-Some.number first

pub returns-in_ok-note-in-Ok-clause-within : goal.returns-in_ok-note-in-Ok-clause-within
returns-in_ok-note-in-Ok-clause-within c =
    let first : first_missing (view_of (world_of c.args.self.now)) c.args.outputs.now ≡ Some c.in-Some.number = sym c.in_ok-number.ensures ∙ c.in-Some.is in
    let inside = missing_inside (view_of (world_of c.args.self.now)) c.args.outputs.now c.in-Some.number first in
    absent_within c.in-Some.number (length c.args.outputs.now) (meta_told (text_of c.as_path-output.result) true (view_of (world_of c.args.self.now))) c.in-Ok.first inside c.in-Ok.ensures

pub returns-in_ok-note-in-Ok-clause-told : goal.returns-in_ok-note-in-Ok-clause-told
returns-in_ok-note-in-Ok-clause-told c =
    let first : first_missing (view_of (world_of c.args.self.now)) c.args.outputs.now ≡ Some c.in-Some.number = sym c.in_ok-number.ensures ∙ c.in-Some.is in
    let told : told_check (world_of c.args.self.now) c.args.outputs.now ≡ absent_or c.in-Some.number (meta_told (text_of c.as_path-output.result) true (view_of (world_of c.args.self.now))) =
    check_told (view_of (world_of c.args.self.now)) c.args.outputs.now c.in-Some.number c.index-outputs-number.result first c.index-outputs-number.is
    ∙ ap (λ p. absent_or c.in-Some.number (meta_told p true (view_of (world_of c.args.self.now)))) (sym c.as_path-output.ensures) in
    told ∙ c.in-Ok.ensures

pub returns-in-Err-clause-entries : goal.returns-in-Err-clause-entries
returns-in-Err-clause-entries c =
    let first : first_missing (view_of (world_of c.args.self.now)) c.args.outputs.now ≡ Some c.in-Some.number = sym c.in_ok-number.ensures ∙ c.in-Some.is in
    let contained : Contains c.args.outputs.now (text_of c.as_path-output.result) =
    subst (λ p. Contains c.args.outputs.now p) (sym c.as_path-output.ensures) (missing_contained (view_of (world_of c.args.self.now)) c.args.outputs.now c.in-Some.number c.index-outputs-number.result first c.index-outputs-number.is) in
    refused_check (record_of c.args.self.now) (entries_of c.refuse_call.new.log) c.args.outputs.now (text_of c.as_path-output.result) c.refuse_call.result contained c.refuse_call.ensures.entries

pub returns-in-Err-clause-told : goal.returns-in-Err-clause-told
returns-in-Err-clause-told c =
    let first : first_missing (view_of (world_of c.args.self.now)) c.args.outputs.now ≡ Some c.in-Some.number = sym c.in_ok-number.ensures ∙ c.in-Some.is in
    let told : told_check (world_of c.args.self.now) c.args.outputs.now ≡ absent_or c.in-Some.number (meta_told (text_of c.as_path-output.result) true (view_of (world_of c.args.self.now))) =
    check_told (view_of (world_of c.args.self.now)) c.args.outputs.now c.in-Some.number c.index-outputs-number.result first c.index-outputs-number.is
    ∙ ap (λ p. absent_or c.in-Some.number (meta_told p true (view_of (world_of c.args.self.now)))) (sym c.as_path-output.ensures) in
    refused_shows (λ o. o) (absent_or c.in-Some.number (meta_told (text_of c.as_path-output.result) true (view_of (world_of c.args.self.now)))) (told_check (world_of c.args.self.now) c.args.outputs.now) c.in-Err.fault c.refuse_call.result told c.in-Err.ensures c.refuse_call.ensures.kind
