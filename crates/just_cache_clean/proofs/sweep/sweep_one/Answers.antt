-- The file of a name is an entry that can't be read, stays, can't be removed, or goes.
use Rattle.std.proofs.Common.{◌≡◌, ℕ, List, Bool, true, false, Ok, subst, arith}
use Rattle.std.proofs.lemmas.Grind.{common_steps}
use Rattle.just_path.specs.Path.{pushed, text_of}
use Rattle.just_cache_clean.specs.EntryTexts.{IsEntryName}
use Rattle.just_cache_clean.specs.Kept.{given, JudgesOr}
use Rattle.just_cache_clean.proofs.Sweeping.{swept_unread, swept_stays, swept_left, swept_goes}
use Rattle.just_cache_clean.proofs.sweep.sweep_one.Goals as goal

pub returns-in-Err-clause-swept : goal.returns-in-Err-clause-swept
returns-in-Err-clause-swept g c =
    let named : IsEntryName c.in-Some.digest.now c.args.name.now = subst (λ (n : List ℕ). IsEntryName c.in-Some.digest.now n) c.as_str.ensures c.in-Some.ensures in
    let at : text_of c.as_path-at.result ≡ pushed (text_of c.args.wanted.folder) c.args.name.now = first_of (cc, grind (arith, common_steps)) in
    swept_unread (text_of c.args.wanted.folder) (given c.args.wanted.prefix) c.args.name.now c.in-Some.digest.now (text_of c.as_path-at.result) (g.H.Host.told c.args.host.now) (g.H.Host.told c.goes.new.host) c.in-Err.refused named at
    c.in-Err.ensures.judged

pub returns-then-not-gone-clause-swept : goal.returns-then-not-gone-clause-swept
returns-then-not-gone-clause-swept g c =
    let folder = text_of c.args.wanted.folder in
    let prefix = given c.args.wanted.prefix in
    let path = text_of c.as_path-at.result in
    let named : IsEntryName c.in-Some.digest.now c.args.name.now = subst (λ (n : List ℕ). IsEntryName c.in-Some.digest.now n) c.as_str.ensures c.in-Some.ensures in
    let at : path ≡ pushed folder c.args.name.now = first_of (cc, grind (arith, common_steps)) in
    let no : c.in-Ok.gone ≡ false = first_of (cc, grind (arith, common_steps)) in
    swept_stays folder prefix c.args.name.now c.in-Some.digest.now path (g.H.Host.told c.args.host.now) (g.H.Host.told c.goes.new.host) named at
    (subst (λ (b : Bool). JudgesOr prefix c.in-Some.digest.now path (g.H.Host.told c.args.host.now) (g.H.Host.told c.goes.new.host) (Ok b)) no c.in-Ok.ensures.judged)

pub returns-in-Ok-remove-clause-swept : goal.returns-in-Ok-remove-clause-swept
returns-in-Ok-remove-clause-swept g c =
    let folder = text_of c.args.wanted.folder in
    let prefix = given c.args.wanted.prefix in
    let path = text_of c.as_path-at.result in
    let named : IsEntryName c.in-Some.digest.now c.args.name.now = subst (λ (n : List ℕ). IsEntryName c.in-Some.digest.now n) c.as_str.ensures c.in-Some.ensures in
    let at : path ≡ pushed folder c.args.name.now = first_of (cc, grind (arith, common_steps)) in
    let yes : c.in-Ok.gone ≡ true = first_of (cc, grind (arith, common_steps)) in
    swept_goes folder prefix c.args.name.now c.in-Some.digest.now path (g.H.Host.told c.args.host.now) (g.H.Host.told c.goes.new.host) (g.H.Host.told c.remove.new.host) named at
    (subst (λ (b : Bool). JudgesOr prefix c.in-Some.digest.now path (g.H.Host.told c.args.host.now) (g.H.Host.told c.goes.new.host) (Ok b)) yes c.in-Ok.ensures.judged) c.in-Ok-remove.ensures.removed

pub returns-clause-swept : goal.returns-clause-swept
returns-clause-swept g c =
    let folder = text_of c.args.wanted.folder in
    let prefix = given c.args.wanted.prefix in
    let path = text_of c.as_path-at.result in
    let named : IsEntryName c.in-Some.digest.now c.args.name.now = subst (λ (n : List ℕ). IsEntryName c.in-Some.digest.now n) c.as_str.ensures c.in-Some.ensures in
    let at : path ≡ pushed folder c.args.name.now = first_of (cc, grind (arith, common_steps)) in
    let yes : c.in-Ok.gone ≡ true = first_of (cc, grind (arith, common_steps)) in
    swept_left folder prefix c.args.name.now c.in-Some.digest.now path (g.H.Host.told c.args.host.now) (g.H.Host.told c.goes.new.host) (g.H.Host.told c.remove.new.host) c.in-Err-remove.refused named at
    (subst (λ (b : Bool). JudgesOr prefix c.in-Some.digest.now path (g.H.Host.told c.args.host.now) (g.H.Host.told c.goes.new.host) (Ok b)) yes c.in-Ok.ensures.judged) c.in-Err-remove.ensures.removed
