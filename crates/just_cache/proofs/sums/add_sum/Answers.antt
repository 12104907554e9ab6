-- A name with its sum, at the path under the folder; or its refusal.
use Rattle.std.proofs.Common.{◌≡◌, ◌∷◌, ◌++◌, [], arith}
use Rattle.std.proofs.lemmas.Grind.{common_steps}
use Rattle.just_path.specs.Path.{pushed, text_of}
use Rattle.just_cache.proofs.Steps.{sum_added, none_added}
use Rattle.just_cache.proofs.sums.add_sum.Goals as goal

pub returns-clause-added : goal.returns-clause-added
returns-clause-added g c =
    let at : text_of c.as_path.result ≡ pushed (text_of c.args.folder) c.args.name.now = first_of (cc, grind (arith, common_steps)) in
    let more : c.push_reserved.new.self.items ≡ c.args.given.now.items ++ (c.args.name.now, c.in-Ok.sum) ∷ [] = first_of (cc, grind (arith, common_steps)) in
    sum_added (g.H.Host.told c.args.host.now) _ (text_of c.args.folder) c.args.name.now (text_of c.as_path.result) c.args.given.now.items c.push_reserved.new.self.items c.in-Ok.sum at c.in-Ok.ensures.sum more

pub returns-in-Err-clause-added : goal.returns-in-Err-clause-added
returns-in-Err-clause-added g c =
    let at : text_of c.as_path.result ≡ pushed (text_of c.args.folder) c.args.name.now = first_of (cc, grind (arith, common_steps)) in
    none_added (g.H.Host.told c.args.host.now) _ (text_of c.args.folder) c.args.name.now (text_of c.as_path.result) c.args.given.now.items c.args.given.now.items c.in-Err.refused at c.in-Err.ensures.sum
