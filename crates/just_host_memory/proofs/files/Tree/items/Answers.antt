-- The items behind a folder's front are those of the folder.
use Rattle.std.proofs.Common.{◌≡◌, [], ap, ap₂, subst, ◌∙◌, map}
use Rattle.std.proofs.lemmas.Result.{IfOk-weaker}
use Rattle.just_path.specs.Path.{pushed}
use Rattle.just_host_memory.specs.Files.{by_text, files_in}
use Rattle.just_host_memory.specs.Trees.{files_of}
use Rattle.just_host_files.specs.Items.{AreItemsBehind}
use Rattle.just_host_memory.proofs.Behind.{items_seen}
use Rattle.just_host_memory.proofs.files.Tree.items.Goals as goal

pub returns-clause-items : goal.returns-clause-items
returns-clause-items c =
    let front : c.as_str.result.now ≡ pushed c.args.folder.now.path [] = c.as_str.ensures ∙ c.in_ok-front.ensures.path ∙ ap₂ pushed c.as_path.ensures.text c.new.ensures in
    IfOk-weaker c.items_of.result _ _
    (λ v h. items_seen c.args.folder.now.path (files_of c.args.self.now) (map by_text c.as_slice.result.now) v.items (ap files_in c.as_slice.ensures.value) (subst (λ f. AreItemsBehind f (map by_text c.as_slice.result.now) v.items) front h))
    c.items_of.ensures.items
