-- The editor, and the fault's text.
use Rattle.std.proofs.Common.{ℕ, List, [], ◌∷◌, ◌++◌, sym, ap, subst, append_assoc}
use Rattle.std.specs.Prelude.{codes}
use Rattle.std.specs.Fmt.{HasWritten}
use Rattle.just_exec.specs.Parts.{fault_text}
use Rattle.just_exec.proofs.children.tell_editor.Goals as goal

pub returns : goal.returns
returns g c = λ plain written.
    let text = rw c.fault_text.ensures at (rw c.as_str-editor.ensures at c.write.ensures.writes plain written) in
    let same = ap (λ (t : List ℕ). codes "error: editor `" ++ t) (sym (append_assoc c.args.editor.now (96 ∷ []) (codes " invocation failed: " ++ fault_text c.args.io))) in
    subst (λ (t : List ℕ). HasWritten g.W.Write.write_str_gives c.args.f.now t c.write.new.self) same text
