-- The text of what is left follows that so far.
use Rattle.std.proofs.Common.{◌≡◌, drop, string_bytes}
use Rattle.just_eval_closure.specs.Entries.{located_of}
use Rattle.just_eval.specs.Bodies.{text_of_fragments}
use Rattle.just_eval.specs.Parts.{fragments_of, put_behind}
use Rattle.just_eval.proofs.text.text_behind.Given as goal

abbrev pub invariant-parts : goal.invariant-parts
invariant-parts l =
    put_behind (string_bytes l.text) (text_of_fragments l.scopes (located_of l.from) l.values (fragments_of (drop l.part-index l.parts))) ≡ put_behind l.front (text_of_fragments l.scopes (located_of l.from) l.values (fragments_of l.parts))
