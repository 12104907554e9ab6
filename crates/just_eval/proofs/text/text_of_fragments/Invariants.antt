-- The text of what is left follows that so far.
use Rattle.std.proofs.Common.{◌≡◌, drop, string_bytes}
use Rattle.just_eval_closure.specs.Entries.{located_of}
use Rattle.just_eval.specs.Bodies.{text_of_fragments}
use Rattle.just_eval.specs.Parts.{put_behind}
use Rattle.just_eval.proofs.text.text_of_fragments.Given as goal

abbrev pub invariant-fragments : goal.invariant-fragments
invariant-fragments l =
    put_behind (string_bytes l.text) (text_of_fragments l.scopes (located_of l.from) l.values (drop l.fragment-index l.fragments)) ≡ text_of_fragments l.scopes (located_of l.from) l.values l.fragments
