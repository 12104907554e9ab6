-- What is left follows what was added.
use Rattle.std.proofs.Common.{◌≡◌, ◌++◌, length, string_bytes}
use Rattle.std.specs.List.{flat_map}
use denote.Shadow.{shadow}
use denote.Text.{Utf8}
use Rattle.just_config_words.specs.Cuts.{parts}
use Rattle.just_print_entries.specs.Entries.{doc_line}
use Rattle.just_print_entries.proofs.entry.push_doc_above.Given as goal

abbrev pub invariant-lines : goal.invariant-lines
invariant-lines l =
    record {
      utf8 : shadow (Utf8 l.rest);
      same : string_bytes l.out ++ flat_map (doc_line l.indent) (parts 10 l.rest) ≡ string_bytes l.initial.out ++ flat_map (doc_line l.indent) (parts 10 l.doc);
    }

abbrev pub decreases-lines : goal.decreases-lines
decreases-lines l = length l.rest
