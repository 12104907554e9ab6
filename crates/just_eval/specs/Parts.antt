-- Lines as they are read: parts that are borrowed from the tree.
use Rattle.std.specs.Prelude.{ℕ, Bool, true, false, if◌then◌else◌, List, ◌++◌, map, Option, Some, None, Ok}
use Rattle.std.specs.Option.{option_map}
use Rattle.just_lang_syntax.specs.declared.ast.Fragment.{Fragment}
use Rattle.just_lang_syntax.specs.declared.ast.Fragment.TheVariants as fragment
use Rattle.just_lang_syntax.specs.declared.ast.Line.{Line}
use Rattle.just_eval_closure.specs.Answers.{Answer, and_then}
use Rattle.just_eval.specs.declared.part.Part.{Part}
use Rattle.just_eval.specs.declared.part.Part.TheVariants as part
use Rattle.just_eval.specs.declared.part.Joined.{Joined}
use Rattle.just_eval.specs.declared.continuation.Gathered.{Gathered}
use Rattle.just_eval.specs.Bodies.{without_end, without_front, without_mark, without_indentation, with_next}

abbrev pub fragment_of : Part → Fragment
fragment_of (part.Text t) = fragment.Text t.now
fragment_of (part.Value x) = fragment.Value x.now

abbrev pub fragments_of : List Part → List Fragment
fragments_of parts = map fragment_of parts

abbrev pub line_of : Joined → Line
line_of j = record { number = j.number; fragments = fragments_of j.parts.items }

-- a fragment without what goes at the front and at the end of a line, where it stands there
abbrev pub front_piece : Bool → Fragment → Fragment
front_piece at_front f = if at_front then without_front f else f

abbrev pub end_piece : Bool → Fragment → Fragment
end_piece at_end f = if at_end then without_end f else f

-- the fragments of a line without the `\` at their end and, where it stands behind another one, without its indentation
abbrev pub pieces : Bool → List Fragment → List Fragment
pieces behind fs = if behind then without_indentation (without_mark fs) else without_mark fs

-- a line, behind the one that goes on in it
abbrev pub behind_unfinished : Option Line → Line → Line
behind_unfinished None l = record { number = l.number; fragments = pieces false l.fragments }
behind_unfinished (Some o) l = record { number = o.number; fragments = o.fragments ++ pieces true l.fragments }

-- these lines behind one that goes on, where there is one
abbrev pub rejoined : Option Line → List Line → List Line
rejoined None ls = ls
rejoined (Some o) ls = with_next o ls

-- the lines that were gathered, with those behind them
abbrev pub with_rest : Gathered → List Line → List Line
with_rest g ls = map line_of g.whole.items ++ rejoined (option_map line_of g.unfinished) ls

-- a text with that of an answer behind it
abbrev pub put_behind : List ℕ → Answer (List ℕ) → Answer (List ℕ)
put_behind t rest = and_then rest (λ u. Ok (t ++ u))
