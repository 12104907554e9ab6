-- A piece follows those so far, up to the last one.
use Rattle.std.proofs.Common.{rules, ℕ, List, [], ◌∷◌, ◌++◌, ◌≡◌, sym, subst}
use Rattle.std.specs.Str.Iter.{split_whitespace_rest}
use Rattle.just_config.proofs.Pieces.{Cut, found_next, found_all}
use Rattle.just_config.proofs.module_path.pieces.Goals as goal

pub pieces-preserved : goal.pieces-preserved
pieces-preserved c =
    let more : c.add_name.new.names.items ≡ c.pieces.pieces.items ++ (c.in-Some.piece.now ∷ []) = search rules in
    subst (λ (ps : List (List ℕ)). Cut c.args.text.now (split_whitespace_rest c.next.new.self) ps) (sym more) (found_next c.pieces.invariant c.in-Some.ensures.steps)

pub returns : goal.returns
returns c = found_all c.pieces.invariant c.in-None.ensures.steps.1
