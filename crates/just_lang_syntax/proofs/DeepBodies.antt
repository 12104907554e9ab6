-- Body lines that hold an expression that is too deep: those that the code finds so, and those that the grammar says do.
use Rattle.std.proofs.Common.{◌≡◌, ℕ, true, List, Err, codes, refl, ⊎_elim}
use Rattle.just_lang_read.specs.Place.{Place, begins, behind_text}
use Rattle.just_lang_read.specs.declared.error.ReadError.TheVariants.{Depth}
use Rattle.just_lang_read.proofs.Laws.{choose}
use Rattle.just_lang_syntax.specs.declared.ast.Expr.{Expr}
use Rattle.just_lang_syntax.specs.Bodies.{opens, is_body_line, IsFragment}
use Rattle.just_lang_syntax.specs.Deep.{IsDeepBehind, IsDeepFragment, IsDeepBodyLine}
use Rattle.just_lang_syntax.specs.Deep.IsDeepFragment.{value}
use Rattle.just_lang_syntax.specs.Deep.IsDeepBodyLine.{line}
use Rattle.just_lang_syntax.specs.ItemReaders as item
use Rattle.just_lang_read.specs.Tokens as tokens
use Rattle.just_lang_syntax.proofs.Tokens.{token_ok, token_again}
use Rattle.just_lang_syntax.proofs.Loops.{fragments_shorter}
use Rattle.just_lang_syntax.proofs.BodySound.{fragment_ok}
use Rattle.just_lang_syntax.proofs.BodyComplete.{opens_goes_on, fragment_begins, fragment_again}
use Rattle.just_lang_syntax.proofs.DeepChains.{shallow_ok, shallow_refuse, shallow_if, shallow_gives, depth_behind, depth_first, many_deep_ok, many_deep_again}
use Rattle.just_lang_syntax.proofs.DeepNone.{token_shallow, text_shallow, newline_shallow}
use Rattle.just_lang_syntax.proofs.DeepExpr.{expr_deep_ok, expr_deep_again}

-- closing braces are not too deep
closed_shallow : (x : Expr) (p : Place) → item.closed x p ≡ Err Depth → ⊥
closed_shallow x p h = shallow_if (begins (codes "}}") p) _ _ (λ k. shallow_ok _ k) (λ k. shallow_refuse p k) h

-- a fragment that the code finds too deep is
fragment_deep_ok : (p : Place) → item.fragment_at p ≡ Err Depth → IsDeepFragment p
unfolding item.fragment_at
fragment_deep_ok p h =
    ⊎_elim
    (λ (s : _).
    let (u, m, t, k) = depth_behind (tokens.token (codes "{{") p) _ (token_shallow (codes "{{") p) s.1 in
    value m s.0 (token_ok (codes "{{") p u m t) (expr_deep_ok m (depth_first (item.expr m) _ (λ x n j. closed_shallow x n j) k)))
    (λ (s : _). absurd (shallow_gives (item.text p) _ (text_shallow p) s.1))
    (choose (opens p) _ _ (Err Depth) h)

-- fragments that the code finds too deep are
fragments_deep_ok : (p : Place) → item.fragments p ≡ Err Depth → IsDeepBehind IsFragment IsDeepFragment p
unfolding item.fragments
fragments_deep_ok p h =
    many_deep_ok item.line_goes_on item.fragment_at IsFragment IsDeepFragment (λ a b x c k. fragment_ok a b x c k) (λ a c k. fragment_deep_ok a k) p h

-- a body line that the code finds too deep is
pub body_line_deep_ok : (indentation : List ℕ) (p : Place) → is_body_line indentation p ≡ true → item.body_line indentation p ≡ Err Depth
    → IsDeepBodyLine indentation p
unfolding item.body_line
body_line_deep_ok indentation p b h =
    line b (fragments_deep_ok (behind_text indentation p)
    (depth_first (item.fragments (behind_text indentation p)) _ (λ fs m j. shallow_gives (tokens.newline m) _ (newline_shallow m) j) h))

-- a fragment that is too deep is found so
fragment_deep_again : (p : Place) → IsDeepFragment p → (item.line_goes_on p ≡ true) × (item.fragment_at p ≡ Err Depth)
unfolding item.fragment_at
fragment_deep_again p (value m o t d) = (opens_goes_on p o, rw (o, token_again (codes "{{") p m t, expr_deep_again m d) refl)

-- fragments that are too deep are found so
fragments_deep_again : (p : Place) → IsDeepBehind IsFragment IsDeepFragment p → item.fragments p ≡ Err Depth
unfolding item.fragments
fragments_deep_again p d =
    many_deep_again item.line_goes_on item.fragment_at fragments_shorter IsFragment IsDeepFragment (λ a b x i. (fragment_begins a b x i, fragment_again a b x i))
    fragment_deep_again p d

-- a body line that is too deep is found so
pub body_line_deep_again : (indentation : List ℕ) (p : Place) → IsDeepBodyLine indentation p
    → (is_body_line indentation p ≡ true) × (item.body_line indentation p ≡ Err Depth)
unfolding item.body_line
body_line_deep_again indentation p (line b d) = (b, rw (fragments_deep_again (behind_text indentation p) d) refl)
