-- Over a told world a new justfile is written at one path at most.
use Rattle.std.proofs.Common.{◌≡◌, ℕ, true≢false, List, Some, Result, Ok, Err, inl, inr, sym, ap, ◌∙◌, subst}
use Rattle.just_host_record.specs.World.{World}
use Rattle.just_config.specs.declared.config.Config.{Config}
use Rattle.just_config.specs.declared.search_config.SearchConfig.{SearchConfig}
use Rattle.just_config.specs.declared.search_config.SearchConfig.TheVariants as search
use Rattle.just_env.specs.declared.search_error.SearchError.{SearchError}
use Rattle.just_cli_plan.specs.Loading.{IsOwn as IsOwnSearch, GivesOwn as GivesOwnSearch}
use Rattle.just_cli_plan.proofs.Answers.{answered_or_refused, same_answer}
use Rattle.just_search.specs.Finding.{given_path}
use Rattle.just_search.specs.declared.search_result.Search.{Search}
use Rattle.just_search.specs.Inits.{in_root, InitsIn, InitsBy}
use Rattle.just_exec.specs.Refusals.{error_of_search}
use Rattle.just_cli_plan.specs.Own.{is_fault}
use Rattle.just_cli_plan.proofs.Steps.{GivesOwn, then_own}
use Rattle.just_cli.specs.NewPath.{FindsPath, IsFree, FindsFree}
use Rattle.just_cli.proofs.OneLocation.{finds_root}
use Rattle.just_cli.proofs.OneSearch.{search_refused}

-- ---- the search

module _ (w : World) (config : Config) where
  -- what a root is written in is determined where the root is
  own_root : (root : Result (List ℕ) SearchError) → IsOwnSearch (in_root config root) → IsOwnSearch root
  own_root (Ok x) own = tt
  own_root (Err e) own = own

  root_of : (root : Result (List ℕ) SearchError) (r : Result Search SearchError) → r ≡ in_root config root → IsOwnSearch r → IsOwnSearch root
  root_of root r is own = own_root root (subst (λ (z : Result Search SearchError). IsOwnSearch z) is own)

  rooted_one : (start : List ℕ) → GivesOwnSearch (InitsIn (Some w) config start)
  rooted_one start r s (root, a, is) own (base, b, at) other =
      is ∙ (ap (λ z. in_root config z) (finds_root w config.ceiling start root base a (root_of root r is own) b (root_of base s at other)) ∙ sym at)

  inits_one : (setting : SearchConfig) → GivesOwnSearch (InitsBy (Some w) config setting)
  inits_one search.FromInvocationDirectory r s p own q other = rooted_one config.invocation_directory r s p own q other
  inits_one (search.FromSearchDirectory folder) r s p own q other = rooted_one (given_path config folder) r s p own q other
  inits_one search.GlobalJustfile r s p own q other = p ∙ sym q
  inits_one (search.StandardInput folder) r s p own q other = p ∙ sym q
  inits_one (search.WithJustfile file) r s p own q other = p ∙ sym q
  inits_one (search.WithJustfileAndWorkingDirectory file folder) r s p own q other = p ∙ sym q

-- ---- the steps

module _ (w : World) where
  path_own : GivesOwn (FindsPath (Some w))
  path_own k (Ok a) (Ok b) (s, p, is) m (t, q, at) n =
      ap (λ x. Ok x) (is ∙ ap (λ (z : Search). z.justfile) (same_answer s t (inits_one w k k.search_config (Ok s) (Ok t) p tt q tt)) ∙ sym at)
  path_own k (Ok a) (Err e) (s, p, is) m (g, q, at) n = absurd (answered_or_refused s g (inits_one w k k.search_config (Ok s) (Err g) p tt q (search_refused g e at n.0)))
  path_own k (Err d) (Ok b) (f, p, is) m (t, q, at) n = absurd (answered_or_refused t f (inits_one w k k.search_config (Ok t) (Err f) q tt p (search_refused f d is m.0)))
  path_own k (Err d) (Err e) (f, p, is) m (g, q, at) n =
      let same = inits_one w k k.search_config (Err f) (Err g) p (search_refused f d is m.0) q (search_refused g e at n.0) in
      let refusals : f ≡ g = cc in
      ap (λ x. Err x) (is ∙ ap (λ x. error_of_search x) refusals ∙ sym at)

  free_own : GivesOwn (IsFree (Some w))
  free_own k (Ok a) (Ok b) p m q n = ap (λ x. Ok x) (p.0 ∙ sym q.0)
  free_own k (Ok a) (Err e) p m (inl there) n = absurd (true≢false (sym there.1 ∙ p.1))
  free_own k (Ok a) (Err e) p m (inr failed) n = absurd (true≢false (sym (ap (λ x. is_fault x) failed) ∙ n.0))
  free_own k (Err d) (Ok b) (inl there) m q n = absurd (true≢false (sym there.1 ∙ q.1))
  free_own k (Err d) (Ok b) (inr failed) m q n = absurd (true≢false (sym (ap (λ x. is_fault x) failed) ∙ m.0))
  free_own k (Err d) (Err e) (inl there) m (inl also) n = ap (λ x. Err x) (there.0 ∙ sym also.0)
  free_own k (Err d) (Err e) (inl there) m (inr failed) n = absurd (true≢false (sym (ap (λ x. is_fault x) failed) ∙ n.0))
  free_own k (Err d) (Err e) (inr failed) m q n = absurd (true≢false (sym (ap (λ x. is_fault x) failed) ∙ m.0))

  pub new_own : GivesOwn (FindsFree (Some w))
  new_own = then_own (FindsPath (Some w)) (IsFree (Some w)) path_own free_own
