-- What a search for a justfile answers and leaves, behind whatever stood in the record.
use Rattle.std.proofs.Common.{◌≡◌, ◌++◌, ◌⊎◌, inl, inr, List, [], Result, Ok, Err, refl, sym, ◌∙◌, ap, subst, append_assoc, append-nil}
use Rattle.std.proofs.lemmas.List.{append_cancel_left}
use Rattle.just_host_record.specs.World.{Moment}
use Rattle.just_host_record.specs.declared.entry.Entry.{Entry}
use Rattle.just_config.specs.declared.config.Config.{Config}
use Rattle.just_config.specs.declared.search_config.SearchConfig.{SearchConfig}
use Rattle.just_config.specs.declared.search_config.SearchConfig.TheVariants as search
use Rattle.just_env.specs.declared.search_error.SearchError.{SearchError}
use Rattle.just_env.specs.declared.search_error.SearchError.TheVariants as search_error
use Rattle.just_env.specs.Answers.{entries_of as search_entries, told_entries}
use Rattle.just_search.specs.declared.location.Location.{Location}
use Rattle.just_search.specs.Finding.{FindsBy, Finds}
use Rattle.just_search.specs.Record.{FindGains}
use Rattle.just_exec.specs.Refusals.{error_of_search}
use Rattle.just_exec.specs.declared.error.Error.{Error}
use Rattle.just_cli_plan.specs.Own.{OrMemory}
use Rattle.just_cli_children.specs.Faults.{entries_of}
use Rattle.just_cli.specs.Request.{ArePassed}
use Rattle.just_cli.specs.Words.{FindsLocation, told_with}
use Rattle.just_cli.proofs.Loading.{same_entries}
use Rattle.just_cli.proofs.PlainSearch.{located_error}

-- what is left: the entries of listings, and behind them that of the call for which the search is refused
abbrev Left : SearchConfig → List Entry → List Entry → Result Location SearchError → Type 0
Left setting old new r = (listings : List Entry) × (new ≡ old ++ (listings ++ told_entries r)) × ArePassed (setting ≡ search.GlobalJustfile) listings

left : (setting : SearchConfig) (old new : List Entry) (r : Result Location SearchError) → FindGains setting old new r → Left setting old new r
left search.GlobalJustfile old new r gains =
    let more = gains.1.0 in
    (more, gains.2 ∙ (ap (λ es. es ++ told_entries r) gains.1.1 ∙ append_assoc old more (told_entries r)), inr (refl, gains.1.2))
left search.FromInvocationDirectory old new r gains = ([], gains, inl refl)
left (search.FromSearchDirectory folder) old new r gains = ([], gains, inl refl)
left (search.StandardInput folder) old new r gains = ([], gains, inl refl)
left (search.WithJustfile file) old new r gains = ([], gains, inl refl)
left (search.WithJustfileAndWorkingDirectory file folder) old new r gains = ([], gains, inl refl)

module _ (before after : Moment) (config : Config) where
  -- the same is found behind no record
  behind_none : (setting : SearchConfig) (listings : List Entry) (r : Result Location SearchError) → after.entries ≡ before.entries ++ (listings ++ told_entries r)
      → FindsBy before after config setting r → FindsBy (told_with before.world []) (told_with before.world (listings ++ told_entries r)) config setting r
  behind_none search.GlobalJustfile listings r is finds = (finds.0, append_cancel_left before.entries (listings ++ told_entries r) finds.0 (sym is ∙ finds.1), finds.2)
  behind_none search.FromInvocationDirectory listings r is finds = finds
  behind_none (search.FromSearchDirectory folder) listings r is finds = finds
  behind_none (search.StandardInput folder) listings r is finds = finds
  behind_none (search.WithJustfile file) listings r is finds = finds
  behind_none (search.WithJustfileAndWorkingDirectory file folder) listings r is finds = finds

  -- a justfile is found
  pub is_located : (l : Location) → Finds before after config (Ok l) → FindGains {A = Location} config.search_config before.entries after.entries (Ok l)
      → (listings : List Entry) × ArePassed (config.search_config ≡ search.GlobalJustfile) listings × (after.entries ≡ before.entries ++ listings) × FindsLocation before.world listings config (Ok l)
  is_located l finds gains =
      let way = left config.search_config before.entries after.entries (Ok l) gains in (
        way.0,
        way.2,
        way.1 ∙ ap (λ es. before.entries ++ es) (append-nil way.0),
        subst (λ (es : List Entry). Finds (told_with before.world []) (told_with before.world es) config (Ok l)) (append-nil way.0) (behind_none config.search_config way.0 (Ok l) way.1 finds),
      )

  -- why none is found, or that memory is wanting
  why : (listings : List Entry) (f : SearchError) (e : Error) → after.entries ≡ before.entries ++ (listings ++ search_entries f) → (f ≡ search_error.NoMemory) ⊎ Finds before after config (Err f) → e ≡ error_of_search f
      → OrMemory (λ x. FindsLocation before.world listings config (Err x)) e
  why listings f e grew (inl wants) is = inl (is ∙ ap (λ g. error_of_search g) wants)
  why listings f e grew (inr finds) is = inr (f, behind_none config.search_config listings (Err f) grew finds, is)

  pub is_not_located : (f : SearchError) (e : Error) → (f ≡ search_error.NoMemory) ⊎ Finds before after config (Err f) → FindGains {A = Location} config.search_config before.entries after.entries (Err f) → e ≡ error_of_search f
      → (listings : List Entry) × ArePassed (config.search_config ≡ search.GlobalJustfile) listings × (after.entries ≡ before.entries ++ (listings ++ entries_of e)) × OrMemory (λ x. FindsLocation before.world listings config (Err x)) e
  is_not_located f e finds gains is =
      let way = left config.search_config before.entries after.entries (Err f) gains in (
        way.0,
        way.2,
        way.1 ∙ ap (λ es. before.entries ++ (way.0 ++ es)) (sym (ap (λ x. entries_of x) is ∙ same_entries f (located_error before after config f finds))),
        why way.0 f e way.1 finds is,
      )
