-- Which refusals of a search the world determines.
use Rattle.std.proofs.Common.{◌≡◌, false, true≢false, refl, sym, ◌∙◌, ap}
use Rattle.just_host_record.specs.declared.entry.HostFault.TheVariants as fault
use Rattle.just_env.specs.declared.search_error.SearchError.{SearchError}
use Rattle.just_env.specs.declared.search_error.SearchError.TheVariants as search
use Rattle.just_cli_plan.specs.Loading.{tells_failure}
use Rattle.just_exec.specs.Refusals.{error_of_search}
use Rattle.just_exec.specs.declared.error.Error.{Error}
use Rattle.just_cli_plan.specs.Own.{is_fault}

-- a refusal that tells of no failed call is one of a search that tells of none
pub own_search : (f : SearchError) → is_fault (error_of_search f) ≡ false → tells_failure f ≡ false
own_search (search.FilesystemIo path (fault.Failed c)) own = absurd (true≢false own)
own_search (search.FilesystemIo path (fault.Missed m)) own = refl
own_search (search.FilesystemIo path fault.NoMemory) own = refl
own_search (search.Load path (fault.Failed c)) own = absurd (true≢false own)
own_search (search.Load path (fault.Missed m)) own = refl
own_search (search.Load path fault.NoMemory) own = refl
own_search _ own = refl

pub search_refused : (f : SearchError) (e : Error) → e ≡ error_of_search f → is_fault e ≡ false → tells_failure f ≡ false
search_refused f e is own = own_search f (ap (λ x. is_fault x) (sym is) ∙ own)
