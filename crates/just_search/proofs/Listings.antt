-- What a record gains by listings.
use Rattle.std.proofs.Common.{◌≡◌, ◌⊎◌, inl, inr, true, List, [], ◌∷◌, ◌++◌, refl, ap, sym, ◌∙◌, subst, append_assoc}
use Rattle.std.specs.Prelude.{ℕ, Option, Err}
use Rattle.std.specs.List.{AllByRecursion}
use Rattle.std.proofs.lemmas.List.{append-nil}
use Rattle.just_host_record.specs.declared.entry.Entry.{Entry}
use Rattle.just_host_record.specs.declared.entry.HostFault.{HostFault}
use Rattle.just_host_record.specs.declared.entry.HostFault.TheVariants as fault
use Rattle.just_host_record.specs.Record.{refused}
use Rattle.just_host_record.specs.World.{World}
use Rattle.just_env.specs.declared.search_error.SearchError.{SearchError}
use Rattle.just_env.specs.declared.search_error.SearchError.TheVariants as error
use Rattle.just_env.specs.Answers.{entries_of}
use Rattle.just_search.specs.Listing.{ListsFolder, ListFaultFits, GainsListings, is_refused_listing, is_list}

pub listings_none : (old : List Entry) → GainsListings old old
listings_none old = ([], sym (append-nil old), tt)

all_refused : (xs ys : List Entry) → AllByRecursion (λ e. is_refused_listing e ≡ true) xs → AllByRecursion (λ e. is_refused_listing e ≡ true) ys → AllByRecursion (λ e. is_refused_listing e ≡ true) (xs ++ ys)
all_refused [] ys h g = g
all_refused (x ∷ xs) ys h g = (h.0, all_refused xs ys h.1 g)

-- listings behind listings
pub listings_then : (a b c : List Entry) → GainsListings a b → GainsListings b c → GainsListings a c
listings_then a b c g h = (g.0 ++ h.0, h.1 ∙ ap (λ x. x ++ h.0) g.1 ∙ append_assoc a g.0 h.0, all_refused g.0 h.0 g.2 h.2)

by_fault : (told : Option World) (path : List ℕ) (f : HostFault) → ListFaultFits told path f → AllByRecursion (λ e. is_refused_listing e ≡ true) (refused path f)
by_fault told path (fault.Missed m) fits = (refl, tt)
by_fault told path (fault.Failed c) fits = (ap is_list fits, tt)
by_fault told path fault.NoMemory fits = tt

-- the entry of a refused listing, if it left one
pub refused_alone : (told : Option World) (path : List ℕ) (e : SearchError) → (e ≡ error.NoMemory) ⊎ ListsFolder told path (Err e) → AllByRecursion (λ x. is_refused_listing x ≡ true) (entries_of e)
refused_alone told path e (inl memory) = subst (λ x. AllByRecursion (λ y. is_refused_listing y ≡ true) (entries_of x)) (sym memory) tt
refused_alone told path e (inr so) = subst (λ x. AllByRecursion (λ y. is_refused_listing y ≡ true) (entries_of x)) (sym so.1) (by_fault told path so.0 so.2)

-- one listing
pub listing_nothing : (old new : List Entry) → new ≡ old ++ [] → GainsListings old new
listing_nothing old new is = ([], is, tt)

pub listing_refused : (told : Option World) (path : List ℕ) (old new : List Entry) (e : SearchError) → (e ≡ error.NoMemory) ⊎ ListsFolder told path (Err e) → new ≡ old ++ entries_of e → GainsListings old new
listing_refused told path old new e so is = (entries_of e, is, refused_alone told path e so)
