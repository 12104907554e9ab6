-- What a host's answers say of a folder.
use Rattle.std.proofs.Common.{◌≡◌, ℕ, List, Option, Some, None, option_map, sym, subst}
use Rattle.std.specs.Prelude.{Ok}
use Rattle.just_path.specs.View.{View, TellsNames, AreNamesOf}
use Rattle.just_host_record.specs.World.{World, view_of}
use Rattle.just_search_load.specs.Shown.{ListsNames, AreNamesIn}

-- the names of what is listed
pub lists_names : (told : Option World) (v : Option View) (path : List ℕ) (names : List (List ℕ)) → v ≡ option_map view_of told → TellsNames v path (Ok names) → ListsNames told path (Ok names)
lists_names None v path names is tells = tt
lists_names (Some w) v path names is tells =
    let so : TellsNames (Some (view_of w)) path (Ok names) = subst (λ o. TellsNames o path (Ok names)) is tells in
    let named : AreNamesOf so.0 (view_of w).tree names = so.2 in
    subst (λ ns. AreNamesIn (view_of w) path ns) (sym named.2) (AreNamesIn.folder so.0 named.0 so.1 named.1 named.3)
