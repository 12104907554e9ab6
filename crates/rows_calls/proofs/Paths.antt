-- One name is a module path.
use Rattle.std.proofs.Common.{◌≡◌, ℕ, List, [], ◌∷◌, sym, subst}
use Rattle.std.proofs.lemmas.List.Elements.{All-nil, All-cons}
use Rattle.just_lang_types.specs.Names.{IsName}
use Rattle.just_cache_clean.specs.EntryTexts.{IsPath}

pub path_of_one : (n : List ℕ) (ns : List (List ℕ)) → ns ≡ n ∷ [] → IsName n → IsPath ns
path_of_one n ns is named = subst IsPath (sym is) (All-cons IsName n [] named (All-nil IsName))
