-- Lists of sources that grow at their end.
use Rattle.std.proofs.Common.{◌≡◌, ◌+◌, List, [], ◌∷◌, ◌++◌, length, take, refl, ap, sym, ◌∙◌, append_assoc, length-append}
use Rattle.std.proofs.lemmas.List.{append-nil}
use Rattle.just_lang_types.specs.declared.source.Source.{Source}
use Rattle.just_search_load.specs.Loads.{IsGrown}

pub grown_none : (s : List Source) → IsGrown s s
grown_none s = record { more = []; behind = sym (append-nil s) }

-- one source more
pub grown_one : (a b : List Source) (x : Source) → b ≡ a ++ x ∷ [] → IsGrown a b
grown_one a b x is = record { more = x ∷ []; behind = is }

pub grown_then : (a b c : List Source) → IsGrown a b → IsGrown b c → IsGrown a c
grown_then a b c so then = record { more = so.more ++ then.more; behind = then.behind ∙ ap (λ xs. xs ++ then.more) so.behind ∙ append_assoc a so.more then.more }

-- the number of sources, where one is more
pub one_longer : (a b : List Source) (x : Source) → b ≡ a ++ x ∷ [] → length b ≡ length a + 1
one_longer a b x is = ap length is ∙ simp length-append

cut_back : (a more : List Source) → take (length a) (a ++ more) ≡ a
cut_back [] more = refl
cut_back (x ∷ xs) more = ap (λ ys. x ∷ ys) (cut_back xs more)

-- the first of them are those that were there
pub grown_cut : (a b c : List Source) → IsGrown a b → c ≡ take (length a) b → c ≡ a
grown_cut a b c so is = is ∙ ap (λ xs. take (length a) xs) so.behind ∙ cut_back a so.more
