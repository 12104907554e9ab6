-- The keys of several invocations, one after the other.
use Rattle.std.proofs.Common.{◌≡◌, ℕ, suc, ◌+◌, ◌<◌, ◌≤◌, List, [], ◌∷◌, ◌++◌, append_assoc, length, get_or, drop, drop-cons, Ok, Err, refl, sym, ap, ◌∙◌, subst}
use Rattle.std.proofs.lemmas.List.{drop_all}
use Rattle.just_lang_types.specs.declared.key.Key.{Key}
use Rattle.just_lang_types.specs.declared.scope.Scopes.{Scopes}
use Rattle.just_lang_types.specs.declared.project.Justfile.{Justfile}
use Rattle.just_lang_types.specs.declared.project.LangError.{LangError}
use Rattle.just_eval_closure.specs.Answers.{Answer, and_then}
use Rattle.just_lang_types.specs.Modules.{AreModules}
use Rattle.just_lang_types.proofs.Nesting.{same_modules}
use Rattle.just_eval_words.specs.Paths.{Word}
use Rattle.just_eval_words.specs.Invocations.{first_key, Invokes}
use Rattle.just_eval_words.proofs.Keys.{drop_further}

-- keys, and behind them others
abbrev behind : List Key → Answer (List Key) → Answer (List Key)
behind done others = and_then others (λ ks. Ok (done ++ ks))

joined : (done : List Key) (k : Key) (others : Answer (List Key)) → behind done (and_then others (λ ks. Ok (k ∷ ks))) ≡ behind (done ++ k ∷ []) others
joined done k (Ok ks) = ap (λ l. Ok l) (sym (append_assoc done (k ∷ []) ks))
joined done k (Err e) = refl

module _ (ms : List Justfile) (scopes : Scopes) (root : Justfile) (ws : List Word) where
  -- whatever the words from the place n on ask for comes behind the keys that are done
  pub record Leads (done : List Key) (n : ℕ) : Type 0 where
    pub others : (rest : Answer (List Key)) → n < length ws → Invokes ms scopes root (drop n ws) rest → Invokes ms scopes root ws (behind done rest)
    pub none : length ws ≤ n → Invokes ms scopes root ws (Ok done)

  -- one invocation, with what it leaves
  one_more : (us vs : List Word) (k : Key) (rest : Answer (List Key)) → first_key ms scopes root us ≡ Ok (k, vs) → (w : Word) (ts : List Word) → vs ≡ w ∷ ts → Invokes ms scopes root vs rest → Invokes ms scopes root us (and_then rest (λ ks. Ok (k ∷ ks)))
  one_more us vs k rest is w ts are later =
      Invokes.more us ts w k rest (is ∙ ap (λ l. Ok (k, l)) are) (subst (λ l. Invokes ms scopes root l rest) are later)

  pub first_refused : (e : LangError) → first_key ms scopes root ws ≡ Err e → Invokes ms scopes root ws (Err e)
  first_refused e is = Invokes.refused ws e is

  single : (k : Key) (rest : Answer (List Key)) → and_then rest (λ ks. Ok (k ∷ ks)) ≡ behind (k ∷ []) rest
  single k (Ok ks) = refl
  single k (Err e) = refl

  pub first_done : (k : Key) (n : ℕ) → first_key ms scopes root ws ≡ Ok (k, drop n ws) → Leads (k ∷ []) n
  first_done k n is = record {
    others =
        λ rest lt later. subst (λ a. Invokes ms scopes root ws a) (single k rest) (one_more ws (drop n ws) k rest is (get_or ws n []) (drop (suc n) ws) (drop-cons ws n [] lt) later);
    none = λ le. Invokes.last ws k (is ∙ ap (λ l. Ok (k, l)) (drop_all n ws le));
  }

  module _ (done : List Key) (n : ℕ) (leads : Leads done n) (lt : n < length ws) where
    pub next_refused : (e : LangError) → first_key ms scopes root (drop n ws) ≡ Err e → Invokes ms scopes root ws (Err e)
    next_refused e is = leads.others (Err e) lt (Invokes.refused (drop n ws) e is)

    one_done : (k : Key) (c : ℕ) → first_key ms scopes root (drop n ws) ≡ Ok (k, drop c (drop n ws)) → Leads (done ++ k ∷ []) (n + c)
    one_done k c is =
        let left : first_key ms scopes root (drop n ws) ≡ Ok (k, drop (n + c) ws) = is ∙ ap (λ l. Ok (k, l)) (drop_further n c ws) in
        record {
          others =
              λ rest more_left later. subst (λ a. Invokes ms scopes root ws a) (joined done k rest) (leads.others (and_then rest (λ ks. Ok (k ∷ ks))) lt (one_more (drop n ws) (drop (n + c) ws) k rest left (get_or ws (n + c) []) (drop (suc (n + c)) ws) (drop-cons ws (n + c) [] more_left) later));
          none = λ le. leads.others (Ok (k ∷ [])) lt (Invokes.last (drop n ws) k (left ∙ ap (λ l. Ok (k, l)) (drop_all (n + c) ws le)));
        }

    pub next_done : (k : Key) (c : ℕ) (after : List Key) → first_key ms scopes root (drop n ws) ≡ Ok (k, drop c (drop n ws)) → after ≡ done ++ k ∷ [] → Leads after (n + c)
    next_done k c after is gained = subst (λ ks. Leads ks (n + c)) (sym gained) (one_done k c is)

  pub all_done : (done : List Key) (n : ℕ) → Leads done n → length ws ≤ n → Invokes ms scopes root ws (Ok done)
  all_done done n leads le = leads.none le

-- what words ask for depends on the justfile alone
pub same_answer : (ms others : List Justfile) (scopes : Scopes) (root : Justfile) (ws : List Word) (a : Answer (List Key)) → AreModules (root ∷ []) ms → AreModules (root ∷ []) others → Invokes ms scopes root ws a → Invokes others scopes root ws a
same_answer ms others scopes root ws a h k invokes = subst (λ xs. Invokes xs scopes root ws a) (same_modules (root ∷ []) ms others h k) invokes
