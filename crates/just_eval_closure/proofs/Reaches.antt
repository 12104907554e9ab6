-- The keys that keys lead to by their dependencies, where each chain of these ends.
use Rattle.std.proofs.Common.{ℕ, inr, List, ◌∷◌, Option}
use Rattle.just_lang_types.specs.declared.key.Key.{Key}
use Rattle.just_lang_types.specs.declared.place.Place.{Place}
use Rattle.just_eval_closure.specs.Places.{IsMember}
use Rattle.just_eval_closure.proofs.Items.{In, in_contains}

-- the keys that a key leads to by priors, itself included
pub data Reach (p : Key → List Key) : Key → Key → Type 0 where
  here : (k : Key) → Reach p k k
  along : (k q x : Key) → In q (p k) → Reach p q x → Reach p k x

-- the keys that some keys lead to
pub data FromAny (p : Key → List Key) (keys : List Key) (x : Key) : Type 0 where
  from : (q : Key) → In q keys → Reach p q x → FromAny p keys x

-- what some keys lead to, more keys lead to
pub from_more : (p : Key → List Key) (k : Key) (ks : List Key) (x : Key) → FromAny p ks x → FromAny p (k ∷ ks) x
from_more p k ks x (from q i reach) = from q (inr i) reach

-- what the priors of a key lead to, the key leads to
pub from_reach : (p : Key → List Key) (k x : Key) → FromAny p (p k) x → Reach p k x
from_reach p k x (from q i reach) = along k q x i reach

-- what a member leads to is a member
pub reach_member : (p s : Key → List Key) (keys : List Key) (all : List Place) (r : Option ℕ) (k x : Key) → IsMember p s keys all r k → Reach p k x → IsMember p s keys all r x
reach_member p s keys all r k x member (here z) = member
reach_member p s keys all r k x member (along a q b i more) = reach_member p s keys all r q x (IsMember.prior r k q member (in_contains (p k) q i)) more
