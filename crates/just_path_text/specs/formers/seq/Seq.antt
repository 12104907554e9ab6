-- How a type may hold itself through a `Seq`: a sequence is stored as the items of its `Vec`, in their order.
use mathlib.Core.Path.{◌≡◌, refl, sym}
use mathlib.Core.List.{List, []}
use mathlib.Core.Former.{Former, this, list, via, children}
use base.Stored.{code_map}
use denote.RattleType.{RattleType}
use denote.HoleLaws.{Alike}
use denote.HolePlaces.{Recodes, struct_places, laid}
use denote.Hole.Carrier.{listed, list-listed}
use denote.Hole.Fix.{over}
use denote.Param.Weighed.{Weighed, w_list}
use denote.Model.Placed.{view_places}
use Rattle.std.specs.formers.vec.Vec as vec
use Rattle.std.specs.declared.alloc.Global.{Global}
use Rattle.std.specs.contracts.alloc.Global as heap
use Rattle.std.specs.contracts.impls.GlobalAllocator.TheImpl.{ghosts}
use Rattle.just_path_text.specs.declared.seq.Seq.TheInside.{Inside}
use Rattle.just_path_text.specs.declared.seq.Seq.TheView.{view, invariant}
use Rattle.just_path_text.specs.contracts.seq.Seq as outer
use Rattle.just_path_text.specs.contracts.seq.Seq.TheInside as inner

-- a sequence of items is seen as their list
abbrev pub the_former : Former {0} → Former {0}
the_former item = list item

-- the weight of a list is that of its items
abbrev pub the_weighed : {item : Former {0}} → Weighed item → Weighed (the_former item)
the_weighed weight = w_list weight

-- the sequence with no item
pub the_empty : List ⊥
the_empty = []

-- the items of a sequence are those of its list
abbrev pub the_items : (X : Type 0) → List X → List X
the_items X items = items

-- listed one by one, they are the list
pub the_items_listed : (X : Type 0) (items : List X) → listed _ (children (the_former this) X items) ≡ the_items X items
the_items_listed X items = list-listed X items

-- the one field, the `Vec` of the items
abbrev in_vec : Former {0}
in_vec =
    via (vec.the_former this Global) Inside (λ X inside. inside.vec) (λ X items. record { vec = items }) (λ X inside. refl) (λ X items. refl)

module _ (From To : RattleType) (change : From.Denot → To.Denot) where
  pub the_places : Alike From To change → Alike (outer.the_row From) (outer.the_row To) ((the_former this).map From.Denot To.Denot change)
  the_places alike =
      view_places in_vec (list this) view (λ X Y k u. refl) (λ X u. refl) From.Denot To.Denot change (outer.the_row From).coded (outer.the_row To).coded
      (invariant From.Denot) (invariant To.Denot) (λ u p q. refl) (λ u p q. refl) (λ u e. tt) (λ u e. tt)
      (over (inner.the_row From)) (over (inner.the_row To))
      (struct_places (inner.the_type From) (inner.the_type To) (vec.mapped change, tt) _ (λ d. refl) refl (laid _ _ _ (vec.the_places heap.the_row ghosts From To change alike), tt))

  pub the_codes_placed : Recodes From To change → Recodes (outer.the_row From) (outer.the_row To) ((the_former this).map From.Denot To.Denot change)
  the_codes_placed recodes items = sym (code_map From.coded.code To.coded.code change (λ x. sym (recodes x)) items)
