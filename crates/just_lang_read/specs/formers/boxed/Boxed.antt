-- How a type may hold itself through a `Boxed`: it is stored as a `Box`, a pointer beside the value.
use mathlib.Core.Path.{refl}
use mathlib.Core.Former.{Former, this, const, pair, via}
use base.Stored.{gnil}
use base.Fml.{ftrue}
use denote.RattleType.{RattleType}
use denote.Memory.{part_of}
use denote.RawPtr.{Ptr}
use denote.Sharing.{nothing}
use denote.HoleLaws.{Alike}
use denote.HolePlaces.{Recodes, struct_places, laid, one_value}
use denote.Hole.Fix.{over}
use denote.Param.Weighed.{Weighed}
use denote.Model.Placed.{view_places}
use Rattle.std.specs.declared.alloc.Global.{Global}
use Rattle.std.specs.declared.boxed.Box.{Box}
use Rattle.std.specs.contracts.boxed.Box as box
use Rattle.std.specs.contracts.alloc.Global as heap
use Rattle.std.specs.contracts.impls.GlobalAllocator.TheImpl.{ghosts}
use Rattle.just_lang_read.specs.declared.boxed.Boxed.TheInside.{Inside}
use Rattle.just_lang_read.specs.declared.boxed.Boxed.TheView.{view, invariant}
use Rattle.just_lang_read.specs.contracts.boxed.Boxed as outer
use Rattle.just_lang_read.specs.contracts.boxed.Boxed.TheInside as inner

-- a boxed value is seen as the value
abbrev pub the_former : Former {0} → Former {0}
the_former held = held

-- and weighs what it weighs
abbrev pub the_weighed : {held : Former {0}} → Weighed held → Weighed (the_former held)
the_weighed weight = weight

-- the one field, a `Box`: where it points, its allocator, and the value
abbrev in_box : Former {0}
in_box =
    via (pair (const (Ptr × Global)) this) Inside (λ X inside. ((inside.held.ptr, inside.held.alloc), inside.held.value))
    (λ X parts. record { held = record { ptr = parts.0.0; alloc = parts.0.1; value = parts.1 } }) (λ X inside. refl) (λ X parts. refl)

-- a `Box` of such values, as it lies in memory
abbrev the_box : RattleType → RattleType
the_box Held = box.the_row Held heap.the_row ghosts

-- the same box with another value in it
abbrev holding : {X Y : Type 0} → Box X Global → Y → Box Y Global
holding old value = record { ptr = old.ptr; alloc = old.alloc; value = value }

module _ (From To : RattleType) (change : From.Denot → To.Denot) where
  -- boxes of two kinds of values are alike where the values are
  box_alike : Alike From To change → Alike (the_box From) (the_box To) (λ old. holding old (change old.value))
  unfolding part_of
  box_alike alike = record {
    mir_same = λ i. (the_box (one_value From (alike.mir_same i) (λ _. ftrue) (λ _ _. nothing) gnil)).mir;
    own_same = λ old i. (the_box (one_value From (alike.mir_same i) (alike.own_same old.value i) (alike.shr_same old.value i) gnil)).own_val (holding old tt);
    shr_same = λ old i. (the_box (one_value From (alike.mir_same i) (alike.own_same old.value i) (alike.shr_same old.value i) gnil)).shr_at (holding old tt);
  }

  -- and so are boxed values
  pub the_places : Alike From To change → Alike (outer.the_row From) (outer.the_row To) ((the_former this).map From.Denot To.Denot change)
  the_places alike =
      view_places in_box this view (λ X Y k u. refl) (λ X u. refl) From.Denot To.Denot change (outer.the_row From).coded (outer.the_row To).coded
      (invariant From.Denot) (invariant To.Denot) (λ u p q. refl) (λ u p q. refl) (λ u e. tt) (λ u e. tt)
      (over (inner.the_row From)) (over (inner.the_row To))
      (struct_places (inner.the_type From) (inner.the_type To) ((λ old. holding old (change old.value)), tt) _ (λ d. refl) refl
      (laid _ _ _ (box_alike alike), tt))

  -- and their codes
  pub the_codes_placed : Recodes From To change → Recodes (outer.the_row From) (outer.the_row To) ((the_former this).map From.Denot To.Denot change)
  the_codes_placed recodes value = recodes value
