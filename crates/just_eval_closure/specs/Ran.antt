-- What a register shows: the places that got a number, in their order.
use Rattle.std.specs.Prelude.{List}
use Rattle.just_lang_types.specs.declared.place.Place.{Place}
use Rattle.just_eval_closure.specs.declared.ran.Ran.{Ran}

abbrev pub places_of : Ran → List Place
places_of r = r.inside.places.items
