-- An expression a level further in.
use Rattle.std.proofs.Common.{◌≡◌, ℕ, zero, suc, ◌-◌, Err, refl, arith}
use Rattle.just_lang_read.specs.Place.{Place}
use Rattle.just_lang_read.specs.declared.error.ReadError.TheVariants.{Depth}
use Rattle.just_lang_syntax.specs.Readers as reader

-- where no level is left, the expression is too deep
pub inner_none : (n : ℕ) (p : Place) → n ≡ 0 → reader.inner n p ≡ Err Depth
unfolding reader.inner
inner_none n p e = rw e refl

-- where one is left, it is read with one fewer
pub inner_more : (n : ℕ) (p : Place) → (n ≡ 0 → ⊥) → reader.inner n p ≡ reader.level (reader.inner (n - 1)) p
unfolding reader.inner
inner_more zero p h = absurd (h refl)
inner_more (suc n) p h = let e : suc n - 1 ≡ n = omega arith in rw e refl
