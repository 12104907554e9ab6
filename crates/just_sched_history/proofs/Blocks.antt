-- What the flags of blocks say of their numbers.
use Rattle.std.proofs.Common.{◌≡◌, ◌+◌, ◌-◌, ◌*◌, ◌/◌, ◌<◌, ◌≤◌, ℕ, Bool, true, false, true≢false, List, refl, sym, ◌∙◌, subst, arith}
use Rattle.just_sched_history.specs.Members.{is_member, IsNoted}

-- what isn't true is false
not_up : (b : Bool) → (b ≡ true → ⊥) → b ≡ false
not_up true never = absurd (never refl)
not_up false never = refl

-- no number of a block is a member whose flag is down
pub passed : (flags blocks : List Bool) → IsNoted flags blocks → (b m : ℕ) → 64 * b ≤ m → m < 64 * b + 64 → is_member blocks b ≡ false → is_member flags m ≡ false
passed flags blocks noted b m low high down =
    let k : m ≡ 64 * b + (m - 64 * b) = omega (arith, low) in
    not_up (is_member flags m) (λ up. true≢false (sym (noted b (m - 64 * b) (omega (arith, low, high)) (subst (λ i. is_member flags i ≡ true) k up)) ∙ down))

-- nor is a number of a block of blocks whose flag is down
pub passed_over : (flags blocks tops : List Bool) → IsNoted flags blocks → IsNoted blocks tops → (b m : ℕ) → 4096 * b ≤ m → m < 4096 * b + 4096 → is_member tops b ≡ false → is_member flags m ≡ false
passed_over flags blocks tops noted topped b m low high down =
    passed flags blocks noted (m / 64) m (omega arith) (omega arith) (passed blocks tops topped b (m / 64) (omega (arith, low)) (omega (arith, high)) down)
