-- The value of an escape's digits stays small.
use Rattle.std.proofs.Common.{◌≡◌, ℕ, suc, ◌+◌, ◌-◌, ◌*◌, ◌<◌, ◌≤◌, ◌^◌, arith}
use Rattle.std.proofs.Math.Nat.{pow-suc, pow-le-pow_right, one-le-pow}

pub room : (after : ℕ) → 0 < 16 ^ (7 - after)
room after = one-le-pow (7 - after) 16 (omega arith)

next_power : (after : ℕ) → 0 < after → after ≤ 7 → 16 ^ (7 - (after - 1)) ≡ 16 ^ (7 - after) * 16
next_power after p b =
    let e : 7 - (after - 1) ≡ suc (7 - after) = omega arith in
    rw e (pow-suc 16 (7 - after))

pub pushed : (after value d : ℕ) → 0 < after → after ≤ 7 → value < 16 ^ (7 - after) → d < 16 → value * 16 + d < 16 ^ (7 - (after - 1))
pushed after value d p b v h = rw (next_power after p b) (omega arith)

pub pushed_fits : (after value d : ℕ) → after ≤ 7 → value < 16 ^ (7 - after) → d < 16 → value * 16 + d < 2 ^ 32
pushed_fits after value d b v h =
    let most : 16 ^ (7 - after) ≤ 16 ^ 7 = pow-le-pow_right {n = 16} (omega arith) {i = 7 - after} {j = 7} (omega arith) in omega arith
