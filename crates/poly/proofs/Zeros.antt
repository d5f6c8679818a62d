-- The zeros in front of a number of two words.
use mathlib.Core.Path.{◌≡◌}
use mathlib.Core.Logic.{◌≢◌}
use Prim.Native.Nat.{ℕ, suc, ◌+◌, ◌*◌, ◌^◌, ◌<◌}
use native.Mathlib.Omega.{arith}
use lib.Pow.{pow-add}
use native.Mathlib.Nat.{pow-suc}
use lib.Count.{count_leading_zeros, leading_unique, leading_length, leading_top}

pub zeros_low : (h l : ℕ) → h ≡ 0 → l < 2 ^ 64 → 64 + count_leading_zeros 64 l ≡ count_leading_zeros 128 (h * 2 ^ 64 + l)
zeros_low h l e b =
    let t = leading_length 64 l b in
    leading_unique 128 (h * 2 ^ 64 + l) (64 + count_leading_zeros 64 l) t.0 (omega (arith, t.1)) (omega (arith, t.2)) (omega (arith, t.3))

pub zeros_high : (h l : ℕ) → h ≢ 0 → h < 2 ^ 64 → l < 2 ^ 64 → count_leading_zeros 64 h ≡ count_leading_zeros 128 (h * 2 ^ 64 + l)
zeros_high h l ne bh bl =
    let p : 0 < h = omega arith in
    let t = leading_top 64 h p bh in
    let e : 2 ^ (suc t.0 + 64) ≡ 2 ^ suc t.0 * 2 ^ 64 = pow-add 2 (suc t.0) 64 in
    let d : 2 ^ suc t.0 ≡ 2 ^ t.0 * 2 = pow-suc 2 t.0 in
    leading_unique 128 (h * 2 ^ 64 + l) (count_leading_zeros 64 h) (suc t.0 + 64) (omega (arith, t.1)) (omega (arith, t.3)) (omega (arith, t.2))
