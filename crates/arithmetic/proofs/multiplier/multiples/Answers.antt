-- What is left to show of `multiples`.
use Rattle.std.proofs.Common.{◌≡◌, ℕ, zero, suc, ◌+◌, ◌*◌, ◌^◌, ◌<◌, ◌≤◌, List, ◌∷◌, length, get_or, set, replicate, sym, refl, ap, ◌∙◌, subst, arith, length-set, get_or-set_other, get_or-set_same, pow_mono}
use native.Mathlib.Decide.{dec_lt}
use lib.Bits.{bit_xor}
use Rattle.field.specs.Field.{mul, times_x}
use Rattle.field.proofs.Ring as ring
use Rattle.field.proofs.Window as window
use Rattle.arithmetic.proofs.multiplier.multiples.Goals as goal

-- two more entries
more : {E : Type 0} (P : ℕ → E → Type 0) (all : List E) (i : ℕ) (u v : E) → 2 * i + 1 < length all
    → ((k : ℕ) (d : E) → k < 2 * i → P k (get_or all k d)) → P (2 * i) u → P (2 * i + 1) v
    → (k : ℕ) (d : E) → k < 2 * (i + 1) → P k (get_or (set (set all (2 * i) u) (2 * i + 1) v) k d)
more P all i u v h old pu pv k d lt =
    elim (dec_lt k (2 * i)) [
      | yes l ↦ subst (P k) (sym (get_or-set_other (set all (2 * i) u) (2 * i + 1) k v d (λ e. omega arith) ∙ get_or-set_other all (2 * i) k u d (λ e. omega arith))) (old k d l)
      | no g ↦ elim (dec_lt k (2 * i + 1)) [
        | yes l ↦
            let e : k ≡ 2 * i = omega arith in
            subst (λ (j : ℕ). P j (get_or (set (set all (2 * i) u) (2 * i + 1) v) j d)) (sym e)
            (subst (P (2 * i)) (sym (get_or-set_other (set all (2 * i) u) (2 * i + 1) (2 * i) v d (λ q. omega arith) ∙ get_or-set_same all (2 * i) u d (omega arith))) pu)
        | no m ↦
            let e : k ≡ 2 * i + 1 = omega arith in
            subst (λ (j : ℕ). P j (get_or (set (set all (2 * i) u) (2 * i + 1) v) j d)) (sym e)
            (subst (P (2 * i + 1)) (sym (get_or-set_same (set all (2 * i) u) (2 * i + 1) v d (omega (arith, length-set all (2 * i) u)))) pv)
      ]
    ]

starts : {E : Type 0} (n f : ℕ) → f < 2 ^ n → 1 < n → (value : E → ℕ) (z b : E) (more : List E) → value b < 2 ^ n → value z ≡ 0
    → (k : ℕ) (d : E) → k < 2 → value (get_or (z ∷ b ∷ more) k d) ≡ mul n f k (value b)
starts n f fits wide value z b more hb e zero d h = e ∙ sym (ring.mul_zero_l n f fits wide (value b))
starts n f fits wide value z b more hb e (suc zero) d h = sym (ring.mul_one_l n f fits wide (value b) hb)
starts n f fits wide value z b more hb e (suc (suc k)) d h = absurd (omega arith)

pub loop-i-init : goal.loop-i-init
loop-i-init g c =
    let p = g.P.Poly in
    (refl, starts p.width p.modulus p.field.fits p.field.wide p.value c.zero-all.result c.args.b (replicate 14 c.zero-all.result) (p.numbers.below c.args.b) c.zero-all.ensures)

pub loop-i-preserved : goal.loop-i-preserved
loop-i-preserved g c =
    let p = g.P.Poly in
    let l = c.loop-i in
    let n : ℕ = p.width in
    let f : ℕ = p.modulus in
    let i : ℕ = l.i in
    let b : ℕ = p.value c.args.b in
    let hb : b < 2 ^ n = p.numbers.below c.args.b in
    let lo : 1 ≤ i = l.auto.i in
    let hi : i < 8 = c.loop-i-test.true in
    let w : 2 ^ 8 ≤ 2 ^ n = (let h : 8 < n = p.field.broad in let k : 8 ≤ n = omega arith in pow_mono k) in
    let room : i * 2 < 2 ^ n = omega arith in
    let at = l.invariant.1 i c.index-all-i.result (omega arith) in
    let eu : p.value c.doubled-even.result ≡ times_x n f (mul n f i b) = c.doubled-even.ensures ∙ ap (times_x n f) at in
    let ev : p.value c.plus.result ≡ bit_xor (times_x n f (mul n f i b)) b = c.plus.ensures ∙ ap (λ (t : ℕ). bit_xor t b) eu in (
      length-set (set l.all (2 * i) c.doubled-even.result) (2 * i + 1) c.plus.result ∙ length-set l.all (2 * i) c.doubled-even.result ∙ l.invariant.0,
      more (λ k e. p.value e ≡ mul n f k b) l.all i c.doubled-even.result c.plus.result (omega (arith, l.invariant.0)) l.invariant.1
          (eu ∙ sym (window.even n f p.field.fits p.field.wide i b room hb))
          (ev ∙ sym (window.odd n f p.field.fits p.field.wide i b room hb)),
    )
