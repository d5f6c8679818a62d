-- What is left to show of `times`.
use Rattle.std.proofs.Common.{◌≡◌, ℕ, ◌+◌, ◌-◌, ◌*◌, ◌/◌, ◌%◌, ◌^◌, ◌<◌, ◌≤◌, get_or, sym, refl, ap, ◌∙◌, subst, mod-eq_of_lt, mul-one, arith, pow_mono, shr_lt}
use lib.Bits.{bit_xor, bit_and, and_mask, mask_lt}
use Rattle.field.specs.Field.{mul}
use Rattle.field.specs.Window.{raise}
use Rattle.field.proofs.Window as window
use Rattle.arithmetic.proofs.multiplier.Multiplier.times.Given as given
use Rattle.arithmetic.proofs.multiplier.Multiplier.times.Goals as goal
use Rattle.arithmetic.proofs.multiplier.Multiplier.times.Goals.{After-top-byte}

-- the eight highest coefficients are a byte
byte_lt : (g : given.Over) (c : After-top-byte g) → c.top-byte.result < 256
byte_lt g c =
    let n : ℕ = g.P.Poly.width in
    let v : ℕ = g.P.Poly.value c.loop.rest in
    let e : n ≡ 8 + (n - 8) = omega (arith, g.P.Poly.field.broad) in
    let h : v < 2 ^ (8 + (n - 8)) = subst (λ (k : ℕ). v < 2 ^ k) e (g.P.Poly.numbers.below c.loop.rest) in
    rw c.top-byte.ensures (shr_lt 8 (n - 8) h)

pub loop-init : goal.loop-init
loop-init g c =
    let p = g.P.Poly in
    let a : ℕ = p.value c.args.a in
    let ha : a < 2 ^ p.width = p.numbers.below c.args.a in (
      window.window_first p.width p.modulus p.field.fits p.field.wide a (p.value c.args.self.now.of) (p.value c.zero-sum.result) ha c.zero-sum.ensures,
      sym (ap (λ (t : ℕ). t % 2 ^ p.width) (mul-one a) ∙ mod-eq_of_lt ha),
    )

pub bounds-self-byte : goal.bounds-self-byte
bounds-self-byte g c = omega (arith, byte_lt g (goal.at.bounds-self-byte g c).After-top-byte)

pub offset_bounds-self-byte : goal.offset_bounds-self-byte
offset_bounds-self-byte g c = omega (arith, byte_lt g c)

pub listed : goal.listed
listed g c = omega (arith, byte_lt g (goal.at.listed g c).After-top-byte, c.args.self.now.ready.highs.sixteen)

pub loop-preserved : goal.loop-preserved
loop-preserved g c =
    let p = g.P.Poly in
    let l = c.loop in
    let n : ℕ = p.width in
    let f : ℕ = p.modulus in
    let a : ℕ = p.value c.args.a in
    let b : ℕ = p.value c.args.self.now.of in
    let ha : a < 2 ^ n = p.numbers.below c.args.a in
    let hb : b < 2 ^ n = p.numbers.below c.args.self.now.of in
    let i : ℕ = l.counter * 8 in
    let t : ℕ = c.top-byte.result in
    let le : i + 8 ≤ n = omega (arith, c.bytes-end.ensures, c.loop-test.true) in
    let next : (l.counter + 1) * 8 ≡ i + 8 = omega arith in
    let et : t ≡ a / 2 ^ (n - (i + 8)) % 2 ^ 8 =
    c.top-byte.ensures ∙ ap (λ (r : ℕ). r / 2 ^ (n - 8)) l.invariant.1 ∙ window.window_top n 8 i a le in
    let lt = byte_lt g (goal.at.loop-preserved g c).After-top-byte in
    let w : 2 ^ 8 ≤ 2 ^ n = (let h : 8 < n = p.field.broad in let k : 8 ≤ n = omega arith in pow_mono k) in
    let tn : t < 2 ^ n = omega arith in
    let upper : g.row.P.Denot = get_or c.args.self.now.high (t / 16) c.index-self-byte.result in
    let lower : g.row.P.Denot = get_or c.args.self.now.low (bit_and t 15) c.index-self-byte-in-loop.result in
    let m : ℕ = p.value c.plus-multiple.result in
    let tables = c.args.self.now.ready in
    let eu : p.value upper ≡ mul n f (t / 2 ^ 4) (raise n f 4 b) = tables.highs.each (t / 16) c.index-self-byte.result (omega arith) in
    let el : p.value lower ≡ mul n f (t % 2 ^ 4) b =
    tables.lows.each (bit_and t 15) c.index-self-byte-in-loop.result (mask_lt t 4) ∙ ap (λ (k : ℕ). mul n f k b) (and_mask t 4) in
    let eb : m ≡ mul n f t b =
    c.plus-multiple.ensures ∙ window.halves n f p.field.fits p.field.wide 4 t b (raise n f 4 b) (p.value upper) (p.value lower) tn hb refl eu el in
    let es : p.value c.plus-sum.result ≡ bit_xor (raise n f 8 (p.value l.sum)) m = c.plus-sum.ensures ∙ ap (λ (r : ℕ). bit_xor r m) c.raised.ensures in (
      es ∙ window.window_step n f p.field.fits p.field.wide 8 i a b (p.value l.sum) m le ha hb l.invariant.0 (eb ∙ ap (λ (k : ℕ). mul n f k b) et)
          ∙ ap (λ (k : ℕ). mul n f (a / 2 ^ (n - k)) b) (sym next),
      c.shifted-rest.ensures ∙ ap (λ (r : ℕ). r * 2 ^ 8 % 2 ^ n) l.invariant.1 ∙ window.window_rest n 8 i a ∙ ap (λ (k : ℕ). a * 2 ^ k % 2 ^ n) (sym next),
    )

pub returns : goal.returns
returns g c =
    let p = g.P.Poly in
    let l = c.loop in
    let e : l.counter * 8 ≡ p.width = omega (arith, c.bytes-end.ensures, c.loop-test.false, l.auto.counter-end) in
    window.window_last p.width p.modulus p.field.fits p.field.wide (l.counter * 8) (p.value c.args.a) (p.value c.args.self.now.of) (p.value l.sum) e l.invariant.0
