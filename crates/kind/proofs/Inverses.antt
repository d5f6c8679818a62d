-- Exactly one inverse, from the laws of a kind alone.
use Rattle.std.proofs.Common.{◌≡◌, ◌≢◌, Some, None, Option, sym, ap, ◌∙◌, lit≤}
use Rattle.field.specs.Mask.{coefficients, by_rest, run, singles, pairs}
use Rattle.kind.specs.Laws.{Ops, Laws}
use Rattle.kind.specs.Inverses.{IsInverse}

module _ {K : Type 0} (o : Ops K) (l : Laws o) where
  one_mul : (a : K) → o.mul o.one a ≡ a
  one_mul a = l.mul_comm o.one a ∙ l.mul_one a

  mul_zero : (a : K) → o.mul a o.zero ≡ o.zero
  mul_zero a = ap (o.mul a) (sym (l.add_self o.zero)) ∙ l.distrib a o.zero o.zero ∙ l.add_self (o.mul a o.zero)

  zero_mul : (a : K) → o.mul o.zero a ≡ o.zero
  zero_mul a = l.mul_comm o.zero a ∙ mul_zero a

  -- the first two coefficients of three blocks are x and x^2, so x is not zero, nor is one
  x_nonzero : o.mul o.x o.one ≢ o.mul o.x (o.mul o.x o.one)
  unfolding coefficients by_rest run singles pairs
  x_nonzero = (l.masks 3 (lit≤ tt) (lit≤ tt)).0.0

  one_nonzero : o.one ≢ o.zero
  one_nonzero p =
      x_nonzero (ap (o.mul o.x) p ∙ mul_zero o.x ∙ sym (mul_zero o.x) ∙ ap (o.mul o.x) (sym (mul_zero o.x) ∙ ap (o.mul o.x) (sym p)))

  pub zero_has_none : (b : K) → o.mul o.zero b ≢ o.one
  zero_has_none b p = one_nonzero (sym p ∙ zero_mul b)

  -- two inverses are equal
  pub one_inverse : (a b c : K) → o.mul a b ≡ o.one → o.mul a c ≡ o.one → c ≡ b
  one_inverse a b c p q =
      sym (one_mul c) ∙ ap (λ t. o.mul t c) (sym p ∙ l.mul_comm a b) ∙ l.mul_assoc b a c ∙ ap (o.mul b) q ∙ l.mul_one b

  pub is_inverse : (a : K) (r : Option K) → r ≡ o.inverse a → IsInverse o a r
  is_inverse a None e = let z : a ≡ o.zero = l.inverse_none a (sym e) in (z, λ b p. zero_has_none b (ap (λ t. o.mul t b) (sym z) ∙ p))
  is_inverse a (Some b) e =
      let p : o.mul a b ≡ o.one = l.inverse_some a b (sym e) in
      ((λ z. zero_has_none b (ap (λ t. o.mul t b) (sym z) ∙ p)), p, λ c q. one_inverse a b c p q)
