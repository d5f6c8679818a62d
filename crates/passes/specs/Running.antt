-- What runs along with the blocks: a power of r, and the masks, each made from the one before by products with x.
use Rattle.std.specs.Prelude.{ℕ, zero, suc, ◌+◌, ◌-◌, ◌*◌, ◌/◌, ◌%◌, Some, None, Option}
use Rattle.kind.specs.Laws.{Ops}
use Rattle.passes.specs.declared.running.Masks.{Masks}
use Rattle.passes.specs.declared.running.Masks.TheVariants.{Head, Alone, Pairs}
use Rattle.passes.specs.declared.running.Pair.{Pair}
use Rattle.passes.specs.declared.running.Powers.{Powers}

abbrev pub pair_next : {K : Type 0} → Pair K → Pair K
pair_next s = record { first = s.second; second = s.second }

module _ {K : Type 0} (o : Ops K) where
  open o use {add as ◌⊕◌, mul as ◌·◌, x}

  infixl 60 ◌⊕◌
  infixl 70 ◌·◌
  -- the block b times its power: the first is that of place 0
  abbrev pub now_power : Option K → K → K
  now_power None b = b
  now_power (Some p) b = p · b

  abbrev pub power_now : Powers K → K → K
  power_now s b = now_power s.power b

  -- the powers after a block: after the last of the n blocks that were left none is made
  abbrev pub next_power : K → Option K → ℕ → Powers K
  next_power r None n = record { r = r; power = Some r; left = n }
  next_power r (Some p) zero = record { r = r; power = Some p; left = 0 }
  next_power r (Some p) (suc zero) = record { r = r; power = Some p; left = 1 }
  next_power r (Some p) (suc (suc n)) = record { r = r; power = Some (p · r); left = suc n }

  abbrev pub power_next : Powers K → Powers K
  power_next s = next_power s.r s.power s.left

  -- the mask of the coming block
  abbrev pub mask_now : Masks K → K
  mask_now (Head v a (suc (suc h)) k) = a ⊕ x · a
  mask_now (Head v a (suc zero) k) = a ⊕ v
  mask_now (Head v a zero k) = a ⊕ v
  mask_now (Alone b a k) = a
  mask_now (Pairs a) = a ⊕ x · a

  -- the masks after it
  abbrev pub mask_next : Masks K → Masks K
  mask_next (Head v a (suc (suc h)) k) = Head v (x · a) (suc h) k
  mask_next (Head v a (suc zero) k) = Alone (x · a) (x · a) k
  mask_next (Head v a zero k) = Alone (x · a) (x · a) k
  mask_next (Alone b a (suc (suc k))) = Alone b (x · a) (suc k)
  mask_next (Alone b a (suc zero)) = Pairs b
  mask_next (Alone b a zero) = Pairs b
  mask_next (Pairs a) = Pairs (x · (x · a))

  -- the masks of m blocks before the first, for the value v
  abbrev pub first_by : K → ℕ → ℕ → Masks K
  first_by v t zero = Alone (x · v) (x · v) (2 * t)
  first_by v t (suc r) = Head v v (r + 4) (2 * (t - 1))

  abbrev pub first_masks : K → ℕ → Masks K
  first_masks v m = first_by v (m / 3) (m % 3)
