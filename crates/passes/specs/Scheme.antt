-- One scheme for every number of blocks, in both directions, that the code follows: blocks times the powers of R, and masks added that are made from
-- the blocks. It holds no rule of the mode; the mode's rules are shown to agree with it at every number of blocks.
use Rattle.std.specs.Prelude.{ℕ, suc, List, map, slice_index_or}
use Rattle.kind.specs.Laws.{Ops, mask_coefficients}
use Rattle.passes.specs.declared.terms.Terms.{Terms}
use Rattle.passes.specs.Rows.{pow, sum, each}

-- what stands at one block, at two, and from three up
abbrev pub by_count : {A : Type 0} → ℕ → A → A → A → A
by_count ℕ.zero a b c = a
by_count (suc ℕ.zero) a b c = a
by_count (suc (suc ℕ.zero)) a b c = b
by_count (suc (suc (suc k))) a b c = c

abbrev pub at_first : {A : Type 0} → ℕ → A → A → A
at_first ℕ.zero a b = a
at_first (suc i) a b = b

module _ {K : Type 0} (F : Ops K) where
  open F use {add as ◌⊕◌, mul as ◌·◌, x}

  infixl 60 ◌⊕◌
  infixl 70 ◌·◌
  -- What is added at the place i, counted from 0, for the mask M: at one block `single`, at two M ⊕ EN and
  -- M ⊕ EEN, from three up the product of M and the coefficient of the place.
  abbrev pub mask : Terms K → K → K → ℕ → K
  mask s single M i = by_count s.m single (M ⊕ at_first i s.en s.een) (slice_index_or (mask_coefficients F s.m) i F.zero · M)

  -- each block times r to the power of its place
  abbrev pub times_power : K → ℕ → K → K
  times_power r i b = pow F r i · b

  abbrev pub times_powers : K → List K → List K
  times_powers r bs = each (times_power r) 0 bs

  -- each block with its mask added
  abbrev pub with_mask : (ℕ → K) → ℕ → K → K
  with_mask n i b = b ⊕ n i

  abbrev pub with_masks : (ℕ → K) → List K → List K
  with_masks n bs = each (with_mask n) 0 bs

  -- the value of a mask, made by h from the sum of the blocks and k
  abbrev pub value : (K → K) → K → List K → K
  value h k bs = h (sum F bs ⊕ k)

  -- each block with its mask added, the mask being made from these blocks
  abbrev pub masked : (K → K) → (K → ℕ → K) → K → List K → List K
  masked h n k bs = with_masks (n (value h k bs)) bs

  module _ (E D : K → K) (s : Terms K) where
    abbrev pub hashed : List K → List K
    hashed bs = times_powers s.r bs

    abbrev pub enciphered : List K → List K
    enciphered bs = map E (masked E (mask s s.en) s.en bs)

    abbrev pub finished : List K → List K
    finished bs = times_powers s.r (masked E (mask s (x · s.een)) (by_count s.m s.en s.en s.een) bs)

    abbrev pub sealed : List K → List K
    sealed bs = finished (enciphered (hashed bs))

    -- L is the inverse of R, and of no matter at one block
    abbrev pub unsealed : K → List K → List K
    unsealed L bs =
        times_powers L (masked E (mask s s.en) (by_count s.m s.een s.een s.en)
        (map D (masked E (mask s (x · s.een)) s.een (times_powers L bs))))
