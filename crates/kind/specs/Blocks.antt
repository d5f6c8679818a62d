-- A buffer of bytes as a list of blocks.
use Rattle.std.specs.Prelude.{◌≡◌, ℕ, zero, suc, ◌*◌, List, [], ◌∷◌, ◌++◌, length, take, drop}
use Rattle.kind.specs.Laws.{Ops, Bytes}

-- the first m blocks of the bytes
unfoldable pub blocks : {K : Type 0} → Ops K → ℕ → List ℕ → List K
blocks o zero bs = []
blocks o (suc m) bs = o.block (take o.size bs) ∷ blocks o m (drop o.size bs)

-- the bytes of the blocks, one after another
unfoldable pub flat : {K : Type 0} → Ops K → List K → List ℕ
flat o [] = []
flat o (k ∷ ks) = o.bytes k ++ flat o ks

-- a walk with a state: each element x at the state s becomes `out s x`, and the state after it is `next s x`
unfoldable pub over : {S X : Type 0} → (S → X → X) → (S → X → S) → S → List X → List X
over out next s [] = []
over out next s (x ∷ xs) = out s x ∷ over out next (next s x) xs

-- the state after a walk
unfoldable pub after : {S X : Type 0} → (S → X → S) → S → List X → S
after next s [] = s
after next s (x ∷ xs) = after next (next s x) xs

-- a buffer of m whole blocks and a list of m blocks correspond one to one
pub record BufferLaws {K : Type 0} (o : Ops K) : Type 0 where
  pub count : (m : ℕ) (bs : List ℕ) → length (blocks o m bs) ≡ m
  pub flat_blocks : (m : ℕ) (bs : List ℕ) → length bs ≡ m * o.size → Bytes bs → flat o (blocks o m bs) ≡ bs
  pub blocks_flat : (ks : List K) (m : ℕ) → length ks ≡ m → blocks o m (flat o ks) ≡ ks
