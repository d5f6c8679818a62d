-- A test of a table, computed at each of its entries, and what it gives of an entry.
use Rattle.std.proofs.Common.{◌≡◌, ℕ, zero, suc, ◌+◌, ◌<◌, Bool, true, false, T, List, [], ◌∷◌, length, get_or, arith}
use Rattle.std.specs.List.{range_with_len}
use Rattle.std.proofs.lemmas.List.FromFn.{length-range_with_len, get_or-range_with_len}

abbrev pub both : Bool → Bool → Bool
both true b = b
both false b = false

-- the test f of each entry with its place, counted from i
abbrev pub every : (ℕ → ℕ → Bool) → ℕ → List ℕ → Bool
every f i [] = true
every f i (x ∷ xs) = both (f i x) (every f (suc i) xs)

pub both_left : (a b : Bool) → T (both a b) → T a
both_left true b t = tt
both_left false b t = t

pub both_right : (a b : Bool) → T (both a b) → T b
both_right true b t = t
both_right false b t = absurd t

at_from : (f : ℕ → ℕ → Bool) (i : ℕ) (xs : List ℕ) → T (every f i xs) → (k j : ℕ) → k + i ≡ j → k < length xs → T (f j (get_or xs k 0))
at_from f i [] t k j e h = absurd (omega arith)
at_from f i (x ∷ xs) t zero j e h =
    let d : i ≡ j = omega arith in
    rw d at (both_left (f i x) (every f (suc i) xs) t)
at_from f i (x ∷ xs) t (suc k) j e h =
    at_from f (suc i) xs (both_right (f i x) (every f (suc i) xs) t) k j (omega arith) (omega arith)

-- a test that passes at every entry passes at entry k
pub at : (f : ℕ → ℕ → Bool) (xs : List ℕ) → T (every f 0 xs) → (k : ℕ) → k < length xs → T (f k (get_or xs k 0))
at f xs t k h = at_from f 0 xs t k k (omega arith) h

-- a test that passes at each number below n
pub upto : (f : ℕ → Bool) (n : ℕ) → T (every (λ k x. f x) 0 (range_with_len 0 n)) → (k : ℕ) → k < n → T (f k)
upto f n t k h =
    let l = length-range_with_len 0 n in
    let r = at (λ i x. f x) (range_with_len 0 n) t k (omega arith) in
    let q = get_or-range_with_len 0 n k 0 h in
    let z : get_or (range_with_len 0 n) k 0 ≡ k = omega arith in
    rw z at r
