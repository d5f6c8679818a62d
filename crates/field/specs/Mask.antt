-- The mask coefficients, over any elements with a sum, a one and the product by x. From three blocks up the sealing adds to each block
-- the product of one value and that block's coefficient.
use Rattle.std.specs.Prelude.{ℕ, zero, suc, ◌-◌, ◌*◌, ◌/◌, ◌%◌, ◌≢◌, List, [], ◌∷◌, ◌++◌, map, bit_xor}

-- x^k a
unfoldable pub times : {E : Type 0} → (E → E) → ℕ → E → E
times by_x zero a = a
times by_x (suc k) a = by_x (times by_x k a)

-- a, x a, x^2 a, .. : k of them
unfoldable pub singles : {E : Type 0} → (E → E) → ℕ → E → List E
singles by_x zero a = []
singles by_x (suc k) a = a ∷ singles by_x k (by_x a)

-- a + x a, x^2 a + x^3 a, .. : k of them
unfoldable pub pairs : {E : Type 0} → (E → E → E) → (E → E) → ℕ → E → List E
pairs add by_x zero a = []
pairs add by_x (suc k) a = add a (by_x a) ∷ pairs add by_x k (by_x (by_x a))

-- the run of length 3 t: x^1 to x^(2 t), then x^(2 i - 1) + x^(2 i) for i from 1 to t
unfoldable pub run : {E : Type 0} → (E → E → E) → (E → E) → E → ℕ → List E
run add by_x one t = singles by_x (2 * t) (by_x one) ++ pairs add by_x t (by_x one)

-- the coefficients of m = 3 t + r blocks
unfoldable pub by_rest : {E : Type 0} → (E → E → E) → (E → E) → E → ℕ → ℕ → List E
by_rest add by_x one t zero = run add by_x one t
by_rest add by_x one t (suc zero) =
    add one (by_x one)
    ∷ (add (by_x one) (times by_x 2 one)
    ∷ (add (times by_x 2 one) (times by_x 3 one)
    ∷ (add (times by_x 3 one) one
    ∷ map (times by_x 3) (run add by_x one (t - 1)))))
by_rest add by_x one t (suc (suc r)) =
    add one (by_x one)
    ∷ (add (by_x one) (times by_x 2 one)
    ∷ (add (times by_x 2 one) (times by_x 3 one)
    ∷ (add (times by_x 3 one) (times by_x 4 one)
    ∷ (add (times by_x 4 one) one
    ∷ map (times by_x 4) (run add by_x one (t - 1))))))

-- the mask coefficients of m blocks, m from 3 up
unfoldable pub coefficients : {E : Type 0} → (E → E → E) → (E → E) → E → ℕ → List E
coefficients add by_x one m = by_rest add by_x one (m / 3) (m % 3)

-- the coefficients as written polynomials: numbers, with no modulus
abbrev pub written : ℕ → List ℕ
written m = coefficients bit_xor (λ a. a * 2) 1 m

-- the most blocks that are sealed together
abbrev pub most_blocks : ℕ
most_blocks = 64

-- the sum of a list
unfoldable pub total : {E : Type 0} → (E → E → E) → E → List E → E
total add zer [] = zer
total add zer (a ∷ es) = add a (total add zer es)

-- a differs from each of a list
abbrev pub Differs : {E : Type 0} → E → List E → Type 0
Differs a [] = Unit {0}
Differs a (b ∷ bs) = (a ≢ b) × Differs a bs

-- no two are equal
abbrev pub Apart : {E : Type 0} → List E → Type 0
Apart [] = Unit {0}
Apart (a ∷ es) = Differs a es × Apart es
