-- The masks from three blocks up.
use Rattle.std.proofs.Common.{◌≡◌, ℕ, suc, ◌≤◌, refl, arith}
use Rattle.passes.specs.Scheme.{by_count}

pub by_count_many : {A : Type 0} (m : ℕ) (a b c : A) → 3 ≤ m → by_count m a b c ≡ c
by_count_many ℕ.zero a b c l = absurd (omega arith)
by_count_many (suc ℕ.zero) a b c l = absurd (omega arith)
by_count_many (suc (suc ℕ.zero)) a b c l = absurd (omega arith)
by_count_many (suc (suc (suc k))) a b c l = refl

pub by_count_few : {A : Type 0} (m : ℕ) (a c : A) → m ≤ 2 → by_count m a a c ≡ a
by_count_few ℕ.zero a c l = refl
by_count_few (suc ℕ.zero) a c l = refl
by_count_few (suc (suc ℕ.zero)) a c l = refl
by_count_few (suc (suc (suc k))) a c l = absurd (omega arith)

pub by_count_one : {A : Type 0} (m : ℕ) (a b c : A) → m ≤ 1 → by_count m a b c ≡ a
by_count_one ℕ.zero a b c l = refl
by_count_one (suc ℕ.zero) a b c l = refl
by_count_one (suc (suc m)) a b c l = absurd (omega arith)

pub by_count_two : {A : Type 0} (m : ℕ) (a b c : A) → m ≡ 2 → by_count m a b c ≡ b
by_count_two ℕ.zero a b c l = absurd (omega arith)
by_count_two (suc ℕ.zero) a b c l = absurd (omega arith)
by_count_two (suc (suc ℕ.zero)) a b c l = refl
by_count_two (suc (suc (suc m))) a b c l = absurd (omega arith)
