-- The bytes of a number, the highest first, as the library writes and reads them.
use Rattle.std.proofs.Common.{◌≡◌, ℕ, zero, suc, ◌+◌, ◌-◌, ◌*◌, ◌/◌, ◌%◌, ◌^◌, List, [], ◌∷◌, length, get_or, sym, refl, ap, ◌∙◌, ap₂, add_assoc, pow-suc, div-one, arith, pow-add}
use Rattle.std.specs.Int.{byte_at, byte_worth, bytes_high_first, sum_through}
use Rattle.field.specs.Bytes.{number, bytes}

power : (k : ℕ) → 256 ^ k ≡ 2 ^ (8 * k)
power zero = refl
power (suc k) =
    let e : 8 * k + 8 ≡ 8 * suc k = omega arith in
    pow-suc 256 k ∙ ap (λ t. t * 256) (power k) ∙ sym (pow-add 2 (8 * k) 8) ∙ ap (λ t. 2 ^ t) e

pub bytes_written : (k v : ℕ) → bytes_high_first k v ≡ bytes k v
unfolding bytes
bytes_written zero v = refl
bytes_written (suc k) v = ap₂ (λ b bs. b ∷ bs) (at k) (bytes_written k v)
  where
    at : (i : ℕ) → byte_at i v ≡ v / 2 ^ (8 * i) % 256
    at zero = ap (λ t. t % 256) (sym (div-one v))
    at (suc i) = ap (λ t. v / t % 256) (power (suc i))

-- a sum without its first term
tail : (f : ℕ → ℕ) (k : ℕ) → sum_through f (suc k) ≡ f 0 + sum_through (λ i. f (suc i)) k
tail f zero = refl
tail f (suc k) = ap (λ t. t + f (suc (suc k))) (tail f k) ∙ add_assoc (f 0) (sum_through (λ i. f (suc i)) k) (f (suc (suc k)))

same : (f g : ℕ → ℕ) → ((i : ℕ) → f i ≡ g i) → (k : ℕ) → sum_through f k ≡ sum_through g k
same f g h zero = h 0
same f g h (suc k) = ap₂ (λ a b. a + b) (same f g h k) (h (suc k))

pub number_read : (k : ℕ) (bs : List ℕ) → length bs ≡ suc k → sum_through (λ i. byte_worth (k - i) (get_or bs i 0)) k ≡ number bs
unfolding number
number_read k [] e = absurd (omega arith)
number_read zero (b ∷ []) e = omega arith
number_read zero (b ∷ c ∷ bs) e = absurd (omega arith)
number_read (suc k) (b ∷ bs) e =
    let l : suc k ≡ length bs = omega arith in
    let z : suc k - 0 ≡ suc k = omega arith in
    tail (λ i. byte_worth (suc k - i) (get_or (b ∷ bs) i 0)) k
    ∙ ap₂ (λ s t. s + t)
    (ap (λ t. byte_worth t b) z ∙ ap (λ t. b * t) (power (suc k)) ∙ ap (λ t. b * 2 ^ (8 * t)) l)
    (same (λ i. byte_worth (suc k - suc i) (get_or bs i 0)) (λ i. byte_worth (k - i) (get_or bs i 0)) (λ i. let d : suc k - suc i ≡ k - i = omega arith in ap (λ t. byte_worth t (get_or bs i 0)) d) k
    ∙ number_read k bs (sym l))
