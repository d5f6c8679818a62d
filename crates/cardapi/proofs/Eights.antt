-- Of a list of ciphers, as many as there are keys are those of the keys.
use Rattle.std.proofs.Common.{◌≡◌, ℕ, zero, suc, ◌+◌, ◌<◌, ◌≤◌, List, [], ◌∷◌, map, length, get_or, take, refl, ap₂, subst, arith}

in_front :
    {C D K : Type 0} (held : C → D) (made : K → D) (cs : List C) (keys : List K)
    → length keys ≤ length cs → ((i : ℕ) (d : C) (e : K) → i < length keys → held (get_or cs i d) ≡ made (get_or keys i e)) → map held (take (length keys) cs) ≡ map made keys
in_front held made cs [] h f = refl
in_front held made [] (k ∷ keys) h f = absurd (omega arith)
in_front held made (c ∷ cs) (k ∷ keys) h f = ap₂ ◌∷◌ (f 0 c k (omega arith)) (in_front held made cs keys (omega arith) (λ i d e l. f (suc i) d e (omega arith)))

-- what each element of a list is, by its place
abbrev pub Each : {C : Type 0} → (ℕ → C → Type 0) → ℕ → List C → Type 0
Each P i [] = Unit {0}
Each P i (c ∷ cs) = P i c × Each P (i + 1) cs

each_at : {C : Type 0} (P : ℕ → C → Type 0) (i : ℕ) (cs : List C) → Each P i cs → (k m : ℕ) (d : C) → k < length cs → m ≡ i + k → P m (get_or cs k d)
each_at P i [] h k m d l e = absurd (omega arith)
each_at P i (c ∷ cs) h zero m d l e = let at : i ≡ m = omega arith in subst (λ (v : ℕ). P v c) at h.0
each_at P i (c ∷ cs) h (suc k) m d l e = each_at P (i + 1) cs h.1 k m d (omega arith) (omega arith)

pub ring_of :
    {C D K : Type 0} (held : C → D) (made : K → D) (keys : List K) (cs : List C) → length keys ≤ length cs
    → ((e : K) → Each (λ i c. i < length keys → held c ≡ made (get_or keys i e)) 0 cs)
    → map held (take (length keys) cs) ≡ map made keys
ring_of held made keys cs h each =
    in_front held made cs keys h (λ i d e l. each_at (λ i c. i < length keys → held c ≡ made (get_or keys i e)) 0 cs (each e) i i d (omega arith) (omega arith) l)
