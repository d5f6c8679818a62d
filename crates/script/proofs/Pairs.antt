-- The pairs of a text, by their places.
use Rattle.std.proofs.Common.{◌≡◌, ℕ, zero, suc, ◌+◌, ◌*◌, ◌<◌, List, [], get_or, drop, refl, ap, ◌∙◌, arith, lit<}
use Rattle.std.proofs.lemmas.List.{get_or-take, get_or-drop}
use Rattle.std.specs.Simd.{first_chunks}
use Rattle.script.specs.Hex.{byte_at}

-- digit j of the pair at place k
digit_at : (n k j : ℕ) (text : List ℕ) → k < n → j < 2 → get_or (get_or (first_chunks 2 n text) k []) j 0 ≡ get_or text (2 * k + j) 0
digit_at zero k j text h l = absurd (omega (arith, h))
digit_at (suc n) zero j text h l = get_or-take 2 text j 0 l ∙ ap (λ (i : ℕ). get_or text i 0) (omega arith)
digit_at (suc n) (suc k) j text h l =
    digit_at n k j (drop 2 text) (omega (arith, h)) l
    ∙ get_or-drop 2 text (2 * k + j) 0
    ∙ ap (λ (i : ℕ). get_or text i 0) (omega arith)

-- the byte of the pair at place k
pub byte_of_pair : (n k : ℕ) (text : List ℕ) → k < n → byte_at (get_or (first_chunks 2 n text) k []) 0 ≡ byte_at text k
byte_of_pair n k text h =
    let high : get_or (get_or (first_chunks 2 n text) k []) 0 0 ≡ get_or text (2 * k) 0 = digit_at n k 0 text h (lit< tt) ∙ ap (λ (i : ℕ). get_or text i 0) (omega arith) in
    let low = digit_at n k 1 text h (lit< tt) in
    rw (high, low) refl
