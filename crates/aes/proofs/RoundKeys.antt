-- The chunks of an expanded key, and its round keys.
use Rattle.std.proofs.Common.{◌≡◌, ℕ, zero, suc, ◌+◌, ◌*◌, ◌/◌, ◌<◌, List, [], ◌∷◌, map, length, length-append, get_or, take, drop, sym, refl, ap, ◌∙◌, arith}
use lib.Bits.{bit_xor}
use Rattle.std.specs.List.{range_with_len, push}
use Rattle.std.specs.Simd.{first_chunks}
use Rattle.std.proofs.lemmas.List.{get_or-take, get_or-drop, drop-drop, same_from_push}
use Rattle.std.proofs.lemmas.List.FromFn.{map-range_with_len_more}
use Rattle.aes_steps.specs.Steps.{at, state}
use Rattle.aes_steps.proofs.States.{state_is, state_len, at_state}
use Rattle.aes.specs.Cipher.{round_key, add_round_key}

chunks_from : (n : ℕ) (w : List ℕ) (k i : ℕ) → first_chunks n k (drop (n * i) w) ≡ map (λ j. take n (drop (n * j) w)) (range_with_len i k)
chunks_from n w zero i = refl
chunks_from n w (suc k) i =
    let e : n * i + n ≡ n * (i + 1) = grind arith in
    ap (λ x. take n (drop (n * i) w) ∷ x) (ap (first_chunks n k) (drop-drop n (n * i) w ∙ ap (λ j. drop j w) e) ∙ chunks_from n w k (i + 1))

-- what `as_chunks` gives of a list of k chunks
pub chunks_are : (n k : ℕ) (w : List ℕ) (xs : List (List ℕ)) → length w / n ≡ k → xs ≡ first_chunks n (length w / n) w
    → xs ≡ map (λ j. take n (drop (n * j) w)) (range_with_len 0 k)
chunks_are n k w xs l e =
    let z : 0 ≡ n * 0 = grind arith in
    e ∙ ap (λ m. first_chunks n m w) l ∙ ap (λ j. first_chunks n k (drop j w)) z ∙ chunks_from n w k 0

-- byte k of the chunk of n bytes that begins at m
pub chunk_byte : (n m : ℕ) (w : List ℕ) (k : ℕ) → k < n → get_or (take n (drop m w)) k 0 ≡ get_or w (m + k) 0
chunk_byte n m w k h = get_or-take n (drop m w) k 0 h ∙ get_or-drop m w k 0

-- of the round keys from 1 on, the last one and those before it
pub last_key : (w : List ℕ) (all rest : List (List ℕ)) (key : List ℕ) → all ≡ map (λ n. round_key w n) (range_with_len 1 (length all)) → all ≡ push rest key
    → (length all ≡ length rest + 1) × (key ≡ round_key w (length rest + 1)) × (rest ≡ map (λ n. round_key w n) (range_with_len 1 (length rest)))
last_key w all rest key e p =
    let n : ℕ = length rest in
    let l : length all ≡ n + 1 = ap length p ∙ length-append rest (key ∷ []) in
    let m = map-range_with_len_more (λ n. round_key w n) 1 n (n + 1) (omega arith) in
    let q = same_from_push rest (map (λ n. round_key w n) (range_with_len 1 n)) key (round_key w (n + 1))
    (sym p ∙ e ∙ ap (λ k. map (λ n. round_key w n) (range_with_len 1 k)) l ∙ m) in
    (l, q.1, q.0)

-- a round key added by itself is that of its round
pub added_key : (w : List ℕ) (n : ℕ) (s : List ℕ) → add_round_key (round_key w n) 0 s ≡ add_round_key w n s
unfolding add_round_key
added_key w n s =
    let f : ℕ → ℕ → ℕ = λ r c. bit_xor (at s r c) (get_or w (4 * (4 * n + c) + r) 0) in
    state_is (λ r c. bit_xor (at s r c) (get_or (round_key w n) (4 * (4 * 0 + c) + r) 0)) (state f) (state_len f)
    (λ r c hr hc.
    let k : ℕ = 4 * (4 * 0 + c) + r in
    let p : 16 * n + k ≡ 4 * (4 * n + c) + r = omega arith in
    ap (bit_xor (at s r c)) (chunk_byte 16 (16 * n) w k (omega arith) ∙ ap (λ i. get_or w i 0) p) ∙ sym (at_state f r c hr hc))
