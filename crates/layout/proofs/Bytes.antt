-- Parts of a list of bytes are bytes.
use Rattle.std.proofs.Common.{ℕ, ◌+◌, ◌<◌, ◌≤◌, List, length, take, drop, ⊎_elim, arith, length-take}
use Rattle.std.proofs.lemmas.List.{get_or-drop, get_or_past, get_or-take}
use Rattle.std.proofs.lemmas.Bool.{cases_lt}
use Rattle.kind.specs.Laws.{Bytes}

pub bytes_drop : (n : ℕ) (xs : List ℕ) → Bytes xs → Bytes (drop n xs)
bytes_drop n xs h k = rw get_or-drop (h (n + k))

pub bytes_take : (n : ℕ) (xs : List ℕ) → Bytes xs → Bytes (take n xs)
bytes_take n xs h k =
    ⊎_elim
    (λ (l : k < n). rw (get_or-take n xs k 0 l) (h k))
    (λ (g : n ≤ k).
    let short : length (take n xs) ≤ k = simp length-take (omega arith) in
    rw (get_or_past (take n xs) k 0 short) (omega arith))
    (cases_lt k n)
