-- Maps on strings of bytes that undo one another do so as maps on the blocks of a kind.
use Rattle.std.proofs.Common.{◌≡◌, ℕ, List, length, ap, ◌∙◌}
use Rattle.kind.specs.Laws.{Ops, Laws, Bytes}
use Rattle.cipher.specs.Bytes.{through_bytes}

-- f keeps the strings of the kind's length, and g undoes f there
pub through_undone : {K : Type 0} (o : Ops K) → Laws o → (f g : List ℕ → List ℕ)
    → ((s : List ℕ) → length s ≡ o.size → Bytes s → (length (f s) ≡ o.size) × Bytes (f s))
    → ((s : List ℕ) → length s ≡ o.size → Bytes s → g (f s) ≡ s)
    → (b : K) → through_bytes o g (through_bytes o f b) ≡ b
through_undone o laws f g keeps undone b =
    let l = laws.bytes_length b in
    let h = laws.bytes_bytes b in
    let k = keeps (o.bytes b) l h in
    ap (λ z. o.block (g z)) (laws.bytes_block (f (o.bytes b)) k.0 k.1) ∙ ap o.block (undone (o.bytes b) l h) ∙ laws.block_bytes b
