-- What holds at each turn of the loops of `aes::keyed::Aes::decrypt_bytes`.
use Rattle.std.proofs.Common.{◌≡◌, ℕ, length, map}
use Rattle.std.specs.List.{range_with_len}
use Rattle.aes.specs.Cipher.{round_key, inv_rounds}
use Rattle.aes.proofs.keyed.Aes.decrypt_bytes.Given as goal

abbrev pub invariant-loop-key : goal.invariant-loop-key
invariant-loop-key l =
    let n : ℕ = length l.key-iterator.iter.rest.now in
    (l.key-iterator.iter.rest.now ≡ map (λ i. round_key l.self.keys i) (range_with_len 1 n)) × (inv_rounds l.self.keys n l.t ≡ inv_rounds l.self.keys 9 l.initial.t)
