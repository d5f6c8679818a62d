-- What holds at each turn of the loops of `aes::keyed::Aes::encrypt_bytes`.
use Rattle.std.proofs.Common.{◌≡◌}
use Rattle.aes.specs.Cipher.{rounds}
use Rattle.aes.proofs.keyed.Aes.encrypt_bytes.Given as goal

abbrev pub invariant-loop-key : goal.invariant-loop-key
invariant-loop-key l = l.t ≡ rounds l.self.keys l.key-index l.initial.t
