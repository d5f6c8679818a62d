-- AES-128 on the blocks of the wide kind, by their bytes.
use Rattle.cipher.specs.Bytes.{through_bytes}
use Rattle.kind.specs.Polynomials.{wide_ops}
use Rattle.poly.specs.declared.wide.Wide.{Wide}
use Rattle.aes.specs.declared.keyed.Aes.{Aes}
use Rattle.aes.specs.Cipher.{cipher, inv_cipher}

-- E is Cipher on the bytes of a block, and D is InvCipher
abbrev pub encrypted : Aes → Wide → Wide
encrypted c = through_bytes wide_ops (cipher c.keys)

abbrev pub decrypted : Aes → Wide → Wide
decrypted c = through_bytes wide_ops (inv_cipher c.keys)
