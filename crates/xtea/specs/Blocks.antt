-- XTEA on the blocks of the short kind, by their bytes.
use Rattle.cipher.specs.Bytes.{through_bytes}
use Rattle.kind.specs.Polynomials.{short_ops}
use Rattle.poly.specs.declared.short.Short.{Short}
use Rattle.xtea.specs.declared.Xtea.{Xtea}
use Rattle.xtea.specs.Xtea.{encipher, decipher}

-- E is 32 cycles on the bytes of a block, and D is the same backwards
abbrev pub encrypted : Xtea → Short → Short
encrypted c = through_bytes short_ops (encipher c.key)

abbrev pub decrypted : Xtea → Short → Short
decrypted c = through_bytes short_ops (decipher c.key)
