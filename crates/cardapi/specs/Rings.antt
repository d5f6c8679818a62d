-- How sectors are sealed by each type of cipher.
use Rattle.sheet.specs.Sectors.{Sectors, sectors}
use Rattle.poly.specs.declared.short.Short.{Short}
use Rattle.aes.specs.declared.keyed.Aes.{Aes}
use Rattle.aes.specs.Blocks.{encrypted, decrypted}
use Rattle.xtea.specs.declared.Xtea.{Xtea}
use Rattle.xtea.specs.Blocks as xtea
use Rattle.cipher.specs.declared.Whitened.{Whitened}
use Rattle.kind.specs.Polynomials.{wide_ops, short_ops}

-- AES-128
abbrev pub aes_sectors : Sectors Aes
aes_sectors = sectors wide_ops encrypted decrypted

-- XTEA
abbrev pub xtea_sectors : Sectors Xtea
xtea_sectors = sectors short_ops xtea.encrypted xtea.decrypted

-- whitened XTEA
abbrev pub whitened_encrypted : Whitened Xtea Short → Short → Short
whitened_encrypted w b = short_ops.add (xtea.encrypted w.inner (short_ops.add b w.before)) w.after

abbrev pub whitened_decrypted : Whitened Xtea Short → Short → Short
whitened_decrypted w b = short_ops.add (xtea.decrypted w.inner (short_ops.add b w.after)) w.before

abbrev pub whitened_sectors : Sectors (Whitened Xtea Short)
whitened_sectors = sectors short_ops whitened_encrypted whitened_decrypted
