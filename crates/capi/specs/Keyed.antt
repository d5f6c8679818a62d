-- The ciphers under a key given as bytes: the two maps of each, and what a cipher holds of its key.
use Rattle.std.specs.Prelude.{ℕ, List, take, drop}
use Rattle.kind.specs.Laws.{Ops}
use Rattle.kind.specs.Polynomials.{wide_ops, short_ops}
use Rattle.poly.specs.declared.short.Short.{Short}
use Rattle.poly.specs.declared.wide.Wide.{Wide}
use Rattle.cipher.specs.Bytes.{through_bytes}
use Rattle.cipher.specs.declared.Whitened.{Whitened}
use Rattle.sealing.specs.Mode.{Maps}
use Rattle.aes.specs.Cipher.{cipher, inv_cipher}
use Rattle.aes.specs.Keys.{key_expansion}
use Rattle.aes.specs.declared.keyed.Aes.{Aes}
use Rattle.xtea.specs.Xtea.{encipher, decipher, key_words}
use Rattle.xtea.specs.declared.Xtea.{Xtea}

abbrev pub aes_by : List ℕ → Maps Wide
aes_by keys = record { E = through_bytes wide_ops (cipher keys); D = through_bytes wide_ops (inv_cipher keys) }

-- AES-128 under a key of 16 bytes
abbrev pub aes_under : List ℕ → Maps Wide
aes_under key = aes_by (key_expansion key)

abbrev pub xtea_by : List ℕ → Maps Short
xtea_by words = record { E = through_bytes short_ops (encipher words); D = through_bytes short_ops (decipher words) }

-- XTEA under a key of 16 bytes
abbrev pub xtea_under : List ℕ → Maps Short
xtea_under key = xtea_by (key_words key)

-- a cipher between two sums: E'(b) = E(b ⊕ a) ⊕ c and D'(b) = D(b ⊕ c) ⊕ a
abbrev pub between : Short → Short → Maps Short → Maps Short
between a c m = record {
  E = λ b. short_ops.add (m.E (short_ops.add b a)) c;
  D = λ b. short_ops.add (m.D (short_ops.add b c)) a;
}

-- whitened XTEA under 32 bytes: the key, the block before and the block after
abbrev pub whitened_under : List ℕ → Maps Short
whitened_under key = between (short_ops.block (take 8 (drop 16 key))) (short_ops.block (take 8 (drop 24 key))) (xtea_under (take 16 key))

-- a map on the bytes of one block
abbrev pub on_block : {K : Type 0} → Ops K → (K → K) → List ℕ → List ℕ
on_block F f bs = F.bytes (f (F.block bs))

-- AES-128: a cipher holds the expanded key
abbrev pub aes_parts : Aes → List ℕ
aes_parts c = c.keys

-- XTEA: a cipher holds the key's words
abbrev pub xtea_parts : Xtea → List ℕ
xtea_parts c = c.key

-- whitened XTEA: a cipher holds the key's words and two blocks
pub record Parts : Type 0 where
  pub words : List ℕ
  pub before : Short
  pub after : Short

abbrev pub whitened_parts : Whitened Xtea Short → Parts
whitened_parts w = record { words = w.inner.key; before = w.before; after = w.after }

-- 32 bytes: the key, the block before and the block after
abbrev pub whitened_made : List ℕ → Parts
whitened_made key = record { words = key_words (take 16 key); before = short_ops.block (take 8 (drop 16 key)); after = short_ops.block (take 8 (drop 24 key)) }
