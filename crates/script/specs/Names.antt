-- The words that name the ciphers, and the cipher of a ring's keys.
use Rattle.std.specs.Prelude.{◌≡◌, ◌≢◌, ℕ, List, codes, Result, MatchResult}
use Rattle.script.specs.declared.problems.Wrong.{Wrong}
use Rattle.script.specs.declared.rings.CipherName.{CipherName}
use Rattle.script.specs.declared.rings.CipherName.TheVariants.{Aes, Xtea, Whitened}
use Rattle.script.specs.declared.rings.Keys.{Keys}
use Rattle.script.specs.declared.rings.Keys.TheVariants as keys

abbrev pub cipher_word : CipherName → List ℕ
cipher_word Aes = codes "aes"
cipher_word Xtea = codes "xtea"
cipher_word Whitened = codes "whitened"

-- what a word is read as: the cipher that it names, or a refusal if it names none
abbrev pub Named : List ℕ → Result CipherName Wrong → Type 0
Named word named = MatchResult named (λ cipher. word ≡ cipher_word cipher) (λ wrong. (cipher : CipherName) → word ≢ cipher_word cipher)

-- the cipher whose keys a ring has
abbrev pub cipher_of : Keys → CipherName
cipher_of (keys.Aes ks) = Aes
cipher_of (keys.Xtea ks) = Xtea
cipher_of (keys.Whitened ks) = Whitened
