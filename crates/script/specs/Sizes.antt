-- The sizes of images and keys, by the cipher's name, and the sizes that a script asks for.
use Rattle.std.specs.Prelude.{ℕ, ◌+◌, ◌*◌, Bool, false, not, cond, List, [], ◌∷◌, Option, Some, None, ◌==◌, nat_le}
use Rattle.std.specs.List.{find}
use Rattle.std.specs.Option.{option_map}
use Rattle.script.specs.declared.commands.Command.{Command}
use Rattle.script.specs.declared.commands.Command.TheVariants.{Format}
use Rattle.script.specs.declared.commands.Line.{Line}
use Rattle.script.specs.declared.rings.CipherName.{CipherName}
use Rattle.script.specs.declared.rings.CipherName.TheVariants.{Aes, Xtea, Whitened}

abbrev pub block_length : CipherName → ℕ
block_length Aes = 16
block_length Xtea = 8
block_length Whitened = 8

abbrev pub image_length : CipherName → ℕ → ℕ
image_length cipher sectors = 2 + block_length cipher + 514 * sectors

-- the bytes of a key: for whitened XTEA the key and the blocks before and after
abbrev pub key_length : CipherName → ℕ
key_length Aes = 16
key_length Xtea = 16
key_length Whitened = 32

-- the length of the image that a call asks for, if it is a format of no more sectors than a script may ask for
abbrev pub wanted_by : CipherName → Command → Option ℕ
wanted_by cipher (Format sectors number) = cond (nat_le sectors 65536) (Some (image_length cipher sectors)) None
wanted_by cipher _ = None

abbrev pub wanted : CipherName → Line → Option ℕ
wanted cipher l = wanted_by cipher l.command

-- the length that the first line asks for
abbrev pub first_wanted : CipherName → List Line → Option ℕ
first_wanted cipher [] = None
first_wanted cipher (l ∷ ls) = wanted cipher l

abbrev pub is_other : ℕ → Option ℕ → Bool
is_other n None = false
is_other n (Some size) = not (size == n)

-- the number of the first line that asks for an image of another length than n
abbrev pub first_other : CipherName → ℕ → List Line → Option ℕ
first_other cipher n ls = option_map (λ (l : Line). l.line) (find (λ (l : Line). is_other n (wanted cipher l)) ls)
