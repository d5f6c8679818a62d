-- Number, sentence, layer, place and cause of every refusal.
use Rattle.std.specs.Prelude.{ℕ, Bool, cond, List, [], ◌++◌, Some, None, Ok, Err, codes, decimal, Option, Result}
use Rattle.fault.specs.declared.NoInverse.{NoInverse}
use Rattle.fault.specs.declared.SealFault.{SealFault}
use Rattle.fault.specs.declared.SealFault.TheVariants.{TweakLength, NotWholeBlocks, TooManyBlocks, DeadTweak, OtherLength}
use Rattle.fault.specs.declared.Layer.{Layer}
use Rattle.fault.specs.declared.Layer.TheVariants.{Sealing, Card}
use Rattle.fault.specs.declared.Fault.{Fault}
use Rattle.fault.specs.declared.Fault.TheVariants.{RingSize, ImageLength, BadHeader, NoSector, NoKey, TextLength, BadMark, BlankNotZero, BlankSector, CardNumberLength, Seal}

-- the number of a refusal of sealing
abbrev pub seal_number : SealFault → ℕ
seal_number TweakLength = 10
seal_number NotWholeBlocks = 11
seal_number TooManyBlocks = 12
seal_number (DeadTweak cause) = 13
seal_number OtherLength = 14

-- the number of a refusal
abbrev pub fault_number : Fault → ℕ
fault_number RingSize = 1
fault_number ImageLength = 2
fault_number BadHeader = 3
fault_number (NoSector s) = 4
fault_number NoKey = 5
fault_number TextLength = 6
fault_number (BadMark s) = 7
fault_number (BlankNotZero s) = 8
fault_number (BlankSector s) = 9
fault_number CardNumberLength = 10
fault_number (Seal f s k) = seal_number f

-- what is true when a refusal of sealing comes
abbrev pub seal_sentence : SealFault → List ℕ
seal_sentence TweakLength = codes "the tweak or the card number is not one block long"
seal_sentence NotWholeBlocks = codes "the buffer is not one or more whole blocks"
seal_sentence TooManyBlocks = codes "the buffer has more than 64 blocks"
seal_sentence (DeadTweak cause) = codes "there are two blocks or more and the tweak enciphers to zero"
seal_sentence OtherLength = codes "the buffer has another length than was begun"

-- what is true when a refusal comes: a sentence for each number
abbrev pub fault_sentence : Fault → List ℕ
fault_sentence RingSize = codes "the ring has no cipher or more than eight"
fault_sentence ImageLength = codes "the image is not a header and 1 to 65535 records long"
fault_sentence BadHeader = codes "the image does not begin with 43 hex and its kind's code"
fault_sentence (NoSector s) = codes "the card has no sector of this number"
fault_sentence NoKey = codes "the key number is not below the ring's size"
fault_sentence TextLength = codes "the text or the reading buffer is not 512 bytes long"
fault_sentence (BadMark s) = codes "the mark is neither a blank one nor that of a key on the ring"
fault_sentence (BlankNotZero s) = codes "a record marked blank holds a byte other than zero"
fault_sentence (BlankSector s) = codes "the sector is blank"
fault_sentence CardNumberLength = seal_sentence TweakLength
fault_sentence (Seal f s k) = seal_sentence f

-- the layer of a refusal of a direct call on sealing
abbrev pub direct_layer : SealFault → Layer
direct_layer f = Sealing

-- the layer of a refusal of sealing that came up through a call on the card: a wrong tweak's length belongs to the layer that was called
abbrev pub seal_layer : SealFault → Layer
seal_layer TweakLength = Card
seal_layer NotWholeBlocks = Sealing
seal_layer TooManyBlocks = Sealing
seal_layer (DeadTweak cause) = Sealing
seal_layer OtherLength = Sealing

-- the layer that refuses
abbrev pub fault_layer : Fault → Layer
fault_layer RingSize = Card
fault_layer ImageLength = Card
fault_layer BadHeader = Card
fault_layer (NoSector s) = Card
fault_layer NoKey = Card
fault_layer TextLength = Card
fault_layer (BadMark s) = Card
fault_layer (BlankNotZero s) = Card
fault_layer (BlankSector s) = Card
fault_layer CardNumberLength = Card
fault_layer (Seal f s k) = seal_layer f

-- the sector that a refusal names
abbrev pub fault_sector : Fault → Option ℕ
fault_sector RingSize = None
fault_sector ImageLength = None
fault_sector BadHeader = None
fault_sector (NoSector s) = Some s
fault_sector NoKey = None
fault_sector TextLength = None
fault_sector (BadMark s) = Some s
fault_sector (BlankNotZero s) = Some s
fault_sector (BlankSector s) = Some s
fault_sector CardNumberLength = None
fault_sector (Seal f s k) = Some s

-- the key number that a refusal names
abbrev pub fault_key : Fault → Option ℕ
fault_key RingSize = None
fault_key ImageLength = None
fault_key BadHeader = None
fault_key (NoSector s) = None
fault_key NoKey = None
fault_key TextLength = None
fault_key (BadMark s) = None
fault_key (BlankNotZero s) = None
fault_key (BlankSector s) = None
fault_key CardNumberLength = None
fault_key (Seal f s k) = Some k

-- what the block kind said, where a refusal of sealing goes back to it
abbrev pub seal_cause : SealFault → Option NoInverse
seal_cause TweakLength = None
seal_cause NotWholeBlocks = None
seal_cause TooManyBlocks = None
seal_cause (DeadTweak cause) = Some cause
seal_cause OtherLength = None

-- what the block kind said, where a refusal goes back to it
abbrev pub fault_cause : Fault → Option NoInverse
fault_cause RingSize = None
fault_cause ImageLength = None
fault_cause BadHeader = None
fault_cause (NoSector s) = None
fault_cause NoKey = None
fault_cause TextLength = None
fault_cause (BadMark s) = None
fault_cause (BlankNotZero s) = None
fault_cause (BlankSector s) = None
fault_cause CardNumberLength = None
fault_cause (Seal f s k) = seal_cause f

-- the one value that says that zero has no inverse
abbrev pub no_inverse : NoInverse
no_inverse = record {}

-- the refusal of a dead tweak, one that enciphers to zero
abbrev pub dead_tweak : SealFault
dead_tweak = DeadTweak no_inverse

-- what the card adds to an outcome of sealing: the sector and the key number
abbrev pub placed : {A : Type 0} → Result A SealFault → ℕ → ℕ → Result A Fault
placed (Ok x) s k = Ok x
placed (Err f) s k = Err (Seal f s k)

-- the refusal of a sector whose tweak is dead under a key
abbrev pub dead_sector : ℕ → ℕ → Fault
dead_sector s k = Seal dead_tweak s k

-- refused where the tweak is dead
abbrev pub refused_if : Bool → Result (Unit {0}) SealFault
refused_if dead = cond dead (Err dead_tweak) (Ok tt)

-- a number named in a text, or nothing
abbrev pub named : List ℕ → Option ℕ → List ℕ
named word None = []
named word (Some n) = word ++ decimal n

-- a refusal as text: 'refusal 8, sector 1: a record marked blank holds a byte other than zero'
abbrev pub fault_text : Fault → List ℕ
fault_text f = codes "refusal " ++ (decimal (fault_number f) ++ (named (codes ", sector ") (fault_sector f) ++ (named (codes ", key ") (fault_key f) ++ (codes ": " ++ fault_sentence f))))
