-- The ciphers of a ring.
use Rattle.std.specs.Prelude.{List}
use Rattle.sector.specs.declared.ring.Ring.{Ring}

-- the list of a ring's ciphers; a key number is a place in it
abbrev pub ciphers_of : {C : Type 0} → Ring C → List C
ciphers_of ring = ring.ciphers.now
