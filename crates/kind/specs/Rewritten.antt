-- What is left of a buffer whose blocks were changed.
use Rattle.std.specs.Prelude.{◌≡◌, List}
use Rattle.kind.specs.Blocks.{blocks, flat}
use Rattle.kind.specs.declared.block.Block as block
use Rattle.kind.specs.declared.buffer.Blocks.{Blocks}

-- the same buffer of the caller's, as many blocks, which became f of them
pub record Rewritten {K : Type 0} {k : block.Ghosts K} (f : List K → List K) (old new : Blocks K k) : Type 0 where
  pub buffer : new.bytes.ghost_name ≡ old.bytes.ghost_name
  pub count : new.count ≡ old.count
  pub bytes : new.bytes.now ≡ flat k.ops (f (blocks k.ops old.count old.bytes.now))
