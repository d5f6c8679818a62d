-- What a change of the blocks leaves.
use Rattle.std.specs.Prelude.{◌≡◌, List}
use Rattle.kind.specs.declared.block.Block as block
use Rattle.cipher.specs.declared.Cipher as cipher
use Rattle.passes.specs.declared.work.Work.{Work}
use Rattle.passes.specs.Rows.{on_blocks}

-- The work goes on with the same cipher, the same terms and the same buffer of the caller's, whose blocks became f of them.
pub record Changed {C K : Type 0} {c : cipher.Ghosts C K} {k : block.Ghosts K} (f : List K → List K) (old new : Work C K c k) : Type 0 where
  pub cipher : new.cipher ≡ old.cipher
  pub terms : new.terms ≡ old.terms
  pub buffer : new.bytes.ghost_name ≡ old.bytes.ghost_name
  pub bytes : new.bytes.now ≡ on_blocks k.ops old.terms.now.m f old.bytes.now
