-- Behind the mark stand 512 bytes.
use Rattle.std.proofs.Common.{drop, ap, ◌∙◌, arith, length-drop}
use Rattle.std.proofs.lemmas.List.{take_all}
use Rattle.layout.specs.Layout.{zeros}
use Rattle.sector.proofs.sector.is_zero.Goals as goal

pub returns : goal.returns
returns c = c.all_zero.ensures ∙ ap zeros (take_all 512 (drop 2 c.args.rec.now) (simp length-drop (omega arith)))
