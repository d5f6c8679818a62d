-- What is left to show of `write`.
use Rattle.std.proofs.Common.{◌≡◌, length, sym, ap, ◌∙◌, arith, rules}
use Rattle.field.specs.Bytes.{bytes}
use Rattle.poly.specs.Wides.{number}
use Rattle.poly.proofs.Octets.{bytes_written}
use Rattle.poly.proofs.fields.WideField.write.Goals as goal

pub returns : goal.returns
returns c =
    let v = number c.args.self in
    let e : c.to_be_bytes.result ≡ bytes 16 v = c.to_be_bytes.ensures ∙ bytes_written 16 c.from.result ∙ ap (bytes 16) c.from.ensures in
    let l : length c.args.into.now ≡ 16 = omega (arith, c.requires) in
    search (rules, e) ∙ ap (λ k. bytes k v) (sym l)
