-- What is left to show of `write`.
use Rattle.std.proofs.Common.{◌≡◌, length, sym, ap, ◌∙◌, arith, rules}
use Rattle.field.specs.Bytes.{bytes}
use Rattle.poly.proofs.Octets.{bytes_written}
use Rattle.poly.proofs.fields.ShortField.write.Goals as goal

pub returns : goal.returns
returns c =
    let v = c.args.self.word in
    let e : c.to_be_bytes.result ≡ bytes 8 v = c.to_be_bytes.ensures ∙ bytes_written 8 v in
    let l : length c.args.into.now ≡ 8 = omega (arith, c.requires) in
    search (rules, e) ∙ ap (λ k. bytes k v) (sym l)
