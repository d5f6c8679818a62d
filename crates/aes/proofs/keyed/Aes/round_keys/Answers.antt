-- What is left to show of `aes::keyed::Aes::round_keys`.
use Rattle.std.proofs.Common.{ap, arith, List, ℕ, take, drop, get_or, []}
use Rattle.aes.proofs.RoundKeys.{chunks_are}
use Rattle.aes.proofs.keyed.Aes.round_keys.Goals as goal

pub returns-clause-middle : goal.returns-clause-middle
returns-clause-middle c =
    ap (λ x. take 9 (drop 1 x)) (chunks_are 16 11 c.args.self.now.keys c.as_chunks.result.0.now (omega arith) c.as_chunks.ensures.front)

pub returns-clause-last : goal.returns-clause-last
returns-clause-last c =
    ap (λ (x : List (List ℕ)). get_or x 10 []) (chunks_are 16 11 c.args.self.now.keys c.as_chunks.result.0.now (omega arith) c.as_chunks.ensures.front)
