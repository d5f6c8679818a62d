-- The worked cases, gathered into one statement: those of the arithmetic, and sealings with the glass cipher, which changes no block, in both kinds.
-- Blocks are given by their numbers.
use Rattle.std.specs.Prelude.{◌≡◌, ℕ, List, [], ◌∷◌, ◌++◌, Ok, Err}
use Rattle.field.specs.Bytes as octets
use Rattle.kind.specs.Laws.{Ops, bin}
use Rattle.kind.specs.Cases.{ArithmeticCases}
use Rattle.kind.specs.Polynomials.{short_ops, wide_ops}
use Rattle.fault.specs.Faults.{dead_tweak, seal_number}
use Rattle.passes.specs.declared.terms.Terms.{Terms}
use Rattle.sealing.specs.Mode.{Maps, begun, sealing, first_pass, second_pass, third_pass}
use Rattle.stages.specs.Stages.{after_pass}

abbrev pub glass : {K : Type 0} → Maps K
glass = record { E = λ b. b; D = λ b. b }

module _ {K : Type 0} (F : Ops K) where
  -- the bytes of blocks that are given by their numbers
  abbrev pub numbered : List ℕ → List ℕ
  numbered [] = []
  numbered (n ∷ ns) = octets.bytes F.size n ++ numbered ns

  -- R, EN and EEN of three blocks under the tweak 1
  abbrev pub three : Terms K
  three = begun F glass (bin F 1) 3

  pub record SealingCases : Type 0 where
    -- under the tweak 2 the text 0 seals to 15
    pub one_block : sealing F glass (numbered (2 ∷ [])) (numbered (0 ∷ [])) ≡ Ok (numbered (15 ∷ []))
    -- under the tweak 0, which is dead, the text 0 seals to 5, and two blocks are refused
    pub one_block_dead : sealing F glass (numbered (0 ∷ [])) (numbered (0 ∷ [])) ≡ Ok (numbered (5 ∷ []))
    pub two_blocks_dead : sealing F glass (numbered (0 ∷ [])) (numbered (0 ∷ 0 ∷ [])) ≡ Err dead_tweak
    -- under the tweak 1 the text 0, 0 seals to 5, 5
    pub two_blocks : sealing F glass (numbered (1 ∷ [])) (numbered (0 ∷ 0 ∷ [])) ≡ Ok (numbered (5 ∷ 5 ∷ []))
    -- under the tweak 1 the text 0, 0, 0 is 0, 0, 0, then 4, 8, 12, then 12, 24, 20 after the passes
    pub after_first : after_pass F three (first_pass F glass three) (numbered (0 ∷ 0 ∷ 0 ∷ [])) ≡ numbered (0 ∷ 0 ∷ 0 ∷ [])
    pub after_second : after_pass F three (second_pass F glass three) (numbered (0 ∷ 0 ∷ 0 ∷ [])) ≡ numbered (4 ∷ 8 ∷ 12 ∷ [])
    pub after_third : after_pass F three (third_pass F glass three) (numbered (4 ∷ 8 ∷ 12 ∷ [])) ≡ numbered (12 ∷ 24 ∷ 20 ∷ [])
    pub three_blocks : sealing F glass (numbered (1 ∷ [])) (numbered (0 ∷ 0 ∷ 0 ∷ [])) ≡ Ok (numbered (12 ∷ 24 ∷ 20 ∷ []))
    -- under the tweak 2 the text 1, 0, 0 seals to 7, 24, 40
    pub three_more : sealing F glass (numbered (2 ∷ [])) (numbered (1 ∷ 0 ∷ 0 ∷ [])) ≡ Ok (numbered (7 ∷ 24 ∷ 40 ∷ []))

pub record WorkedCases : Type 0 where
  pub arithmetic : ArithmeticCases
  pub short : SealingCases short_ops
  pub wide : SealingCases wide_ops
  -- a dead tweak is refusal 13
  pub thirteen : seal_number dead_tweak ≡ 13
