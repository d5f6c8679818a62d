-- The field at n = 128: the two facts that are computed, and what follows. The table comes from solving the linear equations v^2 + v.
use Rattle.std.proofs.Common.{◌≡◌, ℕ, ◌%◌, ◌^◌, ◌<◌, ◌≢◌, List, [], ◌∷◌, map, refl, lit<}
use lib.Bits.{bit_xor}
use Rattle.field.specs.Field.{times_x, combine, powers, mul, square, inverse}
use Rattle.field.proofs.Inverse.{squares, solve}
use Rattle.field.proofs.Inverse as inv

back : squares 128 0x87 128 2 ≡ 2
unfolding times_x combine powers mul square squares
back = refl

table : List ℕ
table =
    0x295ac0b1f4731af9676aac9fa4b20b08 ∷
    0xe5da5595ee970b89929959af766af404 ∷
    0xe5da5595ee970b89929959af766af406 ∷
    0x4e9826c74350bfe67783f7333404a20c ∷
    0xe5da5595ee970b89929959af766af402 ∷
    0x2aaea79ad7da34b07dc714cb83074e6a ∷
    0x4e9826c74350bfe67783f7333404a204 ∷
    0xcc8095241ae41171f5f3f531d2d9fe18 ∷
    0xe5da5595ee970b89929959af766af412 ∷
    0x4e983687d159ce9677cb862e8ac85b44 ∷
    0x2aaea79ad7da34b07dc714cb83074e4a ∷
    0xaae2ab6aaf144aaff73fcb3c06aaff56 ∷
    0x4e9826c74350bfe67783f7333404a244 ∷
    0xe62f327ccd5792dd893fe9ca40603f62 ∷
    0xcc8095241ae41171f5f3f531d2d9fe98 ∷
    0xab52f0323f47c90be1336bc7d453b626 ∷
    0xe5da5595ee970b89929959af766af512 ∷
    0x2abe34bad75338b479a6a089abf4573a ∷
    0x4e983687d159ce9677cb862e8ac85944 ∷
    0x1e8ccb9dcc72f2e1a9cbef8232562fc ∷
    0x2aaea79ad7da34b07dc714cb83074a4a ∷
    0x2442c3221f3dc1a0ce869b24a80e48c ∷
    0xaae2ab6aaf144aaff73fcb3c06aaf756 ∷
    0xcf64612f39c4323deb3ff936dd9aa228 ∷
    0x4e9826c74350bfe67783f7333404b244 ∷
    0xcc911696880d4909f0d5382a57572458 ∷
    0xe62f327ccd5792dd893fe9ca40601f62 ∷
    0x4d7cd7cc29d28cf2697f6478e5db2834 ∷
    0xcc8095241ae41171f5f3f531d2d9be98 ∷
    0xccc99127569146a7fc0956ca1a5b86a4 ∷
    0xab52f0323f47c90be1336bc7d4533626 ∷
    0x65cece94dacd5b1c14f5986b001eeb82 ∷
    0xe5da5595ee970b89929959af766bf512 ∷
    0x2b0e7fa2d509ca746fe27169c7c3e73a ∷
    0x2abe34bad75338b479a6a089abf6573a ∷
    0x65df4d264824132411d3553885980142 ∷
    0x4e983687d159ce9677cb862e8acc5944 ∷
    0xcf74f70e70ef2af7ef6fd21d2af671a4 ∷
    0x1e8ccb9dcc72f2e1a9cbef8232d62fc ∷
    0xcec4b9173b16cdf9f91a9d8499490f58 ∷
    0x2aaea79ad7da34b07dc714cb83174a4a ∷
    0x83f16f99175f624799a6cf206b513bdc ∷
    0x2442c3221f3dc1a0ce869b24aa0e48c ∷
    0x3f562a96a2aa9081b9e27ebe84671c0 ∷
    0xaae2ab6aaf144aaff73fcb3c06eaf756 ∷
    0xccc9c07ae11bcce3fcd6d526cddeebd4 ∷
    0xcf64612f39c4323deb3ff936dd1aa228 ∷
    0xa95fc803c09556f7e461dfebe8467196 ∷
    0x4e9826c74350bfe67783f7333504b244 ∷
    0x4cdc1ab0f0ab5b2e7b20ee03c15c7384 ∷
    0xcc911696880d4909f0d5382a55572458 ∷
    0xaaba68961da11d79fb48c8c7fe68cf6a ∷
    0xe62f327ccd5792dd893fe9ca44601f62 ∷
    0xe5db5416ee209847938b5c70638d3bee ∷
    0x4d7cd7cc29d28cf2697f6478eddb2834 ∷
    0x6437818b95e2e76e0b49fa26a7e512ce ∷
    0xcc8095241ae41171f5f3f531c2d9be98 ∷
    0x4cd9020746184ba27868a299022ddf34 ∷
    0xccc99127569146a7fc0956ca3a5b86a4 ∷
    0x824171dcefbe4a8b8f1d24e407e8e76c ∷
    0xab52f0323f47c90be1336bc794533626 ∷
    0xe62e22af1f6bf32b88711e202cdc3b5e ∷
    0x65cece94dacd5b1c14f5986b801eeb82 ∷
    0x83f4672b23a92e499aadb85427b54520 ∷
    0xe5da5595ee970b89929959ae766bf512 ∷
    0x1040920971720048711dbeccf94c ∷
    0x2b0e7fa2d509ca746fe2716bc7c3e73a ∷
    0x81edd40a7a7437cb99d6b267d0d7976c ∷
    0x2abe34bad75338b479a6a08dabf6573a ∷
    0xe46a1e8deccdf96d84dd884d1a5d4462 ∷
    0x65df4d264824132411d3553085980142 ∷
    0x804c1cb1eac70f698ab1aeeb3a605920 ∷
    0x4e983687d159ce9677cb863e8acc5944 ∷
    0xa94f4b3252499e01e04514377dbd55aa ∷
    0xcf74f70e70ef2af7ef6fd23d2af671a4 ∷
    0xe7d77da5831189d3978a93f3f56f619e ∷
    0x1e8ccb9dcc72f2e1a9cbeb8232d62fc ∷
    0x4cdd0f362b68e52a7a5109eab0a16ef4 ∷
    0xcec4b9173b16cdf9f91a9d0499490f58 ∷
    0xe4329c3d7bf233698830781e88d05912 ∷
    0x2aaea79ad7da34b07dc715cb83174a4a ∷
    0x82082082597387418618bcbfcff334e0 ∷
    0x83f16f99175f624799a6cd206b513bdc ∷
    0x294b124ed1181a846297e291f4adcc3a ∷
    0x2442c3221f3dc1a0ce86db24aa0e48c ∷
    0xe78fff41144664939b696b666550119e ∷
    0x3f562a96a2aa9081b9e2febe84671c0 ∷
    0xcd78dbfd54a1436beb568d9e63d55a14 ∷
    0xaae2ab6aaf144aaff73fdb3c06eaf756 ∷
    0xccdd4e7b1ce38d0ffacabbbeed722b64 ∷
    0xccc9c07ae11bcce3fcd6f526cddeebd4 ∷
    0x3e5e1ccb1bf89c61fb4754fa43bbf3c ∷
    0xcf64612f39c4323deb3fb936dd1aa228 ∷
    0xe5da00893461b455926f68f4172caea2 ∷
    0xa95fc803c09556f7e4615febe8467196 ∷
    0xe78ae2a77b3e87b1981cf1dccb9d1fd2 ∷
    0x4e9826c74350bfe67782f7333504b244 ∷
    0x2912d4222a675b0a6fd777b6c15f72c6 ∷
    0x4cdc1ab0f0ab5b2e7b22ee03c15c7384 ∷
    0xe7d6682e58d237f196f8740f85956fd2 ∷
    0xcc911696880d4909f0d1382a55572458 ∷
    0xab4366b0764a0b4be46143c933474626 ∷
    0xaaba68961da11d79fb40c8c7fe68cf6a ∷
    0xe7d77d718378aeb397849bb7f7de0d9e ∷
    0xe62f327ccd5792dd892fe9ca44601f62 ∷
    0x64231d9efb5729d60d13f9bd382e380e ∷
    0xe5db5416ee20984793ab5c70638d3bee ∷
    0x81b51ab7a5fe1499959811bd9a557220 ∷
    0x4d7cd7cc29d28cf2693f6478eddb2834 ∷
    0x295ab4bb43072c12678a4ee975a08406 ∷
    0x6437818b95e2e76e0bc9fa26a7e512ce ∷
    0xab0eead38eb165ebef9e1acd25989a26 ∷
    0xcc8095241ae41171f4f3f531c2d9be98 ∷
    0x3ba7996db230c0010185b9b29b00000 ∷
    0x4cd9020746184ba27a68a299022ddf34 ∷
    0x8210932010890d058261f45338765990 ∷
    0xccc99127569146a7f80956ca3a5b86a4 ∷
    0x2a88e0fbb92f0c2c7f14722e3db361fa ∷
    0x824171dcefbe4a8b871d24e407e8e76c ∷
    0x29b11e87b8989fd86fb067f47d17578a ∷
    0xab52f0323f47c90bf1336bc794533626 ∷
    0x0 ∷
    0xe62e22af1f6bf32ba8711e202cdc3b5e ∷
    0x862e22af1f6bf32ba8711e202cdc3b6c ∷
    0x65cece94dacd5b1c54f5986b801eeb82 ∷
    0x8e8cbdc6770aef73b1ef36f7c270bdac ∷
    0x83f4672b23a92e491aadb85427b54520 ∷
    0x38b21c09fae1613c0db7ed8c3891e6fa ∷ []

solves : map (λ v. solve 128 0x87 table (v % 2 ^ 128)) (powers 128 0x87 128 1) ≡ map (λ v. bit_xor v (v % 2)) (powers 128 0x87 128 1)
unfolding times_x combine powers mul square solve table
solves = refl

pub has_inverse : (a : ℕ) → a < 2 ^ 128 → a ≢ 0 → mul 128 0x87 a (inverse 128 0x87 a) ≡ 1
has_inverse = inv.has_inverse 128 0x87 (lit< tt) (lit< tt) back table solves

pub product_nonzero : (a b : ℕ) → a < 2 ^ 128 → b < 2 ^ 128 → a ≢ 0 → b ≢ 0 → mul 128 0x87 a b ≢ 0
product_nonzero = inv.product_nonzero 128 0x87 (lit< tt) (lit< tt) back table solves

pub inverses : (a : ℕ) → a < 2 ^ 128 → a ≢ 0 → (inverse 128 0x87 a < 2 ^ 128) × (mul 128 0x87 a (inverse 128 0x87 a) ≡ 1)
inverses a h ne = (inv.inverse_lt 128 0x87 (lit< tt) (lit< tt) back a h, has_inverse a h ne)
