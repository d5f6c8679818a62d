-- The tables of the code, and that each holds the S-box or its inverse at every byte: computed.
use Rattle.std.proofs.Common.{◌≡◌, ℕ, ◌<◌, T, eqb, List, length, get_or, arith, eqb→eq}
use Rattle.field.specs.Field.{times_x, combine, powers, square, norm}
use Rattle.field.specs.Field.{mul as product, inverse as power}
use Rattle.aes_steps.specs.Sbox.{affine, inv_affine, s_box, inv_s_box}
use Rattle.aes_steps.specs.declared.sbox.TheConstants.{SBOX, INV_SBOX}
use Rattle.aes_steps.proofs.Table.{both, both_left, both_right, every, at}

-- a table of 256 bytes that has f x at each place x
pub table_is : (f : ℕ → ℕ) (table : List ℕ) → T (both (eqb (length table) 256) (every (λ x s. eqb s (f x)) 0 table))
    → (x : ℕ) → x < 256 → get_or table x 0 ≡ f x
table_is f table t x h =
    let l = eqb→eq (length table) 256 (both_left (eqb (length table) 256) _ t) in
    eqb→eq (get_or table x 0) (f x) (at (λ y s. eqb s (f y)) table (both_right (eqb (length table) 256) _ t) x (omega arith))

s_boxes_test : T (both (eqb (length SBOX) 256) (every (λ x s. eqb s (s_box x)) 0 SBOX))
unfolding s_box affine product power norm square combine powers times_x
s_boxes_test = tt

inv_s_boxes_test : T (both (eqb (length INV_SBOX) 256) (every (λ x s. eqb s (inv_s_box x)) 0 INV_SBOX))
unfolding inv_s_box inv_affine product power norm square combine powers times_x
inv_s_boxes_test = tt

pub s_boxes_at : (x : ℕ) → x < 256 → get_or SBOX x 0 ≡ s_box x
s_boxes_at = table_is s_box SBOX s_boxes_test

pub inv_s_boxes_at : (x : ℕ) → x < 256 → get_or INV_SBOX x 0 ≡ inv_s_box x
inv_s_boxes_at = table_is inv_s_box INV_SBOX inv_s_boxes_test
