-- Parts of an image as the code cuts them out, and what its writes leave.
use Rattle.std.proofs.Common.{◌≡◌, ℕ, zero, suc, ◌+◌, ◌-◌, ◌*◌, ◌<◌, List, ◌∷◌, ◌++◌, length, get_or, take, drop, set, replicate, refl, ap, ◌∙◌, arith}
use Rattle.std.specs.Simd.{first_chunks}
use borrow.Rule.Slice.PartMut.{put_mid}
use Rattle.std.proofs.lemmas.List.{drop-replicate, drop-drop}
use Rattle.layout.specs.Layout.{record_at, records_of, count_of}

pub mid_is : (image : List ℕ) (at n : ℕ) → take ((at + n) - at) (drop at image) ≡ take n (drop at image)
mid_is image at n = let e : (at + n) - at ≡ n = omega arith in ap (λ (k : ℕ). take k (drop at image)) e

-- what format writes
pub formatted : (n : List ℕ) (len w m k : ℕ) → len ≡ 2 + w + k → m ≡ w → put_mid 2 m (set (set (replicate len 0) 0 67) 1 w) n ≡ 67 ∷ (w ∷ (n ++ replicate k 0))
formatted n zero w m k e h = absurd (omega arith)
formatted n (suc zero) w m k e h = absurd (omega arith)
formatted n (suc (suc len)) w m k e h =
    let q : len - m ≡ k = omega arith in
    ap {B = List ℕ} (λ t. 67 ∷ (w ∷ (n ++ t))) (drop-replicate m len 0 ∙ ap (λ (j : ℕ). replicate j 0) q)

-- the records of an image are those at their places
pub length-chunks : (k : ℕ) (xs : List ℕ) → length (first_chunks 514 k xs) ≡ k
length-chunks zero xs = refl
length-chunks (suc k) xs = ap suc (length-chunks k (drop 514 xs))

chunk_at : (k i : ℕ) (xs d : List ℕ) → i < k → get_or (first_chunks 514 k xs) i d ≡ take 514 (drop (514 * i) xs)
chunk_at zero i xs d l = absurd (omega arith)
chunk_at (suc k) zero xs d l = refl
chunk_at (suc k) (suc i) xs d l =
    let e : 514 + 514 * i ≡ 514 * suc i = omega arith in
    chunk_at k i (drop 514 xs) d (omega arith) ∙ ap (take 514) (drop-drop (514 * i) 514 xs) ∙ ap (λ (j : ℕ). take 514 (drop j xs)) e

pub record_in : (w : ℕ) (image : List ℕ) (s : ℕ) (d : List ℕ) → s < count_of w image → get_or (records_of w image) s d ≡ record_at w image s
record_in w image s d l =
    chunk_at (count_of w image) s (drop (2 + w) image) d l ∙ ap (take 514) (drop-drop (514 * s) (2 + w) image)
