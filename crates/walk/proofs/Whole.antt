-- The whole walk, from what each record gives.
use Rattle.std.proofs.Common.{◌≡◌, ℕ, zero, suc, ◌+◌, ◌*◌, ◌≤◌, List, [], ◌∷◌, length, take, drop, Ok, Err, refl, ap, ◌∙◌, arith}
use Rattle.std.proofs.lemmas.List.{drop-drop}
use Rattle.std.specs.Simd.{first_chunks}
use Rattle.layout.specs.Layout.{records_of, header_length, count_of}
use Rattle.walk.specs.declared.Entries.{Entries}
use Rattle.walk.specs.Contents.{Outcome, outcome_of, record_from, walk_from, walk_on, on}
use Rattle.walk.specs.Walks.{seen, records_left, next_sector, coming, Gives}

-- records in order, from the place of sector s on, are those at their places
walk_on_chunks : (start : ℕ) (image : List ℕ) (s n at : ℕ) → at ≡ start + 514 * s → walk_on s (first_chunks 514 n (drop at image)) ≡ walk_from start image s n
walk_on_chunks start image s zero at h = refl
walk_on_chunks start image s (suc n) at h =
    let m : s + 1 ≡ suc s = omega arith in
    let rest : List (List ℕ) = first_chunks 514 n (drop 514 (drop at image)) in
    ap (λ (k : ℕ). on (outcome_of (take 514 (drop k image)) s) (walk_on (s + 1) rest)) h
    ∙ ap (λ (os : List Outcome). on (outcome_of (record_from start image s) s) os)
    (ap (λ (k : ℕ). walk_on k rest) m
    ∙ ap (λ (xs : List ℕ). walk_on (suc s) (first_chunks 514 n xs)) (drop-drop 514 at image)
    ∙ walk_on_chunks start image (suc s) n (at + 514) (omega (arith, h)))

-- what comes of the records of an image is what comes of the whole
pub walk_on_records : (w : ℕ) (image : List ℕ) → walk_on 0 (records_of w image) ≡ walk_from (header_length w) image 0 (count_of w image)
walk_on_records w image = walk_on_chunks (header_length w) image 0 (count_of w image) (header_length w) (omega arith)

-- what a walk has still to give is what every run of calls gives
pub run : (os : List Outcome) (e : Entries) → coming e ≡ os → Gives e os
run [] e h = λ x j st. let z : ◌≡◌ {A = ℕ} 0 1 = cc in absurd (omega arith)
run (o ∷ os) e h = (
  (λ j st. let z : ◌≡◌ {A = ℕ} 0 1 = cc in absurd (omega arith)),
  (λ x j st. let a : seen x ≡ o = cc in let b : coming j ≡ os = cc in (a, run os j b)),
)

-- no more comes than there are records
on_length : (o : Outcome) (rest : List Outcome) (n : ℕ) → length rest ≤ n → length (on o rest) ≤ suc n
on_length (Ok x) rest n h = omega arith
on_length (Err f) rest n h = omega arith

pub walk_length : (start : ℕ) (image : List ℕ) (s n : ℕ) → length (walk_from start image s n) ≤ n
walk_length start image s zero = omega arith
walk_length start image s (suc n) = on_length (outcome_of (record_from start image s) s) (walk_from start image (suc s) n) n (walk_length start image (suc s) n)

pub walk_on_length : (s : ℕ) (rs : List (List ℕ)) → length (walk_on s rs) ≤ length rs
walk_on_length s [] = omega arith
walk_on_length s (r ∷ rs) = on_length (outcome_of r s) (walk_on (s + 1) rs) (length rs) (walk_on_length (s + 1) rs)

pub few_coming : (e : Entries) → length (coming e) ≤ 65535
few_coming e = let l = walk_on_length (next_sector e) (records_left e) in omega (arith, l, e.few, e.within)
