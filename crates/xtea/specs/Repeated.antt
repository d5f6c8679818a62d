-- A step done n times: one more, and undoing all of them.
use Rattle.std.specs.Prelude.{◌≡◌, ℕ, zero, suc, ◌+◌, refl}
use Rattle.std.proofs.Common.{sym, ap, ◌∙◌, add-one}
use Rattle.xtea.specs.Repeat.{repeat}

pub repeat_none : {A : Type 0} (f : A → A) (x : A) → repeat f 0 x ≡ x
unfolding repeat
repeat_none f x = refl

repeat_suc : {A : Type 0} (f : A → A) (n : ℕ) (x : A) → repeat f (suc n) x ≡ f (repeat f n x)
unfolding repeat
repeat_suc f n x = refl

pub repeat_more : {A : Type 0} (f : A → A) (n : ℕ) (x : A) → repeat f (n + 1) x ≡ f (repeat f n x)
repeat_more f n x = ap (λ m. repeat f m x) (add-one n) ∙ repeat_suc f n x

-- the first step may be taken apart from the others
repeat_front : {A : Type 0} (f : A → A) (n : ℕ) (x : A) → repeat f (suc n) x ≡ repeat f n (f x)
repeat_front f zero x = repeat_suc f 0 x ∙ ap f (repeat_none f x) ∙ sym (repeat_none f (f x))
repeat_front f (suc n) x = repeat_suc f (suc n) x ∙ ap f (repeat_front f n x) ∙ sym (repeat_suc f n (f x))

-- what each step keeps, all of them keep
pub repeat_keeps : {A : Type 0} (P : A → Type 0) (f : A → A) → ((x : A) → P x → P (f x)) → (n : ℕ) (x : A) → P x → P (repeat f n x)
unfolding repeat
repeat_keeps P f k zero x p = p
repeat_keeps P f k (suc n) x p = k (repeat f n x) (repeat_keeps P f k n x p)

-- a map that commutes with the step commutes with all of them
pub repeat_map : {A B : Type 0} (h : A → B) (f : A → A) (g : B → B) → ((x : A) → h (f x) ≡ g (h x)) → (n : ℕ) (x : A) → h (repeat f n x) ≡ repeat g n (h x)
unfolding repeat
repeat_map h f g e zero x = refl
repeat_map h f g e (suc n) x = e (repeat f n x) ∙ ap g (repeat_map h f g e n x)

-- steps that are undone one by one are undone
pub repeat_undone : {A : Type 0} (P : A → Type 0) (f g : A → A) → ((x : A) → P x → P (f x)) → ((x : A) → P x → g (f x) ≡ x)
    → (n : ℕ) (x : A) → P x → repeat g n (repeat f n x) ≡ x
unfolding repeat
repeat_undone P f g k u zero x p = refl
repeat_undone P f g k u (suc n) x p =
    repeat_front g n (f (repeat f n x)) ∙ ap (repeat g n) (u (repeat f n x) (repeat_keeps P f k n x p)) ∙ repeat_undone P f g k u n x p
