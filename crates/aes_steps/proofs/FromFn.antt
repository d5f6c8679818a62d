-- What `array::from_fn` gives, where the closure gives h of each index and stays as it is.
use Rattle.std.proofs.Common.{◌≡◌, ℕ, zero, suc, ◌+◌, ◌<◌, List, map, get_or, subst, ◌∙◌, arith}
use Rattle.std.specs.Fn.{Called}
use Rattle.std.specs.Array.{IsFromFnResultFrom, IsFromFnResult}
use Rattle.std.specs.List.{range_with_len}
use Rattle.std.proofs.lemmas.List.FromFn.{fill_by_all}
use denote.Param.Members.{Mut}

module _ {F : Type 0} (g : Mut F (ℕ × Unit {0}) ℕ) (h : ℕ → ℕ) (f : F) (stays : (i y : ℕ) (q : F) → Called g f (i, tt) y q → (y ≡ h i) × (q ≡ f)) where
  gives_each : (ys : List ℕ) (n i : ℕ) → IsFromFnResultFrom g f ys i n → (j k : ℕ) → j < n → i + j ≡ k → get_or ys k 0 ≡ h k
  gives_each ys zero i r j k l e = absurd (omega arith)
  gives_each ys (suc n) i r zero k l e =
      let c = stays i r.1 r.0 r.3 in
      let at : i ≡ k = omega arith in
      subst (λ m. get_or ys m 0 ≡ h m) at (r.2.1 0 ∙ c.0)
  gives_each ys (suc n) i r (suc j) k l e =
      let c = stays i r.1 r.0 r.3 in
      gives_each ys n (i + 1) (subst (λ q. IsFromFnResultFrom g q ys (i + 1) n) c.1 r.4) j k (omega arith) (omega arith)

  pub from_fn_is : (ys : List ℕ) (n : ℕ) → IsFromFnResult g f ys n → ys ≡ map h (range_with_len 0 n)
  from_fn_is ys n r = fill_by_all h ys n 0 r.long (λ i l. gives_each ys n 0 r.each i i l (omega arith))
