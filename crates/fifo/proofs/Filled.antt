-- What an array holds that `from_fn` filled by a closure that stays as it is: at each index, what the closure gives there.
-- By induction over the calls, each made of the same closure. Assumes nothing.
use Prim.Native.Nat.{ℕ, zero, suc, ◌+◌, ◌<◌}
use native.Mathlib.Omega.{arith}
use mathlib.Core.List.{List}
use mathlib.Core.Path.{◌≡◌, sym, subst}
use denote.Param.Members.{Mut, Called}
use lib.ListN.{get_or}
use Rattle.std.specs.Array.{IsFromFnResultFrom, IsFromFnResult}

module _ {F B : Type 0} {g : Mut F (ℕ × Unit {0}) B} {f : F} where
  from : (ys : List B) (P : ℕ → B → Type 0) → ((i : ℕ) (y : B) (q : F) → Called g f (i, tt) y q → P i y × (q ≡ f)) → (d : B)
      → (i n : ℕ) → IsFromFnResultFrom g f ys i n → (k : ℕ) → k < n → P (i + k) (get_or ys (i + k) d)
  from ys P gives d i zero calls k h = absurd (omega arith)
  from ys P gives d i (suc n) (q, y, el, call, rest) zero h =
      let here : i ≡ i + 0 = omega arith in
      subst (λ j. P j (get_or ys j d)) here (subst (P i) (sym (el.1 d)) (gives i y q call).0)
  from ys P gives d i (suc n) (q, y, el, call, rest) (suc k) h =
      let there : (i + 1) + k ≡ i + suc k = omega arith in
      let calls = subst (λ p. IsFromFnResultFrom g p ys (i + 1) n) (gives i y q call).1 rest in
      subst (λ j. P j (get_or ys j d)) there (from ys P gives d (i + 1) n calls k (omega arith))

  pub filled : {ys : List B} {n : ℕ} → IsFromFnResult g f ys n → (P : ℕ → B → Type 0)
      → ((i : ℕ) (y : B) (q : F) → Called g f (i, tt) y q → P i y × (q ≡ f)) → (d : B) (k : ℕ) → k < n → P k (get_or ys k d)
  filled {ys} {n} r P gives d k h =
      let same : 0 + k ≡ k = omega arith in
      subst (λ j. P j (get_or ys j d)) same (from ys P gives d 0 n r.each k h)
