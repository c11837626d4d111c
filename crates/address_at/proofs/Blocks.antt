-- A search block by block: the blocks and what is left behind them answer for the whole. Assumes nothing.
use Rattle.std.proofs.Common.{◌≡◌, ℕ, zero, suc, ◌+◌, ◌*◌, Bool, ◌||◌, List, take, drop, sym, refl, ap, ◌∙◌, arith}
use Rattle.std.proofs.Math.Bool.{or_assoc}
use Rattle.std.proofs.lemmas.List.{take-append-drop}
use Rattle.std.proofs.lemmas.List.Folds.{list_any-append}
use Rattle.std.specs.Simd.{first_chunks}
use Rattle.signals.specs.Refusals.{any_of}
use lib.Seq.{drop-drop}

module _ {A : Type 0} (has : A → Bool) (n : ℕ) where
  pub in_blocks : (k : ℕ) (xs : List A) → any_of (any_of has) (first_chunks n k xs) || any_of has (drop (k * n) xs) ≡ any_of has xs
  in_blocks zero xs = let none : 0 * n ≡ 0 = omega arith in rw none refl
  in_blocks (suc k) xs =
      let one_more : suc k * n ≡ n + k * n = omega arith in
      rw (one_more, ← drop-drop (k * n) n xs)
      (or_assoc (any_of has (take n xs)) (any_of (any_of has) (first_chunks n k (drop n xs))) (any_of has (drop (k * n) (drop n xs)))
      ∙ ap (λ (b : Bool). any_of has (take n xs) || b) (in_blocks k (drop n xs))
      ∙ sym (list_any-append has (take n xs) (drop n xs))
      ∙ ap (any_of has) (take-append-drop n xs))
