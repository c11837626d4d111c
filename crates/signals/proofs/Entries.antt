-- The entries of a sequence by index. Each law goes by induction on the number of entries, the last apart. Assumes nothing.
use Prim.Native.Nat.{ℕ, zero, suc, ◌<◌}
use native.Mathlib.Omega.{arith}
use mathlib.Core.List.{List, [], ◌∷◌, ◌++◌}
use mathlib.Core.Logic.{⊎_elim}
use mathlib.Core.Path.{◌≡◌, refl, ◌∙◌, ap₂}
use lib.Dec.{ltb}
use lib.ListN.{length, get_or, get_or-append}
use lib.Seq.{ext_get_or, get_or_at}
use borrow.Author.Tests.{ltb-true, ltb-false}
use Rattle.signals.specs.Sequences.{entries_below}
use Rattle.signals.proofs.Bools.{either}
use Rattle.signals.proofs.Writing.{length_entries}

module _ {A : Type 0} where
  -- the entry at an index: the last, or one before it
  pub entry_at : (entry : ℕ → A) (n i : ℕ) (past : A) → i < n → get_or (entries_below entry n) i past ≡ entry i
  entry_at entry zero i past h = absurd (omega arith)
  entry_at entry (suc n) i past h =
      ⊎_elim
      (λ t. let less = ltb-true i n t in
      get_or-append (entries_below entry n) (entry n ∷ []) past i (rw (length_entries entry n) less) ∙ entry_at entry n i past less)
      (λ f. let last : i ≡ n = omega (arith, ltb-false i n f) in
      rw last (get_or_at (entries_below entry n) (entry n) [] past n (length_entries entry n)))
      (either (ltb i n))

  -- sequences with the same entries
  pub same_entries : (f g : ℕ → A) (n : ℕ) → ((i : ℕ) → i < n → f i ≡ g i) → entries_below f n ≡ entries_below g n
  same_entries f g zero same = refl
  same_entries f g (suc n) same =
      ap₂ (λ made last. made ++ (last ∷ [])) (same_entries f g n (λ i h. same i (omega arith))) (same n (omega arith))

  -- a list has the entries that it is read to have
  pub entries_read : (l : List A) (past : A) (n : ℕ) → length l ≡ n → entries_below (λ i. get_or l i past) n ≡ l
  entries_read l past n size =
      ext_get_or past (entries_below (λ i. get_or l i past) n) l (rw (length_entries (λ i. get_or l i past) n, size))
      (λ i h. entry_at (λ k. get_or l k past) n i past (rw (length_entries (λ k. get_or l k past) n) at h))
