-- One turn of a loop that writes a lent buffer: what is made grows by one entry and takes the place of one that was there.
-- Assumes nothing.
use Prim.Native.Nat.{ℕ, zero, suc, ◌+◌, ◌<◌}
use native.Mathlib.Numerals.{add-one}
use native.Mathlib.Omega.{arith}
use mathlib.Core.List.{List, [], ◌∷◌, ◌++◌}
use mathlib.Core.Path.{◌≡◌, refl}
use lib.ListN.{length, drop, set, length-append}
use lib.Seq.{drop-cons, set_at, append_snoc}
use Rattle.signals.specs.Sequences.{entries_below}

pub writes_one :
    (made : List ℕ) (i : ℕ) (before out : List ℕ) → length made ≡ i → i < length before → out ≡ made ++ drop i before →
    (entry : ℕ) → set out i entry ≡ (made ++ (entry ∷ [])) ++ drop (i + 1) before
writes_one made i before out size h e entry =
    rw (e, drop-cons before i 0, set_at made _ _ entry i size, add-one i, append_snoc)

-- as many entries as were asked for
pub length_entries : {A : Type 0} (entry : ℕ → A) (n : ℕ) → length (entries_below entry n) ≡ n
length_entries entry zero = refl
length_entries entry (suc n) = simp (length-append, length_entries entry n) (omega arith)

-- a loop that writes the entries of a sequence
pub writes_next :
    (entry : ℕ → ℕ) (i : ℕ) (before out : List ℕ) → i < length before → out ≡ entries_below entry i ++ drop i before →
    (x : ℕ) → x ≡ entry i → set out i x ≡ entries_below entry (i + 1) ++ drop (i + 1) before
writes_next entry i before out h e x f =
    rw (writes_one (entries_below entry i) i before out (length_entries entry i) h e x, f, add-one i)
