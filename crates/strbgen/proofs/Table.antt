-- The rule of the strobe table: in a first word the bytes from m on, in a last word those before m, or all where m is 0.
-- One test over the whole table, which computes, gives the rule at each remainder and byte. Assumes nothing.
use Prim.Native.Nat.{ℕ, ◌+◌, ◌<◌}
use mathlib.Core.Bool.{Bool, true, cond, ◌||◌, beq}
use mathlib.Core.Path.{◌≡◌, refl}
use lib.Dec.{eqb, ltb, leb}
use borrow.Author.Tests.{eqb-true}
use Rattle.signals.specs.Payloads.{strobed}
use Rattle.signals.specs.Sequences.{every_below}
use Rattle.signals.proofs.Below.{each_below}
use Rattle.signals.proofs.Bools.{beq_true}
use Rattle.strbgen.specs.Plan.{first_strobe, last_strobe}
use Rattle.strbgen.specs.Bytes.{bytes_in}

-- a test over the whole table, each remainder with each byte
over_table :
    (test : ℕ → ℕ → Bool) → every_below (λ m. every_below (test m) 4) 4 ≡ true →
    (m j : ℕ) → m < 4 → j < 4 → test m j ≡ true
over_table test e m j m-less j-less =
    each_below (test m) 4 (each_below (λ k. every_below (test k) 4) 4 e m m-less) j j-less

pub first_strobed : (m j : ℕ) → m < 4 → j < 4 → strobed (first_strobe m) j ≡ leb m j
first_strobed m j m-less j-less =
    beq_true (strobed (first_strobe m) j) (leb m j)
    (over_table (λ k b. beq (strobed (first_strobe k) b) (leb k b)) refl m j m-less j-less)

pub last_strobed : (m j : ℕ) → m < 4 → j < 4 → strobed (last_strobe m) j ≡ (eqb m 0 || ltb j m)
last_strobed m j m-less j-less =
    beq_true (strobed (last_strobe m) j) (eqb m 0 || ltb j m)
    (over_table (λ k b. beq (strobed (last_strobe k) b) (eqb k 0 || ltb b k)) refl m j m-less j-less)

-- a word that is neither first nor last is full
pub full_strobed : (j : ℕ) → j < 4 → strobed 15 j ≡ true
full_strobed j j-less = each_below (strobed 15) 4 refl j j-less

-- first and last word together name four bytes, and eight where both are full
pub first_and_last : (m : ℕ) → m < 4 → bytes_in (first_strobe m) + bytes_in (last_strobe m) ≡ cond (eqb m 0) 8 4
unfolding bytes_in
first_and_last m m-less =
    eqb-true (bytes_in (first_strobe m) + bytes_in (last_strobe m)) (cond (eqb m 0) 8 4)
    (each_below (λ k. eqb (bytes_in (first_strobe k) + bytes_in (last_strobe k)) (cond (eqb k 0) 8 4)) 4 refl m m-less)
