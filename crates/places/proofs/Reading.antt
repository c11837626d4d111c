-- What holds while the places of a lent list are read, one after another: after i turns the first i places are the list's first i, and a
-- turn puts the list's next place at i. `Places::read` copies them in one. Assumes nothing.
use Prim.Native.Nat.{ℕ, ◌+◌, ◌<◌, ◌≤◌}
use native.Mathlib.Omega.{arith}
use native.Mathlib.Numerals.{add-one}
use mathlib.Core.Bool.{Bool, true, false, ◌&&◌, cond}
use mathlib.Core.List.{List}
use mathlib.Core.Path.{◌≡◌, refl, ◌∙◌}
use borrow.Author.Tests.{leb-true}
use lib.Dec.{leb}
use lib.ListN.{length, get_or, set, take, length-set}
use lib.Seq.{take-suc, take-suc-set}
use Rattle.fifo.specs.declared.Place.{Place}
use Rattle.places.specs.declared.Places.{Places}
use Rattle.places.specs.Listing.{max_fifos, legal_count, read_off}

-- place i is this one
abbrev pub placed : Places → ℕ → Place → Places
placed r i place = record { count = r.count; listed = set r.listed i place }

-- ---- how many places are read
abbrev pub wanted : List Place → ℕ
wanted lent = read_off (length lent)

-- the places that are read are places of the list
pub wanted_in : (lent : List Place) → wanted lent ≤ length lent
wanted_in lent = at_most (legal_count (length lent)) (length lent)
  where
    at_most : (b : Bool) (n : ℕ) → cond b n 0 ≤ n
    at_most true n = omega arith
    at_most false n = omega arith

-- and a chain has room for them
pub wanted_few : (lent : List Place) → wanted lent ≤ max_fifos
wanted_few lent = few (leb 1 (length lent)) (leb (length lent) max_fifos) (length lent) (leb-true (length lent) max_fifos)
  where
    few : (a b : Bool) (n : ℕ) → (b ≡ true → n ≤ max_fifos) → cond (a && b) n 0 ≤ max_fifos
    few true true n le = le refl
    few true false n le = omega arith
    few false b n le = omega arith

-- ---- the reading
-- what holds after i turns
pub record Reading (lent : List Place) (read : Places) (i : ℕ) : Type 0 where
  pub count : read.count ≡ wanted lent
  pub within : i ≤ wanted lent
  pub room : length read.listed ≡ max_fifos
  pub listed : take i read.listed ≡ take i lent

-- a turn reads one more
pub reading_on : (lent : List Place) (read : Places) (i : ℕ) (d : Place) → i < wanted lent → Reading lent read i
    → Reading lent (placed read i (get_or lent i d)) (i + 1)
reading_on lent read i d less so =
    record {
      count = so.count;
      within = omega arith;
      room = length-set read.listed i (get_or lent i d) ∙ so.room;
      listed =
          rw (
            add-one i,
            take-suc-set read.listed i (get_or lent i d) (omega (arith, less, so.room, wanted_few lent)),
            so.listed,
            take-suc lent i d (omega (arith, less, wanted_in lent)),
          );
    }
