-- Document 01, "The stage and the line", with requests T-06 and T-08: how many FIFOs a line has, which places are listed by value, and
-- what reading them off a lent list promises. Assumes nothing.
use Rattle.std.specs.Prelude.{ℕ, Bool, cond, ◌&&◌, List, [], ◌≡◌, leb, length, take}
use Rattle.fifo.specs.declared.Place.{Place}
use Rattle.places.specs.declared.Places.{Places}

-- one to sixteen FIFOs
abbrev pub max_fifos : ℕ
max_fifos = 16

abbrev pub legal_count : ℕ → Bool
legal_count k = leb 1 k && leb k max_fifos

-- the places that are listed by value; none where their count is not legal, which is refused as an empty list is
abbrev pub places_of : Places → List Place
places_of places = cond (legal_count places.count) (take places.count places.listed) []

-- how many places are read off a list of so many: none where their number is refused
abbrev pub read_off : ℕ → ℕ
read_off count = cond (legal_count count) count 0

-- The places that are read off the lent list, in its order. Those past the count are free.
pub record Lists (lent : List Place) (r : Places) : Type 0 where
  pub count : r.count ≡ read_off (length lent)
  pub listed : take r.count r.listed ≡ take r.count lent
