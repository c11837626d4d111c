-- The used FIFOs of a chain, read as values; and a line of values that all have their form. Assumes nothing.
use mathlib.Core.Path.{◌≡◌, refl, sym, ap, ◌∙◌}
use mathlib.Core.Bool.{true, false, false≢true}
use mathlib.Core.List.{List, [], ◌∷◌, map}
use mathlib.Core.Logic.{⊎_elim}
use Prim.Native.Nat.{ℕ, ◌≤◌, ◌<◌}
use native.Mathlib.Omega.{arith}
use borrow.Author.Tests.{leb-true}
use lib.Dec.{leb}
use lib.ListN.{length, get_or, take, length-map}
use lib.Seq.{length-take-le, get_or-take}
use Rattle.std.proofs.lemmas.List.{get_or-map}
use Rattle.std.specs.List.{list_all}
use Rattle.signals.proofs.Bools.{either, both, clash}
use Rattle.fifo.specs.declared.Fifo.{Fifo}
use Rattle.fifo.specs.Queue as queue
use Rattle.fifo.specs.Queue.{Queue}
use Rattle.fifo.specs.Promises as fifo
use Rattle.places.specs.Listing.{max_fifos, legal_count}
use Rattle.chain.specs.declared.Chain.{Chain}
use Rattle.chain.specs.Calls.{Value, ill, well, is_well, queues}
use Rattle.chain.specs.Promises.{line_of, before, value}

-- a row of values that all have their form, and back
pub line_of_wells : (qs : List Queue) → line_of (map queue.well qs) ≡ well qs
line_of_wells [] = refl
line_of_wells (q ∷ qs) = rw (line_of_wells qs)

pub wells_of_line : (vs : List queue.Value) (qs : List Queue) → line_of vs ≡ well qs → vs ≡ map queue.well qs
wells_of_line [] qs e = let none : qs ≡ [] = cc in rw none
wells_of_line (queue.ill ∷ vs) qs e = absurd (clash cc)
wells_of_line (queue.well q ∷ vs) qs e = by_rest (line_of vs) (wells_of_line vs) refl e
  where
    by_rest : (rest : Value) → ((rs : List Queue) → line_of vs ≡ well rs → vs ≡ map queue.well rs) → line_of vs ≡ rest → before q rest ≡ well qs
        → queue.well q ∷ vs ≡ map queue.well qs
    by_rest ill wells r e = absurd (clash cc)
    by_rest (well rs) wells r e = let same : q ∷ rs ≡ qs = cc in rw (← same) (ap (λ (l : List queue.Value). queue.well q ∷ l) (wells rs r))

-- a line has its form when each FIFO has
pub line_well : (vs : List queue.Value) → is_well (line_of vs) ≡ list_all queue.is_well vs
line_well [] = refl
line_well (queue.ill ∷ vs) = refl
line_well (queue.well q ∷ vs) = by_rest (line_of vs) ∙ line_well vs
  where
    by_rest : (rest : Value) → is_well (before q rest) ≡ is_well rest
    by_rest ill = refl
    by_rest (well qs) = refl

-- a value that has its form is that of its row
pub well_row : (v : Value) → is_well v ≡ true → v ≡ well (queues v)
well_row ill e = absurd (false≢true e)
well_row (well qs) e = refl

pub well_queue : (v : queue.Value) → queue.is_well v ≡ true → (q : Queue) × (v ≡ queue.well q)
well_queue queue.ill e = absurd (false≢true e)
well_queue (queue.well q) e = (q, refl)

-- the values of a chain's used FIFOs
abbrev pub used : Chain → List queue.Value
used chain = map fifo.value (take chain.count chain.fifos)

-- a chain of a legal count has the value of its used FIFOs
pub value_used : (chain : Chain) → legal_count chain.count ≡ true → value chain ≡ line_of (used chain)
unfolding value
value_used chain e = rw e

pub value_uncounted : (chain : Chain) → legal_count chain.count ≡ false → value chain ≡ ill
unfolding value
value_uncounted chain e = rw e

-- what is known of a chain that has its form
pub record Formed (chain : Chain) : Type 0 where
  pub some : 1 ≤ chain.count
  pub most : chain.count ≤ max_fifos
  pub legal : legal_count chain.count ≡ true
  pub row : line_of (used chain) ≡ well (queues (value chain))

pub legal_count_lem : (chain : Chain) → is_well (value chain) ≡ true → legal_count chain.count ≡ true
legal_count_lem chain e = ⊎_elim (λ l. l) (λ n. absurd (false≢true (sym (ap is_well (value_uncounted chain n)) ∙ e))) (either (legal_count chain.count))

pub formed : (chain : Chain) → is_well (value chain) ≡ true → Formed chain
formed chain e =
    let l = legal_count_lem chain e in
    let b = both (leb 1 chain.count) (leb chain.count max_fifos) l in
    record {
      some = leb-true 1 chain.count b.0;
      most = leb-true chain.count max_fifos b.1;
      legal = l;
      row = sym (value_used chain l) ∙ well_row (value chain) e;
    }

-- its row is as long as its count says, and has at each place the queue of the FIFO there
module _ (chain : Chain) (f : Formed chain) (wide : length chain.fifos ≡ max_fifos) where
  pub used_length : length (take chain.count chain.fifos) ≡ chain.count
  used_length = length-take-le chain.count chain.fifos (omega (arith, f.most, wide))

  used_wells : used chain ≡ map queue.well (queues (value chain))
  used_wells = wells_of_line _ _ f.row

  pub queues_length : length (queues (value chain)) ≡ chain.count
  queues_length =
      sym (ap length used_wells ∙ length-map (queues (value chain)) queue.well)
      ∙ length-map (take chain.count chain.fifos) fifo.value
      ∙ used_length

  pub queue_at : (j : ℕ) (d : Fifo) (e : Queue) → j < chain.count
      → fifo.value (get_or chain.fifos j d) ≡ queue.well (get_or (queues (value chain)) j e)
  queue_at j d e h =
      ap fifo.value (sym (get_or-take chain.count chain.fifos j d h))
      ∙ sym (get_or-map fifo.value (take chain.count chain.fifos) j d queue.ill (omega (arith, used_length, h)))
      ∙ ap (λ (vs : List queue.Value). get_or vs j queue.ill) used_wells
      ∙ get_or-map queue.well (queues (value chain)) j e queue.ill (omega (arith, queues_length, h))
