-- `Pointers::step` meets its contract: each refusal is the first that applies, and else the answer is the turn's, in the memory's slots.
-- Assumes nothing.
use Prim.Native.Nat.{◌<◌}
use native.Mathlib.Omega.{arith}
use mathlib.Core.Bool.{true, false}
use mathlib.Core.Path.{◌≡◌, sym, ap, ◌∙◌}
use borrow.Author.Tests.{le-leb, lt-leb}
use lib.ListN.{drop}
use Rattle.std.specs.Prelude.{is_some}
use Rattle.signals.specs.Payloads.{legal_strb, max_strb}
use Rattle.signals.specs.declared.Refusal.TheVariants.{IllegalBits, BadState}
use Rattle.fifo.specs.declared.Place.{Place}
use Rattle.fifo.specs.Ring.{fifo_with, trusted}
use Rattle.fifo.specs.Memory.{slots_in, trusted_in}
use Rattle.fifo.specs.Turn.{shown_from, set_at}
use Rattle.fifo.proofs.LentSlots.{slots_at, slots_length, fits_of, fits_well, unfit_in}
use Rattle.fifo.proofs.Stepping.{refusal_steps_in, cycle_steps_in}
use Rattle.fifo.proofs.Turning.{drop_set_at, joins_memory, turn_answers}
use Rattle.fifo.proofs.Pointers.step.Goals as goal
use Rattle.fifo.proofs.Pointers.step.Goals.{in-Some, in-None, in-Some-joined, in_default}

pub returns-then-not-fits : goal.returns-then-not-fits
returns-then-not-fits c =
    let a = c.args in
    let g = a.cycle in
    refusal_steps_in a.self a.words.now a.strbs.now g.valid g.sink g.clear g.payload BadState
    (rw (unfit_in a.self a.words.now a.strbs.now (sym c.fits.ensures ∙ c.if-not-fits.true)))

pub returns-then-cycle-gt-MAX_STRB : goal.returns-then-cycle-gt-MAX_STRB
returns-then-cycle-gt-MAX_STRB c =
    let a = c.args in
    let g = a.cycle in
    let h = fits_of a.self a.words.now a.strbs.now (sym c.fits.ensures ∙ c.if-not-fits.false) in
    let illegal : legal_strb g.payload ≡ false = lt-leb g.payload.strb max_strb c.if-cycle-gt-MAX_STRB.true in
    refusal_steps_in a.self a.words.now a.strbs.now g.valid g.sink g.clear g.payload IllegalBits
    (rw (fits_well a.self a.words.now a.strbs.now h, illegal))

pub returns : goal.returns
returns c =
    let a = c.args in
    let g = a.cycle in
    let words = a.words.now in
    let strbs = a.strbs.now in
    let t = c.turn-turn.result in
    let turns = c.turn-turn.ensures in
    let slots = slots_in words strbs in
    let h = fits_of a.self a.words.now a.strbs.now (sym c.fits.ensures ∙ c.if-not-fits.false) in
    let legal : legal_strb g.payload ≡ true = le-leb g.payload.strb max_strb c.if-cycle-gt-MAX_STRB.false in
    let shows : (c.match-shown.shown ≡ c.shown-shown.result) × (c.match-shown.payload ≡ shown_from slots c.shown-shown.result) =
    elim c.match-shown.branch [
      | in-Some w ↦
          let below : w.in-Some.at < a.self.place.depth = rw w.in-Some.is at c.shown-shown.ensures.within in
          let held = slots_at words strbs w.in-Some.at (omega arith) (omega arith) in
          (w.shown-is ∙ sym w.in-Some.is, rw w.in-Some.is (w.payload-is ∙ sym held))
      | in-None w ↦ (w.shown-is, rw w.in-None.is w.payload-is)
    ]
    in
    let of_words : c.match-turn.words ≡ set_at words t.joined g.payload.«data» =
    elim c.match-turn.branch [ in-Some-joined w ↦ rw w.in-Some-joined.is w.words-is | in_default w ↦ rw w.in_default.is w.words-is ]
    in
    let of_strbs : c.match-turn.strbs ≡ set_at strbs t.joined g.payload.strb =
    elim c.match-turn.branch [ in-Some-joined w ↦ rw w.in-Some-joined.is w.strbs-is | in_default w ↦ rw w.in_default.is w.strbs-is ]
    in
    let next : trusted_in t.next c.match-turn.words c.match-turn.strbs ≡ trusted (fifo_with t.next (set_at slots t.joined g.payload)) =
    rw (of_words, of_strbs)
    (joins_memory t a.self.place.depth words strbs g.payload (ap (λ (at : Place). at.depth) turns.same_place) h.slots)
    in
    cycle_steps_in a.self words strbs _ g.valid g.sink g.clear g.payload _ _ _
    (fits_well a.self words strbs h)
    legal
    (turn_answers a.self slots g.valid g.payload g.sink g.clear _ t _ _ _
    (slots_length words strbs a.self.place.depth h.of_words h.of_strbs)
    c.shown-shown.ensures turns (c.is_some.ensures ∙ ap is_some shows.0) shows.1 next)
    (record {
      of_words = ap (drop a.self.place.depth) of_words ∙ drop_set_at a.self.place.depth words t.joined g.payload.«data» turns.within;
      of_strbs = ap (drop a.self.place.depth) of_strbs ∙ drop_set_at a.self.place.depth strbs t.joined g.payload.strb turns.within;
    })
