-- `Pointers::gathered` meets its contract: each slot below the depth is the memory's, as `from_fn` says of its calls, so that the FIFO
-- stands for what the pointers did, or it is of depth 0. Assumes nothing.
use Prim.Native.Nat.{◌<◌}
use native.Mathlib.Omega.{arith}
use mathlib.Core.Path.{◌≡◌, refl, sym, ap, ◌∙◌}
use lib.ListN.{length, get_or}
use Rattle.std.proofs.Common.{rules}
use Rattle.signals.specs.Payloads.{zeros}
use Rattle.fifo.specs.Queue.{max_depth}
use Rattle.fifo.specs.Ring.{trusted}
use Rattle.fifo.specs.Memory.{slots_in, fifo_in}
use Rattle.fifo.proofs.Filled.{filled}
use Rattle.fifo.proofs.Form.{depth_within, trusted_out}
use Rattle.fifo.proofs.LentSlots.{slot, slots_at, Alike, fits_of, unfit_in, trusted_copied}
use Rattle.fifo.proofs.Pointers.gathered.Goals as goal

pub returns-then-not-fits : goal.returns-then-not-fits
returns-then-not-fits c =
    let a = c.args in
    ap trusted c.with_slots.ensures
    ∙ trusted_out _ refl
    ∙ sym (unfit_in a.self a.words.now a.strbs.now (sym c.fits.ensures ∙ c.if-not-fits.true))

pub returns : goal.returns
returns c =
    let a = c.args in
    let words = a.words.now in
    let strbs = a.strbs.now in
    let slots = c.from_fn-slots.result in
    let depth = a.self.place.depth in
    let h = fits_of a.self words strbs (sym c.fits.ensures ∙ c.if-not-fits.false) in
    let alike : Alike depth (slots_in words strbs) slots =
    λ i below.
    let in_words : i < length words = omega (arith, h.of_words, below) in
    let in_strbs : i < length strbs = omega (arith, h.of_strbs, below) in
    let in_slots : i < max_depth = omega (arith, depth_within (fifo_in a.self words strbs) h.numbers, below) in
    slots_at words strbs i in_words in_strbs
    ∙ sym (filled c.from_fn-slots.ensures.items (λ j y. j < depth → y ≡ slot (get_or words j 0) (get_or strbs j 0))
    (λ j y q call. (search rules, search rules)) zeros i in_slots below)
    in
    ap trusted c.with_slots-2.ensures
    ∙ sym (trusted_copied a.self slots words strbs h.slots alike)
