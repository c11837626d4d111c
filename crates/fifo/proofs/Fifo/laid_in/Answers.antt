-- `Fifo::laid_in` meets its contract: the slots are copied, so that the pointers stand for the FIFO, or they are of depth 0.
-- Assumes nothing.
use Prim.Native.Nat.{◌<◌}
use native.Mathlib.Omega.{arith}
use mathlib.Core.Bool.{Bool, cond, false≢true}
use mathlib.Core.Path.{◌≡◌, refl, sym, ap, ◌∙◌}
use lib.ListN.{length, take}
use lib.Seq.{drop-set-lt, take-take}
use Rattle.std.proofs.lemmas.Grind.{common_steps}
use Rattle.fifo.specs.declared.Pointers.{Pointers}
use Rattle.fifo.specs.Queue.{ill, is_well, plain}
use Rattle.fifo.specs.Ring.{pointers_of, trusted}
use Rattle.fifo.specs.Memory.{slots_in, has_slots, trusted_in}
use Rattle.fifo.proofs.Form.{trusted_in_lem}
use Rattle.fifo.proofs.LentSlots.{slots_kept, copies_slot, alike_of_take, fits_of, unfit_ill, unfit_in, trusted_copied}
use Rattle.fifo.proofs.Fifo.laid_in.Goals as goal

pub returns-then-not-fits : goal.returns-then-not-fits
returns-then-not-fits c =
    let a = c.args in
    record {
      gives = unfit_in (record { place = plain 0; count = 0; oldest = 0 }) a.words.now a.strbs.now refl
          ∙ sym (unfit_ill a.self (has_slots a.self.place.depth a.words.now a.strbs.now)
          (sym (rw c.pointers-pointers.ensures at c.fits.ensures) ∙ c.if-not-fits.true));
      past = record { of_words = refl; of_strbs = refl };
      kept = λ _. (refl, refl);
    }

pub loop-i-preserved : goal.loop-i-preserved
loop-i-preserved c =
    let a = c.args in
    let l = c.loop-i in
    let depth = a.self.place.depth in
    let slots = take depth a.self.slots in
    let test = rw c.pointers-pointers.ensures at c.fits.ensures in
    let h = fits_of (pointers_of a.self) a.words.now a.strbs.now (sym test ∙ c.if-not-fits.false) in
    let full : length slots ≡ depth = omega arith in
    let in_words : l.i < length l.words = omega arith in
    let in_strbs : l.i < length l.strbs = omega arith in
    let below : l.i < depth = omega arith in
    record {
      copied = copies_slot slots l.words l.strbs l.i _ _ (omega arith) in_words in_strbs l.invariant.copied
          (grind (arith, common_steps)) (grind (arith, common_steps));
      past = record {
        of_words = drop-set-lt depth l.words l.i _ below ∙ l.invariant.past.of_words;
        of_strbs = drop-set-lt depth l.strbs l.i _ below ∙ l.invariant.past.of_strbs;
      };
    }

pub returns : goal.returns
returns c =
    let a = c.args in
    let l = c.loop-i in
    let depth = a.self.place.depth in
    let test = rw c.pointers-pointers.ensures at c.fits.ensures in
    let h = fits_of (pointers_of a.self) a.words.now a.strbs.now (sym test ∙ c.if-not-fits.false) in
    let full : length (take depth a.self.slots) ≡ depth = omega arith in
    let end : l.i ≡ depth = omega (arith, full) in
    let copied : take depth (slots_in l.words l.strbs) ≡ take depth a.self.slots =
    rw end at l.invariant.copied ∙ take-take depth depth a.self.slots (omega arith)
    in
    let gives : trusted_in c.pointers-pointers.result l.words l.strbs ≡ trusted a.self =
    ap (λ (p : Pointers). trusted_in p l.words l.strbs) c.pointers-pointers.ensures
    ∙ trusted_copied (pointers_of a.self) a.self.slots l.words l.strbs
    (slots_kept depth a.words.now a.strbs.now l.words l.strbs h.slots l.auto.words l.auto.strbs)
    (alike_of_take depth (slots_in l.words l.strbs) a.self.slots copied)
    in
    record {
      gives = gives ∙ sym (ap (λ (b : Bool). cond b (trusted a.self) ill) h.slots);
      past = l.invariant.past;
      kept = λ n. absurd (false≢true (sym n ∙ ap is_well (gives ∙ trusted_in_lem a.self h.numbers)));
    }
