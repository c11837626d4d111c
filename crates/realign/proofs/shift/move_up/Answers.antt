-- `move_up` meets its contract. The invariant: the words moved so far stand in the buffer, behind them what it held, and the word before
-- the next one is at hand. Assumes nothing.
use Prim.Native.Nat.{◌-◌}
use native.Mathlib.Omega.{arith}
use native.Mathlib.Numerals.{add-one}
use mathlib.Core.List.{◌∷◌}
use mathlib.Core.Path.{◌≡◌, sym, ◌∙◌, ap}
use lib.ListN.{length, get_or}
use Rattle.signals.proofs.Writing.{writes_next}
use Rattle.realign.specs.From.{word_from}
use Rattle.realign.proofs.Joining.{word_joins, word_left}
use Rattle.realign.proofs.shift.move_up.Goals as goal

pub loop-i-preserved : goal.loop-i-preserved
loop-i-preserved c =
    let l = c.loop-i in
    let a = c.args in
    let row = a.before ∷ a.words.now in
    let left = c.left_over in
    let over = rw l.invariant.1 at left.ensures.uppermost in
    let made = c.joined.ensures ∙ word_joins a.bytes row c.requires.few l.i left.result over left.ensures.small in (
      writes_next _ l.i _ _ (omega arith) l.invariant.0 _ made,
      ap (λ k. get_or row k 0) (sym (add-one l.i)),
    )

pub returns-clause-left_over : goal.returns-clause-left_over
returns-clause-left_over c =
    let l = c.loop-i in
    let a = c.args in
    let row = a.before ∷ a.words.now in
    let e : l.i ≡ length a.words.now = omega arith in
    let left = c.left_over-2 in
    let over = rw l.invariant.1 at left.ensures.uppermost in
    word_left a.bytes row c.requires.few l.i left.result over left.ensures.small (omega arith) ∙ ap (word_from (4 - a.bytes) row) e
