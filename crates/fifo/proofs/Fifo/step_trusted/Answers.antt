-- `Fifo::step_trusted` meets its contract: each return is one case of the rule, and each refusal is the first that applies.
-- Assumes nothing.
use mathlib.Core.Path.{◌≡◌, sym, ◌∙◌}
use mathlib.Core.Bool.{true, false}
use borrow.Author.Tests.{le-leb, lt-leb}
use Rattle.signals.specs.Payloads.{legal_strb, max_strb}
use Rattle.signals.specs.declared.Refusal.TheVariants.{IllegalBits, BadState}
use Rattle.fifo.specs.Ring.{trusted}
use Rattle.fifo.proofs.Form.{trusted_in_lem, trusted_out}
use Rattle.fifo.proofs.Stepping.{refusal_steps, cycle_steps}
use Rattle.fifo.proofs.Fifo.step_trusted.Goals as goal

pub returns-then-not-is_in_range : goal.returns-then-not-is_in_range
returns-then-not-is_in_range c =
    let a = c.args in
    let g = a.cycle in
    refusal_steps trusted a.self g.valid g.sink g.clear g.payload BadState
    (rw (trusted_out a.self (sym c.is_in_range.ensures ∙ c.if-not-is_in_range.true)))

pub returns-then-cycle-gt-MAX_STRB : goal.returns-then-cycle-gt-MAX_STRB
returns-then-cycle-gt-MAX_STRB c =
    let a = c.args in
    let g = a.cycle in
    let inside = sym c.is_in_range.ensures ∙ c.if-not-is_in_range.false in
    let illegal : legal_strb g.payload ≡ false = lt-leb g.payload.strb max_strb c.if-cycle-gt-MAX_STRB.true in
    refusal_steps trusted a.self g.valid g.sink g.clear g.payload IllegalBits (rw (trusted_in_lem a.self inside, illegal))

pub returns : goal.returns
returns c =
    let a = c.args in
    let g = a.cycle in
    let inside = sym c.is_in_range.ensures ∙ c.if-not-is_in_range.false in
    let legal : legal_strb g.payload ≡ true = le-leb g.payload.strb max_strb c.if-cycle-gt-MAX_STRB.false in
    cycle_steps a.self _ g.valid g.sink g.clear g.payload _ (trusted_in_lem a.self inside) legal c.cycle.ensures
