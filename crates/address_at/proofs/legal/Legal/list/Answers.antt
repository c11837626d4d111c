-- There is room since no more numbers are listed than were looked at. Assumes nothing.
use Rattle.std.proofs.Common.{ℕ, Bool, List, sym, ap, ◌∙◌, arith}
use Rattle.addressgen.specs.declared.Settings.{Settings}
use Rattle.address_at.specs.ByNumber.{address_of}
use Rattle.address_at.specs.Overlap.{is_among}
use Rattle.address_at.proofs.NumbersBelow.{listed_fit, lists, passes}
use Rattle.address_at.proofs.legal.Legal.list.Goals as goal
use Rattle.address_at.proofs.legal.Legal.list.Goals.{then-is_found, else-is_found}

-- whether an iteration is listed
abbrev is_met : Settings → List ℕ → ℕ → Bool
is_met settings others i = is_among others (address_of settings i)

pub bounds-out-count : goal.bounds-out-count
bounds-out-count c =
    omega (arith, listed_fit (is_met c.args.self.settings c.args.others.now) c.loop-i.i)

pub loop-i-preserved : goal.loop-i-preserved
loop-i-preserved c =
    let l = c.loop-i in
    let a = c.args in
    let has : ℕ → Bool = is_met a.self.settings a.others.now in
    let met = sym (c.is_found.ensures ∙ ap (is_among a.others.now) c.address.ensures) in
    let fits = listed_fit has l.i in
    elim c.if-is_found.branch [
      | then-is_found w ↦
          rw (w.count-is, w.out-is)
          (lists has l.i a.out.now l.out l.count l.invariant.0 l.invariant.1 (omega (arith, fits)) (met ∙ w.if-is_found.true))
      | else-is_found w ↦
          rw (w.count-is, w.out-is)
          (passes has l.i a.out.now l.out l.count l.invariant.0 l.invariant.1 (met ∙ w.if-is_found.false))
    ]
