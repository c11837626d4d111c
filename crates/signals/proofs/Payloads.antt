-- Two payloads that compare as the same are the same. Assumes nothing.
use mathlib.Core.Bool.{true}
use mathlib.Core.Path.{◌≡◌, refl}
use lib.Dec.{eqb}
use borrow.Author.Tests.{eq-eqb, eqb-true}
use Rattle.signals.specs.declared.Payload.{Payload}
use Rattle.signals.specs.Payloads.{same_payload}
use Rattle.signals.proofs.Bools.{both}

pub same_payload_lem : (p : Payload) → same_payload p p ≡ true
same_payload_lem p = rw (eq-eqb p.«data» p.«data» refl, eq-eqb p.strb p.strb refl)

pub payloads_same : (p q : Payload) → same_payload p q ≡ true → p ≡ q
payloads_same p q e =
    let w = both (eqb p.«data» q.«data») (eqb p.strb q.strb) e in
    λ i. record { «data» = eqb-true p.«data» q.«data» w.0 i; strb = eqb-true p.strb q.strb w.1 i }
