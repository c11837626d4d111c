-- What a stream's source offers in one cycle. Assumes nothing.
use Rattle.std.specs.Prelude.{ℕ, Bool, true, false, cond, List, get_or}
use Rattle.signals.specs.declared.Payload.{Payload}
use Rattle.signals.specs.Payloads.{zeros}
use Rattle.lanes.specs.declared.Offer.{Offer}

-- nothing: valid is 0, and so is the payload shown
abbrev pub no_offer : Offer
no_offer = record { valid = false; payload = zeros }

-- a payload when b is true, else nothing
abbrev pub offer_when : Bool → Payload → Offer
offer_when b p = cond b (record { valid = true; payload = p }) no_offer

-- what input i offers, or what branch i is offered
abbrev pub offer_at : List Offer → ℕ → Offer
offer_at offers i = get_or offers i no_offer
