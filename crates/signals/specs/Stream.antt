-- Document 01, "Traces as recorded", with request T-09: the control byte of a stream, and a cycle of a stream's trace.
-- Each bit by a definition of its own: one over the bit's place would divide by 1 for bit 0. Assumes nothing.
use Rattle.std.specs.Prelude.{ℕ, ◌/◌, ◌%◌, Bool, not, ◌&&◌, List, get_or, eqb}
use Rattle.signals.specs.declared.Payload.{Payload}

-- bit 0
abbrev pub valid_bit : ℕ → Bool
valid_bit control = eqb (control % 2) 1

-- bit 1
abbrev pub ready_bit : ℕ → Bool
ready_bit control = eqb (control / 2 % 2) 1

-- bit 2
abbrev pub clear_bit : ℕ → Bool
clear_bit control = eqb (control / 4 % 2) 1

-- bit 3, which has to be zero
abbrev pub reserved_bit : ℕ → Bool
reserved_bit control = eqb (control / 8 % 2) 1

-- bits 4 to 7, bit 4 for byte 0
abbrev pub strb_bits : ℕ → ℕ
strb_bits control = control / 16

-- what a stream shows in one cycle
pub record Sample : Type 0 where
  pub valid : Bool
  pub ready : Bool
  pub clear : Bool
  pub payload : Payload

-- the sample that a control byte and a data word record
abbrev pub sample : ℕ → ℕ → Sample
sample control word =
    record {
      valid = valid_bit control;
      ready = ready_bit control;
      clear = clear_bit control;
      payload = record { «data» = word; strb = strb_bits control };
    }

-- a trace, cycle by cycle
abbrev pub sample_at : List ℕ → List ℕ → ℕ → Sample
sample_at controls words c = sample (get_or controls c 0) (get_or words c 0)

-- a clear cycle: it has clear 1, whatever else it shows
abbrev pub clear_cycle : Sample → Bool
clear_cycle s = s.clear

-- a cycle with valid and ready both 1 that is no clear cycle
abbrev pub handshake : Sample → Bool
handshake s = not (clear_cycle s) && (s.valid && s.ready)
