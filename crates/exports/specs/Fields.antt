-- The fields of the control bytes, side by side. Assumes nothing.
use Rattle.std.specs.Prelude.{ℕ}
use Rattle.signals.specs.Stream.{valid_bit, ready_bit, clear_bit, reserved_bit, strb_bits}
use Rattle.signals.specs.Memory.{req_bit, gnt_bit, wen_bit, r_valid_bit}
use Rattle.exports.specs.declared.fields.StreamFields.{StreamFields}
use Rattle.exports.specs.declared.fields.MemFields.{MemFields}

abbrev pub stream_fields : ℕ → StreamFields
stream_fields control =
    record {
      valid = valid_bit control;
      ready = ready_bit control;
      clear = clear_bit control;
      reserved = reserved_bit control;
      strb = strb_bits control;
    }

abbrev pub mem_fields : ℕ → MemFields
mem_fields control =
    record { req = req_bit control; gnt = gnt_bit control; wen = wen_bit control; rvalid = r_valid_bit control }
