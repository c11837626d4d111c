-- The answer of the call for an address by its number, in numbers. Assumes nothing.
use Rattle.std.specs.Prelude.{ℕ, Result}
use Rattle.std.specs.Result.{result_unwrap_or}
use Rattle.signals.specs.Refusals.{refusal_of}
use Rattle.signals.specs.declared.Refusal.{Refusal}
use Rattle.exports.specs.declared.addresses.AddressAt.{AddressAt}
use Rattle.exports.specs.Numbers.{or_zero}

-- refused, the address is 0
abbrev pub address_numbers : Result ℕ Refusal → AddressAt
address_numbers answer = record { refusal = or_zero (refusal_of answer); address = result_unwrap_or answer 0 }
