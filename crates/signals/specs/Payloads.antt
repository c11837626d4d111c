-- Document 01, "The stage and the line": a payload is data and strb. Assumes nothing.
use Rattle.std.specs.Prelude.{ℕ, ◌/◌, ◌%◌, ◌^◌, Bool, ◌&&◌, eqb, leb}
use Rattle.signals.specs.declared.Payload.{Payload}

-- what is shown when valid is 0
abbrev pub zeros : Payload
zeros = record { «data» = 0; strb = 0 }

-- the largest strobe of a 32-bit word
abbrev pub max_strb : ℕ
max_strb = 15

abbrev pub legal_strb : Payload → Bool
legal_strb p = leb p.strb max_strb

-- whether byte j of a word is strobed: bit j of its strb
abbrev pub strobed : (strb j : ℕ) → Bool
strobed strb j = eqb (strb / 2 ^ j % 2) 1

-- all 32 bits of data and all strobes agree
abbrev pub same_payload : Payload → Payload → Bool
same_payload p q = eqb p.«data» q.«data» && eqb p.strb q.strb
