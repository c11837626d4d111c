-- A text read step by step: its header, then the limit, then its lines. It is what the table of grounds gives, by cases of each.
-- Assumes nothing.
use mathlib.Core.Path.{◌≡◌}
use mathlib.Core.Bool.{Bool, cond}
use mathlib.Core.List.{List}
use mathlib.Core.Option.{Option, none, some}
use Prim.Native.Nat.{ℕ}
use lib.Dec.{ltb}
use native.Mathlib.Omega.{arith}
use Rattle.trace_text.specs.declared.Entry.{Entry}
use Rattle.trace_text.specs.declared.Parsed.{Parsed as Header}
use Rattle.trace_text.specs.Form.{max_announced, Front, Reading, trace, refused, header, cycle_lines, trace_from, reading}

-- what cycle lines read as: their trace, or 9
abbrev pub lines_read : (seq : Bool) → Option (List Entry) → Reading
lines_read seq none = refused 9
lines_read seq (some es) = trace (trace_from seq es)

-- what a text reads as after its header
abbrev pub after_header : Option (Front Header) → Reading
after_header none = refused 9
after_header (some front) =
    cond (ltb max_announced front.item.cycles) (refused 3)
    (lines_read front.item.seq (cycle_lines front.item.cycles front.rest))

pub reading_is : (text : List ℕ) → reading text ≡ after_header (header text)
unfolding reading
reading_is text = grind arith
