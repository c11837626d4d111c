-- The watch follows the trace: what it keeps before cycle i is what the rules ask of the cycles before i, and those are clean.
-- A cycle with no breach keeps this, and at a breach it settles the answer. Assumes nothing.
use Prim.Native.Nat.{ℕ, ◌+◌, ◌≤◌, ◌<◌}
use native.Mathlib.Numerals.{add-one}
use mathlib.Core.Bool.{Bool, true, false, cond}
use mathlib.Core.Option.{none, some}
use mathlib.Core.Path.{◌≡◌, refl, sym, ◌∙◌}
use Rattle.std.specs.Prelude.{Ok, Option, None, Some, unwrap_or}
use Rattle.signals.specs.Tables.{first_applying}
use Rattle.signals.specs.Memory.{Access, granted}
use Rattle.signals.specs.Judging.{clean, count_below, finding_below}
use Rattle.signals.specs.Written.{align}
use Rattle.signals.proofs.Judging.{stops, goes_on, count_next, count_le}
use Rattle.mem_checker.specs.declared.Rule.{Rule}
use Rattle.mem_checker.specs.declared.Rule.TheVariants.{Align}
use Rattle.mem_checker.specs.declared.watch.Watch.{Watch}
use Rattle.mem_checker.specs.Rules.{Protocol, rules, breaks_align, first_wen, or_wen_of}
use Rattle.mem_checker.specs.Verdicts.{ends_in_read}
use Rattle.mem_checker.specs.Written.{rule_name, written}
use Rattle.mem_checker.specs.Step.{unrefused, broken_at, wen_of, next}
use Rattle.mem_checker.specs.Laws.{ProtocolLaws}

-- the first handshake's wen is kept; where there was none it is this cycle's, if this is one
wen_next : (direction : Option Bool) (now : Access) (shakes : Bool) → granted now ≡ shakes →
    wen_of (cond shakes (Some (unwrap_or direction now.wen)) direction) ≡ or_wen_of (wen_of direction) now
wen_next (Some first) now true e = refl
wen_next (Some first) now false e = refl
wen_next None now true e = rw e
wen_next None now false e = rw e

module _ (protocol : Protocol) (trace : ℕ → Access) where
  pub record Follows (i : ℕ) (w : Watch) : Type 0 where
    pub so_far : finding_below (rules protocol trace) i ≡ clean
    pub reading : w.reading ≡ ends_in_read trace i
    pub direction : wen_of w.direction ≡ first_wen trace i
    pub counted : w.handshakes ≡ count_below (λ c. granted (trace c)) i

-- there are no more handshakes than cycles
pub handshakes_le : {protocol : Protocol} (trace : ℕ → Access) {i : ℕ} {w : Watch} → Follows protocol trace i w → w.handshakes ≤ i
handshakes_le trace {i} f = rw f.counted (count_le (λ c. granted (trace c)) i)

-- the next cycle of the trace, by what it shows
module _ {protocol : Protocol} {breaks : Watch → Access → Bool} {own : Rule} {reads_stay_open : Bool} {i : ℕ} {w : Watch}
    (laws : ProtocolLaws protocol breaks own reads_stay_open) (trace : ℕ → Access) (f : Follows protocol trace i w)
    {now : Access} (shown : now ≡ trace i) where
  -- which rule is the first that it breaks
  first_is :
      first_applying (rules protocol trace i)
      ≡ cond (breaks w now) (some (rule_name own)) (cond (breaks_align now) (some align) none)
  first_is = rw shown (laws.first_broken trace i w f.reading f.direction)

  -- the answer at a breach
  broken_here : (n : ℕ) (rule : Rule) → i < n → first_applying (rules protocol trace i) ≡ some (rule_name rule) →
      written (Ok (broken_at rule i w.handshakes)) ≡ unrefused protocol trace n
  broken_here n rule h e = rw (stops (rules protocol trace) i n (rule_name rule) h f.so_far e, f.counted)

  pub own_broken : (n : ℕ) → i < n → breaks w now ≡ true → written (Ok (broken_at own i w.handshakes)) ≡ unrefused protocol trace n
  own_broken n h e = broken_here n own h (first_is ∙ rw e)

  pub align_broken : (n : ℕ) → i < n → breaks w now ≡ false → breaks_align now ≡ true →
      written (Ok (broken_at Align i w.handshakes)) ≡ unrefused protocol trace n
  align_broken n h e a = broken_here n Align h (first_is ∙ rw (e, a))

  -- a cycle with no breach
  pub follows_next : breaks w now ≡ false → breaks_align now ≡ false → Follows protocol trace (i + 1) (next w now)
  follows_next e a =
      record {
        so_far = goes_on (rules protocol trace) i f.so_far (first_is ∙ rw (e, a));
        reading = rw (add-one i, shown);
        direction = rw (add-one i, shown, ← f.direction) (wen_next w.direction (trace i) (granted (trace i)) refl);
        counted = rw (shown, f.counted) (sym (count_next (λ c. granted (trace c)) i));
      }
