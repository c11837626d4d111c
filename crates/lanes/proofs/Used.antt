-- The inputs and the readies used are the first ones, and the definitions look at no other. Assumes nothing.
use Prim.Native.Nat.{ℕ, zero, suc, ◌<◌, ◌≤◌}
use native.Mathlib.Numerals.{add-one}
use native.Mathlib.Omega.{arith}
use mathlib.Core.Bool.{Bool, true, ◌&&◌}
use mathlib.Core.List.{List}
use mathlib.Core.Path.{◌≡◌, refl, sym, ◌∙◌, ap, ap₂}
use lib.ListN.{length, get_or, take}
use Rattle.std.proofs.Math.Seq.{take-length}
use Rattle.std.proofs.lemmas.List.{get_or-take, length-take-le}
use Rattle.std.proofs.lemmas.List.Folds.{list_all_more}
use Rattle.std.specs.List.{list_all}
use Rattle.signals.specs.declared.Payload.{Payload}
use Rattle.signals.specs.Payloads.{legal_strb}
use Rattle.signals.specs.Sequences.{every_below}
use Rattle.lanes.specs.declared.Offer.{Offer}
use Rattle.lanes.specs.declared.Wide.{Wide}
use Rattle.lanes.specs.Lanes.{max_lanes}
use Rattle.lanes.specs.Merge.{payload_at, legal_strobes, all_valid}
use Rattle.lanes.specs.Offers.{no_offer}
use Rattle.lanes.specs.Wide.{strobes_below, together}
use Rattle.lanes.proofs.Digits.{strobes_alike, strobes_small}
use Rattle.lanes.proofs.PerLane.{lanes_alike}

-- a test of each of the first entries, as a chain of iterators makes it, is that of each index
pub all_first : {A : Type 0} (test : A → Bool) (d : A) (xs : List A) (n : ℕ) → n ≤ length xs →
    list_all test (take n xs) ≡ every_below (λ i. test (get_or xs i d)) n
all_first test d xs zero h = refl
all_first test d xs (suc n) h =
    ap (λ (k : ℕ). list_all test (take k xs)) (sym (add-one n))
    ∙ list_all_more test xs n d (omega arith)
    ∙ ap (λ (b : Bool). b && test (get_or xs n d)) (all_first test d xs n (omega arith))

-- payloads that agree on the lanes make the same wide one
pub together_alike : (f g : ℕ → Payload) (n : ℕ) → n ≤ max_lanes → ((i : ℕ) → i < n → f i ≡ g i) → together n f ≡ together n g
together_alike f g n few same =
    ap₂ {C = Wide} (λ (words : List ℕ) (strb : ℕ). record { «data» = words; strb = strb })
    (lanes_alike 0 (λ i. (f i).«data») (λ i. (g i).«data») n few (λ i h. ap (λ (p : Payload). p.«data») (same i h)))
    (strobes_alike f g n same)

-- what a merge reads of its first inputs
pub used_legal : (inputs : List Offer) (n : ℕ) → n ≤ length inputs →
    list_all (λ input. legal_strb input.payload) (take n inputs) ≡ legal_strobes n inputs
used_legal inputs n enough = all_first (λ input. legal_strb input.payload) no_offer inputs n enough

pub used_valid : (inputs : List Offer) (n : ℕ) → n ≤ length inputs → list_all (λ input. input.valid) (take n inputs) ≡ all_valid n inputs
used_valid inputs n enough = all_first (λ input. input.valid) no_offer inputs n enough

pub used_together : (inputs : List Offer) (n : ℕ) → n ≤ length inputs → n ≤ max_lanes →
    together (length (take n inputs)) (payload_at (take n inputs)) ≡ together n (payload_at inputs)
used_together inputs n enough few =
    ap (λ (k : ℕ). together k (payload_at (take n inputs))) (length-take-le n inputs enough)
    ∙ together_alike (payload_at (take n inputs)) (payload_at inputs) n few
    (λ i h. ap (λ (o : Offer). o.payload) (get_or-take n inputs i no_offer h))

pub ruleset inputs_used = (used_legal, used_valid, used_together)

-- the strobes of the first i of at most four inputs fit in 16 bits
pub strobes_few : (used : List Offer) (i : ℕ) → i ≤ length used → length used ≤ max_lanes →
    list_all (λ input. legal_strb input.payload) used ≡ true → strobes_below (payload_at used) i < 65536
strobes_few used i h few legal =
    strobes_small used (length used) i few
    (sym (used_legal used (length used) (omega arith)) ∙ ap (list_all (λ input. legal_strb input.payload)) (take-length used) ∙ legal)
    h
