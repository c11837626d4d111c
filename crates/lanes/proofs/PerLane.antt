-- What stands for each lane: the entries by index, and one turn of a loop that writes them.
-- Two lists of four are the same where their entries are. Assumes nothing.
use Prim.Native.Nat.{ℕ, ◌+◌, ◌<◌, ◌≤◌}
use native.Mathlib.Omega.{arith}
use mathlib.Core.Bool.{Bool, true, false, cond}
use mathlib.Core.List.{List}
use mathlib.Core.Logic.{⊎_elim}
use mathlib.Core.Path.{◌≡◌, refl, sym, ◌∙◌, ap}
use lib.Dec.{ltb}
use lib.ListN.{get_or, set, length-set, get_or-eq_default}
use lib.Seq.{ext_get_or, get_or-set_same, get_or-set_other}
use borrow.Author.Tests.{ltb-true, ltb-false, lt-ltb, le-ltb}
use Rattle.signals.proofs.Bools.{either}
use Rattle.signals.proofs.Entries.{entry_at}
use Rattle.lanes.specs.Lanes.{max_lanes, per_lane}

module _ {A : Type 0} where
  module _ (nothing : A) (entry : ℕ → A) where
    -- a lane's own entry, and nothing past the lanes, beyond four too
    pub entry_or_nothing : (lanes i : ℕ) → lanes ≤ max_lanes →
        get_or (per_lane lanes nothing entry) i nothing ≡ cond (ltb i lanes) (entry i) nothing
    entry_or_nothing lanes i few =
        ⊎_elim
        (λ t. entry_at (λ j. cond (ltb j lanes) (entry j) nothing) max_lanes i nothing (ltb-true i max_lanes t))
        (λ f. let past = ltb-false i max_lanes f in
        get_or-eq_default (per_lane lanes nothing entry) nothing past
        ∙ sym (ap (λ (b : Bool). cond b (entry i) nothing) (le-ltb i lanes (omega arith))))
        (either (ltb i max_lanes))

    pub lane_entry : (lanes i : ℕ) → lanes ≤ max_lanes → i < lanes → get_or (per_lane lanes nothing entry) i nothing ≡ entry i
    lane_entry lanes i few h =
        entry_or_nothing lanes i few ∙ ap (λ (b : Bool). cond b (entry i) nothing) (lt-ltb i lanes h)

    pub no_entry : (lanes i : ℕ) → lanes ≤ max_lanes → lanes ≤ i → get_or (per_lane lanes nothing entry) i nothing ≡ nothing
    no_entry lanes i few h =
        entry_or_nothing lanes i few ∙ ap (λ (b : Bool). cond b (entry i) nothing) (le-ltb i lanes h)

    -- a loop that has written the first i entries writes the next
    pub writes_lane : (i : ℕ) (made : List A) (x : A) → i < max_lanes → made ≡ per_lane i nothing entry → x ≡ entry i →
        set made i x ≡ per_lane (i + 1) nothing entry
    writes_lane i made x few e f = rw (e, f) (ext_get_or nothing _ _ (length-set (per_lane i nothing entry) i (entry i)) (λ j h. each j))
      where
        written : List A
        written = set (per_lane i nothing entry) i (entry i)

        before : (j : ℕ) → j < i → get_or written j nothing ≡ get_or (per_lane (i + 1) nothing entry) j nothing
        before j h =
            get_or-set_other (per_lane i nothing entry) i j (entry i) nothing (λ q. absurd (omega arith))
            ∙ lane_entry i j (omega arith) h
            ∙ sym (lane_entry (i + 1) j (omega arith) (omega arith))

        here : (j : ℕ) → j ≡ i → get_or written j nothing ≡ get_or (per_lane (i + 1) nothing entry) j nothing
        here j q =
            rw q
            (get_or-set_same (per_lane i nothing entry) i (entry i) nothing few
            ∙ sym (lane_entry (i + 1) i (omega arith) (omega arith)))

        after : (j : ℕ) → i < j → get_or written j nothing ≡ get_or (per_lane (i + 1) nothing entry) j nothing
        after j h =
            get_or-set_other (per_lane i nothing entry) i j (entry i) nothing (λ q. absurd (omega arith))
            ∙ no_entry i j (omega arith) (omega arith)
            ∙ sym (no_entry (i + 1) j (omega arith) (omega arith))

        each : (j : ℕ) → get_or written j nothing ≡ get_or (per_lane (i + 1) nothing entry) j nothing
        each j =
            ⊎_elim
            (λ t. before j (ltb-true j i t))
            (λ f. ⊎_elim (λ t. after j (ltb-true i j t)) (λ g. here j (omega (arith, ltb-false j i f, ltb-false i j g))) (either (ltb i j)))
            (either (ltb j i))

  -- entries that agree on the lanes
  pub lanes_alike : (nothing : A) (f g : ℕ → A) (lanes : ℕ) → lanes ≤ max_lanes → ((i : ℕ) → i < lanes → f i ≡ g i) →
      per_lane lanes nothing f ≡ per_lane lanes nothing g
  lanes_alike nothing f g lanes few same = ext_get_or nothing _ _ refl (λ i h. each i)
    where
      either_way : (i : ℕ) (b : Bool) → (b ≡ true → f i ≡ g i) → cond b (f i) nothing ≡ cond b (g i) nothing
      either_way i true e = e refl
      either_way i false e = refl

      each : (i : ℕ) → get_or (per_lane lanes nothing f) i nothing ≡ get_or (per_lane lanes nothing g) i nothing
      each i =
          entry_or_nothing nothing f lanes i few
          ∙ either_way i (ltb i lanes) (λ t. same i (ltb-true i lanes t))
          ∙ sym (entry_or_nothing nothing g lanes i few)
