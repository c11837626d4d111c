-- A store is refused when, and only when, it advances in place: a dimension that its clause names advances, and one that an iteration
-- advances along is named by its clause. A load has no such ground. Assumes nothing.
use Rattle.std.proofs.Common.{◌≡◌, Bool, true, ◌||◌, eqb, arith, eq-eqb, eqb-true}
use Rattle.std.proofs.lemmas.Grind.{common_steps}
use Rattle.signals.proofs.Bools.{both}
use Rattle.addressgen.specs.declared.Settings.{Settings}
use Rattle.addressgen.specs.Stepping.{Dimension, dimension0, dimension1, dimension2}
use Rattle.addressgen.specs.Overwriting.{stride, advances, advances_in_place, overwrites_itself}
use Rattle.addressgen.specs.Meaning.{AdvancesInPlace, OverwritesExactly, LoadsMayRepeat}
use Rattle.addressgen.proofs.Advancing.{advances_exactly_lem}

-- a test that some dimension passes
find : (test : Dimension → Bool) → (test dimension0 || test dimension1 || test dimension2) ≡ true → (d : Dimension) × (test d ≡ true)
find test e = grind (arith, common_steps)

found : (test : Dimension → Bool) (d : Dimension) → test d ≡ true → (test dimension0 || test dimension1 || test dimension2) ≡ true
found test d e = grind (arith, common_steps)

-- a store that overwrites itself, by the dimension that advances in place
pub in_place : (s : Settings) → overwrites_itself s ≡ true → (d : Dimension) × (advances s d ≡ true) × (stride s d ≡ 0)
in_place s e =
    let found = find (advances_in_place s) (both s.store _ e).1 in
    let passed = both (advances s found.0) (eqb (stride s found.0) 0) found.1 in
    (found.0, passed.0, eqb-true (stride s found.0) 0 passed.1)

pub overwrites_exactly_lem : OverwritesExactly
overwrites_exactly_lem s legal = (stands_still, refused)
  where
    stands_still : overwrites_itself s ≡ true → (s.store ≡ true) × AdvancesInPlace s
    stands_still e =
        let still = in_place s e in
        let iteration = (advances_exactly_lem s still.0 legal).0 still.1 in
        ((both s.store _ e).0, record { dimension = still.0; iteration = iteration; in_place = still.2 })

    refused : (s.store ≡ true) × AdvancesInPlace s → overwrites_itself s ≡ true
    refused h =
        let d = h.1.dimension in
        let advancing = (advances_exactly_lem s d legal).1 h.1.iteration in
        rw h.0 (found (advances_in_place s) d (rw (advancing, eq-eqb (stride s d) 0 h.1.in_place)))

pub loads_may_repeat_lem : LoadsMayRepeat
loads_may_repeat_lem s t n room e = rw e
