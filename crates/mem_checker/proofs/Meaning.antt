-- The verdict and the count by signals' `means`. An open answer has a clean verdict, which tells the rest but for the last cycle;
-- that one is a read handshake, bit by bit. Assumes nothing.
use Prim.Native.Nat.{ℕ, zero, suc, ◌<◌}
use mathlib.Core.Bool.{true, false≢true}
use mathlib.Core.List.{List}
use mathlib.Core.Path.{◌≡◌, refl}
use lib.ListN.{length}
use Rattle.signals.specs.Tables.{Row, NoneIn}
use Rattle.signals.specs.Memory.{Access, access_at, granted}
use Rattle.signals.specs.Judging.{clean, broken}
use Rattle.signals.specs.Written as written
use Rattle.signals.specs.Written.{Written, judged, refused, Judgement}
use Rattle.signals.proofs.Bools.{both}
use Rattle.signals.proofs.Written.{means}
use Rattle.mem_checker.specs.Rules.{Protocol, mem, mem_decoupled, rules}
use Rattle.mem_checker.specs.Verdicts.{grounds, ends_in_read, is_open, check_mem}
use Rattle.mem_checker.specs.Meaning.{Open, EveryAnswer}

-- what is open is clean, is HWPE-Mem's, and ends in a read handshake
tells_open :
    (verdict : Written) (protocol : Protocol) (trace : ℕ → Access) (n : ℕ) → is_open verdict protocol trace n ≡ true →
    (verdict ≡ judged clean) × ((protocol ≡ mem) × (ends_in_read trace n ≡ true))
tells_open (judged clean) mem trace n e = (refl, (refl, e))
tells_open (judged clean) mem_decoupled trace n e = absurd (false≢true e)
tells_open (judged (broken rule c)) protocol trace n e = absurd (false≢true e)
tells_open (refused number) protocol trace n e = absurd (false≢true e)

module _ (protocol : Protocol) (grounds : List (Row ℕ)) (trace : ℕ → Access) where
  last_read : (n : ℕ) → protocol ≡ mem → NoneIn grounds → ((c : ℕ) → c < n → NoneIn (rules protocol trace c)) →
      ends_in_read trace n ≡ true → Open protocol grounds trace n
  last_read zero p k u e = absurd (false≢true e)
  last_read (suc c) p k u e =
      let read = both (granted (trace c)) (trace c).wen e in
      let shaken = both (trace c).req (trace c).gnt read.0 in
      record { is_mem = p; accepted = k; unbroken = u; last = c; is_last = refl; req = shaken.0; gnt = shaken.1; wen = read.1 }

  module _ (n : ℕ) (j : Judgement) (m : written.Meaning grounds (rules protocol trace) (λ c. granted (trace c)) n j) where
    open_means : is_open j.verdict protocol trace n ≡ true → Open protocol grounds trace n
    open_means e =
        let t = tells_open j.verdict protocol trace n e in
        let k = m.clean_exactly.0 t.0 in
        last_read n t.1.0 k.0 k.1 t.1.1

    means_open : Open protocol grounds trace n → is_open j.verdict protocol trace n ≡ true
    means_open o = rw (m.clean_exactly.1 (o.accepted, o.unbroken), o.is_mem, ← o.is_last, o.req, o.gnt, o.wen)

pub every_answer_lem : EveryAnswer
unfolding check_mem
every_answer_lem protocol controls adds datas rDatas =
    let given = grounds (length controls) (length adds) datas rDatas in
    let trace = access_at controls adds in
    let n = length controls in
    let m = means given (rules protocol trace) (λ c. granted (trace c)) n in
    record { judged = m; open_exactly = (open_means protocol given trace n _ m, means_open protocol given trace n _ m) }
