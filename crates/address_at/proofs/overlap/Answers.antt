-- Unless there is a refusal the second's addresses are written to an array, and the first's looked for in it. Assumes nothing.
use Rattle.std.proofs.Common.{◌≤◌, length, ap, ◌∙◌, arith}
use Rattle.std.proofs.lemmas.Result.{err_from_is_err_and}
use Rattle.addressgen.specs.declared.Settings.{Settings}
use Rattle.address_at.proofs.Answers.{behind_first, behind_second, both_few, first_legal, all_pass, its_addresses, has_listed, not_listed}
use Rattle.address_at.proofs.overlap.Goals as goal

pub returns-in_err-first : goal.returns-in_err-first
returns-in_err-first c =
    let p = err_from_is_err_and c.from_residual.result c.from_residual.ensures.1 in
    let a = c.args in
    let room = length a.out.now in
    rw (p.1, p.2)
    (not_listed a.first a.second a.out.now _
    (both_few a.first a.second room (omega arith) (omega arith)
    ∙ c.in_err-first.ensures.refused (behind_first a.first a.second room (omega arith) (omega arith))))

pub returns-in_err-second : goal.returns-in_err-second
returns-in_err-second c =
    let p = err_from_is_err_and c.from_residual-in_err-second.result c.from_residual-in_err-second.ensures.1 in
    let a = c.args in
    let room = length a.out.now in
    rw (p.1, p.2)
    (not_listed a.first a.second a.out.now _
    (first_legal a.first a.second room (omega arith) (omega arith) c.in_ok-first.first c.in_ok-first.ensures.legal
    ∙ c.in_err-second.ensures.refused (behind_second a.first a.second room (omega arith) (omega arith))))

pub returns : goal.returns
returns c =
    let a = c.args in
    let fits : a.first.total ≤ length a.out.now = omega (arith, ap (λ (s : Settings). s.total) c.in_ok-first.ensures.legal) in
    let accepted =
    all_pass a.first a.second (length a.out.now) (omega arith) (omega arith)
    c.in_ok-first.first c.in_ok-second.second c.in_ok-first.ensures.legal c.in_ok-second.ensures.legal fits in
    let count = rw c.in_ok-first.ensures.legal at c.list.ensures.count in
    let written = rw c.in_ok-first.ensures.legal at c.list.ensures.written in
    let addresses = rw c.in_ok-second.ensures.legal at c.write_all.ensures in
    has_listed a.first a.second a.out.now accepted _ (its_addresses _ a.second.total _ _ addresses (omega arith)) _ count _ written
