-- What a protocol must prove of its own rule and of its open traces, and that both protocols keep it. The watch and the trace agree
-- on the cycles before; then the watch tells which rule is the first that the next cycle breaks. The contracts of private functions cite
-- this; the promises of `check_mem` and `check_mem_decoupled` do not. The laws of both protocols stand here, since an `impl` cannot name
-- what stands in proofs. Assumes nothing.
use Rattle.std.specs.Prelude.{ℕ, zero, suc, Bool, true, false, cond, not, ◌&&◌, ◌≡◌, refl}
use Rattle.std.proofs.Common.{sym, ap, ◌∙◌}
use Rattle.std.proofs.Math.Option.{none, some}
use Rattle.signals.specs.Tables.{first_applying}
use Rattle.signals.specs.Memory.{Access, granted}
use Rattle.signals.specs.Judging.{clean}
use Rattle.signals.specs.Written.{align, judged}
use Rattle.mem_checker.specs.declared.Rule.{Rule}
use Rattle.mem_checker.specs.declared.Rule.TheVariants.{Response, Direction}
use Rattle.mem_checker.specs.declared.watch.Watch.{Watch}
use Rattle.mem_checker.specs.Rules.{Protocol, mem, mem_decoupled, rules, breaks2, breaks_align, first_wen, differs}
use Rattle.mem_checker.specs.Verdicts.{ends_in_read, is_open}
use Rattle.mem_checker.specs.Written.{rule_name}
use Rattle.mem_checker.specs.Step.{wen_of, breaks_response, breaks_direction}

pub record ProtocolLaws (protocol : Protocol) (breaks : Watch → Access → Bool) (own : Rule) (reads_stay_open : Bool) : Type 0 where
  -- its own rule comes before align
  pub first_broken :
      (trace : ℕ → Access) (c : ℕ) (w : Watch) → w.reading ≡ ends_in_read trace c → wen_of w.direction ≡ first_wen trace c →
      first_applying (rules protocol trace c) ≡
      cond (breaks w (trace c)) (some (rule_name own)) (cond (breaks_align (trace c)) (some align) none)
  pub open_at_end : (trace : ℕ → Access) (n : ℕ) → reads_stay_open && ends_in_read trace n ≡ is_open (judged clean) protocol trace n

pub mem_laws : ProtocolLaws mem breaks_response Response true
mem_laws =
    record {
      first_broken = λ trace c w r d.
          ap (λ b. cond b (some (rule_name Response)) (cond (breaks_align (trace c)) (some align) none))
          (response_is trace c ∙ ap (λ b. b && not (trace c).r_valid) (sym r));
      open_at_end = λ trace n. refl;
    }
  where
    -- rule 2 as the watch tells it: the cycle before was a read handshake, and r_valid is 0
    response_is : (trace : ℕ → Access) (c : ℕ) → breaks2 trace c ≡ ends_in_read trace c && not (trace c).r_valid
    response_is trace zero = refl
    response_is trace (suc c) = refl

pub mem_decoupled_laws : ProtocolLaws mem_decoupled breaks_direction Direction false
mem_decoupled_laws =
    record {
      first_broken = λ trace c w r d.
          ap (λ first. cond (granted (trace c) && differs first (trace c).wen) (some (rule_name Direction))
          (cond (breaks_align (trace c)) (some align) none)) (sym d);
      open_at_end = λ trace n. refl;
    }
