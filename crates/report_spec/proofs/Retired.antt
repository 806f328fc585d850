-- Request 7/12, "7 is no longer given": not by the program.
use Prim.Native.Nat.{ℕ}
use mathlib.Core.Path.{◌≡◌, refl}
use mathlib.Core.List.{List}
use native.Mathlib.Omega.{arith}
use Rattle.cube_spec.proofs.Dues.{lacks, lacks_both, never}
use Rattle.plan_spec.specs.Refusals.{length_checks, planning_checks}
use Rattle.tape_spec.specs.Tapes.{campaign}
use Rattle.tape_spec.specs.Reading.{scan_checks}
use Rattle.tape_spec.proofs.Refusing.{scan_lacks}
use Rattle.report_spec.specs.Printed.{program_checks, program_refusal}

pub never_program : (tape : List ℕ) → program_refusal tape ≡ 7 → ⊥
unfolding program_refusal program_checks planning_checks length_checks lacks
never_program tape = never 7 (program_checks tape (campaign tape)) (omega arith) (lacks_both 7 (scan_checks tape) _ (scan_lacks tape) refl)
