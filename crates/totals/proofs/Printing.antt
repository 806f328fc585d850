-- Statement: what the program learns of its one call of print, by the function's own contract, as the check reads it: of every input whose first bytes the space has, as
-- many as there is room for.
use Prim.Native.Nat.{ℕ, ◌≤◌, ◌<◌}
use mathlib.Core.Path.{◌≡◌}
use mathlib.Core.List.{List}
use lib.ListN.{length, take}
use contract.Lifetimes.{Lfts}
use borrow.Fn.World.{ArgsD, ResD}
use denote.Triple.Clauses.{AtExit}
use Rattle.std.specs.Prelude.{Result, Ok, Err}
use native.Mathlib.Omega.{arith}
use Rattle.report_spec.specs.Printed.{printed_lines, joined, printed}
use Rattle.totals.specs.Endings.{Ends, ReadFrom}
use Rattle.totals.specs.declared.types.Stopped.{Stopped}
use Rattle.totals.proofs.Stopping.{whole_printed}
use Rattle.totals.specs.contracts.writing.print.{signature, ended}
use Rattle.totals.proofs.writing.print.Reads as reads

module _ (κs : Lfts 5) (a : ArgsD signature κs) (r : ResD signature κs) (s : AtExit ended κs) (h : reads.Learnt κs a r s) (input : List ℕ) (e : ReadFrom input a.0.now a.1.0) where
  -- It hands over at most the lines of the input's report,
  abbrev lines_of : Result ℕ Stopped → ℕ
  lines_of (Ok lines) = lines
  lines_of (Err stopped) = stopped.lines

  pub at_most : lines_of r ≤ length (printed_lines input)
  at_most = go r (h input e)
    where
      go : (r : Result ℕ Stopped) → Ends input r → lines_of r ≤ length (printed_lines input)
      go (Ok lines) s = omega arith
      go (Err stopped) s = let l = s.0 in omega arith

  -- all of them where no write failed: these are the definition's printed output, byte for byte;
  pub all_lines : (lines : ℕ) → r ≡ Ok lines → lines ≡ length (printed_lines input)
  all_lines lines t = rw t at (h input e)

  pub all_printed : (lines : ℕ) → r ≡ Ok lines → joined (take lines (printed_lines input)) ≡ printed input
  all_printed lines t = whole_printed input lines (all_lines lines t)

  -- and it says that a write failed only where a line is left.
  pub line_left : (stopped : Stopped) → r ≡ Err stopped → stopped.lines < length (printed_lines input)
  line_left stopped t = let s : Ends input (Err stopped) = (rw t at (h input e)) in s.0
