-- The beginning of a tape that says as much as the whole: "The tape is over 65,536 bytes" is told by its first 65,537, and then nothing else is looked at.
use Prim.Native.Nat.{ℕ, ◌+◌, ◌<◌}
use mathlib.Core.Path.{◌≡◌, sym, ◌∙◌, ap}
use mathlib.Core.List.{List, [], ◌∷◌}
use native.Mathlib.Omega.{arith}
use borrow.Author.Tests.{lt-ltb, ltb-true, ltb-false}
use lib.Dec.{ltb}
use lib.ListN.{length, take, length-take}
use lib.Seq.{take_all}
use Rattle.cube_spec.specs.Limits.{tape_limit}
use Rattle.cube_spec.specs.Checks.{first}
use Rattle.cube_spec.proofs.Sums.{by}
use Rattle.tape_spec.specs.Reading.{too_long, scan_checks}
use Rattle.report_spec.specs.Printed.{refused_line, report_or, program_checks, program_refusal, printed_lines, joined, printed}

long_refused : (tape : List ℕ) → tape_limit < length tape → program_refusal tape ≡ 1
unfolding program_refusal program_checks scan_checks first too_long
long_refused tape h = rw (lt-ltb tape_limit (length tape) h)

long_lines : (tape : List ℕ) → tape_limit < length tape → printed_lines tape ≡ refused_line 1 ∷ []
unfolding printed_lines report_or
long_lines tape h = rw (long_refused tape h)

-- the first n bytes, for any n past the limit
pub lines_begun : (n : ℕ) (tape : List ℕ) → tape_limit < n → printed_lines (take n tape) ≡ printed_lines tape
lines_begun n tape h = by (ltb n (length tape))
    (λ t. let l = ltb-true n (length tape) t in long_lines (take n tape) (simp length-take (omega arith)) ∙ sym (long_lines tape (omega arith)))
    (λ t. ap printed_lines (take_all n tape (ltb-false n (length tape) t)))

-- THE PRINTED OUTPUT OF A TAPE IS THAT OF ITS FIRST 65,537 BYTES.
pub first_bytes : (tape : List ℕ) → printed (take (tape_limit + 1) tape) ≡ printed tape
unfolding printed
first_bytes tape = ap joined (lines_begun (tape_limit + 1) tape (omega arith))
