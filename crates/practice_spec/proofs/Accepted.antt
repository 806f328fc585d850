-- The campaign of every seed: its draws by number, its tape, and that the program `totals` takes it.
use Prim.Native.Nat.{ℕ, zero, suc, ◌+◌, ◌%◌, ◌^◌, ◌≤◌, ◌<◌, min}
use mathlib.Core.Path.{◌≡◌, sym, ◌∙◌, refl, ap}
use mathlib.Core.Bool.{false, not}
use mathlib.Core.Option.{some}
use mathlib.Core.List.{List, [], ◌∷◌, ◌++◌}
use native.Mathlib.Omega.{arith}
use native.Mathlib.Nat.{mul-le-mul, mod-lt}
use borrow.Author.Tests.{le-ltb, eq-eqb, ltb-false}
use lib.Dec.{ltb}
use lib.ListN.{length, get_or}
use lib.IntN.{pos, ◌-ℤ◌}
use mir.Syntax.{w32}
use mir.Val.{SFits, of_z}
use Rattle.cube_spec.specs.Limits.{program_limit}
use Rattle.cube_spec.specs.Choices.{length_of, points}
use Rattle.cube_spec.specs.Ways.{room}
use Rattle.cube_spec.specs.Checks.{check, first}
use Rattle.cube_spec.proofs.Counting.{points_none, points_first}
use Rattle.cube_spec.proofs.Dues.{first_passed}
use Rattle.cube_spec.proofs.Sums.{by}
use Rattle.plan_spec.specs.Accepted.{LengthsAccepted}
use Rattle.plan_spec.specs.Rule.{plan_of, power_used}
use Rattle.plan_spec.specs.Refusals.{planning_refusal, planning_checks}
use Rattle.plan_spec.proofs.Accepting.{used_le, used_all, planning_numbered, planning_accept}
use Rattle.rack_spec.specs.Grids.{grid_of}
use Rattle.rack_spec.specs.Steps.{steps}
use Rattle.run_spec.specs.Entries.{bad_array, work_cells}
use Rattle.run_spec.specs.Memory.{read}
use Rattle.tape_spec.specs.Tapes.{campaign}
use Rattle.tape_spec.specs.Reading.{scan_checks}
use Rattle.tape_spec.specs.Writing.{bytes, axis_command, boards_command, point_command, end_command, each, headed, written, Every}
use Rattle.tape_spec.proofs.Refusing.{after_scan}
use Rattle.tape_spec.proofs.Writing.{every_at, holds, passes, written_length}
use Rattle.report_spec.specs.Printed.{plan_for, too_large, program_checks, program_refusal, report, report_or, printed_lines, joined, printed}
use Rattle.practice_spec.specs.Draws.{round, after, axes_of, length_by, lengths_of, power_draw, power_of, point_by, points_of, practice, tape_of}
use Rattle.practice_spec.specs.Seeds.{seed_limit}
use Rattle.practice_spec.specs.Exercises.{Exercise, Exercised}
use Rattle.practice_spec.specs.inner.Judged.{longest_tape}
use Rattle.practice_spec.proofs.Drawn.{drawn_length, drawn_every, drawn_at, after_first, after_more, after_some, after_fits}
use Rattle.practice_spec.proofs.Area.{area_small}

-- ---- lengths and points

abbrev Short : ℕ → Type 0
Short d = (1 ≤ d) × (d ≤ 9)

length_drawn : (x : ℕ) → Short (length_by x)
unfolding length_by
length_drawn x = (omega arith, omega arith)

points_below : (k : ℕ) (ds : List ℕ) → length ds ≤ k → Every Short ds → points ds ≤ 9 ^ k
points_below zero [] h e = rw points_none (omega arith)
points_below zero (d ∷ ds) h e = absurd (omega arith)
points_below (suc k) [] h e = let i = points_below k [] (omega arith) tt in let n = points_none in omega arith
points_below (suc k) (d ∷ ds) h e =
    let i = mul-le-mul e.0.1 (points_below k ds (omega arith) e.1) in
    rw (points_first d ds) (omega arith)

point_fits : (x : ℕ) → SFits w32 (point_by x)
unfolding point_by
point_fits x = by (ltb (x % 2001) 1000)
    (λ t. record { sfits = rw t (omega arith) })
    (λ t. record { sfits = rw t (let h = ltb-false (x % 2001) 1000 t in omega arith) })

module _ (seed : ℕ) where
  pub axes_few : (1 ≤ axes_of seed) × (axes_of seed ≤ 4)
  unfolding axes_of
  axes_few = (omega arith, omega arith)

  pub axes_are : length (lengths_of seed) ≡ axes_of seed
  unfolding lengths_of
  axes_are = drawn_length length_by (axes_of seed) (round seed)

  lengths_each : (P : ℕ → Type 0) → ((x : ℕ) → P (length_by x)) → Every P (lengths_of seed)
  unfolding lengths_of
  lengths_each P h = drawn_every P length_by h (axes_of seed) (round seed)

  lengths_short : Every Short (lengths_of seed)
  lengths_short = lengths_each Short length_drawn

  points_each : Every (SFits w32) (points_of seed)
  unfolding points_of
  points_each = drawn_every (SFits w32) point_by point_fits (points (lengths_of seed)) (power_draw seed)

  pub points_are : length (points_of seed) ≡ points (lengths_of seed)
  unfolding points_of
  points_are = drawn_length point_by (points (lengths_of seed)) (power_draw seed)

  pub points_few : points (lengths_of seed) ≤ 6561
  points_few = let a = axes_few in let b = axes_are in points_below 4 (lengths_of seed) (omega arith) lengths_short

  power_few : (power_of seed ≤ 3) × (power_of seed ≤ room (lengths_of seed))
  unfolding power_of
  power_few = let m = mod-lt (power_draw seed) {m = 1 + min 3 (room (lengths_of seed))} (omega arith) in (omega arith, omega arith)

  -- ---- the draws by number

  first_draw : after 1 seed ≡ round seed
  unfolding after
  first_draw = refl

  length_at : (d : ℕ) → d < length (lengths_of seed) → length_of (lengths_of seed) d ≡ length_by (after (2 + d) seed)
  unfolding lengths_of
  length_at d h =
      let n = axes_are in
      let e : suc (suc d) ≡ 2 + d = omega arith in
      drawn_at length_by 0 (axes_of seed) (round seed) d (omega arith) ∙ ap length_by (after_first (suc d) seed ∙ ap (λ k. after k seed) e)

  power_at : power_draw seed ≡ after (axes_of seed + 2) seed
  unfolding power_draw after
  power_at = let e : axes_of seed + 2 ≡ suc (suc (axes_of seed)) = omega arith in rw e (ap round (after_first (axes_of seed) seed))

  point_at_lem : (i : ℕ) → i < length (points_of seed) → get_or (points_of seed) i (pos 0) ≡ point_by (after (axes_of seed + 3 + i) seed)
  unfolding points_of
  point_at_lem i h =
      let n = points_are in
      let e : axes_of seed + 2 + suc i ≡ axes_of seed + 3 + i = omega arith in
      drawn_at point_by (pos 0) (points (lengths_of seed)) (power_draw seed) i (omega arith)
      ∙ ap point_by (ap (after (suc i)) power_at ∙ after_more (suc i) (axes_of seed + 2) seed ∙ ap (λ k. after k seed) e)

  -- WHAT IS DRAWN IS THE REQUEST'S, DRAW BY DRAW
  pub draws : 1 ≤ seed → seed ≤ seed_limit → Exercise seed (practice seed)
  unfolding practice axes_of length_by power_of point_by
  draws least most =
      let n : length (lengths_of seed) ≡ axes_of seed = axes_are in
      record {
        axes = n ∙ ap (λ x. 1 + x % 4) (sym first_draw);
        each_length = length_at;
        power = ap (λ x. x % (1 + min 3 (room (lengths_of seed)))) (power_at ∙ ap (λ k. after (k + 2) seed) (sym n));
        many = points_are;
        each_point = λ i h. point_at_lem i h ∙ ap (λ k. pos (after (k + 3 + i) seed % 2001) -ℤ pos 1000) (sym n);
        states = λ i. (after_some i seed (omega arith) (omega arith), after_fits i seed (omega arith));
      }

  -- ---- the tape

  lengths_fit : Every (λ d. d < 2 ^ 16) (lengths_of seed)
  lengths_fit = lengths_each (λ d. d < 2 ^ 16) (λ x. let l = (length_drawn x).1 in omega arith)

  -- THE TAPE'S READING YIELDS THE DRAWN CAMPAIGN
  pub reads_drawn : campaign (tape_of (practice seed)) ≡ some (practice seed)
  unfolding practice tape_of
  reads_drawn = holds (lengths_of seed) (power_of seed) (points_of seed) lengths_fit points_each

  -- its bytes
  pub tape_short : length (tape_of (practice seed)) ≤ longest_tape
  unfolding practice tape_of
  tape_short =
      let w = written_length (lengths_of seed) (power_of seed) (points_of seed) in
      let a = axes_few in
      let b = axes_are in
      let c = points_are in
      let d = points_few in
      omega arith

  scans : first (scan_checks (tape_of (practice seed))) ≡ 0
  unfolding practice tape_of
  scans =
      let s : length (written (lengths_of seed) (power_of seed) (points_of seed)) ≤ longest_tape = unfold practice tape_of in tape_short in
      passes (lengths_of seed) (power_of seed) (points_of seed) lengths_fit points_each (omega arith)

  -- ---- the program

  lengths_taken : LengthsAccepted (lengths_of seed)
  lengths_taken =
      let a = axes_few in
      let b = axes_are in
      let n = points_few in
      let e : (d : ℕ) → d < length (lengths_of seed) → Short (length_of (lengths_of seed) d) = every_at Short 0 (lengths_of seed) lengths_short in
      record {
        axes = omega arith;
        few = omega arith;
        some = λ d h. (e d h).0;
        short = λ d h. let z = (e d h).1 in omega arith;
        small = omega arith;
      }

  plannable : first (planning_checks (practice seed).lengths (practice seed).p) ≡ 0
  unfolding planning_refusal practice
  plannable = let b = power_few.0 in planning_accept (lengths_of seed) (power_of seed) lengths_taken (omega arith)

  -- every board is used
  pub all_used : power_used (practice seed).lengths (practice seed).p ≡ (practice seed).p
  unfolding practice
  all_used = sym (used_all (lengths_of seed) (power_of seed) power_few.1)

  -- its work area has at most 8,192 cells
  pub area_few : work_cells (plan_for (practice seed)) ≤ program_limit
  unfolding practice
  area_few =
      let a = axes_few in
      let b = axes_are in
      let u = used_le (lengths_of seed) (power_of seed) in
      let l = power_few.0 in
      let e = lengths_each (λ d. d ≤ 9) (λ x. (length_drawn x).1) in
      area_small (lengths_of seed) (power_used (lengths_of seed) (power_of seed)) (omega arith) e (omega arith)

  right_count : bad_array (plan_for (practice seed)) (length (practice seed).points) ≡ false
  unfolding bad_array plan_of practice
  right_count = ap not (eq-eqb _ _ points_are)

  not_large : too_large (practice seed) ≡ false
  unfolding too_large practice
  not_large =
      let a : length (points_of seed) ≤ program_limit = (let b = points_are in let c = points_few in omega arith) in
      let w = work_cells (plan_of (lengths_of seed) (power_used (lengths_of seed) (power_of seed))) in
      let c : w ≤ program_limit = unfold practice in area_few in
      rw (le-ltb program_limit (length (points_of seed)) a, le-ltb program_limit w c) refl

  -- THE PROGRAM TAKES IT
  pub takes : program_refusal (tape_of (practice seed)) ≡ 0
  unfolding program_refusal program_checks first
  takes =
      let c = practice seed in
      after_scan (tape_of c) _ scans
      ∙ rw (reads_drawn, right_count, not_large)
      (first_passed (planning_checks c.lengths c.p) (check 10 false ∷ check 11 false ∷ []) (planning_numbered c.lengths c.p) plannable)

  -- AND PRINTS ITS REPORT: the plan, the axes, and the direct sums of every choice
  pub prints : printed (tape_of (practice seed)) ≡ joined (report (plan_for (practice seed)) (read (practice seed).points) (steps (grid_of (plan_for (practice seed)))))
  unfolding printed printed_lines report_or
  prints = ap joined (rw (takes, reads_drawn) refl)

  -- ALL THAT IS SAID OF A SEED
  pub exercised : 1 ≤ seed → seed ≤ seed_limit → Exercised seed (practice seed) (tape_of (practice seed))
  exercised least most =
      record { exercise = draws least most; commands = bytes_are; reading = reads_drawn; taken = takes; used = all_used; sums = prints }
    where
      bytes_are : tape_of (practice seed) ≡ each (λ d. 0x41 ∷ bytes 2 d) (practice seed).lengths
          ++ (0x42 ∷ (practice seed).p ∷ (each (λ v. 0x56 ∷ bytes 4 (of_z w32 v)) (practice seed).points ++ 0x45 ∷ []))
      bytes_are = unfold tape_of written headed axis_command boards_command point_command end_command in refl
