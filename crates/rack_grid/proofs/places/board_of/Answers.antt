use native.Mathlib.Omega.{arith}
use Rattle.plan_spec.proofs.Accepting.{passed_accepted}
use Prim.Native.Nat.{◌+◌, ◌≤◌}
use mathlib.Core.Path.{◌≡◌, refl, sym, ap, ◌∙◌}
use native.Mathlib.Nat.{mul-le-mul}
use lib.ListN.{get_or}
use Rattle.cube_spec.specs.Boxes.{place}
use Rattle.rack_spec.specs.Grids.{board_with}
use Rattle.rack_spec.specs.Finding.{plan_grid}
use Rattle.rack_spec.proofs.Tallied.{axis_fits, axes_same, parts_shifted, parts_small, exponent_small}
use Rattle.rack_spec.proofs.Planned.{place_last, prefix_small}
use borrow.Author.Rules.{rules}
use Rattle.rack_grid.proofs.places.board_of.Goals as goal

pub loop-d-init : goal.loop-d-init
unfolding place
loop-d-init c = let gd = c.well_formed.0.1.1.1.1 in let ok = passed_accepted c.args.plan (search rules) (search rules) (search rules) c.requires.0 in (ok, refl)

pub bounds-plan-axis : goal.bounds-plan-axis
bounds-plan-axis c = let i = c.loop-d.invariant in let h = c.loop-d-test.true in axis_fits c.args.plan i.0 c.loop-d.d h

pub overflow_shl-parts : goal.overflow_shl-parts
overflow_shl-parts c = let i = c.loop-d.invariant in let h = c.loop-d-test.true in let e = exponent_small c.args.plan i.0 c.loop-d.d h in omega arith

pub overflow_mul-board : goal.overflow_mul-board
overflow_mul-board c = let i = c.loop-d.invariant in let h = c.loop-d-test.true in let e = parts_shifted c.args.plan i.0 c.loop-d.d h in let a = prefix_small c.args.plan i.0 c.args.labels c.requires.1 c.loop-d.d c.loop-d.auto.d-end in let p = parts_small c.args.plan i.0 c.loop-d.d h in let b : c.loop-d.board ≤ 1024 = omega (arith, i.1) in let m = mul-le-mul b p.1 in rw e (omega arith)

pub overflow_add-board : goal.overflow_add-board
overflow_add-board c = let i = c.loop-d.invariant in let h = c.loop-d-test.true in let e = parts_shifted c.args.plan i.0 c.loop-d.d h in let a = prefix_small c.args.plan i.0 c.args.labels c.requires.1 (c.loop-d.d + 1) (omega (arith, h)) in rw (e, i.1, ← place_last (plan_grid c.args.plan).parts (λ i. get_or c.args.labels i 0) c.loop-d.d) (omega arith)

pub loop-d-preserved : goal.loop-d-preserved
loop-d-preserved c = let i = c.loop-d.invariant in let h = c.loop-d-test.true in let e = parts_shifted c.args.plan i.0 c.loop-d.d h in (i.0, rw (e, i.1) (sym (place_last (plan_grid c.args.plan).parts (λ i. get_or c.args.labels i 0) c.loop-d.d)))

pub returns : goal.returns
unfolding board_with
returns c = let i = c.loop-d.invariant in let e = axes_same c.args.plan i.0 in let d : c.loop-d.d ≡ (plan_grid c.args.plan).axes = omega (arith, c.loop-d.auto.d-end, c.loop-d-test.false) in (i.1 ∙ ap (λ n. place (plan_grid c.args.plan).parts (λ i. get_or c.args.labels i 0) n 0) d, rw i.1 (prefix_small c.args.plan i.0 c.args.labels c.requires.1 c.loop-d.d c.loop-d.auto.d-end))
