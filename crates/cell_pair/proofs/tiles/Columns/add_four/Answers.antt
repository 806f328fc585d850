use Rattle.std.proofs.Common.{◌+◌, ◌*◌, ◌<◌, get_or, pos, refl, SFits, w32, to_z-of_z, arith, rules}
use Rattle.std.proofs.Math.Nat.{add-mul}
use Rattle.cell_row.proofs.Combing.{within_row}
use Rattle.cell_pair.proofs.Tiling.{four_more}
use Rattle.cell_pair.proofs.tiles.Columns.add_four.Goals as goal

pub bounds-array-p-in-loop-i : goal.bounds-array-p-in-loop-i
bounds-array-p-in-loop-i g c = let b = c.requires in omega (arith, within_row c.args.comb _ b.0 b.1 c.loop-i.i (c.args.m + 3) (omega arith) (omega arith), add-mul c.args.m 3 c.args.comb.step)

pub bounds-array-p-in-loop-i-2 : goal.bounds-array-p-in-loop-i-2
bounds-array-p-in-loop-i-2 g c = let b = c.requires in omega (arith, within_row c.args.comb _ b.0 b.1 c.loop-i.i (c.args.m + 3) (omega arith) (omega arith), add-mul c.args.m 3 c.args.comb.step)

pub offset_bounds-array-p-in-loop-i-3 : goal.offset_bounds-array-p-in-loop-i-3
offset_bounds-array-p-in-loop-i-3 g c = let b = c.requires in omega (arith, within_row c.args.comb _ b.0 b.1 c.loop-i.i (c.args.m + 3) (omega arith) (omega arith), add-mul c.args.m 3 c.args.comb.step)

pub bounds-array-p-in-loop-i-3 : goal.bounds-array-p-in-loop-i-3
bounds-array-p-in-loop-i-3 g c = let b = c.requires in omega (arith, within_row c.args.comb _ b.0 b.1 c.loop-i.i (c.args.m + 3) (omega arith) (omega arith), add-mul c.args.m 3 c.args.comb.step)

pub loop-i-preserved : goal.loop-i-preserved
loop-i-preserved g c =
    let comb = c.args.comb in
    let a = c.args.array.now in
    let p = comb.first + c.args.m * comb.step in
    let b = c.requires in
    let i : c.loop-i.i < comb.count = omega arith in
    let l = within_row comb _ b.0 b.1 c.loop-i.i (c.args.m + 3) i (omega arith) in
    let fw : SFits w32 (get_or a (p + c.loop-i.i) (pos 0)) = search rules in
    let fx : SFits w32 (get_or a (p + comb.step + c.loop-i.i) (pos 0)) = search rules in
    let fy : SFits w32 (get_or a (p + 2 * comb.step + c.loop-i.i) (pos 0)) = search rules in
    let fz : SFits w32 (get_or a (p + 3 * comb.step + c.loop-i.i) (pos 0)) = search rules in
    let e = rw (to_z-of_z fw, to_z-of_z fx, to_z-of_z fy, to_z-of_z fz) at c.add_points.ensures in
    four_more _ _ _ _ _ _ _ c.loop-i.invariant i refl refl refl refl fw fx fy fz (omega (arith, l, add-mul c.args.m 3 comb.step)) e.0 e.1 e.2
