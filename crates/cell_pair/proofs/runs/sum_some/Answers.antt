use Rattle.std.proofs.Common.{ℕ, ◌<◌, ◌∙◌, ◌≡◌, arith, length-set}
use Rattle.std.proofs.lemmas.List.{length-replicate}
use Rattle.cell_spec.proofs.Writing.{same}
use Rattle.cell_pair.proofs.Tiling.{tile_empty, tile_more, tile_sums, tile_counts}
use Rattle.cell_pair.proofs.runs.sum_some.Goals as goal

pub loop-i-init : goal.loop-i-init
loop-i-init c =
    let e = c.new-columns.ensures in
    let r = length-replicate {A = ℕ} 16 0 in
    rw (e.0, e.1, e.2) (r, r, r, tile_empty _ _ _ _ _ _ _ _)

pub loop-i-preserved : goal.loop-i-preserved
loop-i-preserved c =
    let e = c.put.ensures in
    let s = c.loop-i.invariant in
    let b : c.loop-i.i < 16 = omega (arith, c.requires.2) in
    rw (e.0, e.1, e.2, length-set, length-set, length-set) (s.0, s.1, s.2, tile_more _ _ _ s.3 (omega (arith, s.0)) (omega (arith, s.1)) (omega (arith, s.2)) c.sum_run-run.ensures)

pub returns : goal.returns
returns c =
    let q : c.loop-i.i ≡ c.args.comb.count = omega arith in
    let p = rw (q, ← c.requires.1) at c.loop-i.invariant.3 in
    let b = c.requires.3 in
    (c.write_sums.ensures ∙ same _ _ _ _ _ (tile_sums p b), c.write_counts.ensures ∙ same _ _ _ _ _ (tile_counts p b))
