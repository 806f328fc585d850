use Rattle.std.proofs.Common.{◌≡◌, ◌+◌, ◌-◌, ◌≤◌, length, drop, pos, ℤ, arith, length-drop, rules}
use Rattle.std.proofs.lemmas.List.{length-replicate, length-take-le, get_or-replicate}
use Rattle.cell_spec.specs.Rows.{zeros}
use Rattle.cell_spec.proofs.Halves.{put_written}
use Rattle.cell_row.proofs.adding.clear.Goals as goal

pub returns : goal.returns
unfolding zeros
returns c =
    let a = c.args in
    let e : a.at + a.n - a.at ≡ a.n = omega arith in
    let l : a.n ≤ length (drop a.at a.work.now) = omega (arith, length-drop a.at a.work.now, c.requires) in
    rw (e, c.fill.ensures.after (λ y h. search rules), e, length-take-le a.n _ l)
    (put_written a.work.now _ a.at a.n _ c.requires (length-replicate {A = ℤ} a.n (pos 0)) (λ i h. get_or-replicate {A = ℤ} a.n i (pos 0) (pos 0) h))
