use Rattle.std.proofs.Common.{refl, sym, ◌∙◌, ap, length, get_or}
use Rattle.cube_spec.specs.Limits.{padded}
use Rattle.cube_spec.specs.Boxes.{table_from}
use Rattle.cube_spec.specs.Ways.{log2}
use Rattle.plan_spec.proofs.Turns.{slot_below, filled, all_filled}
use Rattle.link_spec.proofs.Searching.{caps_table}
use Rattle.link_division.proofs.trying.caps_of.Goals as goal

pub loop-i-init : goal.loop-i-init
unfolding padded table_from
loop-i-init c = refl

pub loop-i-preserved : goal.loop-i-preserved
loop-i-preserved c =
    filled (λ d. log2 (get_or c.args.lens.now d 0)) c.loop-i.out c.loop-i.i _ (slot_below c.loop-i-test.true c.requires) c.cap_of.ensures c.loop-i.invariant

pub returns : goal.returns
returns c =
    let l = c.args.lens.now in
    all_filled (λ d. log2 (get_or l d 0)) c.loop-i.out (length l) c.loop-i.i c.loop-i.auto.i-end c.loop-i-test.false c.loop-i.invariant ∙ ap padded (sym (caps_table l))
