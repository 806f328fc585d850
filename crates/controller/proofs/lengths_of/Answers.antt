use mathlib.Core.Path.{◌≡◌, refl, sym, ◌∙◌, ap}
use native.Mathlib.Omega.{arith}
use lib.ListN.{get_or}
use Rattle.cube_spec.specs.Limits.{padded}
use Rattle.cube_spec.specs.Boxes.{table, table_from}
use Rattle.plan_spec.proofs.Turns.{filled}
use Rattle.controller.specs.Bytes.{pairs}
use Rattle.controller.proofs.Pairing.{pairs_at, pairs_slots}
use Rattle.controller.proofs.lengths_of.Goals as goal

pub loop-i-init : goal.loop-i-init
unfolding padded table_from
loop-i-init c = refl

pub loop-i-preserved : goal.loop-i-preserved
loop-i-preserved c =
    let b = c.args.bytes.now in
    let i = c.loop-i.i in
    filled (λ j. get_or (pairs b) j 0) c.loop-i.out i _ (omega arith) (c.pair.ensures ∙ sym (pairs_at c.args.n b i c.requires.1 (omega arith))) c.loop-i.invariant

pub returns : goal.returns
returns c =
    let b = c.args.bytes.now in
    let z : c.loop-i.i ≡ c.args.n = omega arith in
    c.loop-i.invariant ∙ ap (λ k. padded (table k (λ j. get_or (pairs b) j 0))) z ∙ pairs_slots c.args.n b c.requires.1
