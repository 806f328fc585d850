use mathlib.Core.Path.{◌≡◌, refl, sym, ◌∙◌, ap}
use native.Mathlib.Omega.{arith}
use lib.ListN.{length, get_or}
use Rattle.cube_spec.specs.Limits.{padded}
use Rattle.cube_spec.specs.Boxes.{table_from, table}
use Rattle.plan_spec.proofs.Turns.{filled}
use Rattle.plan_spec.proofs.Raising.{exps_table}
use Rattle.plan_rule.proofs.rule.exponents.Invariants.{spare}
use Rattle.plan_rule.proofs.rule.exponents.Goals as goal

pub loop-i-init : goal.loop-i-init
unfolding padded table_from
loop-i-init c = refl

pub loop-i-preserved : goal.loop-i-preserved
loop-i-preserved c =
    filled (λ j. (get_or c.args.entries.now j spare).exp) c.loop-i.out c.loop-i.i _ (let f = c.requires in omega arith) refl c.loop-i.invariant

pub returns : goal.returns
returns c =
    let l = c.args.entries.now in
    let z : c.loop-i.i ≡ length l = omega arith in
    c.loop-i.invariant ∙ ap (λ n. padded (table n (λ j. (get_or l j spare).exp))) z ∙ ap padded (sym (exps_table l spare))
