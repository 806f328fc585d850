use Rattle.std.proofs.Common.{◌*◌, ◌∙◌, ap₂, arith, rules}
use Rattle.plan_spec.proofs.Accepting.{passed_accepted}
use Rattle.rack_spec.proofs.Refusing.{boards_shifted}
use Rattle.run_spec.proofs.Refusing.{area_plan, area_small}
use Rattle.run_check.proofs.area_of.Goals as goal

pub overflow_shl-result : goal.overflow_shl-result
overflow_shl-result c =
    let w = c.well_formed in
    let ok = passed_accepted c.args.plan (search rules) (search rules) (search rules) c.requires in
    let b = ok.boards in
    omega arith

pub overflow_mul-result : goal.overflow_mul-result
overflow_mul-result c =
    let w = c.well_formed in
    let ok = passed_accepted c.args.plan (search rules) (search rules) (search rules) c.requires in
    let b = area_small c.args.plan ok _ c.share_of.result (boards_shifted c.args.plan 64 (let p = ok.boards in omega arith)) c.share_of.ensures.1 in
    omega arith

pub returns : goal.returns
returns c =
    let w = c.well_formed in
    let ok = passed_accepted c.args.plan (search rules) (search rules) (search rules) c.requires in
    let e = boards_shifted c.args.plan 64 (let p = ok.boards in omega arith) in
    (ap₂ ◌*◌ e c.share_of.ensures.0 ∙ area_plan c.args.plan, area_small c.args.plan ok _ c.share_of.result e c.share_of.ensures.1)
