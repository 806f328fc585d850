-- `totals_check::judging::judge` meets its contract. The refusals in their order, then the plan.
use Rattle.std.proofs.Common.{◌≡◌, ◌∙◌, rules}
use Rattle.cube_spec.specs.Checks.{refuses}
use Rattle.cube_spec.specs.Refusals.{number_of, reply_of}
use Rattle.totals_check.proofs.Judged as laws
use Rattle.totals_check.proofs.judging.judge.Goals as goal

pub returns-in_err-found : goal.returns-in_err-found
returns-in_err-found c =
    let n = number_of c.in_err-found.field-0.0 in
    let q : reply_of c.from_residual.result ≡ refuses n = search rules in
    q ∙ laws.scan_refused _ n c.in_err-found.ensures

pub returns-then-found-gt8 : goal.returns-then-found-gt8
returns-then-found-gt8 c = laws.too_many_axes _ _ c.in_ok-found.ensures c.if-found-gt8.true

pub returns-in_err-planned : goal.returns-in_err-planned
returns-in_err-planned c =
    let n = number_of c.in_err-planned.field-0.0 in
    let q : reply_of c.from_residual-in_err-planned.result ≡ refuses n = search rules in
    q ∙ laws.planning_refused _ _ c.in_ok-found.ensures c.if-found-gt8.false n c.in_err-planned.ensures

pub points_of-points-requires : goal.points_of-points-requires
points_of-points-requires c = laws.plan_accepted _ _ c.in_ok-found.ensures c.if-found-gt8.false _ c.in_ok-planned.ensures

pub returns-then-points-found : goal.returns-then-points-found
returns-then-points-found c =
    laws.points_refused _ _ c.in_ok-found.ensures c.if-found-gt8.false _ c.in_ok-planned.ensures _ c.points_of-points.ensures c.if-points-found.true

pub returns-then-points-gt8192 : goal.returns-then-points-gt8192
returns-then-points-gt8192 c =
    laws.many_points _ _ c.in_ok-found.ensures c.if-found-gt8.false _ c.in_ok-planned.ensures _ c.points_of-points.ensures c.if-points-found.false c.if-points-gt8192.true

pub area_of-area-requires : goal.area_of-area-requires
area_of-area-requires c = laws.plan_accepted _ _ c.in_ok-found.ensures c.if-found-gt8.false _ c.in_ok-planned.ensures

pub returns-then-area-gt8192 : goal.returns-then-area-gt8192
returns-then-area-gt8192 c =
    laws.large_area _ _ c.in_ok-found.ensures c.if-found-gt8.false _ c.in_ok-planned.ensures _ c.points_of-points.ensures c.if-points-found.false c.if-points-gt8192.false _ c.area_of-area.ensures.0 c.if-area-gt8192.true

pub returns : goal.returns
returns c =
    laws.taken _ _ c.in_ok-found.ensures c.if-found-gt8.false _ c.in_ok-planned.ensures _ c.points_of-points.ensures c.if-points-found.false c.if-points-gt8192.false _ c.area_of-area.ensures.0 c.if-area-gt8192.false
