-- `totals_line::next_line` meets its contract: each return puts the line that is due, or nothing.
use mathlib.Core.Path.{◌≡◌, ◌∙◌, refl, ap}
use native.Mathlib.Omega.{arith}
use Prim.Native.Nat.{◌+◌, ◌^◌, ◌<◌}
use lib.ListN.{length}
use lib.Seq.{sets}
use Rattle.totals_line.proofs.Lined as laws
use Rattle.totals_line.proofs.next_line.Goals as goal

pub returns-then-handed-ne0 : goal.returns-then-handed-ne0
returns-then-handed-ne0 c =
    let d = c.requires.0 in
    let e = laws.refused_end _ _ _ _ _ _ d _ c.in-Err.is c.if-handed-ne0.true in
    (ap length e, omega arith, ap (λ l. sets c.args.out.now 0 l) e, laws.refused_stands _ _ _ _ _ _ d _ c.in-Err.is, λ h. (refl, refl))

pub returns-in-Err : goal.returns-in-Err
returns-in-Err c =
    let d = c.requires.0 in
    let e = laws.refused_line_is _ _ _ _ _ _ d _ c.in-Err.is c.if-handed-ne0.false in
    let p = rw c.number.ensures at c.refused_line.ensures in
    (p.0 ∙ ap length e, p.1, p.2 ∙ ap (λ l. sets c.args.out.now 0 l) e, laws.refused_stands _ _ _ _ _ _ d _ c.in-Err.is, λ h. (refl, refl))

pub returns-then-handed-eq0 : goal.returns-then-handed-eq0
returns-then-handed-eq0 c =
    let d = c.requires.0 in
    let e = laws.plan_line_there _ _ _ _ _ _ d _ c.in-Ok.is c.if-handed-eq0.true in
    let p = c.plan_line.ensures in
    (p.0 ∙ ap length e, p.1, p.2 ∙ ap (λ l. sets c.args.out.now 0 l) e, laws.head_stands _ _ _ _ _ _ d _ c.in-Ok.is (let z = c.if-handed-eq0.true in omega arith), λ h. (refl, refl))

pub dim_line-requires : goal.dim_line-requires
dim_line-requires c =
    let t = c.if-handed-axes.true in
    let b = laws.dim_asks _ _ _ _ _ _ c.requires.0 _ c.in-Ok.is c.if-handed-eq0.false (omega arith) in
    (omega arith, b.0, b.1)

pub returns-then-handed-axes : goal.returns-then-handed-axes
returns-then-handed-axes c =
    let d = c.requires.0 in
    let t = c.if-handed-axes.true in
    let e = laws.dim_line_there _ _ _ _ _ _ d _ c.in-Ok.is c.if-handed-eq0.false (omega arith) in
    let p = c.dim_line.ensures in
    (p.0 ∙ ap length e, p.1, p.2 ∙ ap (λ l. sets c.args.out.now 0 l) e, laws.head_stands _ _ _ _ _ _ d _ c.in-Ok.is (omega arith), λ h. (refl, refl))

pub overflow_shl-end : goal.overflow_shl-end
overflow_shl-end c = let f = laws.few_axes _ _ _ _ _ _ c.requires.0 _ c.in-Ok.is in omega arith

pub overflow_add-end : goal.overflow_add-end
overflow_add-end c =
    let d = c.requires.0 in
    let f = laws.few_axes _ _ _ _ _ _ d _ c.in-Ok.is in
    let p = laws.power _ _ _ _ _ _ d _ c.in-Ok.is in
    let m = laws.power_few _ _ _ _ _ _ d _ c.in-Ok.is in
    rw c.from-axes.ensures (omega (arith, m.0))

pub returns-then-handed-end : goal.returns-then-handed-end
returns-then-handed-end c =
    let d = c.requires.0 in
    let p = laws.power _ _ _ _ _ _ d _ c.in-Ok.is in
    let w = rw c.from-axes.ensures at c.if-handed-axes.false in
    let m = rw c.from-axes.ensures at c.if-handed-end.true in
    let n : c.args.handed < c.in-Ok.planned.plan.axes + 2 ^ c.in-Ok.planned.plan.axes = omega arith in
    let e = laws.group_line_there _ _ _ _ _ _ d _ c.in-Ok.is w n in
    let g = c.next_group.ensures in
    (g.0 ∙ ap length e, g.1, g.2 ∙ ap (λ l. sets c.args.out.now 0 l) e, laws.group_stands _ _ _ _ _ _ d _ c.in-Ok.is w n _ _ g.3 g.4, λ h. absurd (h (rw c.in-Ok.is (w, n))))

pub returns-then-handed-end-2 : goal.returns-then-handed-end-2
returns-then-handed-end-2 c =
    let d = c.requires.0 in
    let p = laws.power _ _ _ _ _ _ d _ c.in-Ok.is in
    let v = laws.power_few _ _ _ _ _ _ d _ c.in-Ok.is in
    let w = rw c.from-axes.ensures at c.if-handed-axes.false in
    let m = rw c.from-axes.ensures at c.if-handed-end-2.true in
    let n : c.args.handed ≡ c.in-Ok.planned.plan.axes + 2 ^ c.in-Ok.planned.plan.axes = omega arith in
    let f = c.from-axes.ensures in
    let e = laws.end_line_there _ _ _ _ _ _ d _ c.in-Ok.is w n _ (rw f (omega arith)) in
    let g = c.end_line.ensures in
    (g.0 ∙ ap length e, g.1, g.2 ∙ ap (λ l. sets c.args.out.now 0 l) e, laws.kept_stands _ _ _ _ _ _ d _ c.in-Ok.is (λ l. omega arith) (omega arith), λ h. (refl, refl))

pub returns : goal.returns
returns c =
    let d = c.requires.0 in
    let p = laws.power _ _ _ _ _ _ d _ c.in-Ok.is in
    let w = rw c.from-axes.ensures at c.if-handed-axes.false in
    let m = rw c.from-axes.ensures at c.if-handed-end.false in
    let o = rw c.from-axes.ensures at c.if-handed-end-2.false in
    let n : c.in-Ok.planned.plan.axes + 2 ^ c.in-Ok.planned.plan.axes < c.args.handed = omega (arith, o) in
    let e = laws.over _ _ _ _ _ _ d _ c.in-Ok.is w n in
    (ap length e, omega arith, ap (λ l. sets c.args.out.now 0 l) e, laws.kept_stands _ _ _ _ _ _ d _ c.in-Ok.is (λ l. omega arith) (omega arith), λ h. (refl, refl))
