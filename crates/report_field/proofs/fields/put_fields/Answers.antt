use Rattle.std.proofs.Common.{◌∙◌, arith}
use Rattle.report_field.proofs.Spelling.{front_none, front_put, space}
use Rattle.report_field.proofs.fields.put_fields.Goals as goal

pub loop-n-init : goal.loop-n-init
loop-n-init g c = let n = front_none g.T.Spelled.spelling c.args.out.now c.args.at c.args.numbers.now in (n.0, omega arith, n.1)

pub loop-n-preserved : goal.loop-n-preserved
loop-n-preserved g c =
    let v = c.loop-n.invariant in
    let s = c.as_bytes-text.ensures.value ∙ c.spell.ensures.0 in
    let k = rw s at c.put_bytes-next.ensures in
    let put =
    front_put g.T.Spelled.spelling c.args.out.now c.loop-n.out c.put_bytes-next.new.out c.args.numbers.now c.loop-n.n-index c.n-item.result c.args.at c.loop-n.next c.put_bytes-next.result (omega arith) c.n-item.is (v.0, v.2) (k.0, k.1 ∙ space c.loop-n.out c.loop-n.next (g.T.Spelled.spelling c.n-item.result)) in
    (put.0, omega (arith, k.0, c.spell.ensures.1, v.1), put.1)
