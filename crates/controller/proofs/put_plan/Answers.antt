-- `controller::put_plan` meets its contract.
use Prim.Native.Nat.{◌+◌, ◌/◌}
use mathlib.Core.Path.{◌≡◌, ◌∙◌, sym, ap}
use native.Mathlib.Omega.{arith}
use mathlib.Core.List.{[]}
use lib.ListN.{length}
use Rattle.std.proofs.lemmas.Result.{err_from_is_err_and}
use Rattle.cube_spec.specs.Refusals.{number_of}
use Rattle.cube_spec.proofs.Numbers.{number_positive}
use Rattle.plan_spec.proofs.Accepting.{planning_accepted}
use Rattle.controller.proofs.Pairing as pairing
use Rattle.controller.proofs.Pairing.{pairs_length, taken_back, asks_none, even_bytes, few_axes, error_is, asked_fine, used_is, lengths_are}
use Rattle.controller.proofs.put_plan.Goals as goal

pub returns-in_err-found-clause-refused : goal.returns-in_err-found-clause-refused
returns-in_err-found-clause-refused c =
    let s = c.args in
    let p = err_from_is_err_and c.from_residual.result c.from_residual.ensures.1 in
    let n = c.in_err-found.field-0.0 in
    rw (p.1, p.2) (pairing.refuses_asked s.lengths.now s.p (length s.res.now) (number_of n) (error_is s.lengths.now s.p (number_of n) c.in_err-found.ensures) (λ z. let q = number_positive n in omega arith))

pub returns-in_err-found-clause-put : goal.returns-in_err-found-clause-put
returns-in_err-found-clause-put c =
    let s = c.args in
    let n = c.in_err-found.field-0.0 in
    let some : number_of n ≡ 0 → ⊥ = λ z. let q = number_positive n in omega arith in
    pairing.left s.lengths.now s.p (number_of n) s.res.now (pairing.refuses_asked s.lengths.now s.p (length s.res.now) (number_of n) (error_is s.lengths.now s.p (number_of n) c.in_err-found.ensures) some) some

pub returns-then-res-lengths-clause-refused : goal.returns-then-res-lengths-clause-refused
returns-then-res-lengths-clause-refused c =
    let s = c.args in
    let b = s.lengths.now in
    let z = asked_fine b s.p _ c.in_ok-found.ensures in
    let w = c.if-res-lengths.true in
    pairing.refuses_result b s.p (length s.res.now) z (length b / 2) (even_bytes b s.p z) (λ e. w (let q = even_bytes b s.p z in omega arith))

pub returns-then-res-lengths-clause-put : goal.returns-then-res-lengths-clause-put
returns-then-res-lengths-clause-put c =
    let s = c.args in
    let b = s.lengths.now in
    let z = asked_fine b s.p _ c.in_ok-found.ensures in
    let w = c.if-res-lengths.true in
    pairing.left b s.p 13 s.res.now (pairing.refuses_result b s.p (length s.res.now) z (length b / 2) (even_bytes b s.p z) (λ e. w (let q = even_bytes b s.p z in omega arith))) (λ e. omega arith)

pub shared_ref_as_front-arrange : goal.shared_ref_as_front-arrange
shared_ref_as_front-arrange c = few_axes c.args.lengths.now c.args.p (asked_fine c.args.lengths.now c.args.p _ c.in_ok-found.ensures)

pub arrange-plan-requires : goal.arrange-plan-requires
arrange-plan-requires c =
    let s = c.args in
    let b = s.lengths.now in
    let a = c.in_ok-found.found in
    let z = asked_fine b s.p a c.in_ok-found.ensures in
    let t = taken_back (length b / 2) b _ (even_bytes b s.p z) (few_axes b s.p z) (lengths_are b s.p a c.in_ok-found.ensures) in
    rw (t, used_is b s.p a c.in_ok-found.ensures) (planning_accepted _ s.p (asks_none b s.p z))

pub copy_from_slice-requires-2 : goal.copy_from_slice-requires-2
copy_from_slice-requires-2 c =
    let s = c.args in
    let b = s.lengths.now in
    let n = length b / 2 in
    let a = c.in_ok-found.found in
    let z = asked_fine b s.p a c.in_ok-found.ensures in
    let even = even_bytes b s.p z in
    let few = few_axes b s.p z in
    let t = taken_back n b _ even few (lengths_are b s.p a c.in_ok-found.ensures) in
    let used = used_is b s.p a c.in_ok-found.ensures in
    let o = c.copy_from_slice.ensures.after in
    let long = ap length o ∙ pairing.order_long b s.p _ n s.res.now used _ _ c.arrange-plan.ensures t few in
    pairing.copied_length s.res.now c.copy_from_slice.new.self [] n (omega (arith, c.if-res-lengths.false)) long
    ∙ sym (pairing.exponents_long b s.p _ n s.res.now used _ _ c.arrange-plan.ensures t few)

pub returns-clause-refused : goal.returns-clause-refused
returns-clause-refused c =
    let s = c.args in
    let b = s.lengths.now in
    let z = asked_fine b s.p _ c.in_ok-found.ensures in
    let even = even_bytes b s.p z in
    pairing.refuses_nothing b s.p (length s.res.now) z (length b / 2) even (omega (arith, c.if-res-lengths.false))

pub returns-clause-put : goal.returns-clause-put
returns-clause-put c =
    let s = c.args in
    let b = s.lengths.now in
    let n = length b / 2 in
    let a = c.in_ok-found.found in
    let z = asked_fine b s.p a c.in_ok-found.ensures in
    let even = even_bytes b s.p z in
    let few = few_axes b s.p z in
    let full : length s.res.now ≡ n + n = omega (arith, c.if-res-lengths.false) in
    let t = taken_back n b _ even few (lengths_are b s.p a c.in_ok-found.ensures) in
    let q = pairing.refuses_nothing b s.p (length s.res.now) z n even full in
    pairing.put_both b s.p _ n s.res.now (used_is b s.p a c.in_ok-found.ensures) _ _ c.arrange-plan.ensures t q full few (pairs_length n b even) _ _ c.copy_from_slice.ensures.after c.copy_from_slice-2.ensures.after
