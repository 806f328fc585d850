use mathlib.Core.Path.{◌≡◌}
use native.Mathlib.Omega.{arith}
use Prim.Native.Nat.{ℕ, ◌+◌, ◌-◌, ◌≤◌, ◌<◌}
use lib.ListN.{length}
use Rattle.plan_spec.proofs.Turns.{fits_points, same_le}
use Rattle.plan_spec.proofs.PricingLaws.{sent_fits, cells_small, more_small, parent_small, cells_le, moved_small, added_small, kept_undecided, summed_undecided, moved_both, moved_end, added_both, added_end}
use Rattle.plan_price.proofs.pricing.+choices_from.Goals as goal

in-axes : {i n : ℕ} → i ≤ n → (i ≡ n → ⊥) → i < n
in-axes l ne = omega (arith, ne)

fewer : {n i t : ℕ} → n - i ≡ t → i < n → n - (i + 1) < t
fewer e h = omega arith

pub overflow_mul-result : goal.overflow_mul-result
overflow_mul-result t c = record { fits = sent_fits c.args.cells c.sent_of-sent.result (cells_small c.requires.undecided) c.sent_of-sent.ensures.1 }

pub returns-then-i-lengths : goal.returns-then-i-lengths
returns-then-i-lengths t c =
    let a = c.args in
    let l = a.lengths.now in
    let p = c.requires.undecided in
    let h = c.if-i-lengths.true in
    let m = moved_end l a.exponents.now (length l) a.i h a.k a.cells c.sent_of-sent.result c.sent_of-sent.ensures.0 in
    let d = added_end l a.exponents.now (length l) a.i h a.cells a.parent in
    (m, d, same_le m (moved_small p), same_le d (added_small p))

pub overflow_mul-more : goal.overflow_mul-more
overflow_mul-more t c = let p = c.requires.undecided in rw c.from-length.ensures (fits_points _ (more_small p (in-axes p.within c.if-i-lengths.false)))

pub overflow_mul-parent : goal.overflow_mul-parent
overflow_mul-parent t c = let p = c.requires.undecided in rw c.from-length.ensures (fits_points _ (parent_small p (in-axes p.within c.if-i-lengths.false)))

pub choices_from-kept-requires : goal.choices_from-kept-requires
choices_from-kept-requires t c =
    let p = c.requires.undecided in
    let l = p.last in
    let h = in-axes p.within c.if-i-lengths.false in
    let e = c.from-length.ensures in
    (fewer c.decreases h, (c.requires.each, rw e (kept_undecided p h _ _ _ (omega arith) (omega arith) (omega arith))))

pub choices_from-summed-requires : goal.choices_from-summed-requires
choices_from-summed-requires t c =
    let p = c.requires.undecided in
    let l = p.last in
    let h = in-axes p.within c.if-i-lengths.false in
    let b = cells_le p h in
    let e = p.axes.cut c.args.i h in
    (fewer c.decreases h, (c.requires.each, rw c.from-length.ensures (summed_undecided p h _ _ _ (omega arith) (omega arith) (omega arith))))

pub returns : goal.returns
returns t c =
    let a = c.args in
    let l = a.lengths.now in
    let p = c.requires.undecided in
    let h = in-axes p.within c.if-i-lengths.false in
    let x = c.choices_from-kept in
    let y = c.choices_from-summed in
    let e = rw c.from-length.ensures at x.ensures in
    let f = rw c.from-length.ensures at y.ensures in
    let m = moved_both l a.exponents.now (length l) a.i h a.k a.cells a.parent x.result.moved y.result.moved e.0 f.0 in
    let d = added_both l a.exponents.now (length l) a.i h a.k a.cells a.parent x.result.added y.result.added e.1 f.1 in
    (m, d, same_le m (moved_small p), same_le d (added_small p))
