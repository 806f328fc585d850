use mathlib.Core.Path.{◌≡◌, refl, sym, ◌∙◌, ap}
use mathlib.Core.List.{List, ◌++◌}
use Prim.Native.Nat.{ℕ, ◌≤◌}
use native.Mathlib.Omega.{arith}
use lib.ListN.{length, take, drop, replicate}
use Rattle.std.proofs.lemmas.List.{take_at}
use Rattle.cube_spec.specs.Limits.{axis_limit, padded}
use Rattle.cube_spec.specs.Boxes.{table}
use Rattle.cube_spec.specs.Choices.{length_of}
use Rattle.cube_spec.specs.Tree.{weight}
use Rattle.cube_spec.proofs.Slots.{spaced_table}
use Rattle.plan_spec.specs.Rule.{Entry, exps}
use Rattle.plan_spec.specs.Answers.{arrangement}
use Rattle.plan_spec.proofs.Arranging.{order_named, lengths_along, lens_length, lens_bounded, entries_raisable, entries_length, arranged}
use Rattle.plan_rule.proofs.rule.arrange.Goals as goal

abbrev spare : Entry
spare = record { weight = 0; len = 0; exp = 0 }

-- the entries, out of their slots again
entered : (l : List ℕ) (r : List Entry) → length l ≤ axis_limit → r ≡ take axis_limit (table (length l) (λ i. record { weight = weight (length l) (length_of l) i; len = length_of l i; exp = 0 }) ++ replicate axis_limit spare) → take (length l) r ≡ table (length l) (λ i. record { weight = weight (length l) (length_of l) i; len = length_of l i; exp = 0 })
entered l r few e = spaced_table spare (length l) (length l) (λ i. record { weight = weight (length l) (length_of l) i; len = length_of l i; exp = 0 }) r few refl e

pub in_order-along-requires : goal.in_order-along-requires
in_order-along-requires c = (omega arith, rw c.sorted-order.ensures (order_named c.args.lengths.now c.args.p c.requires))

pub entries-axes-requires : goal.entries-axes-requires
entries-axes-requires c =
    let l = c.args.lengths.now in
    let r = c.in_order-along.result in
    lens_bounded l c.args.p c.requires r (lengths_along l c.args.p c.requires r c.sorted-order.result c.slots.result c.sorted-order.ensures c.slots.ensures c.in_order-along.ensures)

pub raise-requires : goal.raise-requires
raise-requires c =
    let l = c.args.lengths.now in
    let r = c.in_order-along.result in
    let along = lengths_along l c.args.p c.requires r c.sorted-order.result c.slots.result c.sorted-order.ensures c.slots.ensures c.in_order-along.ensures in
    let made = ap (λ k. take k c.entries-axes.result) (sym (lens_length l c.args.p c.requires r along)) ∙ entered (take (length l) r) c.entries-axes.result (lens_bounded l c.args.p c.requires r along).few c.entries-axes.ensures in
    (rw made (entries_raisable (take (length l) r) (lens_bounded l c.args.p c.requires r along)), c.requires.boards)

pub returns : goal.returns
unfolding arrangement
returns c =
    let l = c.args.lengths.now in
    let p = c.args.p in
    let r = c.in_order-along.result in
    let along = lengths_along l p c.requires r c.sorted-order.result c.slots.result c.sorted-order.ensures c.slots.ensures c.in_order-along.ensures in
    let n = lens_length l p c.requires r along in
    let made = ap (λ k. take k c.entries-axes.result) (sym n) ∙ entered (take (length l) r) c.entries-axes.result (lens_bounded l p c.requires r along).few c.entries-axes.ensures in
    let size : length c.raise.new.entries ≡ length l = c.raise.auto.entries ∙ entries_length l p c.requires r along (take (length l) c.entries-axes.result) made in
    let back : take (length l) _ ≡ c.raise.new.entries = take_at c.raise.new.entries (drop (length l) c.entries-axes.result) (length l) size in
    let o = c.sorted-order.ensures in
    let k = c.exponents.ensures ∙ ap (λ e. padded (exps e)) (back ∙ c.raise.ensures) ∙ arranged l p c.requires r along (take (length l) c.entries-axes.result) made in
    (λ j. record { order = o j; exponents = k j })
