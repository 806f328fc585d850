-- What a division costs over links of unequal weight. `ds` are the lengths, `links` the link weights and `exponents` those of the division, all in axis order.
use Rattle.std.specs.Prelude.{ℕ, zero, suc, ◌*◌, Bool, List, length, get_or}
use Rattle.std.proofs.Math.Option.{Option, none, some}
use Rattle.cube_spec.specs.Boxes.{pick, sum_n}
use Rattle.cube_spec.specs.Choices.{keeps, full_mask, cells}
use Rattle.cube_spec.specs.Tree.{sent}
use Rattle.cube_spec.specs.Ways.{Way, Division, cost_by}
use Rattle.plan_spec.specs.Rule.{up_to}

-- "Each axis now has a link weight .. in axis order"
abbrev pub link_of : List ℕ → ℕ → ℕ
link_of links d = get_or links d 0

-- "a moved value costs the link weight of the axis being summed": what a way with a division costs
unfoldable pub weighted_cost : (ds links : List ℕ) {p : ℕ} → Division ds p → Way (length ds) → ℕ
weighted_cost ds links e w = cost_by (link_of links) ds e.exponents w

-- what a cell of a choice costs whose parent has axis d more: (2^k - 1) values, each at the axis's link weight
unfoldable pub fare : List ℕ → List ℕ → ℕ → ℕ
fare links exponents d = sent (get_or exponents d 0) * link_of links d

-- the least fare of the axes below n that are not kept, if there is one
unfoldable pub least_fare : (ℕ → Bool) → (ℕ → ℕ) → ℕ → Option ℕ
least_fare kept fares zero = none
least_fare kept fares (suc d) =
    let before = least_fare kept fares d in
    pick (kept d) before (some (up_to (fares d) before))

-- every choice but the full one sums some axis out, so `none` does not come up
abbrev pub paid : Option ℕ → ℕ
paid none = 0
paid (some x) = x

-- "Price divisions .. each with the cheapest parent for every choice": over every choice but the full one, its cells at the least fare of an axis that it sums out
unfoldable pub cheapest_cost : List ℕ → List ℕ → List ℕ → ℕ
cheapest_cost ds links exponents =
    sum_n (full_mask (length ds)) (λ mask. cells ds mask * paid (least_fare (keeps mask) (fare links exponents) (length ds)))
