-- A sound plan's grid is lawful.
use lib.Pow.{pow_pos}
use Rattle.cube_spec.proofs.Portions.{portion_first, portion_last, portion_rising, portion_widest}
use Rattle.plan_spec.specs.Plans.{PlanLists, Sound, most_at}
use Rattle.plan_spec.proofs.Orders.{order_below, rank_below, rank_order, order_rank}
use Rattle.rack_spec.specs.Grids.{Lawful, grid_of}

pub grid_lawful : (a : PlanLists) → Sound a → Lawful (grid_of a)
unfolding grid_of most_at
grid_lawful a ok =
    record {
      some = λ d r. pow_pos _;
      first = λ d r. portion_first _ _ (pow_pos _);
      last = λ d r. portion_last _ _ (pow_pos _);
      rising = λ d l r h. portion_rising _ _ (pow_pos _) (ok.cut _ (order_below a ok d r)) l;
      widest = λ d l r h. portion_widest _ _ (pow_pos _) l;
      order_lt = order_below a ok;
      rank_lt = rank_below a ok;
      rank_order = rank_order a ok;
      order_rank = order_rank a ok;
    }
