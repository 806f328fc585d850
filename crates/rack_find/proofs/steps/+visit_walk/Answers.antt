use Rattle.std.proofs.Common.{◌+◌, ◌∙◌, arith}
use Rattle.rack_find.proofs.Searches.{left, places, labellings_few, sent_few, axis_fits, k_small, more_few, more_least, sends_few, kept_next, summed_next, none_walked, leaf_finished, leaf_over, expanded, walked, finished, over, later_walked, sent_found, sendable, child_visited}
use Rattle.rack_find.proofs.steps.+visit_walk.Goals as goal

pub visit-returns-then-at-eq0 : goal.visit-returns-then-at-eq0
visit-returns-then-at-eq0 t c = (leaf_finished c.requires c.if-d-axes.true c.if-at-eq0.true, tt)

pub visit-returns-else-at-eq0 : goal.visit-returns-else-at-eq0
visit-returns-else-at-eq0 t c = (leaf_over c.requires c.if-d-axes.true c.if-at-eq0.false, tt)

pub visit-returns-then-at-eq0-2 : goal.visit-returns-then-at-eq0-2
visit-returns-then-at-eq0-2 t c = (expanded c.requires (left c.requires c.if-d-axes.false) c.if-at-eq0-2.true, tt)

pub visit-count_with-below-requires : goal.visit-count_with-below-requires
visit-count_with-below-requires t c =
    let z = c.requires in
    let p = places z in
    (sent_few z c.args.place.d z.walking.within, omega arith, labellings_few z)

pub visit-returns-then-at-below : goal.visit-returns-then-at-below
visit-returns-then-at-below t c =
    let z = c.requires in
    let r = c.walk.ensures in
    (r.0 ∙ walked z (left z c.if-d-axes.false) c.count_with-below.ensures.0 c.if-at-eq0-2.false c.if-at-below.true, r.1)

pub visit-returns-then-at-below-2 : goal.visit-returns-then-at-below-2
visit-returns-then-at-below-2 t c =
    let z = c.requires in
    (finished z (left z c.if-d-axes.false) c.count_with-below.ensures.0 c.if-at-eq0-2.false c.if-at-below-2.true, tt)

pub visit-returns : goal.visit-returns
visit-returns t c =
    let z = c.requires in
    (over z (left z c.if-d-axes.false) c.count_with-below.ensures.0 c.if-at-eq0-2.false c.if-at-below.false c.if-at-below-2.false, tt)

pub walk-returns-then-d-axes : goal.walk-returns-then-d-axes
walk-returns-then-d-axes t c = (none_walked c.requires c.if-d-axes.true c.args.at, tt)

pub walk-bounds-plan-axis : goal.walk-bounds-plan-axis
walk-bounds-plan-axis t c = axis_fits c.requires (left c.requires c.if-d-axes.false)

pub walk-overflow_shl-next : goal.walk-overflow_shl-next
walk-overflow_shl-next t c = let l = k_small c.requires (left c.requires c.if-d-axes.false) in omega arith

pub walk-overflow_shr-next : goal.walk-overflow_shr-next
walk-overflow_shr-next t c = let l = k_small c.requires (left c.requires c.if-d-axes.false) in omega arith

pub walk-count_with-later-requires : goal.walk-count_with-later-requires
walk-count_with-later-requires t c =
    let z = c.requires in
    let h = left z c.if-d-axes.false in
    let p = places z in
    (sent_few z (c.args.place.d + 1) (omega arith), omega arith, more_few z h)

pub walk-walk-requires : goal.walk-walk-requires
walk-walk-requires t c =
    let h = left c.requires c.if-d-axes.false in
    (omega (arith, c.decreases), kept_next c.requires h)

pub walk-returns-then-at-later : goal.walk-returns-then-at-later
walk-returns-then-at-later t c =
    let z = c.requires in
    let h = left z c.if-d-axes.false in
    let r = c.walk.ensures in
    (r.0 ∙ later_walked z h c.count_with-later.ensures.0 c.if-at-later.true, r.1)

pub walk-overflow_sub-sends : goal.walk-overflow_sub-sends
walk-overflow_sub-sends t c = let l = more_least c.requires (left c.requires c.if-d-axes.false) in omega arith

pub walk-overflow_mul-sends : goal.walk-overflow_mul-sends
walk-overflow_mul-sends t c = let l = sends_few c.requires (left c.requires c.if-d-axes.false) in omega arith

pub walk-returns-then-at-later-2 : goal.walk-returns-then-at-later-2
walk-returns-then-at-later-2 t c =
    let z = c.requires in
    let h = left z c.if-d-axes.false in
    let e = c.count_with-later.ensures.0 in
    let w = c.without-child.ensures in
    let l = c.if-at-later.false in
    (sent_found z h e w l c.if-at-later-2.true, sendable z h e w l c.if-at-later-2.true)

pub walk-visit-requires : goal.walk-visit-requires
walk-visit-requires t c =
    let h = left c.requires c.if-d-axes.false in
    (omega (arith, c.decreases), rw c.without-child.ensures (summed_next c.requires h))

pub walk-returns : goal.walk-returns
walk-returns t c =
    let z = c.requires in
    let h = left z c.if-d-axes.false in
    let r = c.visit.ensures in
    (child_visited z h c.count_with-later.ensures.0 c.without-child.ensures c.if-at-later.false c.if-at-later-2.false r.0, r.1)
