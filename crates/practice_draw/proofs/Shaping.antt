-- What is drawn before the points, as the code draws it: one length after the other, then p.
use Rattle.std.proofs.Common.{◌≡◌, ℕ, suc, ◌+◌, ◌*◌, ◌%◌, ◌^◌, ◌<◌, ◌≤◌, min, List, length, take, set, replicate, sym, refl, ap, ◌∙◌, mul-le-mul, arith}
use native.Mathlib.Nat.{pow-le-pow_right}
use Rattle.cube_spec.specs.Limits.{axis_limit, padded}
use Rattle.cube_spec.specs.Boxes.{product, table}
use Rattle.cube_spec.specs.Choices.{points}
use Rattle.cube_spec.specs.Ways.{room}
use Rattle.cube_spec.proofs.Counting.{points_last}
use Rattle.cube_spec.proofs.Slots.{padded_next, padded_take}
use Rattle.cube_spec.proofs.Tables.{table_of}
use Rattle.practice_spec.specs.Draws.{round, after, drawn, axes_of, length_by, lengths_of, power_draw, power_of}
use Rattle.practice_spec.proofs.Drawn.{drawn_length, drawn_at, drawn_next, after_next}
use Rattle.practice_draw.specs.declared.types.Shape.{Shape}
use Rattle.practice_draw.specs.inner.Shapes.{shape_of}

-- ---- lengths

drawn_table : (f : ℕ → ℕ) (n s : ℕ) → drawn f n s ≡ table n (λ j. f (after (suc j) s))
drawn_table f n s = table_of n (λ j. f (after (suc j) s)) (drawn f n s) 0 (drawn_length f n s) (drawn_at f 0 n s)

slots_next : (f : ℕ → ℕ) (n s : ℕ) → n < axis_limit → set (padded (drawn f n s)) n (f (round (after n s))) ≡ padded (drawn f (n + 1) s)
unfolding after
slots_next f n s h = rw (drawn_table f n s, drawn_table f (n + 1) s) (padded_next n (λ j. f (round (after j s))) h)

points_next : (f : ℕ → ℕ) (n s : ℕ) → points (drawn f n s) * f (round (after n s)) ≡ points (drawn f (n + 1) s)
points_next f n s = sym (ap points (drawn_next f n s) ∙ points_last (drawn f n s) (f (round (after n s))))

-- d lengths are drawn from state s on: the state, the slots, and the product
pub record Drawing (s d state : ℕ) (lengths : List ℕ) (pts : ℕ) : Type 0 where
  pub state_is : state ≡ after d s
  pub lengths_are : lengths ≡ padded (drawn length_by d s)
  pub points_are : pts ≡ points (drawn length_by d s)
  pub few : pts ≤ 9 ^ d

pub draws_none : (s : ℕ) → Drawing s 0 s (replicate axis_limit 0) 1
unfolding after drawn padded points product
draws_none s = record { state_is = refl; lengths_are = refl; points_are = refl; few = omega arith }

module _ {s d state pts : ℕ} {lengths : List ℕ} (w : Drawing s d state lengths pts) (draw : ℕ) where
  pub product_fits : d < 4 → pts * (1 + draw % 9) < 2 ^ 32
  product_fits h =
      let f = w.few in
      let p = pow-le-pow_right {n = 9} (omega arith) {i = d} {j = 3} (omega arith) in
      let q : pts ≤ 729 = omega arith in
      let r : 1 + draw % 9 ≤ 9 = omega arith in
      let m = mul-le-mul q r in
      omega arith

  pub draws_next : d < axis_limit → draw ≡ round state → Drawing s (d + 1) draw (set lengths d (1 + draw % 9)) (pts * (1 + draw % 9))
  unfolding length_by
  draws_next h e =
      let t : draw ≡ round (after d s) = e ∙ ap round w.state_is in
      let m = mul-le-mul w.few (let r : 1 + draw % 9 ≤ 9 = omega arith in r) in
      let n : 9 ^ (d + 1) ≡ 9 ^ d * 9 = (let q : d + 1 ≡ suc d = omega arith in rw q (omega arith)) in
      record {
        state_is = t ∙ after_next d s;
        lengths_are = rw (w.lengths_are, t) (slots_next length_by d s h);
        points_are = rw (w.points_are, t) (points_next length_by d s);
        few = omega arith;
      }

-- ---- all of it

-- the definitions by the state after the first round
by_state : (seed s d : ℕ) → s ≡ round seed → d ≡ 1 + s % 4
    → (1 + s % 4 ≡ axes_of seed) × (drawn length_by d s ≡ lengths_of seed) × (round (after d s) ≡ power_draw seed)
unfolding axes_of lengths_of power_draw
by_state seed s d e f = rw (f, e) (refl, refl, refl)

power_by : (seed draw most : ℕ) → draw ≡ power_draw seed → most ≡ room (lengths_of seed) → draw % (1 + min 3 most) ≡ power_of seed
unfolding power_of
power_by seed draw most e f = rw (e, f) refl

shape_is : (seed axes : ℕ) (lengths : List ℕ) (p pts state : ℕ) → axes ≡ axes_of seed → lengths ≡ padded (lengths_of seed) → p ≡ power_of seed
    → pts ≡ points (lengths_of seed) → state ≡ power_draw seed
    → ◌≡◌ {A = Shape} (record { axes = axes; lengths = lengths; p = p; points = pts; state = state }) (shape_of seed)
unfolding shape_of
shape_is seed axes lengths p pts state a b c d e = rw (a, b, c, d, e) refl

-- when all lengths are drawn
pub shape_whole : (seed s d state : ℕ) (lengths : List ℕ) (pts most draw p : ℕ) → s ≡ round seed → d ≡ 1 + s % 4 → Drawing s d state lengths pts
    → most ≡ room (take (1 + s % 4) lengths) → draw ≡ round state → p ≡ draw % (1 + min 3 most)
    → ◌≡◌ {A = Shape} (record { axes = 1 + s % 4; lengths = lengths; p = p; points = pts; state = draw }) (shape_of seed)
shape_whole seed s d state lengths pts most draw p es q w em ed ep =
    let e = by_state seed s d es q in
    let l : lengths ≡ padded (lengths_of seed) = w.lengths_are ∙ ap padded e.1 in
    let r : draw ≡ power_draw seed = ed ∙ ap round w.state_is ∙ e.2 in
    let n : length (drawn length_by d s) ≡ 1 + s % 4 = drawn_length length_by d s ∙ q in
    let t : take (1 + s % 4) lengths ≡ lengths_of seed =
    ap (take (1 + s % 4)) w.lengths_are ∙ padded_take (drawn length_by d s) (1 + s % 4) n (omega arith) ∙ e.1 in
    shape_is seed (1 + s % 4) lengths p pts draw e.0 l (ep ∙ power_by seed draw most r (em ∙ ap room t)) (w.points_are ∙ ap points e.1) r
