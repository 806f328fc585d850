-- The counts of an accepted plan: in steps from axis to axis, and small.
use Prim.Native.Nat.{ℕ, zero, suc, ◌+◌, ◌-◌, ◌*◌, ◌%◌, ◌^◌, ◌≤◌, ◌<◌}
use mathlib.Core.Path.{◌≡◌, sym, ◌∙◌, refl, ap, ap₂}
use mathlib.Core.List.{[]}
use native.Mathlib.Nat.{zero-add, sub-zero, two-pow-succ, mul-le-mul}
use native.Mathlib.Omega.{arith}
use native.Mathlib.Decide.{dec_le}
use lib.ListN.{length, get_or}
use lib.Pow.{pow_pos, pow_mono}
use lib.Seq.{get_or-take}
use Rattle.cube_spec.specs.Limits.{power_limit}
use Rattle.cube_spec.specs.Boxes.{product}
use Rattle.cube_spec.proofs.Products.{factor_le, product_append, product_pos, product_next, product_none}
use Rattle.plan_spec.specs.Plans.{lists_of, board_count, step_count}
use Rattle.plan_spec.specs.declared.types.Plan.{Plan}
use Rattle.plan_spec.specs.Accepted.{Accepted}
use Rattle.plan_spec.proofs.PricingLaws.{along, few_axes, order_fits, shifted}
use Rattle.rack_spec.specs.Grids.{Grid, Lawful, grid_of, boards}
use Rattle.rack_spec.specs.Steps.{steps, walk}
use Rattle.rack_spec.specs.Counts.{span, labellings, sendings, marks, walk_count}
use Rattle.rack_spec.proofs.Lawful.{grid_lawful}
use Rattle.rack_spec.proofs.Counting.{board_count_lem, steps_length}
use Rattle.rack_spec.proofs.Tallies.{walk_count_lem}

-- ---- from axis to axis

module _ (g : Grid) (n d : ℕ) where
  pub span_end : n ≤ d → span g (n - d) d ≡ 1
  unfolding span
  span_end h = product_none g.parts n d h

  pub span_next : d < n → span g (n - d) d ≡ g.parts d * span g (n - (d + 1)) (d + 1)
  unfolding span
  span_next h = product_next g.parts n d h

  pub sendings_end : n ≤ d → sendings g (n - d) d ≡ 0
  unfolding sendings
  sendings_end h = let e : n - d ≡ 0 = omega arith in rw e

  pub sendings_next : d < n → sendings g (n - d) d ≡ sendings g (n - (d + 1)) (d + 1) * (g.parts d + 1) + span g (n - (d + 1)) (d + 1) * (g.parts d - 1)
  unfolding sendings
  sendings_next h = let e : n - d ≡ suc (n - (d + 1)) = omega arith in rw e

pub marks_some : (m : ℕ) → (m ≡ 0 → ⊥) → marks m ≡ 2 ^ m - 1 + (2 ^ (m - 1) - 1)
unfolding marks
marks_some zero h = absurd (h refl)
marks_some (suc m) h = let e : suc m - 1 ≡ m = omega arith in rw e

-- ---- bounds

-- the transfers are fewer than the boards times the choices
one_more_fits : (S P P' K E T : ℕ) → P ≡ P' + 1 → T ≡ E + E + 1 → S ≤ K * E → S * (P + 1) + K * P' ≤ P * K * T
one_more_fits S P P' K E T p t h = let q = mul-le-mul {n₁ = S} {m₁ = P' + 2} {n₂ = K * E} {m₂ = P' + 2} h (omega arith) in rw (p, t) (omega arith)

module _ (g : Grid) (ok : Lawful g) where
  pub sendings_fit : (m d : ℕ) → d + m ≡ g.axes → sendings g m d ≤ span g m d * (2 ^ m - 1)
  unfolding sendings span product
  sendings_fit zero d e = omega arith
  sendings_fit (suc m) d e =
      let t = two-pow-succ m in
      let u = pow_pos m in
      let v = ok.some d (omega arith) in
      one_more_fits (sendings g m (d + 1)) (g.parts d) (g.parts d - 1) (span g m (d + 1)) (2 ^ m - 1) (2 ^ suc m - 1) (omega arith) (omega arith) (sendings_fit m (d + 1) (omega arith))

  pub span_fits : (m d : ℕ) → d + m ≡ g.axes → span g m d ≤ boards g
  unfolding span boards
  span_fits m d e =
      let a = product_append g.parts d m 0 in
      let b = product_pos g.parts d 0 (λ i l r. ok.some i (omega arith)) in
      let c = mul-le-mul {n₁ = 1} {m₁ = product g.parts m d} {n₂ = product g.parts d 0} {m₂ = product g.parts m d} b (omega arith) in
      rw (sym e, a, zero-add d) (omega arith)

steps_walk : (g : Grid) → length (steps g) ≡ suc (length (walk g g.axes 0 []))
unfolding steps
steps_walk g = refl

pub labellings_none : (g : Grid) → labellings g 0 [] ≡ 1
unfolding labellings product
labellings_none g = refl

all_count : (g : Grid) (n : ℕ) → g.axes ≡ n → walk_count g g.axes 0 (labellings g 0 []) ≡ walk_count g n 0 1
all_count g n e = ap₂ (λ m x. walk_count g m 0 x) e (labellings_none g)

-- counts that are no more than boards times choices times labellings
pub count_fits : (s n m : ℕ) → s ≤ 262144 → n ≤ 1024 → m ≤ 512 → s * n + m < 4294967296
count_fits s n m a b c = let p = mul-le-mul {n₁ = s} {m₁ = n} {n₂ = 262144} {m₂ = 1024} a b in omega arith

pub sent_fits : (n k r : ℕ) → n ≤ 1024 → k ≤ 1024 → r ≤ 1024 → n * k * r < 4294967296
sent_fits n k r a b c =
    let p = mul-le-mul {n₁ = n} {m₁ = k} {n₂ = 1024} {m₂ = 1024} a b in
    let s = mul-le-mul {n₁ = n * k} {m₁ = r} {n₂ = 1048576} {m₂ = 1024} p c in
    omega arith

-- ---- an accepted plan

module _ (q : Plan) (ok : Accepted q) where
  pub lawful : Lawful (grid_of (lists_of q))
  lawful = grid_lawful (lists_of q) ok.sound

  pub axes_same : (grid_of (lists_of q)).axes ≡ q.axes
  axes_same = unfold grid_of in ok.axes

  -- the axis at place d is one of the eight slots
  pub axis_fits : (d : ℕ) → d < q.axes → get_or q.order d 0 < 8
  unfolding lists_of
  axis_fits d h =
      let n = ok.sound.places ∙ ok.axes in
      let b = (order_fits q ok).1 d (omega arith) in
      let e = get_or-take q.axes q.order d 0 h in
      omega arith

  pub parts_slot : (d : ℕ) → d < q.axes → 2 ^ get_or q.exponents (get_or q.order d 0) 0 ≡ (grid_of (lists_of q)).parts d
  unfolding grid_of lists_of
  parts_slot d h = ap (λ k. 2 ^ k) (along q ok q.exponents d h)

  pub boards_few : boards (grid_of (lists_of q)) ≤ 1024
  boards_few = rw (board_count_lem (lists_of q) ok.sound) (unfold board_count lists_of in pow_mono {j = 10} ok.boards)

  pub parts_small : (d : ℕ) → d < q.axes → (1 ≤ (grid_of (lists_of q)).parts d) × ((grid_of (lists_of q)).parts d ≤ 1024)
  unfolding boards
  parts_small d h =
      let g = grid_of (lists_of q) in
      let a = axes_same in
      let b = boards_few in
      let f = factor_le (grid_of (lists_of q)).parts (grid_of (lists_of q)).axes 0 d (λ i l r. lawful.some i (omega arith)) (omega arith) (omega arith) in
      (lawful.some d (omega arith), omega arith)

  pub exponent_small : (d : ℕ) → d < q.axes → get_or q.exponents (get_or q.order d 0) 0 ≤ power_limit
  exponent_small d h = go (dec_le 11 (get_or q.exponents (get_or q.order d 0) 0))
    where
      go : Dec (11 ≤ get_or q.exponents (get_or q.order d 0) 0) → get_or q.exponents (get_or q.order d 0) 0 ≤ power_limit
      go (yes r) =
          let m : 2 ^ 11 ≤ 2 ^ get_or q.exponents (get_or q.order d 0) 0 = pow_mono {j = get_or q.exponents (get_or q.order d 0) 0} r in
          let e = parts_slot d h in
          let s = parts_small d h in
          absurd (omega arith)
      go (no r) = omega (arith, r)

  -- the number of portions, as a machine shifts it
  pub parts_shifted : (d : ℕ) → d < q.axes → (1 * 2 ^ get_or q.exponents (get_or q.order d 0) 0) % 18446744073709551616 ≡ (grid_of (lists_of q)).parts d
  parts_shifted d h = shifted _ (exponent_small d h) ∙ parts_slot d h

  pub span_small : (d : ℕ) → d ≤ q.axes → span (grid_of (lists_of q)) (q.axes - d) d ≤ 1024
  span_small d h = let a = axes_same in let b = boards_few in let c = span_fits (grid_of (lists_of q)) lawful (q.axes - d) d (omega arith) in omega arith

  pub sendings_small : (d : ℕ) → d ≤ q.axes → sendings (grid_of (lists_of q)) (q.axes - d) d ≤ 262144
  sendings_small d h =
      let a = axes_same in
      let f = few_axes ok in
      let s = span_small d h in
      let u : q.axes - d ≤ 8 = omega arith in
      let t : 2 ^ (q.axes - d) ≤ 2 ^ 8 = pow_mono {j = 8} u in
      let c = sendings_fit (grid_of (lists_of q)) lawful (q.axes - d) d (omega arith) in
      let m = mul-le-mul {n₁ = span (grid_of (lists_of q)) (q.axes - d) d} {m₁ = 2 ^ (q.axes - d) - 1} {n₂ = 1024} {m₂ = 256} s (omega arith) in
      omega arith

  -- T
  pub steps_same : step_count (lists_of q) ≡ walk_count (grid_of (lists_of q)) (q.axes - 0) 0 1 + 1
  steps_same =
      let l = steps_length (lists_of q) ok.sound ok.lengths.axes in
      let s = steps_walk (grid_of (lists_of q)) in
      let w = walk_count_lem (grid_of (lists_of q)) lawful (grid_of (lists_of q)).axes 0 [] (zero-add _) tt in
      let c = all_count (grid_of (lists_of q)) q.axes axes_same in
      rw sub-zero (omega arith)
