-- The list of steps is as long as the count says, and a sound plan has 2^p boards.
use Prim.Native.Nat.{ℕ, zero, suc, ◌+◌, ◌-◌, ◌*◌, ◌^◌, ◌<◌}
use mathlib.Core.Path.{◌≡◌, sym, ◌∙◌, refl, ap}
use mathlib.Core.Bool.{Bool, true, false}
use mathlib.Core.List.{List, [], ◌∷◌}
use native.Mathlib.Nat.{zero-add, mul-zero, mul-one, two-pow-succ}
use native.Mathlib.Omega.{arith}
use borrow.Author.Tests.{eq-eqb, ne_eqb}
use lib.Dec.{eqb}
use lib.ListN.{length, length-append}
use lib.Pow.{pow_pos}
use Rattle.cube_spec.specs.Boxes.{pick, product, sum_n}
use Rattle.cube_spec.specs.Tree as Tree
use Rattle.cube_spec.specs.Tree.{sent, sum_over, has, kept, last_of, over_sets_from}
use Rattle.rack_spec.specs.Grids.{grid_of, Grid, Lawful, boards, label, lead}
use Rattle.rack_spec.specs.Steps.{TreeStep, each, finish, steps, sends, transfers, around, walk}
use Rattle.cube_spec.proofs.Sums.{by}
use Rattle.cube_spec.proofs.Boxing.{product_cong}
use Rattle.cube_spec.proofs.Products.{product_zero, product_sum, product_ones}
use Rattle.cube_spec.proofs.Naturals.{sum_n_cong, sum_n_times, sum_n_same, sum_n_first_only}
use Rattle.cube_spec.proofs.Sets.{Down, down_up, down_lt, over_cong}
use Rattle.cube_spec.proofs.Powers.{product_powers, kept_power}
use Rattle.plan_spec.specs.Plans.{PlanLists, Sound, exponent_at, board_count, step_count}
use Rattle.plan_spec.proofs.Orders.{exponents_sum}
use Rattle.rack_spec.proofs.Lawful.{grid_lawful}
use Rattle.rack_spec.proofs.Moving as Moving

each_length : (n : ℕ) (f : ℕ → List TreeStep) → length (each n f) ≡ sum_n n (λ b. length (f b))
unfolding each sum_n
each_length zero f = refl
each_length (suc n) f = length-append (each n f) (f n) ∙ ap (λ s. s + length (f n)) (each_length n f)

module _ (g : Grid) (ok : Lawful g) where
  -- a board counts for a choice if it is a lead: a product over the axes
  lead_ones : List ℕ → ℕ → ℕ → ℕ
  lead_ones Z i l = pick (has Z i) (pick (eqb l 0) 1 0) 1

  lead_product : (Z : List ℕ) (b : ℕ) → Down Z g.axes → pick {A = ℕ} (lead g Z b) 1 0 ≡ product (λ i. lead_ones Z i (label g b i)) g.axes 0
  unfolding lead_ones
  lead_product Z b h =
      by (lead g Z b)
      (λ t. rw t (sym (product_ones _ g.axes 0 (λ i l r. factor i t))))
      (λ t.
      let w = Moving.lead_none g ok Z b t in
      let u = down_lt Z g.axes w.0 h w.1 in
      rw t (sym (product_zero _ g.axes 0 w.0 (omega arith) (omega arith) (rw (w.1, ne_eqb (label g b w.0) 0 w.2)))))
    where
      factor : (i : ℕ) → lead g Z b ≡ true → pick {A = ℕ} (has Z i) (pick (eqb (label g b i) 0) 1 0) 1 ≡ 1
      factor i t = by (has Z i) (λ s. rw (s, eq-eqb (label g b i) 0 (Moving.lead_each g ok Z b i t s))) (λ s. rw s)

  ones_sum : (Z : List ℕ) (i : ℕ) → i < g.axes → sum_n (g.parts i) (lead_ones Z i) ≡ kept Z g.parts i
  unfolding lead_ones kept
  ones_sum Z i r =
      by (has Z i)
      (λ t. rw t (sum_n_cong (g.parts i) (λ l _. ap (λ s. pick s (pick (eqb l 0) 1 0) 1) t) ∙ sum_n_first_only (g.parts i) (ok.some i r)))
      (λ t. rw t (sum_n_cong (g.parts i) (λ l _. ap (λ s. pick s (pick (eqb l 0) 1 0) 1) t) ∙ sum_n_same 1 (g.parts i) ∙ mul-one (g.parts i)))

  -- how many leads a choice has
  pub leads_count : (Z : List ℕ) → Down Z g.axes → sum_n (boards g) (λ b. pick (lead g Z b) 1 0) ≡ product (kept Z g.parts) g.axes 0
  unfolding boards label
  leads_count Z h =
      sum_n_cong (product g.parts g.axes 0) (λ b _. lead_product Z b h) ∙ product_sum g.parts (lead_ones Z) g.axes 0 ∙ product_cong g.axes 0 (λ i l r. ones_sum Z i (omega arith))

  transfers_length : (Y : List ℕ) (j : ℕ) → Down (j ∷ Y) g.axes → length (transfers g (j ∷ Y) (boards g)) ≡ (g.parts j - 1) * product (kept (j ∷ Y) g.parts) g.axes 0
  unfolding transfers sends
  transfers_length Y j h =
      each_length (boards g) _ ∙ sum_n_cong (boards g) (λ b _. one b (lead g (j ∷ Y) b)) ∙ sum_n_times (g.parts j - 1) (boards g) (λ b. pick (lead g (j ∷ Y) b) 1 0) ∙ ap (λ s. (g.parts j - 1) * s) (leads_count (j ∷ Y) h)
    where
      one : (b : ℕ) (t : Bool) → length (pick t (sends g (j ∷ Y) b (g.parts j - 1)) []) ≡ (g.parts j - 1) * pick t 1 0
      one b true = each_length (g.parts j - 1) _ ∙ sum_n_same 1 (g.parts j - 1)
      one b false = sym (mul-zero (g.parts j - 1))

  unfoldable pub Taken : List ℕ → ℕ
  Taken Z = (g.parts (last_of Z) - 1) * product (kept Z g.parts) g.axes 0

  visit_length : (Y : List ℕ) (m : ℕ) (inner : List TreeStep) → length (around Y (suc m) inner) ≡ suc (suc (length inner))
  visit_length Y m inner = ap suc (length-append inner (finish Y ∷ []) ∙ (let z : length inner + 1 ≡ suc (length inner) = omega arith in z))

  pub walk_parts : (m d : ℕ) (Y : List ℕ) → length (walk g (suc m) d Y) ≡ length (walk g m (d + 1) Y) + (length (transfers g (d ∷ Y) (boards g)) + length (around (d ∷ Y) m (walk g m (d + 1) (d ∷ Y))))
  unfolding walk
  walk_parts m d Y = length-append (walk g m (d + 1) Y) _ ∙ ap (λ n. length (walk g m (d + 1) Y) + n) (length-append (transfers g (d ∷ Y) (boards g)) _)

  pub sum_parts : (m d : ℕ) (Y : List ℕ) → over_sets_from Taken (suc m) d Y ≡ over_sets_from Taken m (d + 1) Y + (Taken (d ∷ Y) + over_sets_from Taken m (d + 1) (d ∷ Y))
  unfolding over_sets_from
  sum_parts m d Y = refl

  pub taken_length : (m d : ℕ) (Y : List ℕ) → d + suc m ≡ g.axes → Down Y d → length (transfers g (d ∷ Y) (boards g)) ≡ Taken (d ∷ Y)
  unfolding Taken
  taken_length m d Y e h = transfers_length Y d (omega arith, h)

  -- with no child more there is a finish alone
  pub last_walk : (d : ℕ) (Y : List ℕ) → (length (walk g 0 d Y) ≡ 0) × (length (around Y 0 (walk g 0 d Y)) ≡ 1) × (over_sets_from Taken 0 d Y ≡ 0)
  unfolding walk over_sets_from
  last_walk d Y = (refl, refl, refl)

  pub walk_length : (m d : ℕ) (Y : List ℕ) → d + suc m ≡ g.axes → Down Y d → length (walk g (suc m) d Y) + 2 ≡ over_sets_from Taken (suc m) d Y + (2 ^ suc m + 2 ^ m)
  walk_length zero d Y e h =
      let t = taken_length 0 d Y e h in
      let r = walk_parts 0 d Y in
      let s = sum_parts 0 d Y in
      let p = last_walk (d + 1) Y in
      let q = last_walk (d + 1) (d ∷ Y) in
      omega arith
  walk_length (suc m) d Y e h =
      let p = walk_length m (d + 1) Y (omega arith) (down_up Y d (d + 1) (omega arith) h) in
      let q = walk_length m (d + 1) (d ∷ Y) (omega arith) (omega arith, h) in
      let t = taken_length (suc m) d Y e h in
      let v = visit_length (d ∷ Y) m (walk g (suc m) (d + 1) (d ∷ Y)) in
      let r = walk_parts (suc m) d Y in
      let s = sum_parts (suc m) d Y in
      let x = two-pow-succ (suc m) in
      let y = two-pow-succ m in
      omega arith

  pub steps_count : 0 < g.axes → length (steps g) ≡ 2 ^ (g.axes - 1) + (2 ^ g.axes - 1) + over_sets_from (λ Z. (g.parts (last_of Z) - 1) * product (kept Z g.parts) g.axes 0) g.axes 0 []
  unfolding steps Taken
  steps_count some = go (g.axes - 1) (omega arith) (omega arith)
    where
      go : (m : ℕ) → suc m ≡ g.axes → m ≡ g.axes - 1 → suc (length (walk g g.axes 0 [])) ≡ 2 ^ (g.axes - 1) + (2 ^ g.axes - 1) + over_sets_from (λ Z. (g.parts (last_of Z) - 1) * product (kept Z g.parts) g.axes 0) g.axes 0 []
      go m e z =
          let p : length (walk g (suc m) 0 []) + 2 ≡ over_sets_from (λ Z. (g.parts (last_of Z) - 1) * product (kept Z g.parts) g.axes 0) (suc m) 0 [] + (2 ^ suc m + 2 ^ m) = walk_length m 0 [] (zero-add (suc m) ∙ e) tt in
          let q : length (walk g g.axes 0 []) + 2 ≡ over_sets_from (λ Z. (g.parts (last_of Z) - 1) * product (kept Z g.parts) g.axes 0) g.axes 0 [] + (2 ^ g.axes + 2 ^ (g.axes - 1)) = (rw (e, z) at p) in
          let r = pow_pos g.axes in
          omega arith

-- THE BOARDS. There are 2^p.
pub board_count_lem : (a : PlanLists) → Sound a → boards (grid_of a) ≡ board_count a
unfolding boards grid_of board_count
board_count_lem a ok = product_powers (exponent_at a) (length a.lengths) ∙ ap (λ k. 2 ^ k) (exponents_sum a ok)

-- THE COUNT. T is the length of the list.
pub steps_length : (a : PlanLists) → Sound a → 0 < length a.lengths → length (steps (grid_of a)) ≡ step_count a
steps_length a ok some = steps_count (grid_of a) (grid_lawful a ok) (unfold grid_of in some) ∙ same
  where
    leads : (Z : List ℕ) → Down Z (length a.lengths) → product (kept Z (λ d. 2 ^ exponent_at a d)) (length a.lengths) 0 ≡ 2 ^ (a.p - sum_over Z (exponent_at a))
    leads Z h = kept_power (exponent_at a) (length a.lengths) Z h ∙ ap (λ k. 2 ^ (k - sum_over Z (exponent_at a))) (exponents_sum a ok)

    same : 2 ^ ((grid_of a).axes - 1) + (2 ^ (grid_of a).axes - 1) + over_sets_from (λ Z. ((grid_of a).parts (last_of Z) - 1) * product (kept Z (grid_of a).parts) (grid_of a).axes 0) (grid_of a).axes 0 [] ≡ step_count a
    same = unfold grid_of step_count Tree.step_count sent in ap (λ s. 2 ^ (length a.lengths - 1) + (2 ^ length a.lengths - 1) + s) (over_cong _ _ (length a.lengths) 0 (length a.lengths) [] (zero-add _) tt (λ Z h. ap (λ x. (2 ^ exponent_at a (last_of Z) - 1) * x) (leads Z h)))
