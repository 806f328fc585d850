-- The cheapest parents, choice by choice, and that axes may be rearranged.
use Prim.Native.Nat.{ℕ, ◌+◌, ◌-◌, ◌*◌, ◌^◌, ◌≤◌, min, max}
use mathlib.Core.Path.{◌≡◌, ◌∙◌, ap, refl}
use mathlib.Core.List.{List, [], ◌∷◌}
use mathlib.Core.Option.{Option, none, some}
use native.Mathlib.Omega.{arith}
use native.Mathlib.Decide.{dec_le}
use native.Mathlib.Nat.{one-mul, mul-le-mul_left, le_trans, le_refl, le_of_eq, add-le-add}
use native.Mathlib.Nat.{min-eq_left, min-eq_right, max-eq_left, max-eq_right}
use native.Mathlib.Nat.{min-le_left, min-le_right}
use lib.Pow.{pow_mono}
use Rattle.cube_spec.proofs.Axes.{Axis, lens, keys, tree}
use Rattle.plan_spec.proofs.Sorted.{settle, sorted, Falls, falls_more}
use Rattle.plan_spec.proofs.Tools.{add_same}

-- the lower of the key so far, if there is one, and another
unfoldable pub lower : Option ℕ → ℕ → Option ℕ
lower none k = some k
lower (some m) k = some (min m k)

pub lower_swap : (m : Option ℕ) (j k : ℕ) → lower (lower m j) k ≡ lower (lower m k) j
unfolding lower
lower_swap none j k = ap {B = Option ℕ} some (omega arith)
lower_swap (some m) j k = ap {B = Option ℕ} some (omega arith)

-- two numbers and two others: the larger times the larger
rearranged : {a b x y : ℕ} → b ≤ a → x ≤ y → a * x + b * y ≤ a * y + b * x
rearranged {a} {b} {x} {y} h l =
    let e : a ≡ b + (a - b) = omega arith in
    let q : (a - b) * x ≤ (a - b) * y = mul-le-mul_left (a - b) l in
    rw e (omega arith)

-- of two axes, the longer length with the larger key, and what is left
longer : Axis → Axis → Axis
longer a b = record { len = max a.len b.len; key = max a.key b.key }

shorter : Axis → Axis → Axis
shorter a b = record { len = min a.len b.len; key = min a.key b.key }

-- insertion, hand over hand: the longer length and the larger key stay, what is left goes on
settle_axis : Axis → List Axis → List Axis
settle_axis a [] = a ∷ []
settle_axis a (b ∷ r) = longer a b ∷ settle_axis (shorter a b) r

-- the lengths, and the keys, each sorted from the largest down
pub arranged : List Axis → List Axis
arranged [] = []
arranged (a ∷ r) = settle_axis a (arranged r)

-- the lengths, and the keys, are sorted each by itself
settle_lens : (a : Axis) (r : List Axis) → lens (settle_axis a r) ≡ settle a.len (lens r)
unfolding lens settle_axis settle longer shorter
settle_lens a [] = refl
settle_lens a (b ∷ r) = ap (λ (x : List ℕ). max a.len b.len ∷ x) (settle_lens (shorter a b) r)

settle_keys : (a : Axis) (r : List Axis) → keys (settle_axis a r) ≡ settle a.key (keys r)
unfolding keys settle_axis settle longer shorter
settle_keys a [] = refl
settle_keys a (b ∷ r) = ap (λ (x : List ℕ). max a.key b.key ∷ x) (settle_keys (shorter a b) r)

pub arranged_lens : (r : List Axis) → lens (arranged r) ≡ sorted (lens r)
unfolding lens arranged sorted
arranged_lens [] = refl
arranged_lens (a ∷ r) = settle_lens a (arranged r) ∙ ap (settle a.len) (arranged_lens r)

pub arranged_keys : (r : List Axis) → keys (arranged r) ≡ sorted (keys r)
unfolding keys arranged sorted
arranged_keys [] = refl
arranged_keys (a ∷ r) = settle_keys a (arranged r) ∙ ap (settle a.key) (arranged_keys r)

-- exponents that fit
unfoldable pub Fits : List Axis → Type 0
Fits [] = Unit {0}
Fits (a ∷ r) = (2 ^ a.key ≤ a.len) × Fits r

longer_fits : (a b : Axis) → 2 ^ a.key ≤ a.len → 2 ^ b.key ≤ b.len → 2 ^ max a.key b.key ≤ max a.len b.len
longer_fits a b f g = go (dec_le b.key a.key)
  where
    go : Dec (b.key ≤ a.key) → 2 ^ max a.key b.key ≤ max a.len b.len
    go (yes h) = rw (max-eq_left h) (omega arith)
    go (no h) = let l : a.key ≤ b.key = omega arith in rw (max-eq_right l) (omega arith)

settle_fits : (a : Axis) (r : List Axis) → 2 ^ a.key ≤ a.len → Fits r → Fits (settle_axis a r)
unfolding Fits settle_axis longer shorter
settle_fits a [] h f = (h, tt)
settle_fits a (b ∷ r) h f =
    let u = pow_mono (min-le_left a.key b.key) in
    let v = pow_mono (min-le_right a.key b.key) in
    (longer_fits a b h f.0, settle_fits (shorter a b) r (omega arith) f.1)

pub arranged_fits : (r : List Axis) → Fits r → Fits (arranged r)
unfolding Fits arranged
arranged_fits [] f = tt
arranged_fits (a ∷ r) f = settle_fits a (arranged r) f.0 (arranged_fits r f.1)

module _ (price : ℕ → ℕ) where
  -- the price of a key, and 0 while no axis is summed
  unfoldable pub rate : Option ℕ → ℕ
  rate none = 0
  rate (some k) = price k

  -- the sum over every set of summed axes of the cells of its choice times the least price of a summed axis
  unfoldable pub cost : Option ℕ → ℕ → List Axis → ℕ
  cost m c [] = c * rate m
  cost m c (a ∷ r) = cost m (c * a.len) r + cost (lower m a.key) c r

  cost_linear : (m : Option ℕ) (c : ℕ) (r : List Axis) → cost m c r ≡ c * cost m 1 r
  unfolding cost
  cost_linear m c [] = simp one-mul
  cost_linear m c (a ∷ r) =
      let p = cost_linear m (c * a.len) r in
      let q = cost_linear m (1 * a.len) r in
      let s = cost_linear (lower m a.key) c r in
      rw (p, q, s) (omega arith)

  two : (m : Option ℕ) (c : ℕ) (a b : Axis) (r : List Axis) → cost m c (a ∷ b ∷ r)
      ≡ c * a.len * b.len * cost m 1 r + c * a.len * cost (lower m b.key) 1 r + (c * b.len * cost (lower m a.key) 1 r + c * cost (lower (lower m a.key) b.key) 1 r)
  unfolding cost
  two m c a b r =
      add_same (add_same (cost_linear _ _ r) (cost_linear _ _ r)) (add_same (cost_linear _ _ r) (cost_linear _ _ r))

  -- two neighbours may change places
  pub cost_swap : (m : Option ℕ) (c : ℕ) (a b : Axis) (r : List Axis) → cost m c (a ∷ b ∷ r) ≡ cost m c (b ∷ a ∷ r)
  cost_swap m c a b r =
      let p = rw lower_swap at (two m c a b r) in
      let q = two m c b a r in
      omega arith

  -- what holds of the rest of the axes holds below one more
  cost_under : (r s : List Axis) (a : Axis) → ((m : Option ℕ) (c : ℕ) → cost m c r ≤ cost m c s) → (m : Option ℕ) (c : ℕ) → cost m c (a ∷ r) ≤ cost m c (a ∷ s)
  unfolding cost
  cost_under r s a h m c = add-le-add (h m (c * a.len)) (h (lower m a.key) c)

  module _ (up : (j k : ℕ) → j ≤ k → price j ≤ price k) where
    cost_rises : {j k : ℕ} (c : ℕ) (r : List Axis) → j ≤ k → cost (some j) c r ≤ cost (some k) c r
    unfolding cost rate lower
    cost_rises {j = j} {k = k} c [] h = mul-le-mul_left c (up _ _ h)
    cost_rises {j = j} {k = k} c (a ∷ r) h =
        add-le-add (cost_rises {j = j} {k = k} (c * a.len) r h) (cost_rises {j = min j a.key} {k = min k a.key} c r (omega arith))

    lower_rises : (m : Option ℕ) {j k : ℕ} (c : ℕ) (r : List Axis) → j ≤ k → cost (lower m j) c r ≤ cost (lower m k) c r
    unfolding lower
    lower_rises none c r h = cost_rises c r h
    lower_rises (some m) c r h = cost_rises c r (omega arith)

    -- the longer axis takes the larger key
    exchange : (m : Option ℕ) (c : ℕ) {d e j k : ℕ} (r : List Axis) → e ≤ d → j ≤ k
        → cost m c (record { len = d; key = k } ∷ record { len = e; key = j } ∷ r) ≤ cost m c (record { len = d; key = j } ∷ record { len = e; key = k } ∷ r)
    exchange m c {d} {e} {j} {k} r h l =
        let p = rw lower_swap at (two m c (record { len = d; key = k }) (record { len = e; key = j }) r) in
        let q = two m c (record { len = d; key = j }) (record { len = e; key = k }) r in
        let s = mul-le-mul_left c (rearranged h (lower_rises m 1 r l)) in
        omega arith

    -- one step of the insertion below does not cost more
    first_two : (m : Option ℕ) (c : ℕ) (a b : Axis) (r : List Axis) → cost m c (longer a b ∷ shorter a b ∷ r) ≤ cost m c (a ∷ b ∷ r)
    unfolding longer shorter
    first_two m c a b r = go (dec_le b.len a.len) (dec_le b.key a.key)
      where
        go : Dec (b.len ≤ a.len) → Dec (b.key ≤ a.key) → cost m c (longer a b ∷ shorter a b ∷ r) ≤ cost m c (a ∷ b ∷ r)
        go (yes h) (yes l) = rw (max-eq_left h, max-eq_left l, min-eq_right h, min-eq_right l) (le_refl _)
        go (yes h) (no l) = let u : a.key ≤ b.key = omega arith in rw (max-eq_left h, max-eq_right u, min-eq_right h, min-eq_left u) (exchange m c r h u)
        go (no h) (yes l) =
            let v : a.len ≤ b.len = omega arith in
            rw (max-eq_right v, max-eq_left l, min-eq_left v, min-eq_right l) (rw (cost_swap m c a b r) (exchange m c r v l))
        go (no h) (no l) =
            let v : a.len ≤ b.len = omega arith in
            let u : a.key ≤ b.key = omega arith in
            rw (max-eq_right v, max-eq_right u, min-eq_left v, min-eq_left u) (le_of_eq (cost_swap m c b a r))

    settle_cost : (a : Axis) (r : List Axis) (m : Option ℕ) (c : ℕ) → cost m c (settle_axis a r) ≤ cost m c (a ∷ r)
    unfolding settle_axis
    settle_cost a [] m c = le_refl _
    settle_cost a (b ∷ r) m c = le_trans (cost_under _ _ (longer a b) (settle_cost (shorter a b) r) m c) (first_two m c a b r)

    pub arranged_cost : (r : List Axis) (m : Option ℕ) (c : ℕ) → cost m c (arranged r) ≤ cost m c r
    unfolding arranged
    arranged_cost [] m c = le_refl _
    arranged_cost (a ∷ r) m c = le_trans (settle_cost a (arranged r) m c) (cost_under _ _ a (arranged_cost r) m c)

  -- Where keys fall along the order, the least key of a set is its last axis's: the tree has the cheapest parents.
  falling_some : (k c : ℕ) (r : List Axis) → Falls k (keys r) → cost (some k) c r ≡ tree price k c r
  unfolding cost rate lower tree keys Falls
  falling_some k c [] f = refl
  falling_some k c (a ∷ r) f =
      rw (min-eq_right f.0)
      (add_same (falling_some k (c * a.len) r (falls_more (keys r) f.0 f.1)) (falling_some a.key c r f.1))

  pub falling_tree : (k c : ℕ) (r : List Axis) → price 0 ≡ 0 → Falls k (keys r) → cost none c r ≡ tree price 0 c r
  unfolding cost rate lower tree keys Falls
  falling_tree k c [] z f = rw z
  falling_tree k c (a ∷ r) z f =
      add_same (falling_tree a.key (c * a.len) r z f.1) (falling_some a.key c r f.1)
