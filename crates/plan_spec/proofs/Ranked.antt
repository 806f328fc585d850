-- Along the planner's order weights rise and exponents never rise.
use Prim.Native.Nat.{ℕ, zero, suc, ◌+◌, ◌-◌, ◌*◌, ◌^◌, ◌≤◌, ◌<◌}
use mathlib.Core.Path.{◌≡◌, ap}
use mathlib.Core.List.{List, [], ◌∷◌}
use mathlib.Core.Option.{some}
use native.Mathlib.Omega.{arith}
use native.Mathlib.Decide.{dec_le}
use native.Mathlib.Nat.{zero-add, le_trans, le_refl, mul-le-mul, mul-le-mul_left, mul-le-mul_right}
use lib.ListN.{length, get_or}
use lib.Pow.{pow_mono}
use Rattle.cube_spec.specs.Boxes.{table_from, product}
use Rattle.cube_spec.specs.Choices.{length_of}
use Rattle.cube_spec.specs.Tree.{weight}
use Rattle.cube_spec.proofs.Axes.{keys}
use Rattle.cube_spec.proofs.Products.{product_pos, product_last, product_next}
use Rattle.plan_spec.specs.Rule.{Entry, entries, price, raised, raise_at, greedy, ordered_length, ordered_exponents}
use Rattle.plan_spec.proofs.Sorted.{Falls}
use Rattle.plan_spec.proofs.Greedy.{axes, axes_keys, May, Above, raise_cases, greedy_keeps, least_above}
use Rattle.plan_spec.proofs.Places.{falls_at, lengths_fall, lengths_some}

-- ---- weights

module _ (n : ℕ) (len : ℕ → ℕ) (i : ℕ) (h : suc i < n) (down : len (suc i) ≤ len i) where
  -- what the weights of neighbours share
  front : ℕ
  front = product (λ j. len j + 1) i 0

  behind : ℕ
  behind = product len (n - suc (suc i)) (suc (suc i))

  weight_here : weight n len i ≡ front * (len (suc i) * behind)
  unfolding weight front behind
  weight_here =
      let e : suc i + 1 ≡ suc (suc i) = omega arith in
      ap (λ x. product (λ j. len j + 1) i 0 * x) (rw e at (product_next len n (suc i) h))

  weight_next : weight n len (suc i) ≡ front * (len i + 1) * behind
  unfolding weight front behind
  weight_next =
      let e : i + 1 ≡ suc i = omega arith in
      ap (λ x. x * product len (n - suc (suc i)) (suc (suc i))) (rw (e, zero-add) at (product_last (λ j. len j + 1) i 0))

  -- of the longer axis and the next, the next has no less weight
  weight_le : weight n len i ≤ weight n len (suc i)
  weight_le =
      let m = mul-le-mul_left front (mul-le-mul_right behind down) in
      rw (weight_here, weight_next) (omega arith)

  -- and has more, where no length is 0
  weight_lt : ((j : ℕ) → j < n → 1 ≤ len j) → weight n len i < weight n len (suc i)
  unfolding front behind
  weight_lt pos =
      let m = mul-le-mul_left front (mul-le-mul_right behind down) in
      let f : 1 ≤ front = product_pos (λ j. len j + 1) i 0 (λ j l r. omega arith) in
      let b : 1 ≤ behind = product_pos len (n - suc (suc i)) (suc (suc i)) (λ j l r. pos j (omega arith)) in
      let o = mul-le-mul {n₁ = 1} {m₁ = 1} f b in
      rw (weight_here, weight_next) (omega arith)

-- THE WEIGHTS RISE
pub weights_rise : (ds : List ℕ) → ((d : ℕ) → d < length ds → 1 ≤ length_of ds d) → (i : ℕ) → suc i < length ds
    → weight (length ds) (ordered_length ds) i < weight (length ds) (ordered_length ds) (suc i)
weights_rise ds pos i h = weight_lt (length ds) (ordered_length ds) i h (lengths_fall ds i h) (lengths_some ds pos)

-- ---- exponents

-- `b` stands next after `a`
record Next (a b : Entry) : Type 0 where
  lens : b.len ≤ a.len
  weights : a.weight ≤ b.weight
  exps : b.exp ≤ a.exp

After : Entry → List Entry → Type 0
After a [] = Unit {0}
After a (b ∷ r) = Next a b × After b r

Ranked : List Entry → Type 0
Ranked [] = Unit {0}
Ranked (a ∷ r) = After a r

-- if `b` is raised at the least price, and `a` before it is not, `a` has the larger exponent: else `a` would cost no more
raised_below : {t : ℕ} (a b : Entry) → Next a b → (May a → t ≤ price a) → (May a → price a ≡ t → ⊥) → May b → price b ≡ t → suc b.exp ≤ a.exp
unfolding price
raised_below {t} a b n above skip m q = go (dec_le a.exp b.exp)
  where
    go : Dec (a.exp ≤ b.exp) → suc b.exp ≤ a.exp
    go (no h) = omega arith
    go (yes h) =
        let u : 2 ^ suc a.exp ≤ 2 ^ suc b.exp = pow_mono (omega arith) in
        let may : May a = le_trans u (le_trans m n.lens) in
        let v = mul-le-mul n.weights (pow_mono h) in
        absurd (skip may (let w = above may in omega arith))

after_raised : (a : Entry) (r : List Entry) → After a r → After (raised a) r
unfolding After
after_raised a [] h = tt
after_raised a (b ∷ r) h = let n = h.0 in (record { lens = n.lens; weights = n.weights; exps = omega arith }, h.1)

after_raise : (t : ℕ) (a : Entry) (r : List Entry) → (May a → t ≤ price a) → (May a → price a ≡ t → ⊥) → Above (some t) r → After a r → After a (raise_at t r)
unfolding After Above raise_at
after_raise t a [] above skip l h = tt
after_raise t a (b ∷ r) above skip l h =
    let n = h.0 in
    raise_cases (After a) t b r
    (λ m q. (record { lens = n.lens; weights = n.weights; exps = raised_below a b n above skip m q }, after_raised b r h.1))
    (λ s. (n, after_raise t b r l.0 s l.1 h.1))

ranked_raise : (t : ℕ) (l : List Entry) → Above (some t) l → Ranked l → Ranked (raise_at t l)
unfolding Ranked Above raise_at
ranked_raise t [] l h = tt
ranked_raise t (a ∷ r) l h = raise_cases Ranked t a r (λ m q. after_raised a r h) (λ s. after_raise t a r l.0 s l.1 h)

after_table : (m i : ℕ) (f : ℕ → Entry) → ((j : ℕ) → i ≤ j → j < i + m → Next (f j) (f (suc j))) → After (f i) (table_from m (i + 1) f)
unfolding After table_from
after_table zero i f h = tt
after_table (suc m) i f h =
    let e : i + 1 ≡ suc i = omega arith in
    rw e (h i (omega arith) (omega arith), after_table m (suc i) f (λ j l r. h j (omega arith) (omega arith)))

ranked_table : (n : ℕ) (f : ℕ → Entry) → ((j : ℕ) → suc j < n → Next (f j) (f (suc j))) → Ranked (table_from n 0 f)
unfolding Ranked table_from
ranked_table zero f h = tt
ranked_table (suc n) f h = after_table n 0 f (λ j l r. h j (omega arith))

ranked_entries : (ds : List ℕ) → Ranked (entries ds)
unfolding entries
ranked_entries ds =
    ranked_table (length ds) _ (λ j h. record { lens = lengths_fall ds j h; weights = weight_le (length ds) (ordered_length ds) j h (lengths_fall ds j h); exps = le_refl 0 })

-- along the planner's order lengths never rise, weights never fall and exponents never rise
plan_ranked : (ds : List ℕ) (p : ℕ) → Ranked (greedy p (entries ds))
plan_ranked ds p = greedy_keeps Ranked (λ t l q. ranked_raise t l (rw q at (least_above l))) p _ (ranked_entries ds)

after_falls : (a : Entry) (r : List Entry) → After a r → Falls a.exp (keys (axes r))
unfolding After Falls keys axes
after_falls a [] h = tt
after_falls a (b ∷ r) h = (h.0.exps, after_falls b r h.1)

ranked_falls : (l : List Entry) → Ranked l → (b : ℕ) × Falls b (keys (axes l))
unfolding Ranked Falls keys axes
ranked_falls [] h = (0, tt)
ranked_falls (a ∷ r) h = (a.exp, (le_refl _, after_falls a r h))

pub exponents_fall : (ds : List ℕ) (p : ℕ) → (b : ℕ) × Falls b (keys (axes (greedy p (entries ds))))
exponents_fall ds p = ranked_falls _ (plan_ranked ds p)

-- THE EXPONENTS NEVER RISE
pub exponents_never_rise : (ds : List ℕ) (p i : ℕ) → get_or (ordered_exponents ds p) (suc i) 0 ≤ get_or (ordered_exponents ds p) i 0
unfolding ordered_exponents
exponents_never_rise ds p i =
    let (b, f) = exponents_fall ds p in
    rw (← axes_keys) (falls_at b (keys (axes (greedy p (entries ds)))) f i)
