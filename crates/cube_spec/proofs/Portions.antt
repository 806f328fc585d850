-- The laws of the portion rule.
use Prim.Native.Nat.{ℕ, zero, suc, ◌+◌, ◌-◌, ◌*◌, ◌/◌, ◌%◌, ◌≤◌, ◌<◌, min}
use mathlib.Core.Path.{◌≡◌, sym, ◌∙◌, refl, ap}
use native.Mathlib.Nat.{zero-mul, suc-mul, one-mul, mul_comm, add-mul, eq_of_mul-eq-mul_right, div-add-mod', div-eq_of_lt-le, mod-lt, le-div_iff_mul-le}
use native.Mathlib.Omega.{arith}
use borrow.Author.Tests.{ltb-true, ltb-false, lt-ltb, le-ltb}
use lib.Dec.{ltb}
use Rattle.cube_spec.specs.Boxes.{pick, sum_n}
use Rattle.cube_spec.specs.Portions.{portion_extent, portion_start, ceiling}
use Rattle.cube_spec.proofs.Sums.{by}

-- one for the first n
ones : (l n : ℕ) → l < n → pick {A = ℕ} (ltb l n) 1 0 ≡ 1
ones l n h = rw (lt-ltb l n h)

none : (l n : ℕ) → n ≤ l → pick {A = ℕ} (ltb l n) 1 0 ≡ 0
none l n h = rw (le-ltb l n h)

-- the request's sentence, of any starts: from 0 to D, the first D mod m portions one point longer than the others, and these of as many points each
pub record LongerFirst (D m others : ℕ) (start : ℕ → ℕ) : Type 0 where
  pub first : start 0 ≡ 0
  pub last : start m ≡ D
  pub longer : (l : ℕ) → l < D % m → start (suc l) ≡ start l + (others + 1)
  pub shorter : (l : ℕ) → D % m ≤ l → l < m → start (suc l) ≡ start l + others

-- the points of l such portions, of which the first r have one more: up to portion n
counted : (r others n : ℕ) (start : ℕ → ℕ) → start 0 ≡ 0 → ((l : ℕ) → l < r → start (suc l) ≡ start l + (others + 1)) → ((l : ℕ) → r ≤ l → l < n → start (suc l) ≡ start l + others) → (l : ℕ) → l ≤ n → start l ≡ l * others + min l r
counted r others n start first longer shorter zero h = let z = zero-mul others in omega arith
counted r others n start first longer shorter (suc l) h =
    let c = counted r others n start first longer shorter l (omega arith) in
    let s = suc-mul l others in
    by (ltb l r)
    (λ t. let y = ltb-true l r t in let q = longer l y in omega arith)
    (λ t. let y = ltb-false l r t in let q = shorter l y h in omega arith)

module _ (D P : ℕ) (some : 0 < P) where
  -- ---- the points of a portion

  -- the first D mod P portions have one more than the others
  pub rule_longer : (l : ℕ) → l < D % P → portion_extent D P l ≡ D / P + 1
  unfolding portion_extent
  rule_longer l h = let q = ones l (D % P) h in omega arith

  pub rule_shorter : (l : ℕ) → D % P ≤ l → portion_extent D P l ≡ D / P
  unfolding portion_extent
  rule_shorter l h = let q = none l (D % P) h in omega arith

  -- by cases: a longer one, or a shorter one
  rule_by : {C : Type 0} (l : ℕ) → (l < D % P → portion_extent D P l ≡ D / P + 1 → C) → (D % P ≤ l → portion_extent D P l ≡ D / P → C) → C
  rule_by l f g =
      by (ltb l (D % P))
      (λ t. let y = ltb-true l (D % P) t in f y (rule_longer l y))
      (λ t. let y = ltb-false l (D % P) t in g y (rule_shorter l y))

  -- ---- where it starts

  pub portion_first : portion_start D P 0 ≡ 0
  unfolding portion_start sum_n
  portion_first = refl

  portion_next : (l : ℕ) → portion_start D P (suc l) ≡ portion_start D P l + portion_extent D P l
  unfolding portion_start sum_n
  portion_next l = refl

  -- the points of l shorter portions, and one more for each longer one before portion l
  pub portion_start_lem : (l : ℕ) → portion_start D P l ≡ l * (D / P) + min l (D % P)
  portion_start_lem l = counted (D % P) (D / P) l (portion_start D P) portion_first (λ i h. next_by i (rule_longer i h)) (λ i h r. next_by i (rule_shorter i h)) l (omega arith)
    where
      next_by : (i : ℕ) {n : ℕ} → portion_extent D P i ≡ n → portion_start D P (suc i) ≡ portion_start D P i + n
      next_by i e = portion_next i ∙ ap (λ n. portion_start D P i + n) e

  pub portion_last : portion_start D P P ≡ D
  portion_last =
      let r = mod-lt D some in
      let e = portion_start_lem P in
      let d = div-add-mod' D P in
      let c = mul_comm P (D / P) in
      omega arith

  pub portion_rising : P ≤ D → (l : ℕ) → portion_start D P l < portion_start D P (suc l)
  portion_rising h l =
      let q : 1 ≤ D / P = (le-div_iff_mul-le some).1 (rw (one-mul P) h) in
      let n = portion_next l in
      rule_by l (λ r e. omega arith) (λ r e. omega arith)

  pub portion_widest : (l : ℕ) → portion_start D P (suc l) ≤ portion_start D P l + ceiling D P
  unfolding ceiling
  portion_widest l =
      let n = portion_next l in
      let d = div-add-mod' D P in
      let s = suc-mul (D / P) P in
      let c : D / P ≤ (D + (P - 1)) / P = (le-div_iff_mul-le some).1 (omega arith) in
      rule_by l
      (λ r e. let x : suc (D / P) ≤ (D + (P - 1)) / P = (le-div_iff_mul-le some).1 (omega arith) in omega arith)
      (λ r e. omega arith)

  -- ---- extents: what lies between two starts

  pub extent_rule : (l : ℕ) → portion_start D P (suc l) - portion_start D P l ≡ portion_extent D P l
  extent_rule l = let n = portion_next l in omega arith

  -- they never rise along the labels
  pub extent_falls : (l n : ℕ) → l ≤ n → portion_extent D P n ≤ portion_extent D P l
  extent_falls l n h =
      rule_by l
      (λ r e. rule_by n (λ u f. omega arith) (λ u f. omega arith))
      (λ r e. let f = rule_shorter n (omega arith) in omega arith)

  -- the first has ceil(D/P) points
  pub extent_first : portion_extent D P 0 ≡ ceiling D P
  unfolding ceiling
  extent_first =
      let d = div-add-mod' D P in
      let m = mod-lt D some in
      let o = one-mul P in
      let s = add-mul (D / P) 1 P in
      let t = add-mul (D / P + 1) 1 P in
      rule_by 0
      (λ r e. e ∙ sym (div-eq_of_lt-le {k = D / P + 1} P (omega arith) (omega arith)))
      (λ r e. e ∙ sym (div-eq_of_lt-le {k = D / P} P (omega arith) (omega arith)))

  -- never empty when there are at most as many parts as positions
  pub extent_some : P ≤ D → (l : ℕ) → 0 < portion_start D P (suc l) - portion_start D P l
  extent_some h l = let q = portion_rising h l in omega arith

  pub extent_most : (l : ℕ) → portion_start D P (suc l) - portion_start D P l ≤ ceiling D P
  extent_most l = let q = portion_widest l in omega arith

  -- all of them make up the axis
  pub extents_sum : sum_n P (portion_extent D P) ≡ D
  extents_sum = (unfold portion_start in portion_last)

  -- "exactly then each board has a point": where no portion is empty there are at most as many as positions
  pub parts_le : ((l : ℕ) → l < P → portion_start D P l < portion_start D P (suc l)) → P ≤ D
  parts_le h = let q = starts P (λ l r. h l r) in let e = portion_last in omega arith
    where
      starts : (n : ℕ) → ((l : ℕ) → l < n → portion_start D P l < portion_start D P (suc l)) → n ≤ portion_start D P n
      starts zero h = omega arith
      starts (suc n) h = let q = h n (omega arith) in let r = starts n (λ l u. h l (omega arith)) in omega arith

  -- ---- THE RULE ALONE: these starts satisfy the sentence, and no others do

  pub rule_holds : LongerFirst D P (D / P) (portion_start D P)
  rule_holds =
      record {
        first = portion_first;
        last = portion_last;
        longer = λ l h. let n = portion_next l in let e = rule_longer l h in omega arith;
        shorter = λ l h r. let n = portion_next l in let e = rule_shorter l h in omega arith;
      }

  module _ (start : ℕ → ℕ) (others : ℕ) (w : LongerFirst D P others start) where
    starts : (l : ℕ) → l ≤ P → start l ≡ l * others + min l (D % P)
    starts = counted (D % P) others P start w.first w.longer w.shorter

    share : others ≡ D / P
    share =
        let r = mod-lt D some in
        let s = starts P (omega arith) in
        let e = w.last in
        let d = div-add-mod' D P in
        let c = mul_comm P others in
        eq_of_mul-eq-mul_right P some others (D / P) (omega arith)

    pub rule_alone : (l : ℕ) → l ≤ P → start l ≡ portion_start D P l
    rule_alone l h = let e = share in rw (starts l h, e) (sym (portion_start_lem l))
