-- The portion rule cuts an axis in any number of portions from 1 to its length, and so did that of paper 01.
use Prim.Native.Nat.{ℕ, suc, ◌+◌, ◌-◌, ◌*◌, ◌/◌, ◌≤◌, ◌<◌}
use mathlib.Core.Path.{◌≡◌}
use native.Mathlib.Nat.{zero-mul, zero-div, mul-div_cancel_left, suc-mul, add-mul, le-div_iff_mul-le, div-lt_iff_lt-mul, div-mul-le_self, lt-div-mul-add}
use native.Mathlib.Omega.{arith}
use Rattle.cube_spec.specs.Portions.{portion_start, ceiling}
use Rattle.cube_spec.specs.Before.{floor_start, Cutting}
use Rattle.cube_spec.proofs.Portions.{portion_first, portion_last, portion_rising, portion_widest}

pub portion_cuts : Cutting portion_start
portion_cuts D m some fits =
    record {
      first = portion_first D m some;
      last = portion_last D m some;
      rising = λ l h. portion_rising D m some fits l;
      widest = λ l h. portion_widest D m some l;
    }

module _ (D m : ℕ) (some : 0 < m) where
  floor_first : floor_start D m 0 ≡ 0
  unfolding floor_start
  floor_first = simp (zero-mul, zero-div)

  floor_last : floor_start D m m ≡ D
  unfolding floor_start
  floor_last = mul-div_cancel_left D some

  floor_rising : m ≤ D → (l : ℕ) → floor_start D m l < floor_start D m (suc l)
  unfolding floor_start
  floor_rising h l =
      let q = div-mul-le_self (l * D) m in
      let s = suc-mul (l * D / m) m in
      (le-div_iff_mul-le some).1 (rw (suc-mul l D) (omega arith))

  floor_widest : (l : ℕ) → floor_start D m (suc l) ≤ floor_start D m l + ceiling D m
  unfolding floor_start ceiling
  floor_widest l =
      let q = lt-div-mul-add {a = l * D} some in
      let c = lt-div-mul-add {a = D + (m - 1)} some in
      let s = suc-mul (l * D / m + (D + (m - 1)) / m) m in
      let t = add-mul (l * D / m) ((D + (m - 1)) / m) m in
      let r : suc l * D / m < suc (l * D / m + (D + (m - 1)) / m) = (div-lt_iff_lt-mul some).1 (rw (suc-mul l D) (omega arith)) in
      omega arith

pub floor_cuts : Cutting floor_start
floor_cuts D m some fits =
    record {
      first = floor_first D m some;
      last = floor_last D m some;
      rising = λ l h. floor_rising D m some fits l;
      widest = λ l h. floor_widest D m some l;
    }
