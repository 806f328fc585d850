-- Sums, products and row-major boxes: the notions that arrays, choices, boards and regions share.
-- Axes and places are numbered from 0; lengths, extents, labels and positions are functions of the axis.
use Rattle.std.specs.Prelude.{ℕ, zero, suc, ◌+◌, ◌*◌, ◌/◌, ◌%◌, ◌<◌, Bool, true, false, List, [], ◌∷◌, eqb, ℤ, pos, ◌+ℤ◌}

-- the first where the test holds, else the second
abbrev pub pick : {A : Type 0} → Bool → A → A → A
pick true a b = a
pick false a b = b

-- f 0 + f 1 + .. + f (n - 1)
unfoldable pub sum_n : ℕ → (ℕ → ℕ) → ℕ
sum_n zero f = 0
sum_n (suc n) f = sum_n n f + f n

-- the same for whole numbers with a sign
unfoldable pub sum_z : ℕ → (ℕ → ℤ) → ℤ
sum_z zero f = pos 0
sum_z (suc n) f = sum_z n f +ℤ f n

-- f i ∷ f (i + 1) ∷ .., n of them
unfoldable pub table_from : {A : Type 0} → ℕ → ℕ → (ℕ → A) → List A
table_from zero i f = []
table_from (suc n) i f = f i ∷ table_from n (i + 1) f

-- f 0 ∷ f 1 ∷ .. ∷ f (n - 1)
abbrev pub table : {A : Type 0} → ℕ → (ℕ → A) → List A
table n f = table_from n 0 f

-- the positions x, with v on axis j
unfoldable pub put : (ℕ → ℕ) → ℕ → ℕ → (ℕ → ℕ)
put x j v d = pick (eqb d j) v (x d)

-- ---- boxes: m axes from axis d on, axis i of extent e i

-- e d · e (d + 1) · .., m factors: the number of cells of the box
unfoldable pub product : (ℕ → ℕ) → ℕ → ℕ → ℕ
product e zero d = 1
product e (suc m) d = e d * product e m (d + 1)

-- "row-major .., the last axis fastest": where the cell at the positions x stands
unfoldable pub place : (ℕ → ℕ) → (ℕ → ℕ) → ℕ → ℕ → ℕ
place e x zero d = 0
place e x (suc m) d = x d * product e m (d + 1) + place e x m (d + 1)

-- and back: the position on axis i of the cell at place c
unfoldable pub position : (ℕ → ℕ) → ℕ → ℕ → ℕ → ℕ → ℕ
position e zero d c i = 0
position e (suc m) d c i = pick (eqb i d) (c / product e m (d + 1)) (position e m (d + 1) (c % product e m (d + 1)) i)

-- x lies in the box of n axes
abbrev pub Within : ℕ → (ℕ → ℕ) → (ℕ → ℕ) → Type 0
Within n e x = (i : ℕ) → i < n → x i < e i
