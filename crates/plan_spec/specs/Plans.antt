-- Plans as lists of any length, what they cost, and the machine's plan with its slots.
use Rattle.std.specs.Prelude.{ℕ, suc, ◌+◌, ◌^◌, ◌≤◌, ◌<◌, ◌≡◌, List, [], ◌∷◌, eqb, length, get_or, take}
use Rattle.cube_spec.specs.Limits.{padded}
use Rattle.cube_spec.specs.Boxes.{pick}
use Rattle.cube_spec.specs.Portions.{ceiling}
use Rattle.cube_spec.specs.Tree as Tree
use Rattle.cube_spec.specs.Ways.{sum_list}
use Rattle.plan_spec.specs.declared.types.Plan.{Plan}

-- "A plan holds the lengths, an order of the axes, an exponent k for each axis, and p": lengths and exponents by axis number
pub record PlanLists : Type 0 where
  pub lengths : List ℕ
  pub order : List ℕ
  pub exponents : List ℕ
  pub p : ℕ

-- the axis at place d of the plan, its length and its exponent: "D1 to Dn are lengths in plan order"
abbrev pub axis_at : PlanLists → ℕ → ℕ
axis_at a d = get_or a.order d 0

abbrev pub length_at : PlanLists → ℕ → ℕ
length_at a d = get_or a.lengths (axis_at a d) 0

abbrev pub exponent_at : PlanLists → ℕ → ℕ
exponent_at a d = get_or a.exponents (axis_at a d) 0

-- how often a stands in l, and where it stands first
unfoldable pub count : ℕ → List ℕ → ℕ
count a [] = 0
count a (x ∷ l) = pick (eqb x a) 1 0 + count a l

unfoldable pub find : ℕ → List ℕ → ℕ
find a [] = 0
find a (x ∷ l) = pick (eqb x a) 0 (suc (find a l))

-- what checks 8 and 9 ask of a plan: the order names each axis once, no axis has more portions than positions, and the exponents sum to p
pub record Sound (a : PlanLists) : Type 0 where
  pub places : length a.order ≡ length a.lengths
  pub once : (d : ℕ) → d < length a.lengths → count d a.order ≡ 1
  pub cut : (d : ℕ) → d < length a.lengths → 2 ^ get_or a.exponents d 0 ≤ get_or a.lengths d 0
  pub each : length a.exponents ≡ length a.lengths
  pub sums : sum_list a.exponents ≡ a.p

-- the largest extent on the axis at place d
unfoldable pub most_at : PlanLists → ℕ → ℕ
most_at a d = ceiling (length_at a d) (2 ^ exponent_at a d)

-- values moved, cells added up, A, the number of boards, and T
unfoldable pub moved : PlanLists → ℕ
moved a = Tree.moved (length a.lengths) (length_at a) (exponent_at a)

unfoldable pub added : PlanLists → ℕ
added a = Tree.added (length a.lengths) (length_at a)

unfoldable pub share_size : PlanLists → ℕ
share_size a = Tree.share_size (length a.lengths) (most_at a)

-- "There are 2^p boards."
unfoldable pub board_count : PlanLists → ℕ
board_count a = 2 ^ a.p

unfoldable pub step_count : PlanLists → ℕ
step_count a = Tree.step_count (length a.lengths) (exponent_at a) a.p

-- ---- the machine's plan

-- the lists that a machine's plan holds
unfoldable pub lists_of : Plan → PlanLists
lists_of q = record { lengths = take q.axes q.lengths; order = take q.axes q.order; exponents = take q.axes q.exponents; p = q.p }

unfoldable pub slotted : PlanLists → Plan
slotted a =
    record { axes = length a.lengths; p = a.p; lengths = padded a.lengths; order = padded a.order; exponents = padded a.exponents }
