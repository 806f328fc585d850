-- What is gathered and viewed at a position that follows a finish: the choice's exact totals.
use Prim.Native.Nat.{ℕ, zero, suc, ◌*◌, ◌^◌, ◌≤◌, ◌<◌}
use mathlib.Core.Path.{◌≡◌, ap}
use mathlib.Core.Option.{Option, none, some}
use mathlib.Core.List.{List, [], ◌∷◌, ◌++◌}
use native.Mathlib.Omega.{arith}
use lib.ListN.{length, take, drop, get_elem?}
use lib.IntN.{ℤ, nat_abs}
use Rattle.cube_spec.specs.Limits.{point_limit}
use Rattle.cube_spec.specs.Boxes.{pick, table, position}
use Rattle.cube_spec.specs.Choices.{points, total, totals}
use Rattle.plan_spec.specs.Plans.{PlanLists, Sound, board_count, share_size}
use Rattle.rack_spec.specs.Grids.{Grid, grid_of, mask_of, lead, box, cells, global}
use Rattle.rack_spec.specs.Steps.{TreeStep, expand, transfer, finish, steps}
use Rattle.rack_spec.specs.Held.{finished_by, finished_at}
use Rattle.rack_spec.proofs.Counting.{board_count_lem}
use Rattle.run_spec.specs.Memory.{read, ran}
use Rattle.run_spec.specs.Gather.{gathered, viewed}
use Rattle.run_spec.proofs.Delivered.{gathered_exact, viewed_exact}

-- a list around one of its elements
split_at : (l : List TreeStep) (at : ℕ) (m : TreeStep) → get_elem? l at ≡ some m → l ≡ take at l ++ (m ∷ drop (suc at) l)
split_at [] at m e = absurd (let z : ◌≡◌ {A = ℕ} 0 1 = cc in omega arith)
split_at (s ∷ l) zero m e = cc
split_at (s ∷ l) (suc at) m e = ap (λ r. s ∷ r) (split_at l at m e)

pub take_next : (l : List TreeStep) (at : ℕ) (m : TreeStep) → get_elem? l at ≡ some m → take (suc at) l ≡ take at l ++ (m ∷ [])
take_next [] at m e = absurd (let z : ◌≡◌ {A = ℕ} 0 1 = cc in omega arith)
take_next (s ∷ l) zero m e = cc
take_next (s ∷ l) (suc at) m e = ap (λ r. s ∷ r) (take_next l at m e)

finish_found : (o : Option TreeStep) (Y : List ℕ) → finished_by o ≡ some Y → o ≡ some (finish Y)
finish_found none Y e = absurd (let z : ◌≡◌ {A = ℕ} 0 1 = cc in omega arith)
finish_found (some (expand Z)) Y e = absurd (let z : ◌≡◌ {A = ℕ} 0 1 = cc in omega arith)
finish_found (some (transfer Z s r n)) Y e = absurd (let z : ◌≡◌ {A = ℕ} 0 1 = cc in omega arith)
finish_found (some (finish Z)) Y e = cc

-- the list of steps around the finish before a position
pub record Finish (g : Grid) (at : ℕ) (Y : List ℕ) : Type 0 where
  pub before : List TreeStep
  pub rest : List TreeStep
  pub whole : steps g ≡ before ++ (finish Y ∷ rest)
  pub taken : take at (steps g) ≡ before ++ (finish Y ∷ [])

pub finish_at : (g : Grid) (at : ℕ) (Y : List ℕ) → finished_at g at ≡ some Y → Finish g at Y
unfolding finished_at
finish_at g zero Y e = absurd (let z : ◌≡◌ {A = ℕ} 0 1 = cc in omega arith)
finish_at g (suc at) Y e =
    let f = finish_found (get_elem? (steps g) at) Y e in
    record { before = take at (steps g); rest = drop (suc at) (steps g); whole = split_at (steps g) at (finish Y) f; taken = take_next (steps g) at (finish Y) f }

module _ (a : PlanLists) (sound : Sound a) (axes : 0 < length a.lengths) (array work : List ℤ) (fits : board_count a * share_size a ≤ length work) (small : (i : ℕ) → nat_abs (read array i) ≤ 2 ^ 31) (few : points a.lengths ≤ point_limit) (at : ℕ) (Y : List ℕ) (e : finished_at (grid_of a) at ≡ some Y) where
  -- GATHERED AT A POSITION
  pub gathered_at : gathered a.lengths (grid_of a) Y (read (ran (grid_of a) array (take at (steps (grid_of a))) work)) ≡ totals a.lengths (read array) (mask_of (grid_of a) Y)
  gathered_at =
      let f = finish_at (grid_of a) at Y e in
      rw f.taken (gathered_exact a sound axes array work fits small few f.before f.rest Y f.whole)

  -- VIEWED AT A POSITION
  pub viewed_at : (b : ℕ) → b < board_count a → viewed (grid_of a) Y b (ran (grid_of a) array (take at (steps (grid_of a))) work) ≡ pick (lead (grid_of a) Y b) (table (cells (grid_of a) Y b) (λ c. total a.lengths (read array) (mask_of (grid_of a) Y) (λ d. global (grid_of a) b (position (box (grid_of a) Y b) (grid_of a).axes 0 c) ((grid_of a).rank d)))) []
  viewed_at b h =
      let f = finish_at (grid_of a) at Y e in
      rw f.taken (viewed_exact a sound axes array work fits small few f.before f.rest Y f.whole b (rw (board_count_lem a sound) h))
