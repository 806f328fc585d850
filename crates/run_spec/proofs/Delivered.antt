-- What a whole run delivers, from a sound plan: what is gathered and viewed right after a finish are the choice's exact totals.
use Prim.Native.Nat.{ℕ, zero, suc, ◌+◌, ◌*◌, ◌^◌, ◌≤◌, ◌<◌}
use mathlib.Core.Path.{◌≡◌, sym, ◌∙◌, refl, ap}
use mathlib.Core.Bool.{true}
use mathlib.Core.List.{List, [], ◌∷◌, ◌++◌}
use native.Mathlib.Omega.{arith}
use lib.ListN.{length}
use lib.IntN.{ℤ, nat_abs}
use Rattle.cube_spec.specs.Limits.{point_limit}
use Rattle.cube_spec.specs.Boxes.{pick, table, position}
use Rattle.cube_spec.specs.Choices as Choices
use Rattle.cube_spec.specs.Choices.{points, total, totals}
use Rattle.cube_spec.specs.Tree.{has}
use Rattle.cube_spec.proofs.Sums.{by}
use Rattle.plan_spec.specs.Plans.{PlanLists, Sound, board_count, share_size}
use Rattle.rack_spec.specs.Grids.{Grid, Lawful, grid_of, mask_of, boards, lead, box, cells, global, share}
use Rattle.rack_spec.specs.Steps.{TreeStep, finish, steps}
use Rattle.rack_spec.specs.Held.{finishes}
use Rattle.rack_spec.proofs.Lawful.{grid_lawful}
use Rattle.rack_spec.proofs.Finishing.{any, same_refl, down_set, finished_once, finish_down}
use Rattle.rack_spec.proofs.Counting.{board_count_lem}
use Rattle.cell_spec.specs.Wrapped.{wrapped}
use Rattle.run_spec.specs.Memory.{read, ran}
use Rattle.run_spec.specs.Gather.{gathered, viewed}
use Rattle.run_spec.proofs.Totals.{total_at, totals_law}
use Rattle.run_spec.proofs.Runs.{Final}
use Rattle.run_spec.proofs.Lists.{ran_totals, ran_length, total_small}
use Rattle.run_spec.proofs.Gathering.{table_same, gather_exact, view_exact}

-- ---- the root is never finished

any_none : (m d : ℕ) → any (has []) m d ≡ 0
unfolding any has
any_none zero d = refl
any_none (suc m) d = any_none m (d + 1)

finish_counts : (before rest : List TreeStep) (Y : List ℕ) → 0 < finishes Y (before ++ (finish Y ∷ rest))
unfolding finishes
finish_counts [] rest Y = rw (same_refl Y) (omega arith)
finish_counts (s ∷ before) rest Y = let q = finish_counts before rest Y in omega arith

root_unfinished : (g : Grid) (before rest : List TreeStep) → steps g ≡ before ++ (finish [] ∷ rest) → ⊥
root_unfinished g before rest e =
    let p : finishes [] (steps g) ≡ 0 = ap (λ Z. finishes Z (steps g)) (sym (down_set [] g.axes tt)) ∙ finished_once g (has []) ∙ any_none g.axes 0 in
    let q = finish_counts before rest [] in
    let r : finishes [] (steps g) ≡ finishes [] (before ++ (finish [] ∷ rest)) = ap (finishes []) e in
    omega arith

-- the work area that check 11 asks for holds every board's share
pub area_fits : (a : PlanLists) → Sound a → (n : ℕ) → board_count a * share_size a ≤ n → boards (grid_of a) * share (grid_of a) ≤ n
area_fits a sound n h =
    let e : share (grid_of a) ≡ share_size a = (unfold share grid_of share_size in refl) in
    rw (board_count_lem a sound, e) h

module _ (a : PlanLists) (sound : Sound a) (some : 0 < length a.lengths) (array work : List ℤ) (fits : board_count a * share_size a ≤ length work) (small : (i : ℕ) → nat_abs (read array i) ≤ 2 ^ 31) (few : points a.lengths ≤ point_limit) where
  abbrev g : Grid
  g = grid_of a

  ok : Lawful g
  ok = grid_lawful a sound

  axes_some : 0 < g.axes
  unfolding grid_of
  axes_some = some

  -- NOTHING WRAPS: the total of any cell of any choice is the number that 64 bits hold of it
  pub never_wraps : (mask : ℕ) (x : ℕ → ℕ) → wrapped (total a.lengths (read array) mask x) ≡ total a.lengths (read array) mask x
  never_wraps mask x = total_small a.lengths (read array) small few mask x

  final : (before rest : List TreeStep) (Y : List ℕ) → steps (grid_of a) ≡ before ++ (finish Y ∷ rest) → Final g (total_at a (read array)) Y (read (ran (grid_of a) array (before ++ (finish Y ∷ [])) work))
  final before rest Y e = ran_totals g ok axes_some array work (total_at a (read array)) (totals_law a sound (read array)) (area_fits a sound (length work) fits) before rest Y e

  -- THE GATHERED CHOICE is the list of its exact totals
  pub gathered_exact : (before rest : List TreeStep) (Y : List ℕ) → steps (grid_of a) ≡ before ++ (finish Y ∷ rest) → gathered a.lengths (grid_of a) Y (read (ran (grid_of a) array (before ++ (finish Y ∷ [])) work)) ≡ totals a.lengths (read array) (mask_of (grid_of a) Y)
  unfolding totals
  gathered_exact before rest Y e =
      gather_exact a sound Y (read array) _ (finish_down g before rest Y e) (final before rest Y e) ∙ table_same (Choices.cells a.lengths (mask_of g Y)) _ _ (λ c h. never_wraps (mask_of g Y) _)

  view_lead : (before rest : List TreeStep) (Y : List ℕ) → steps (grid_of a) ≡ before ++ (finish Y ∷ rest) → (b : ℕ) → b < boards (grid_of a) → lead (grid_of a) Y b ≡ true → viewed (grid_of a) Y b (ran (grid_of a) array (before ++ (finish Y ∷ [])) work) ≡ table (cells (grid_of a) Y b) (λ c. total a.lengths (read array) (mask_of (grid_of a) Y) (λ d. global (grid_of a) b (position (box (grid_of a) Y b) (grid_of a).axes 0 c) ((grid_of a).rank d)))
  unfolding total_at
  view_lead before rest [] e b h t = absurd (root_unfinished g before rest e)
  view_lead before rest (j ∷ Y) e b h t =
      let w = ran (grid_of a) array (before ++ (finish (j ∷ Y) ∷ [])) work in
      let room : boards g * share g ≤ length w = rw (ran_length g ok axes_some array (before ++ (finish (j ∷ Y) ∷ [])) work) (area_fits a sound (length work) fits) in
      view_exact g ok (total_at a (read array)) Y j b (finish_down g before rest (j ∷ Y) e).0 h t w room (final before rest (j ∷ Y) e) ∙ table_same (cells g (j ∷ Y) b) _ _ (λ c u. never_wraps (mask_of g (j ∷ Y)) _)

  -- A BOARD'S VIEW is the list of the exact totals at the positions of its cells, empty for a board that is no lead
  pub viewed_exact : (before rest : List TreeStep) (Y : List ℕ) → steps (grid_of a) ≡ before ++ (finish Y ∷ rest) → (b : ℕ) → b < boards (grid_of a) → viewed (grid_of a) Y b (ran (grid_of a) array (before ++ (finish Y ∷ [])) work) ≡ pick (lead (grid_of a) Y b) (table (cells (grid_of a) Y b) (λ c. total a.lengths (read array) (mask_of (grid_of a) Y) (λ d. global (grid_of a) b (position (box (grid_of a) Y b) (grid_of a).axes 0 c) ((grid_of a).rank d)))) []
  viewed_exact before rest Y e b h = by (lead g Y b) (λ t. rw t (view_lead before rest Y e b h t)) (λ t. unfold viewed in rw t)
