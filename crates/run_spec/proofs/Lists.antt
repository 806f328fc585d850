-- A run's exact totals for a work area that is a list, as the engine is lent one; and over an accepted array no total wraps.
use Prim.Native.Nat.{ℕ, ◌*◌, ◌^◌, ◌≤◌, ◌<◌}
use mathlib.Core.Path.{◌≡◌, sym, ◌∙◌, refl, ap, fun_ext}
use mathlib.Core.List.{List, [], ◌∷◌, ◌++◌}
use native.Mathlib.Nat.{zero-add, le-div_iff_mul-le}
use native.Mathlib.Omega.{arith}
use borrow.Author.Tests.{ltb-true, ltb-false, le-ltb, ne_eqb}
use lib.Dec.{ltb}
use lib.ListN.{length, get_or-eq_default}
use lib.IntN.{ℤ, pos, nat_abs}
use mir.Syntax.{w64}
use mir.Val.{SFits}
use Rattle.cube_spec.specs.Limits.{point_limit}
use Rattle.cube_spec.specs.Boxes.{table_from}
use Rattle.cube_spec.specs.Choices.{points, agrees, total}
use Rattle.cube_spec.specs.Tree as Tree
use Rattle.cube_spec.specs.Tree.{has, kept}
use Rattle.cube_spec.proofs.Sums.{by}
use Rattle.cube_spec.proofs.Products.{product_pos}
use Rattle.cube_spec.proofs.Tables.{table_length, table_at}
use Rattle.rack_spec.specs.Grids.{Grid, Lawful, boards, region_size, share, board_of, cell_at}
use Rattle.rack_spec.specs.Steps.{TreeStep, expand, transfer, finish, steps}
use Rattle.rack_spec.proofs.Boards.{most_pos}
use Rattle.rack_spec.proofs.Every.{Every, every_append, every_first, every_step}
use Rattle.cell_spec.specs.Wrapped.{wrapped}
use Rattle.run_spec.specs.Memory.{forms, after, read, stepped, ran}
use Rattle.run_spec.proofs.Memory.{run, region_in}
use Rattle.cell_spec.proofs.Modulo.{wrapped_fits, sum_fits, pick_small}
use Rattle.run_spec.proofs.Totals.{Law}
use Rattle.run_spec.proofs.Runs.{Final, run_exact}

-- one step more
pub ran_more : (g : Grid) (array : List ℤ) (l : List TreeStep) (m : TreeStep) (work : List ℤ) → ran g array (l ++ (m ∷ [])) work ≡ stepped g array m (ran g array l work)
unfolding ran
ran_more g array [] m work = refl
ran_more g array (s ∷ l) m work = ran_more g array l m (stepped g array s work)

-- ---- the steps of the list write in the 2^p·A cells alone

module _ (g : Grid) where
  -- a transfer has a board to go to
  abbrev pub Sent : TreeStep → Type 0
  Sent (expand Y) = Unit {0}
  Sent (transfer Y s r n) = r < boards g
  Sent (finish Y) = Unit {0}

  pub sent_steps : Every Sent (steps g)
  sent_steps = every_step Sent g (λ Y h. tt) (λ Y j b l d h t r. h) (λ Y h n. tt)

  module _ (ok : Lawful g) (some : 0 < g.axes) where
    region_pos : 0 < region_size g 0
    unfolding region_size Tree.region_size Tree.choice_cells kept
    region_pos =
        product_pos _ g.axes 0 (λ i l r. let m = most_pos g ok i (omega arith) in by (has (0 ∷ []) i) (λ t. rw t (omega arith)) (λ t. rw t m))

    pub share_pos : 0 < share g
    share_pos = let p = region_pos in let q = region_in g 0 some in omega arith

    board_past : (i : ℕ) → boards g * share g ≤ i → boards g ≤ board_of g i
    unfolding board_of
    board_past i h = (le-div_iff_mul-le share_pos).1 h

    past_kept : (array : ℕ → ℤ) (s : TreeStep) → Sent s → (work : ℕ → ℤ) (i : ℕ) → boards g * share g ≤ i → after g array s work i ≡ work i
    unfolding after forms
    past_kept array (expand Y) t work i h = rw (le-ltb (board_of g i) (boards g) (board_past i h))
    past_kept array (transfer Y s r n) t work i h = let q = board_past i h in rw (ne_eqb (board_of g i) r (λ e. omega arith))
    past_kept array (finish Y) t work i h = refl

    -- a step on a list is the step on the function that reads it
    pub stepped_reads : (array work : List ℤ) (s : TreeStep) → Sent s → boards g * share g ≤ length work → (i : ℕ) → read (stepped g array s work) i ≡ after g (read array) s (read work) i
    unfolding stepped
    stepped_reads array work s t h i =
        let f = after g (read array) s (read work) in
        by (ltb i (length work))
        (λ u. table_at (length work) 0 f i (pos 0) (ltb-true i (length work) u) ∙ ap f (zero-add i))
        (λ u.
        let l : length work ≤ i = ltb-false i (length work) u in
        get_or-eq_default (table_from (length work) 0 f) (pos 0) (rw (table_length (length work) 0 f) l) ∙ sym (get_or-eq_default work (pos 0) l) ∙ sym (past_kept (read array) s t (read work) i (omega arith)))

    pub stepped_length : (array work : List ℤ) (s : TreeStep) → length (stepped g array s work) ≡ length work
    unfolding stepped
    stepped_length array work s = table_length (length work) 0 _

    ran_reads : (array : List ℤ) (l : List TreeStep) (work : List ℤ) → Every Sent l → boards g * share g ≤ length work → (i : ℕ) → read (ran g array l work) i ≡ run g (read array) l (read work) i
    unfolding ran run
    ran_reads array [] work p h i = refl
    ran_reads array (s ∷ l) work p h i =
        ran_reads array l (stepped g array s work) p.1 (rw (stepped_length array work s) h) i ∙ ap (λ f. run g (read array) l f i) (fun_ext (stepped_reads array work s p.0 h))

    pub ran_length : (array : List ℤ) (l : List TreeStep) (work : List ℤ) → length (ran g array l work) ≡ length work
    unfolding ran
    ran_length array [] work = refl
    ran_length array (s ∷ l) work = ran_length array l (stepped g array s work) ∙ stepped_length array work s

    -- at each finish the totals stand in the list, modulo 2^64
    pub ran_totals : (array work : List ℤ) (T : List ℕ → (ℕ → ℕ) → ℤ) → Law g (read array) T → boards g * share g ≤ length work → (before rest : List TreeStep) (Y : List ℕ) → steps g ≡ before ++ (finish Y ∷ rest) → Final g T Y (read (ran g array (before ++ (finish Y ∷ [])) work))
    unfolding Final
    ran_totals array work T law fits before rest Y e b x h t w =
        let s : Every Sent (before ++ (finish Y ∷ [])) = every_append Sent before (finish Y ∷ []) (every_first Sent before (finish Y ∷ rest) (rw e at sent_steps)) (tt, tt) in
        ran_reads array (before ++ (finish Y ∷ [])) work s fits (cell_at g Y b x) ∙ run_exact g ok (read array) T law (read work) before rest Y e b x h t w

-- ---- no total wraps

module _ (ds : List ℕ) (array : ℕ → ℤ) (small : (i : ℕ) → nat_abs (array i) ≤ 2 ^ 31) (few : points ds ≤ point_limit) (mask : ℕ) (x : ℕ → ℕ) where
  -- a total of at most 2^24 points of at most 2^31 is a signed 64-bit number
  pub total_fits : SFits w64 (total ds array mask x)
  unfolding total
  total_fits = sum_fits (points ds) _ few (λ q. pick_small (agrees ds mask q x (length ds)) (array q) (small q))

  -- so it never wraps
  pub total_small : wrapped (total ds array mask x) ≡ total ds array mask x
  total_small = wrapped_fits (total ds array mask x) total_fits
