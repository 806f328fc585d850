-- The work area of a practice campaign: 2^p·A is at most 8,192 for 1 to 4 axes of at most 9 and p at most 3, whatever the order of the axes.
-- It depends on the lengths from the longest down alone: those are computed by the checker, one after the other.
use Prim.Native.Nat.{ℕ, zero, suc, ◌*◌, ◌^◌, ◌≤◌, ◌<◌}
use mathlib.Core.Path.{◌≡◌, sym, ◌∙◌, refl, ap, ap₂}
use mathlib.Core.Bool.{Bool, true}
use mathlib.Core.List.{List, [], ◌∷◌}
use native.Mathlib.Omega.{arith}
use lib.Dec.{leb}
use lib.ListN.{length, get_or}
use borrow.Author.Tests.{leb-true}
use Rattle.cube_spec.specs.Limits.{program_limit}
use Rattle.cube_spec.specs.Boxes.{table}
use Rattle.cube_spec.specs.Portions.{ceiling}
use Rattle.cube_spec.specs.Tree as Tree
use Rattle.cube_spec.specs.Tree.{weight}
use Rattle.cube_spec.proofs.Slots.{table_here}
use Rattle.cube_spec.proofs.Tables.{table_length}
use Rattle.plan_spec.specs.Plans.{exponent_at, most_at, share_size, board_count}
use Rattle.plan_spec.specs.Rule.{Entry, entries, greedy, exps, order, ordered_length, ordered_exponents, plan_of}
use Rattle.plan_spec.specs.Refusals.{all}
use Rattle.cube_spec.proofs.Tables.{table_cong}
use Rattle.plan_spec.proofs.Arranging.{weight_cong}
use Rattle.plan_spec.proofs.Chosen.{exponents_table}
use Rattle.plan_spec.proofs.Judging.{all_true}
use Rattle.plan_spec.proofs.Places.{ordered_table}
use Rattle.plan_spec.proofs.PricingLaws.{starts_cong}
use Rattle.plan_spec.proofs.Sorted.{sorted, largest, Falls, falls_more, sorted_falls, ordered_sorted}
use Rattle.run_spec.specs.Entries.{work_cells}
use Rattle.tape_spec.specs.Writing.{Every}
use Rattle.practice_spec.specs.Computing.{computing}

-- ---- the work area by the lengths in plan order

unfoldable entries_by : ℕ → (ℕ → ℕ) → List Entry
entries_by n len = table n (λ i. record { weight = weight n len i; len = len i; exp = 0 })

unfoldable cells_by : ℕ → (ℕ → ℕ) → ℕ → List ℕ → ℕ
cells_by n len p ks = 2 ^ p * Tree.share_size n (λ d. ceiling (len d) (2 ^ get_or ks d 0))

unfoldable area_of : List ℕ → ℕ → ℕ
area_of l p = cells_by (length l) (λ d. get_or l d 0) p (exps (greedy p (entries_by (length l) (λ d. get_or l d 0))))

-- the lengths below n alone matter
entries_cong : (n : ℕ) (f g : ℕ → ℕ) → ((j : ℕ) → j < n → f j ≡ g j) → entries_by n f ≡ entries_by n g
unfolding entries_by
entries_cong n f g e = table_cong n 0 _ _ (λ i l r. ap₂ (λ w d. record { weight = w; len = d; exp = 0 }) (weight_cong n f g i (omega arith) e) (e i (omega arith)))

share_cong : (n : ℕ) (most most' : ℕ → ℕ) → ((d : ℕ) → d < n → most d ≡ most' d) → Tree.share_size n most ≡ Tree.share_size n most'
unfolding Tree.share_size
share_cong n most most' same = starts_cong n n most most' same

module _ (ds : List ℕ) (p : ℕ) where
  abbrev n : ℕ
  n = length ds

  -- along the planner's order
  along : work_cells (plan_of ds p) ≡ cells_by n (ordered_length ds) p (ordered_exponents ds p)
  unfolding work_cells board_count share_size most_at cells_by plan_of ordered_length
  along =
      ap (λ x. 2 ^ p * x) (share_cong n _ _ (λ d h.
      ap (λ k. ceiling (get_or ds (get_or (order ds) d 0) 0) (2 ^ k)) (sym (ap (λ l. get_or l d 0) (exponents_table ds p) ∙ table_here n (exponent_at (plan_of ds p)) d h))))

  list_is : table n (ordered_length ds) ≡ sorted ds
  list_is = sym (ordered_table ds) ∙ ordered_sorted ds

  sorted_length : length (sorted ds) ≡ n
  sorted_length = ap length (sym list_is) ∙ table_length n 0 (ordered_length ds)

  sorted_at : (d : ℕ) → d < n → ordered_length ds d ≡ get_or (sorted ds) d 0
  sorted_at d h = sym (ap (λ l. get_or l d 0) (sym list_is) ∙ table_here n (ordered_length ds) d h)

  -- THE WORK AREA OF A PLAN, BY THE LENGTHS FROM THE LONGEST DOWN
  area_sorted : work_cells (plan_of ds p) ≡ area_of (sorted ds) p
  unfolding area_of cells_by ordered_exponents entries entries_by
  area_sorted =
      let f : ℕ → ℕ = λ d. get_or (sorted ds) d 0 in
      let e : entries_by n (ordered_length ds) ≡ entries_by n f = entries_cong n (ordered_length ds) f sorted_at in
      along
      ∙ ap (λ x. 2 ^ p * x) (share_cong n _ _ (λ d h. ap (λ x. ceiling x (2 ^ get_or (ordered_exponents ds p) d 0)) (sorted_at d h)))
      ∙ ap (λ l. cells_by n f p (exps (greedy p l))) e
      ∙ ap (λ m. cells_by m f p (exps (greedy p (entries_by m f)))) (sym sorted_length)

-- ---- the table

unfoldable small : List ℕ → Bool
small l = all 4 (λ p. leb (area_of l p) program_limit)

-- a test of every list of n numbers that start with at most b and never rise
unfoldable every_falling : ℕ → ℕ → (List ℕ → Bool) → Bool
every_falling zero b f = f []
every_falling (suc n) b f = all (suc b) (λ d. every_falling n d (λ l. f (d ∷ l)))

falling_each : (n b : ℕ) (f : List ℕ → Bool) → every_falling n b f ≡ true → (l : List ℕ) → length l ≡ n → Falls b l → f l ≡ true
unfolding every_falling Falls
falling_each zero b f e [] h k = e
falling_each zero b f e (d ∷ l) h k = absurd (omega arith)
falling_each (suc n) b f e [] h k = absurd (omega arith)
falling_each (suc n) b f e (d ∷ l) h k =
    let t = all_true (λ d. every_falling n d (λ l. f (d ∷ l))) (suc b) e d (let z = k.0 in omega arith) in
    falling_each n d (λ r. f (d ∷ r)) t l (omega arith) k.1

table_small : all 5 (λ n. every_falling n 9 small) ≡ true
unfolding computing entries_by cells_by area_of small every_falling
table_small = refl

-- ---- the law

largest_below : (b : ℕ) (l : List ℕ) → Every (λ d. d ≤ b) l → largest l ≤ b
unfolding largest
largest_below b [] h = omega arith
largest_below b (d ∷ l) h = let i = largest_below b l h.1 in let k = h.0 in omega arith

small_at : (l : List ℕ) (p : ℕ) → small l ≡ true → p ≤ 3 → area_of l p ≤ program_limit
unfolding small
small_at l p t h = leb-true _ _ (all_true (λ p. leb (area_of l p) program_limit) 4 t p (omega arith))

-- AT MOST 8,192 CELLS
pub area_small : (ds : List ℕ) (p : ℕ) → length ds ≤ 4 → Every (λ d. d ≤ 9) ds → p ≤ 3 → work_cells (plan_of ds p) ≤ program_limit
area_small ds p few short low =
    let f : Falls 9 (sorted ds) = falls_more (sorted ds) (largest_below 9 ds short) (sorted_falls ds) in
    let t = falling_each (length ds) 9 small (all_true (λ n. every_falling n 9 small) 5 table_small (length ds) (omega arith)) (sorted ds) (sorted_length ds p) f in
    rw (area_sorted ds p) (small_at (sorted ds) p t low)
