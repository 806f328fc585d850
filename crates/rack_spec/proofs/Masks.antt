-- The masks of the choices of the tree: each choice but the full one is finished exactly once.
use Prim.Native.Nat.{ℕ, zero, suc, ◌+◌, ◌-◌, ◌^◌, ◌≤◌, ◌<◌}
use mathlib.Core.Path.{◌≡◌, sym, ◌∙◌, refl, ap, ap₂}
use mathlib.Core.Bool.{Bool, true, false, not}
use mathlib.Core.List.{List, [], ◌∷◌}
use native.Mathlib.Nat.{zero-add, mod-eq_of_lt}
use native.Mathlib.Omega.{arith}
use borrow.Author.Tests.{eqb-true, eqb-false, ne_eqb}
use lib.Dec.{eqb}
use lib.ListN.{length, get_or}
use lib.Pow.{pow_pos}
use Rattle.cube_spec.specs.Boxes.{pick, sum_n, product}
use Rattle.cube_spec.specs.Choices.{keeps, full_mask, kept_length, cells}
use Rattle.cube_spec.specs.Tree.{has, kept, choice_cells}
use Rattle.cube_spec.proofs.Sums.{by}
use Rattle.cube_spec.proofs.Naturals.{sum_n_cong}
use Rattle.cube_spec.proofs.Digits.{powers, keeps_powers, powers_cong, powers_mod, powers_all, keeps_full}
use Rattle.cube_spec.proofs.Boxing.{product_cong}
use Rattle.cube_spec.proofs.Counting.{kept_length_lem, summed_length}
use Rattle.cube_spec.proofs.Sets.{Down}
use Rattle.plan_spec.specs.Plans.{PlanLists, Sound, length_at, find}
use Rattle.plan_spec.proofs.Orders.{rank_order, product_order}
use Rattle.rack_spec.specs.Grids.{Grid, Lawful, grid_of, mask_of, set_of, summed_by}
use Rattle.rack_spec.specs.Steps.{TreeStep, expand, transfer, finish, finishes_mask, times_finished, steps}
use Rattle.rack_spec.specs.Held.{same, finishes_it, finishes}
use Rattle.rack_spec.proofs.Lawful.{grid_lawful}
use Rattle.rack_spec.proofs.Every.{Every, every_step}
use Rattle.rack_spec.proofs.Finishing.{any, set_has, set_cong, down_set, any_none, any_cases, same_true, same_refl, finished_once}

pick_not : (t : Bool) (x : ℕ) → pick t 0 x ≡ pick (not t) x 0
pick_not true x = refl
pick_not false x = refl

pub not_not : (t : Bool) → not (not t) ≡ t
not_not true = refl
not_not false = refl

module _ (g : Grid) (ok : Lawful g) where
  mask_powers : (Y : List ℕ) → mask_of g Y ≡ powers (λ a. not (has Y (g.rank a))) g.axes
  unfolding mask_of powers
  mask_powers Y = sum_n_cong g.axes (λ a h. pick_not (has Y (g.rank a)) (2 ^ a))

  -- an axis is kept exactly if its place is not summed out
  pub keeps_mask : (Y : List ℕ) (a : ℕ) → a < g.axes → keeps (mask_of g Y) a ≡ not (has Y (g.rank a))
  keeps_mask Y a h = rw (mask_powers Y) (keeps_powers (λ a. not (has Y (g.rank a))) g.axes a h)

  pub mask_set : (mask : ℕ) → mask < 2 ^ g.axes → mask_of g (set_of (summed_by g mask) g.axes) ≡ mask
  mask_set mask h =
      mask_powers (set_of (summed_by g mask) g.axes) ∙ powers_cong _ (keeps mask) g.axes digit ∙ powers_mod mask g.axes ∙ mod-eq_of_lt h
    where
      digit : (a : ℕ) → a < g.axes → not (has (set_of (summed_by g mask) g.axes) (g.rank a)) ≡ keeps mask a
      digit a l =
          let e : summed_by g mask (g.rank a) ≡ not (keeps mask (g.order (g.rank a))) = (unfold summed_by in refl) in
          ap not (set_has (summed_by g mask) g.axes (g.rank a) (ok.rank_lt a l) ∙ e) ∙ not_not (keeps mask (g.order (g.rank a))) ∙ ap (keeps mask) (ok.order_rank a l)

  -- and no other set has that mask
  pub set_mask : (Z : List ℕ) (mask : ℕ) → Down Z g.axes → mask_of g Z ≡ mask → set_of (summed_by g mask) g.axes ≡ Z
  set_mask Z mask h e = set_cong (summed_by g mask) (has Z) g.axes (λ d l. place d l) ∙ down_set Z g.axes h
    where
      place : (d : ℕ) → d < g.axes → summed_by g mask d ≡ has Z d
      place d l =
          unfold summed_by in
          ap (λ m. not (keeps m (g.order d))) (sym e) ∙ ap not (keeps_mask Z (g.order d) (ok.order_lt d l)) ∙ not_not _ ∙ ap (has Z) (ok.rank_order d l)

  same_mask : (Z : List ℕ) (mask : ℕ) → mask < 2 ^ g.axes → Down Z g.axes → eqb (mask_of g Z) mask ≡ same (set_of (summed_by g mask) g.axes) Z
  same_mask Z mask l h =
      by (eqb (mask_of g Z) mask)
      (λ t. t ∙ sym (rw (set_mask Z mask h (eqb-true _ _ t)) (same_refl Z)))
      (λ t. t ∙ sym (by (same (set_of (summed_by g mask) g.axes) Z) (λ s. absurd (eqb-false _ _ t (ap (mask_of g) (sym (same_true _ Z s)) ∙ mask_set mask l))) (λ s. s)))

  abbrev Shape : TreeStep → Type 0
  Shape (expand Y) = Unit {0}
  Shape (transfer Y s r n) = Unit {0}
  Shape (finish Y) = Down Y g.axes

  times_finishes : (mask : ℕ) → mask < 2 ^ g.axes → (l : List TreeStep) → Every Shape l → times_finished g mask l ≡ finishes (set_of (summed_by g mask) g.axes) l
  unfolding times_finished finishes
  times_finishes mask h [] e = refl
  times_finishes mask h (m ∷ l) e = ap₂ ◌+◌ (one m e.0) (times_finishes mask h l e.1)
    where
      one : (m : TreeStep) → Shape m → finishes_mask g mask m ≡ pick (finishes_it (set_of (summed_by g mask) g.axes) m) 1 0
      one (expand Y) s = refl
      one (transfer Y s r n) t = refl
      one (finish Y) s = ap (λ t. pick t 1 0) (same_mask Y mask h s)

  times_any : (mask : ℕ) → mask < 2 ^ g.axes → times_finished g mask (steps g) ≡ any (summed_by g mask) g.axes 0
  times_any mask h =
      times_finishes mask h (steps g) (every_step Shape g (λ Y h. tt) (λ Y j b l d h t r. tt) (λ Y h n. h)) ∙ finished_once g (summed_by g mask)

  pub root_mask : mask_of g [] ≡ full_mask g.axes
  root_mask = mask_powers [] ∙ powers_cong (λ a. not (has [] (g.rank a))) (λ a. true) g.axes all ∙ powers_all g.axes
    where
      all : (a : ℕ) → a < g.axes → not (has [] (g.rank a)) ≡ true
      all a h = unfold has in refl

  -- a mask below the full one sums something out
  some_summed : (mask : ℕ) → mask < full_mask g.axes → any (summed_by g mask) g.axes 0 ≡ 1
  some_summed mask h =
      any_cases (summed_by g mask) g.axes 0
      (λ z.
      let e : set_of (summed_by g mask) g.axes ≡ [] = any_none (summed_by g mask) g.axes 0 g.axes (zero-add _) z ∙ (unfold set_of in refl) in
      let q : mask ≡ full_mask g.axes = sym (mask_set mask (below mask h)) ∙ ap (mask_of g) e ∙ root_mask in
      absurd (omega arith))
      (λ z. z)
    where
      below : (mask : ℕ) → mask < full_mask g.axes → mask < 2 ^ g.axes
      below mask h = let q : mask < 2 ^ g.axes - 1 = (unfold full_mask in h) in omega arith

  none_any : (f : ℕ → Bool) (m d n : ℕ) → d + m ≡ n → ((e : ℕ) → e < n → f e ≡ false) → any f m d ≡ 0
  unfolding any
  none_any f zero d n e h = refl
  none_any f (suc m) d n e h = rw (h d (omega arith)) (none_any f m (d + 1) n (omega arith) h)

  none_summed : any (summed_by g (full_mask g.axes)) g.axes 0 ≡ 0
  none_summed = none_any (summed_by g (full_mask g.axes)) g.axes 0 g.axes (zero-add _) (λ d h. unfold summed_by in ap not (keeps_full g.axes (g.order d) (ok.order_lt d h)))

  -- EACH CHOICE BUT THE FULL ONE IS FINISHED EXACTLY ONCE, and the full one never.
  pub finished_exactly_once : (mask : ℕ) → mask < full_mask g.axes → times_finished g mask (steps g) ≡ 1
  finished_exactly_once mask h = times_any mask (let q : mask < 2 ^ g.axes - 1 = (unfold full_mask in h) in omega arith) ∙ some_summed mask h

  pub full_never_finished : times_finished g (full_mask g.axes) (steps g) ≡ 0
  full_never_finished = times_any (full_mask g.axes) (let p = pow_pos g.axes in (unfold full_mask in omega arith)) ∙ none_summed

  -- nor is any other mask
  powers_lt : (t : ℕ → Bool) (n : ℕ) → sum_n n (λ a. pick (t a) 0 (2 ^ a)) < 2 ^ n
  unfolding sum_n
  powers_lt t zero = omega arith
  powers_lt t (suc n) =
      let i = powers_lt t n in
      let d : 2 ^ suc n ≡ 2 ^ n + 2 ^ n = omega arith in
      by (t n) (λ e. rw e (omega arith)) (λ e. rw e (omega arith))

  mask_small : (Z : List ℕ) → mask_of g Z < 2 ^ g.axes
  unfolding mask_of
  mask_small Z = powers_lt (λ a. has Z (g.rank a)) g.axes

  times_none : (mask : ℕ) → 2 ^ g.axes ≤ mask → (l : List TreeStep) → times_finished g mask l ≡ 0
  unfolding times_finished
  times_none mask h [] = refl
  times_none mask h (m ∷ l) = ap₂ ◌+◌ (one m) (times_none mask h l)
    where
      one : (m : TreeStep) → finishes_mask g mask m ≡ 0
      one (expand Y) = refl
      one (transfer Y s r n) = refl
      one (finish Y) = let k = mask_small Y in rw (ne_eqb (mask_of g Y) mask (λ e. omega arith)) refl

  pub no_other_finished : (mask : ℕ) → full_mask g.axes ≤ mask → times_finished g mask (steps g) ≡ 0
  no_other_finished mask h =
      by (eqb mask (full_mask g.axes))
      (λ t. ap (λ m. times_finished g m (steps g)) (eqb-true mask (full_mask g.axes) t) ∙ full_never_finished)
      (λ t. (let e = eqb-false mask (full_mask g.axes) t in let p = pow_pos g.axes in let k : 2 ^ g.axes - 1 ≤ mask = (unfold full_mask in h) in let q : (mask ≡ 2 ^ g.axes - 1 → ⊥) = (unfold full_mask in e) in times_none mask (omega (arith, p, k, q)) (steps g)))

-- for every sound plan
pub no_other_choice : (a : PlanLists) → Sound a → (mask : ℕ) → full_mask (length a.lengths) ≤ mask → times_finished (grid_of a) mask (steps (grid_of a)) ≡ 0
no_other_choice a ok mask h = no_other_finished (grid_of a) (grid_lawful a ok) mask (unfold grid_of in h)

pub each_choice_once : (a : PlanLists) → Sound a → (mask : ℕ) → mask < full_mask (length a.lengths) → times_finished (grid_of a) mask (steps (grid_of a)) ≡ 1
each_choice_once a ok mask h = finished_exactly_once (grid_of a) (grid_lawful a ok) mask (unfold grid_of in h)

-- THE CELLS OF A CHOICE, by its mask over the axes and by its summed-out set over the plan, are the same number.
pub cells_joined : (a : PlanLists) → Sound a → (Y : List ℕ) → cells a.lengths (mask_of (grid_of a) Y) ≡ choice_cells (length a.lengths) (length_at a) Y
cells_joined a ok Y = sym (places ∙ product_order a ok axis ∙ axes)
  where
    axis : ℕ → ℕ
    axis x = pick (has Y (find x a.order)) 1 (get_or a.lengths x 0)

    places : choice_cells (length a.lengths) (length_at a) Y ≡ product (λ d. axis (get_or a.order d 0)) (length a.lengths) 0
    places = unfold choice_cells kept in product_cong (length a.lengths) 0 (λ d l r. ap (λ y. pick (has Y y) 1 (length_at a d)) (sym (rank_order a ok d (omega arith))))

    kept_or : (x : ℕ) → x < length a.lengths → axis x ≡ kept_length a.lengths (mask_of (grid_of a) Y) x
    kept_or x h =
        let e : keeps (mask_of (grid_of a) Y) x ≡ not (has Y (find x a.order)) = (unfold grid_of in keeps_mask (grid_of a) (grid_lawful a ok) Y x (unfold grid_of in h)) in
        by (has Y (find x a.order))
        (λ t. rw t (sym (summed_length a.lengths _ x (e ∙ ap not t))))
        (λ t. rw t (sym (kept_length_lem a.lengths _ x (e ∙ ap not t))))

    axes : product axis (length a.lengths) 0 ≡ cells a.lengths (mask_of (grid_of a) Y)
    axes = unfold cells in product_cong (length a.lengths) 0 (λ x l r. kept_or x (omega arith))
