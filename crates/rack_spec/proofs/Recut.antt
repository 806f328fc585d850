-- Boards, A, T, the steps and the values moved do not hang on how the axes are cut.
use Prim.Native.Nat.{ℕ, zero, suc, ◌+◌, ◌-◌, ◌<◌}
use mathlib.Core.Path.{◌≡◌, sym, ◌∙◌, refl, ap, ap₂}
use mathlib.Core.Bool.{Bool, true, false}
use mathlib.Core.List.{List, [], ◌∷◌, ◌++◌}
use native.Mathlib.Nat.{zero-add}
use lib.ListN.{length, take}
use Rattle.cube_spec.specs.Boxes.{pick, sum_n}
use Rattle.cube_spec.specs.Portions.{portion_start}
use Rattle.cube_spec.specs.Tree.{last_of, parent_of}
use Rattle.cube_spec.specs.Before.{floor_start, Cuts, Cutting}
use Rattle.cube_spec.proofs.Before.{floor_cuts}
use Rattle.cube_spec.proofs.Sets.{Down, over_cong}
use Rattle.plan_spec.specs.Plans.{PlanLists, Sound, most_at, share_size}
use Rattle.plan_spec.proofs.Orders.{order_below}
use Rattle.rack_spec.specs.Grids.{Grid, Lawful, grid_of, boards, label, board_with, with_label, lead, share}
use Rattle.rack_spec.specs.Steps.{TreeStep, expand, transfer, finish, each, sends, transfers, around, walk, steps}
use Rattle.rack_spec.specs.Held.{expands_it, finishes_it, expansions, finishes, own, held}
use Rattle.rack_spec.specs.Recut.{recut, uncounted, uncounted_all, Unmoved}
use Rattle.rack_spec.proofs.Lawful.{grid_lawful}
use Rattle.rack_spec.proofs.Moving.{values_steps, values_moved}
use Rattle.rack_spec.proofs.Spread.{live, held_sum, root_sum, whole, own_sum}
use Rattle.rack_spec.proofs.Counting.{board_count_lem, steps_count, steps_length}

-- ---- lists of steps without their numbers of values

uncounted_append : (l r : List TreeStep) → uncounted_all (l ++ r) ≡ uncounted_all l ++ uncounted_all r
unfolding uncounted_all
uncounted_append [] r = refl
uncounted_append (m ∷ l) r = ap (λ s. uncounted m ∷ s) (uncounted_append l r)

uncounted_each : (n : ℕ) (f h : ℕ → List TreeStep) → ((b : ℕ) → uncounted_all (f b) ≡ uncounted_all (h b)) → uncounted_all (each n f) ≡ uncounted_all (each n h)
unfolding each
uncounted_each zero f h e = refl
uncounted_each (suc n) f h e = uncounted_append (each n f) (f n) ∙ ap₂ ◌++◌ (uncounted_each n f h e) (e n) ∙ sym (uncounted_append (each n h) (h n))

take_uncounted : (n : ℕ) (l : List TreeStep) → uncounted_all (take n l) ≡ take n (uncounted_all l)
unfolding uncounted_all
take_uncounted zero l = refl
take_uncounted (suc n) [] = refl
take_uncounted (suc n) (m ∷ l) = ap (λ s. uncounted m ∷ s) (take_uncounted n l)

expansions_uncounted : (Y : List ℕ) (l : List TreeStep) → expansions Y (uncounted_all l) ≡ expansions Y l
unfolding expansions uncounted_all
expansions_uncounted Y [] = refl
expansions_uncounted Y (expand Z ∷ l) = ap (λ n. pick (expands_it Y (expand Z)) 1 0 + n) (expansions_uncounted Y l)
expansions_uncounted Y (transfer Z s r n ∷ l) = ap (λ n. 0 + n) (expansions_uncounted Y l)
expansions_uncounted Y (finish Z ∷ l) = ap (λ n. 0 + n) (expansions_uncounted Y l)

finishes_uncounted : (Y : List ℕ) (l : List TreeStep) → finishes Y (uncounted_all l) ≡ finishes Y l
unfolding finishes uncounted_all
finishes_uncounted Y [] = refl
finishes_uncounted Y (expand Z ∷ l) = ap (λ n. 0 + n) (finishes_uncounted Y l)
finishes_uncounted Y (transfer Z s r n ∷ l) = ap (λ n. 0 + n) (finishes_uncounted Y l)
finishes_uncounted Y (finish Z ∷ l) = ap (λ n. pick (finishes_it Y (finish Z)) 1 0 + n) (finishes_uncounted Y l)

live_uncounted : (l r : List TreeStep) → uncounted_all l ≡ uncounted_all r → (Y : List ℕ) → live l Y ≡ live r Y
live_uncounted l r e Y =
    let x : expansions (parent_of Y) l ≡ expansions (parent_of Y) r = sym (expansions_uncounted (parent_of Y) l) ∙ ap (expansions (parent_of Y)) e ∙ expansions_uncounted (parent_of Y) r in
    let f : finishes Y l ≡ finishes Y r = sym (finishes_uncounted Y l) ∙ ap (finishes Y) e ∙ finishes_uncounted Y r in
    rw (x, f)

-- ---- a grid cut by another rule

module _ (rule : ℕ → ℕ → ℕ → ℕ) (g : Grid) where
  abbrev other : Grid
  other = recut rule g

  boards_recut : boards other ≡ boards g
  unfolding boards
  boards_recut = refl

  sender_recut : (b j l : ℕ) → with_label other b j l ≡ with_label g b j l
  unfolding with_label board_with label
  sender_recut b j l = refl

  lead_recut : (Y : List ℕ) (b : ℕ) → lead other Y b ≡ lead g Y b
  unfolding lead label
  lead_recut [] b = refl
  lead_recut (j ∷ Y) b = rw (lead_recut Y b)

  sends_recut : (Y : List ℕ) (b n : ℕ) → uncounted_all (sends other Y b n) ≡ uncounted_all (sends g Y b n)
  unfolding sends uncounted_all
  sends_recut Y b n = uncounted_each n _ _ (λ l. ap (λ s. transfer Y s b 0 ∷ []) (sender_recut b (last_of Y) (suc l)))

  transfers_recut : (Y : List ℕ) (n : ℕ) → uncounted_all (transfers other Y n) ≡ uncounted_all (transfers g Y n)
  unfolding transfers
  transfers_recut Y n = uncounted_each n _ _ (λ b. rw (lead_recut Y b) (one b (lead g Y b)))
    where
      one : (b : ℕ) (t : Bool) → uncounted_all (pick t (sends other Y b (g.parts (last_of Y) - 1)) []) ≡ uncounted_all (pick t (sends g Y b (g.parts (last_of Y) - 1)) [])
      one b true = sends_recut Y b (g.parts (last_of Y) - 1)
      one b false = refl

  finish_recut : (Y : List ℕ) (l r : List TreeStep) → uncounted_all l ≡ uncounted_all r → uncounted_all (l ++ (finish Y ∷ [])) ≡ uncounted_all (r ++ (finish Y ∷ []))
  finish_recut Y l r e = uncounted_append l (finish Y ∷ []) ∙ ap (λ s. s ++ uncounted_all (finish Y ∷ [])) e ∙ sym (uncounted_append r (finish Y ∷ []))

  around_recut : (Y : List ℕ) (m : ℕ) (l r : List TreeStep) → uncounted_all l ≡ uncounted_all r → uncounted_all (around Y m l) ≡ uncounted_all (around Y m r)
  unfolding uncounted_all
  around_recut Y zero l r e = finish_recut Y l r e
  around_recut Y (suc m) l r e = ap (λ s. expand Y ∷ s) (finish_recut Y l r e)

  walk_recut : (m d : ℕ) (Y : List ℕ) → uncounted_all (walk other m d Y) ≡ uncounted_all (walk g m d Y)
  unfolding walk
  walk_recut zero d Y = refl
  walk_recut (suc m) d Y =
      uncounted_append (walk other m (d + 1) Y) _
      ∙ ap₂ ◌++◌ (walk_recut m (d + 1) Y) (uncounted_append (transfers other (d ∷ Y) (boards other)) _ ∙ ap₂ ◌++◌ (ap (λ n. uncounted_all (transfers other (d ∷ Y) n)) boards_recut ∙ transfers_recut (d ∷ Y) (boards g)) (around_recut (d ∷ Y) m _ _ (walk_recut m (d + 1) (d ∷ Y))) ∙ sym (uncounted_append (transfers g (d ∷ Y) (boards g)) _))
      ∙ sym (uncounted_append (walk g m (d + 1) Y) _)

  pub steps_recut : uncounted_all (steps other) ≡ uncounted_all (steps g)
  unfolding steps uncounted_all
  steps_recut = ap (λ s. expand [] ∷ s) (walk_recut g.axes 0 [])

-- ---- a sound plan's grid

-- the rule in force cuts it as it is cut
pub recut_now : (a : PlanLists) → recut portion_start (grid_of a) ≡ grid_of a
unfolding grid_of
recut_now a = refl

module _ (rule : ℕ → ℕ → ℕ → ℕ) (cutting : Cutting rule) (a : PlanLists) (ok : Sound a) where
  abbrev g : Grid
  g = grid_of a

  law : Lawful g
  law = grid_lawful a ok

  pub recut_lawful : Lawful (recut rule g)
  unfolding grid_of most_at
  recut_lawful =
      record {
        some = law.some;
        first = λ d r. (cut d r).first;
        last = λ d r. (cut d r).last;
        rising = λ d l r h. (cut d r).rising l h;
        widest = λ d l r h. (cut d r).widest l h;
        order_lt = law.order_lt;
        rank_lt = law.rank_lt;
        rank_order = law.rank_order;
        order_rank = law.order_rank;
      }
    where
      cut : (d : ℕ) → d < (grid_of a).axes → Cuts ((grid_of a).len d) ((grid_of a).parts d) (rule ((grid_of a).len d) ((grid_of a).parts d))
      cut d r = cutting (g.len d) (g.parts d) (law.some d r) (unfold grid_of in ok.cut _ (order_below a ok d r))

  -- of each choice the boards together form as many cells as before
  own_recut : (Y : List ℕ) → Down Y g.axes → sum_n (boards (recut rule g)) (λ b. own (recut rule g) b Y) ≡ sum_n (boards g) (λ b. own g b Y)
  unfolding whole
  own_recut [] h = root_sum (recut rule g) recut_lawful ∙ sym (root_sum g law)
  own_recut (j ∷ Y) h = own_sum (recut rule g) recut_lawful Y j h ∙ sym (own_sum g law Y j h)

  held_recut : (at : ℕ) → sum_n (boards (recut rule g)) (held (recut rule g) at) ≡ sum_n (boards g) (held g at)
  unfolding held
  held_recut at =
      held_sum (recut rule g) (take at (steps (recut rule g)))
      ∙ over_cong _ _ g.axes 0 g.axes [] (zero-add g.axes) tt (λ Y h. ap₂ (λ t n. pick t n 0) (live_uncounted _ _ (take_uncounted at (steps (recut rule g)) ∙ ap (take at) (steps_recut rule g) ∙ sym (take_uncounted at (steps g))) Y) (own_recut Y h))
      ∙ sym (held_sum g (take at (steps g)))

  -- THE LAW: nothing of this moves
  pub unmoved : 0 < length a.lengths → Unmoved a (recut rule g)
  unmoved some =
      record {
        as_many = boards_recut rule g ∙ board_count_lem a ok;
        as_large = (unfold share grid_of share_size in refl);
        as_long = steps_count (recut rule g) recut_lawful (unfold grid_of in some) ∙ sym (steps_count g law (unfold grid_of in some)) ∙ steps_length a ok some;
        as_listed = steps_recut rule g;
        as_moved = values_steps (recut rule g) recut_lawful ∙ sym (values_steps g law) ∙ values_moved a ok;
        as_held = held_recut;
      }

-- so it was by the rule of paper 01
pub unmoved_since : (a : PlanLists) → Sound a → 0 < length a.lengths → Unmoved a (recut floor_start (grid_of a))
unmoved_since = unmoved floor_start floor_cuts
