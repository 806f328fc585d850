-- The groups of a report: how many there are, and which one a finish prints.
use Prim.Native.Nat.{ℕ, zero, suc, ◌+◌, ◌-◌, ◌^◌}
use mathlib.Core.Path.{◌≡◌, sym, ◌∙◌, refl, ap, ap₂}
use mathlib.Core.Bool.{Bool, true, false}
use mathlib.Core.Option.{Option, none, some}
use mathlib.Core.List.{List, [], ◌∷◌, ◌++◌, append_assoc}
use native.Mathlib.Omega.{arith}
use lib.ListN.{length, take, drop, get_or, get_elem?, length-append, take-append-drop}
use lib.Seq.{get_or-append_seam}
use lib.IntN.{ℤ}
use Rattle.cube_spec.specs.Boxes.{pick}
use Rattle.cube_spec.specs.Tree.{last_of}
use Rattle.cube_spec.proofs.Sums.{by}
use Rattle.plan_spec.specs.Plans.{PlanLists}
use Rattle.rack_spec.specs.Grids.{Grid, grid_of, mask_of, boards, with_label, lead, cells}
use Rattle.rack_spec.specs.Steps.{TreeStep, expand, transfer, finish, each, sends, transfers, around, walk, steps}
use Rattle.run_spec.proofs.Positions.{take_next}
use Rattle.report_spec.specs.Printed.{group_line, group_lines}

module _ (a : PlanLists) (array : ℕ → ℤ) where
  lines_append : (l r : List TreeStep) → group_lines a array (l ++ r) ≡ group_lines a array l ++ group_lines a array r
  unfolding group_lines
  lines_append [] r = refl
  lines_append (expand Y ∷ l) r = lines_append l r
  lines_append (transfer Y s t n ∷ l) r = lines_append l r
  lines_append (finish Y ∷ l) r = ap (λ x. group_line a.lengths array (mask_of (grid_of a) Y) ∷ x) (lines_append l r)

  -- ---- how many

  each_none : (n : ℕ) (f : ℕ → List TreeStep) → ((i : ℕ) → group_lines a array (f i) ≡ []) → group_lines a array (each n f) ≡ []
  unfolding each
  each_none zero f h = unfold group_lines in refl
  each_none (suc n) f h = lines_append (each n f) (f n) ∙ ap₂ ◌++◌ (each_none n f h) (h n)

  sends_none : (g : Grid) (Y : List ℕ) (b n : ℕ) → group_lines a array (sends g Y b n) ≡ []
  unfolding sends group_lines
  sends_none g Y b n = each_none n (λ l. let s = with_label g b (last_of Y) (suc l) in transfer Y s b (cells g Y s) ∷ []) (λ i. refl)

  pick_none : (t : Bool) (l : List TreeStep) → group_lines a array l ≡ [] → group_lines a array (pick t l []) ≡ []
  pick_none true l h = h
  pick_none false l h = unfold group_lines in refl

  transfers_none : (g : Grid) (Y : List ℕ) (n : ℕ) → group_lines a array (transfers g Y n) ≡ []
  unfolding transfers
  transfers_none g Y n = each_none n (λ b. pick (lead g Y b) (sends g Y b (g.parts (last_of Y) - 1)) []) (λ b. pick_none (lead g Y b) (sends g Y b (g.parts (last_of Y) - 1)) (sends_none g Y b (g.parts (last_of Y) - 1)))

  count : List TreeStep → ℕ
  count l = length (group_lines a array l)

  count_append : (l r : List TreeStep) → count (l ++ r) ≡ count l + count r
  unfolding count
  count_append l r = ap length (lines_append l r) ∙ length-append (group_lines a array l) (group_lines a array r)

  count_finish : (Y : List ℕ) → count (finish Y ∷ []) ≡ 1
  unfolding count group_lines
  count_finish Y = refl

  visit_count : (Y : List ℕ) (m : ℕ) (inner : List TreeStep) → count (around Y m inner) ≡ count inner + 1
  visit_count Y zero inner = let f = count_finish Y in let c = count_append inner (finish Y ∷ []) in omega arith
  visit_count Y (suc m) inner =
      let f = count_finish Y in
      let c = count_append inner (finish Y ∷ []) in
      let e : count (expand Y ∷ (inner ++ (finish Y ∷ []))) ≡ count (inner ++ (finish Y ∷ [])) = (unfold count group_lines in refl) in
      omega arith

  walk_count_lem : (g : Grid) (m d : ℕ) (Y : List ℕ) → count (walk g m d Y) + 1 ≡ 2 ^ m
  unfolding walk
  walk_count_lem g zero d Y = unfold count group_lines in refl
  walk_count_lem g (suc m) d Y =
      let i = walk_count_lem g m (d + 1) Y in
      let k = walk_count_lem g m (d + 1) (d ∷ Y) in
      let v = visit_count (d ∷ Y) m (walk g m (d + 1) (d ∷ Y)) in
      let t : count (transfers g (d ∷ Y) (boards g)) ≡ 0 = (unfold count in ap length (transfers_none g (d ∷ Y) (boards g))) in
      let x = count_append (transfers g (d ∷ Y) (boards g)) (around (d ∷ Y) m (walk g m (d + 1) (d ∷ Y))) in
      let y = count_append (walk g m (d + 1) Y) (transfers g (d ∷ Y) (boards g) ++ around (d ∷ Y) m (walk g m (d + 1) (d ∷ Y))) in
      omega arith

  -- one group for each choice but the full one
  pub steps_groups : (g : Grid) → length (group_lines a array (steps g)) + 1 ≡ 2 ^ g.axes
  steps_groups g =
      let w = walk_count_lem g g.axes 0 [] in
      let e : length (group_lines a array (steps g)) ≡ count (walk g g.axes 0 []) = (unfold steps count group_lines in refl) in
      omega arith

  -- ---- which one

  module _ (l : List TreeStep) (at : ℕ) where
    -- the groups printed before a position
    abbrev pub sofar : ℕ
    sofar = length (group_lines a array (take at l))

    abbrev pub sonext : ℕ
    sonext = length (group_lines a array (take (at + 1) l))

    next_lines : (m : TreeStep) → get_elem? l at ≡ some m → sonext ≡ sofar + length (group_lines a array (m ∷ []))
    next_lines m e =
        let n : at + 1 ≡ suc at = omega arith in
        rw (n, take_next l at m e) (unfold count in count_append (take at l) (m ∷ []))

    -- a step that is no finish prints nothing
    pub passed_over : (m : TreeStep) → get_elem? l at ≡ some m → ((Y : List ℕ) → m ≡ finish Y → ⊥) → sonext ≡ sofar
    passed_over (expand Y) e h = let n = next_lines (expand Y) e in let z : length (group_lines a array (expand Y ∷ [])) ≡ 0 = (unfold group_lines in refl) in omega arith
    passed_over (transfer Y s r c) e h = let n = next_lines (transfer Y s r c) e in let z : length (group_lines a array (transfer Y s r c ∷ [])) ≡ 0 = (unfold group_lines in refl) in omega arith
    passed_over (finish Y) e h = absurd (h Y refl)

    module _ (Y : List ℕ) (e : get_elem? l at ≡ some (finish Y)) where
      pub one_more : sonext ≡ sofar + 1
      one_more = let n = next_lines (finish Y) e in let z : length (group_lines a array (finish Y ∷ [])) ≡ 1 = (unfold group_lines in refl) in omega arith

      whole : group_lines a array l ≡ group_lines a array (take at l) ++ (group_line a.lengths array (mask_of (grid_of a) Y) ∷ group_lines a array (drop (suc at) l))
      whole =
          let s : l ≡ take at l ++ (finish Y ∷ drop (suc at) l) = sym (take-append-drop (suc at) l) ∙ ap (λ x. x ++ drop (suc at) l) (take_next l at (finish Y) e) ∙ append_assoc (take at l) (finish Y ∷ []) (drop (suc at) l) in
          ap (group_lines a array) s ∙ lines_append (take at l) (finish Y ∷ drop (suc at) l) ∙ (unfold group_lines in refl)

      pub printed_there : get_or (group_lines a array l) sofar [] ≡ group_line a.lengths array (mask_of (grid_of a) Y)
      printed_there = rw whole (get_or-append_seam (group_lines a array (take at l)) (group_line a.lengths array (mask_of (grid_of a) Y)) (group_lines a array (drop (suc at) l)) [])
