-- An expansion done lead by lead and child by child, as code does it: the work area on the way, and a law for each turn of a loop.
use Prim.Native.Nat.{ℕ, suc, ◌≤◌, ◌<◌}
use mathlib.Core.Path.{◌≡◌, sym, ◌∙◌, refl, ap}
use mathlib.Core.Bool.{Bool, true, false, ◌&&◌, and-false}
use mathlib.Core.List.{List, [], ◌∷◌}
use native.Mathlib.Nat.{le_refl}
use native.Mathlib.Omega.{arith}
use borrow.Author.Tests.{eqb-true, eqb-false, eq-eqb, ne_eqb, lt-ltb, le-ltb, ltb-true, ltb-false, leb-true, le-leb}
use lib.Dec.{eqb, ltb, leb}
use lib.IntN.{ℤ}
use Rattle.cube_spec.specs.Boxes.{pick, put, position, Within}
use Rattle.cube_spec.specs.Tree.{has, next}
use Rattle.cube_spec.proofs.Sums.{by, sum_cong}
use Rattle.cube_spec.proofs.Naturals.{both}
use Rattle.cube_spec.proofs.Boxing.{position_lt}
use Rattle.cube_spec.proofs.Sets.{Down, down_out}
use Rattle.rack_spec.specs.Grids.{Grid, Lawful, boards, lead, extent, box, cells, board_of, region_of, cell_of, cell_at}
use Rattle.rack_spec.specs.Steps.{expand}
use Rattle.rack_spec.specs.Finding.{leads, lead_at}
use Rattle.rack_spec.proofs.Boards.{cell_region}
use Rattle.cell_spec.specs.Wrapped.{wrapped}
use Rattle.run_spec.specs.Memory.{source, formed, forms, after}
use Rattle.run_spec.specs.Copies.{rank_of}
use Rattle.run_spec.specs.Expansions.{one_child, children_to, ranks_to}
use Rattle.run_spec.proofs.Memory.{expand_keeps}
use Rattle.run_spec.proofs.Ranked.{rank_at, at_rank, rank_lt}
use Rattle.run_spec.proofs.Runs.{parent_within}

module _ (g : Grid) (array : ℕ → ℤ) (Y : List ℕ) (work : ℕ → ℤ) (b j i : ℕ) where
  children_here : board_of g i ≡ b → region_of g i < j → children_to g array Y b j work i ≡ after g array (expand Y) work i
  unfolding children_to
  children_here e h = rw (eq-eqb (board_of g i) b e, lt-ltb (region_of g i) j h)

  children_rest : j ≤ region_of g i → children_to g array Y b j work i ≡ work i
  unfolding children_to
  children_rest h = rw (le-ltb (region_of g i) j h) (rw and-false)

  children_else : (board_of g i ≡ b → ⊥) → children_to g array Y b j work i ≡ work i
  unfolding children_to
  children_else h = rw (ne_eqb (board_of g i) b h)

  ranks_before : rank_of g Y (board_of g i) < b → ranks_to g array Y b work i ≡ after g array (expand Y) work i
  unfolding ranks_to
  ranks_before h = rw (lt-ltb (rank_of g Y (board_of g i)) b h)

  ranks_rest : b ≤ rank_of g Y (board_of g i) → ranks_to g array Y b work i ≡ work i
  unfolding ranks_to
  ranks_rest h = rw (le-ltb (rank_of g Y (board_of g i)) b h)

  child_here : board_of g i ≡ b → region_of g i ≡ j → one_child g array Y b j work i ≡ pick (ltb (cell_of g i) (cells g (j ∷ Y) b)) (formed g array work Y b j (cell_of g i)) (work i)
  unfolding one_child
  child_here e h = rw (eq-eqb (board_of g i) b e, eq-eqb (region_of g i) j h)

  child_board : (board_of g i ≡ b → ⊥) → one_child g array Y b j work i ≡ work i
  unfolding one_child
  child_board h = rw (ne_eqb (board_of g i) b h)

  child_region : (region_of g i ≡ j → ⊥) → one_child g array Y b j work i ≡ work i
  unfolding one_child
  child_region h = rw (ne_eqb (region_of g i) j h) (rw and-false)

  expand_here : b < boards g → lead g Y b ≡ true → leb (next Y) j ≡ true → board_of g i ≡ b → region_of g i ≡ j → after g array (expand Y) work i ≡ pick (ltb (cell_of g i) (cells g (j ∷ Y) b)) (formed g array work Y b j (cell_of g i)) (work i)
  unfolding after forms
  expand_here h t s e r = rw (e, r, lt-ltb b (boards g) h, t, s)

  expand_not_lead : lead g Y b ≡ false → board_of g i ≡ b → after g array (expand Y) work i ≡ work i
  unfolding after forms
  expand_not_lead t e = rw (e, t) (rw and-false)

  pub expand_past : boards g ≤ board_of g i → after g array (expand Y) work i ≡ work i
  unfolding after forms
  expand_past h = rw (le-ltb (board_of g i) (boards g) h)

three : {C : Type 0} (a b : ℕ) → (a < b → C) → (a ≡ b → C) → (b < a → C) → C
three a b f e h =
    by (ltb a b) (λ t. f (ltb-true a b t)) (λ t. by (eqb a b) (λ s. e (eqb-true a b s)) (λ s. h (let p = ltb-false a b t in let q = eqb-false a b s in omega (arith, q))))

-- a cell is on a lead, or an expansion keeps it
on_lead : {C : Type 0} (g : Grid) (array : ℕ → ℤ) (Y : List ℕ) (work : ℕ → ℤ) (i : ℕ) → (board_of g i < boards g → lead g Y (board_of g i) ≡ true → C) → (after g array (expand Y) work i ≡ work i → C) → C
on_lead g array Y work i f h =
    by (ltb (board_of g i) (boards g))
    (λ t.
    by (lead g Y (board_of g i))
    (λ s. f (ltb-true _ _ t) s)
    (λ s. h (expand_not_lead g array Y work (board_of g i) 0 i s refl)))
    (λ t. h (expand_past g array Y work 0 0 i (ltb-false (board_of g i) (boards g) t)))

-- ---- what a child's cells depend on

-- a child's cells depend on the parent's region alone
formed_cong : (g : Grid) → Lawful g → (array : ℕ → ℤ) (Y : List ℕ) (b j c : ℕ) (work work' : ℕ → ℤ) → b < boards g → j < g.axes → has Y j ≡ false → c < cells g (j ∷ Y) b → ((k : ℕ) (Z : List ℕ) → Y ≡ k ∷ Z → (i : ℕ) → region_of g i ≡ k → work i ≡ work' i) → ((k : ℕ) (Z : List ℕ) → Y ≡ k ∷ Z → k < g.axes) → formed g array work Y b j c ≡ formed g array work' Y b j c
unfolding formed
formed_cong g ok array Y b j c work work' h r out l same last =
    ap wrapped (sum_cong (extent g b j) (λ m u. one Y same last (put (position (box g (j ∷ Y) b) g.axes 0 c) j m) (parent_within g ok Y b j m _ out (λ d v. position_lt (box g (j ∷ Y) b) g.axes 0 c d (unfold cells in l) (omega arith) (omega arith)) u)))
  where
    one : (Y : List ℕ) → ((k : ℕ) (Z : List ℕ) → Y ≡ k ∷ Z → (i : ℕ) → region_of g i ≡ k → work i ≡ work' i) → ((k : ℕ) (Z : List ℕ) → Y ≡ k ∷ Z → k < g.axes) → (x : ℕ → ℕ) → Within g.axes (box g Y b) x → source g array work Y b x ≡ source g array work' Y b x
    one [] same last x w = unfold source in refl
    one (k ∷ Z) same last x w = unfold source in same k Z refl (cell_at g (k ∷ Z) b x) (cell_region g ok Z b k x h (last k Z refl) w)

module _ (g : Grid) (ok : Lawful g) (array : ℕ → ℤ) (Y : List ℕ) (d : Down Y g.axes) (work : ℕ → ℤ) where
  idle : {x y : ℤ} (t : Bool) → x ≡ y → pick t x y ≡ y
  idle true e = e
  idle false e = refl

  last : (k : ℕ) (Z : List ℕ) → Y ≡ k ∷ Z → k < g.axes
  last k Z e = (rw e at d).0

  later : (j : ℕ) → next Y ≤ j → has Y j ≡ false
  later j l = go Y d l
    where
      go : (Z : List ℕ) → Down Z g.axes → next Z ≤ j → has Z j ≡ false
      go [] e u = unfold has in refl
      go (k ∷ Z) e u = down_out (k ∷ Z) j j (u, e.1) (le_refl j)

  pub children_idle : (b j i : ℕ) → after g array (expand Y) work i ≡ work i → children_to g array Y b j work i ≡ work i
  unfolding children_to
  children_idle b j i e = idle (eqb (board_of g i) b && ltb (region_of g i) j) e

  pub ranks_idle : (r i : ℕ) → after g array (expand Y) work i ≡ work i → ranks_to g array Y r work i ≡ work i
  unfolding ranks_to
  ranks_idle r i e = idle (ltb (rank_of g Y (board_of g i)) r) e

  -- the parent's region stays as it was
  parent : (k : ℕ) (Z : List ℕ) → Y ≡ k ∷ Z → (i : ℕ) → region_of g i ≡ k → after g array (expand Y) work i ≡ work i
  parent k Z e i v = rw e (expand_keeps g ok array work Z k i (omega arith))

  -- ---- on one board

  -- up to the first child nothing is done
  pub children_start : (b i : ℕ) → children_to g array Y b (next Y) work i ≡ work i
  children_start b i =
      by (ltb (region_of g i) (next Y))
      (λ t. children_idle b (next Y) i (before Y (ltb-true _ _ t)))
      (λ t. children_rest g array Y work b (next Y) i (ltb-false (region_of g i) (next Y) t))
    where
      before : (Z : List ℕ) → region_of g i < next Z → after g array (expand Z) work i ≡ work i
      before [] h = absurd (omega arith)
      before (k ∷ Z) h = expand_keeps g ok array work Z k i (omega arith)

  -- one child more
  pub children_more : (b j : ℕ) → b < boards g → lead g Y b ≡ true → j < g.axes → next Y ≤ j → (i : ℕ) → one_child g array Y b j (children_to g array Y b j work) i ≡ children_to g array Y b (suc j) work i
  children_more b j h t r l i =
      by (eqb (board_of g i) b)
      (λ s.
      let u = eqb-true (board_of g i) b s in
      three (region_of g i) j
      (λ v. child_region g array Y (children_to g array Y b j work) b j i (λ e. omega arith) ∙ children_here g array Y work b j i u v ∙ sym (children_here g array Y work b (suc j) i u (omega arith)))
      (λ v. child_here g array Y (children_to g array Y b j work) b j i u v ∙ formed_now u v ∙ sym (expand_here g array Y work b j i h t (le-leb (next Y) j l) u v) ∙ sym (children_here g array Y work b (suc j) i u (omega arith)))
      (λ v. child_region g array Y (children_to g array Y b j work) b j i (λ e. omega arith) ∙ children_rest g array Y work b j i (omega arith) ∙ sym (children_rest g array Y work b (suc j) i v)))
      (λ s.
      let u = eqb-false (board_of g i) b s in
      child_board g array Y (children_to g array Y b j work) b j i u ∙ children_else g array Y work b j i u ∙ sym (children_else g array Y work b (suc j) i u))
    where
      formed_now : board_of g i ≡ b → region_of g i ≡ j → pick (ltb (cell_of g i) (cells g (j ∷ Y) b)) (formed g array (children_to g array Y b j work) Y b j (cell_of g i)) (children_to g array Y b j work i) ≡ pick (ltb (cell_of g i) (cells g (j ∷ Y) b)) (formed g array work Y b j (cell_of g i)) (work i)
      formed_now u v =
          by (ltb (cell_of g i) (cells g (j ∷ Y) b))
          (λ c. rw c (formed_cong g ok array Y b j (cell_of g i) _ _ h r (later j l) (ltb-true _ _ c) (λ k Z e i v. children_idle b j i (parent k Z e i v)) last))
          (λ c. rw c (children_rest g array Y work b j i (omega arith)))

  -- ---- over the leads

  pub ranks_start : (i : ℕ) → ranks_to g array Y 0 work i ≡ work i
  ranks_start i = ranks_rest g array Y work 0 0 i (omega arith)

  -- a lead's children are the same whatever leads of a lower rank are expanded
  after_ranks : (r i : ℕ) → region_of g i < g.axes → ranks_to g array Y r work i ≡ work i → after g array (expand Y) (ranks_to g array Y r work) i ≡ after g array (expand Y) work i
  unfolding after forms
  after_ranks r i u e =
      by (forms g Y (board_of g i) (region_of g i) (cell_of g i))
      (λ t.
      let p = both (ltb (board_of g i) (boards g)) _ t in
      let q = both (lead g Y (board_of g i)) _ p.1 in
      let s = both (leb (next Y) (region_of g i)) _ q.1 in
      rw t (formed_cong g ok array Y (board_of g i) (region_of g i) (cell_of g i) _ _ (ltb-true _ _ p.0) u (later (region_of g i) (leb-true _ _ s.0)) (ltb-true _ _ s.1) (λ k Z e i v. ranks_idle r i (parent k Z e i v)) last))
      (λ t. rw t e)

  -- one lead more
  pub ranks_more : (r : ℕ) → r < leads g Y → (i : ℕ) → region_of g i < g.axes → children_to g array Y (lead_at g Y r) g.axes (ranks_to g array Y r work) i ≡ ranks_to g array Y (suc r) work i
  ranks_more r below i u =
      by (eqb (board_of g i) (lead_at g Y r))
      (λ t.
      let e = eqb-true (board_of g i) (lead_at g Y r) t in
      let k : rank_of g Y (board_of g i) ≡ r = ap (rank_of g Y) e ∙ rank_at g ok Y d r below in
      children_here g array Y (ranks_to g array Y r work) (lead_at g Y r) g.axes i e u
      ∙ after_ranks r i u (ranks_rest g array Y work r 0 i (omega arith))
      ∙ sym (ranks_before g array Y work (suc r) 0 i (omega arith)))
      (λ t.
      let ne = eqb-false (board_of g i) (lead_at g Y r) t in
      children_else g array Y (ranks_to g array Y r work) (lead_at g Y r) g.axes i ne
      ∙ three (rank_of g Y (board_of g i)) r
      (λ h. ranks_before g array Y work r 0 i h ∙ sym (ranks_before g array Y work (suc r) 0 i (omega arith)))
      (λ h.
      ranks_rest g array Y work r 0 i (omega arith)
      ∙ sym (ranks_before g array Y work (suc r) 0 i (omega arith)
      ∙ on_lead g array Y work i (λ o s. absurd (ne (sym (at_rank g ok Y d (board_of g i) o s) ∙ ap (lead_at g Y) h))) (λ s. s)))
      (λ h. ranks_rest g array Y work r 0 i (omega arith) ∙ sym (ranks_rest g array Y work (suc r) 0 i h)))

  pub ranks_end : (r : ℕ) → leads g Y ≤ r → (i : ℕ) → ranks_to g array Y r work i ≡ after g array (expand Y) work i
  ranks_end r h i =
      on_lead g array Y work i
      (λ o s. let k = rank_lt g ok Y d (board_of g i) o s in ranks_before g array Y work r 0 i (omega arith))
      (λ s. ranks_idle r i s ∙ sym s)
