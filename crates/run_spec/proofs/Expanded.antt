-- The turns of an expansion: the work area as a list, lead by lead and child by child.
use Prim.Native.Nat.{ℕ, suc, ◌+◌, ◌*◌, ◌≤◌, ◌<◌}
use mathlib.Core.Path.{◌≡◌, sym, ◌∙◌, refl, ap, ap₂, fun_ext}
use mathlib.Core.Bool.{true}
use mathlib.Core.List.{List, [], ◌∷◌}
use native.Mathlib.Nat.{zero-add, le-div_iff_mul-le}
use native.Mathlib.Omega.{arith}
use borrow.Author.Tests.{ltb-true, ltb-false}
use lib.Dec.{ltb}
use lib.ListN.{length, get_or-eq_default}
use lib.IntN.{ℤ, pos}
use Rattle.cube_spec.specs.Boxes.{table}
use Rattle.cube_spec.specs.Tree.{next}
use Rattle.cube_spec.proofs.Sums.{by}
use Rattle.cube_spec.proofs.Sets.{Down}
use Rattle.cube_spec.proofs.Tables.{table_length, table_at, table_of}
use Rattle.plan_spec.specs.Plans.{lists_of}
use Rattle.plan_spec.specs.Refusals.{plan_refusal}
use Rattle.plan_spec.specs.declared.types.Plan.{Plan}
use Rattle.plan_spec.specs.Accepted.{Accepted}
use Rattle.rack_spec.specs.Grids.{Grid, Lawful, summed_by, summed, boards, lead, share, board_of}
use Rattle.rack_spec.specs.Steps.{expand}
use Rattle.rack_spec.specs.Finding.{plan_grid, summed_in, leads, lead_at}
use Rattle.rack_spec.proofs.Tallied.{lawful, axes_same}
use Rattle.rack_spec.proofs.Planned.{set_down}
use Rattle.run_spec.specs.Memory.{read, formed, source, after, stepped}
use Rattle.run_spec.specs.Entries.{work_cells}
use Rattle.run_spec.specs.Expansions.{one_child, children_to, ranks_to, Forms, Expands}
use Rattle.run_spec.proofs.Gathering.{table_same}
use Rattle.run_spec.proofs.Expanding.{children_idle, ranks_idle, children_start, children_more, ranks_start, ranks_more, ranks_end, expand_past}
use Rattle.run_spec.proofs.Lists.{share_pos}
use Rattle.run_spec.proofs.Refusing.{area_boards}
use Rattle.run_spec.proofs.Unwrapped.{region_lt}

-- a choice in the work area does not read the array
pub array_unread : (g : Grid) (a a' : ℕ → ℤ) (Y : List ℕ) (b j : ℕ) (w : ℕ → ℤ) (i : ℕ) → 0 < next Y → children_to g a Y b j w i ≡ children_to g a' Y b j w i
array_unread g a a' [] b j w i h = absurd (omega arith)
array_unread g a a' (k ∷ Z) b j w i h = unfold children_to after formed source in refl

-- a table read: what the function gives, if past its end that is what the list gave
table_read : (w : List ℤ) (f : ℕ → ℤ) → ((i : ℕ) → length w ≤ i → f i ≡ read w i) → read (table (length w) f) ≡ f
table_read w f past = fun_ext (λ i. by (ltb i (length w)) (λ t. inside i (ltb-true i (length w) t)) (λ t. outside i (ltb-false i (length w) t)))
  where
    inside : (i : ℕ) → i < length w → read (table (length w) f) i ≡ f i
    inside i h = table_at (length w) 0 f i (pos 0) h ∙ ap f (zero-add i)

    outside : (i : ℕ) → length w ≤ i → read (table (length w) f) i ≡ f i
    outside i h = get_or-eq_default (table (length w) f) (pos 0) {n = i} (rw (table_length (length w) 0 f) h) ∙ sym (past i h ∙ get_or-eq_default w (pos 0) {n = i} h)

module _ (g : Grid) (ok : Lawful g) (array : ℕ → ℤ) (Y : List ℕ) (d : Down Y g.axes) (some : 0 < share g) (w0 : List ℤ) (room : boards g * share g ≤ length w0) where
  -- the work area with the children on board b in regions before j, and with the leads of a rank below r expanded
  abbrev Formed : ℕ → ℕ → List ℤ
  Formed b j = table (length w0) (children_to g array Y b j (read w0))

  abbrev Led : ℕ → List ℤ
  Led r = table (length w0) (ranks_to g array Y r (read w0))

  -- no cell past the shares is formed
  past_shares : (i : ℕ) → length w0 ≤ i → after g array (expand Y) (read w0) i ≡ read w0 i
  past_shares i h = expand_past g array Y (read w0) 0 0 i (unfold board_of in (le-div_iff_mul-le some).1 (omega arith))

  pub formed_start : (b : ℕ) → w0 ≡ Formed b (next Y)
  formed_start b = table_of (length w0) _ w0 (pos 0) refl (λ i h. sym (children_start g ok array Y d (read w0) b i))

  pub formed_child : (b j : ℕ) → b < boards g → lead g Y b ≡ true → j < g.axes → next Y ≤ j → table (length (Formed b j)) (one_child g array Y b j (read (Formed b j))) ≡ Formed b (j + 1)
  formed_child b j on t h l =
      let z : suc j ≡ j + 1 = omega arith in
      ap₂ (λ n f. table n (one_child g array Y b j f)) (table_length (length w0) 0 (children_to g array Y b j (read w0))) (table_read w0 (children_to g array Y b j (read w0)) (λ i u. children_idle g ok array Y d (read w0) b j i (past_shares i u)))
      ∙ table_same (length w0) _ _ (λ i u. children_more g ok array Y d (read w0) b j on t h l i)
      ∙ ap (Formed b) z

  pub led_start : w0 ≡ Led 0
  led_start = table_of (length w0) _ w0 (pos 0) refl (λ i h. sym (ranks_start g ok array Y d (read w0) i))

  pub led_lead : (r : ℕ) → r < leads g Y → table (length (Led r)) (children_to g array Y (lead_at g Y r) g.axes (read (Led r))) ≡ Led (r + 1)
  led_lead r below =
      let z : suc r ≡ r + 1 = omega arith in
      ap₂ (λ n f. table n (children_to g array Y (lead_at g Y r) g.axes f)) (table_length (length w0) 0 (ranks_to g array Y r (read w0))) (table_read w0 (ranks_to g array Y r (read w0)) (λ i u. ranks_idle g ok array Y d (read w0) r i (past_shares i u)))
      ∙ table_same (length w0) _ _ (λ i u. ranks_more g ok array Y d (read w0) r below i (region_lt g some i))
      ∙ ap Led z

pub led_end : (g : Grid) (ok : Lawful g) (array : List ℤ) (Y : List ℕ) (d : Down Y g.axes) (w0 : List ℤ) (r : ℕ) → leads g Y ≤ r → table (length w0) (ranks_to g (read array) Y r (read w0)) ≡ stepped g array (expand Y) w0
unfolding stepped
led_end g ok array Y d w0 r h = table_same (length w0) _ _ (λ i u. ranks_end g ok (read array) Y d (read w0) r h i)

-- ---- of a machine's plan

-- the state of the loop over a lead's children: those in regions before j are formed
pub record Children (q : Plan) (mask : ℕ) (array : ℕ → ℤ) (b : ℕ) (w0 w : List ℤ) (j : ℕ) : Type 0 where
  pub low : next (summed_in q mask) ≤ j
  pub high : j ≤ q.axes
  pub now : w ≡ table (length w0) (children_to (plan_grid q) array (summed_in q mask) b j (read w0))

-- the state of the loop over the leads: those of a rank below r are expanded
pub record Ranks (q : Plan) (mask : ℕ) (array : ℕ → ℤ) (count : ℕ) (w0 w : List ℤ) (r : ℕ) : Type 0 where
  pub all : count ≡ leads (plan_grid q) (summed_in q mask)
  pub few : count ≤ 1024
  pub high : r ≤ count
  pub now : w ≡ table (length w0) (ranks_to (plan_grid q) array (summed_in q mask) r (read w0))

module _ {q : Plan} (ok : Accepted q) (mask : ℕ) (array : ℕ → ℤ) (w0 : List ℤ) (room : work_cells (lists_of q) ≤ length w0) where
  downs : Down (summed_in q mask) (plan_grid q).axes
  unfolding summed
  downs = set_down (summed_by (plan_grid q) mask) (plan_grid q).axes

  shares : 0 < share (plan_grid q)
  shares = let e = axes_same q ok in let a = ok.axes in let l = ok.lengths.axes in share_pos (plan_grid q) (lawful q ok) (omega arith)

  rooms : boards (plan_grid q) * share (plan_grid q) ≤ length w0
  rooms = rw (area_boards q ok) at room

  -- ---- a lead's children

  pub children_begin : (b first : ℕ) → first ≡ next (summed_in q mask) → first ≤ q.axes → Children q mask array b w0 w0 first
  children_begin b first e l =
      record {
        low = omega arith;
        high = l;
        now = rw e (formed_start (plan_grid q) (lawful q ok) array (summed_in q mask) downs shares w0 rooms b);
      }

  module _ {b j : ℕ} {w : List ℤ} (s : Children q mask array b w0 w j) where
    pub children_length : length w ≡ length w0
    children_length = ap length s.now ∙ table_length (length w0) 0 (children_to (plan_grid q) array (summed_in q mask) b j (read w0))

    pub children_form : plan_refusal q ≡ 0 → b < boards (plan_grid q) → j < q.axes → Forms q mask b j (length w)
    children_form p on h = record { passed = p; board = on; later = s.low; inside = h; room = rw children_length room }

    -- one child more
    pub children_turn : b < boards (plan_grid q) → lead (plan_grid q) (summed_in q mask) b ≡ true → j < q.axes → (w' : List ℤ) → w' ≡ table (length w) (one_child (plan_grid q) array (summed_in q mask) b j (read w)) → Children q mask array b w0 w' (j + 1)
    children_turn on t h w' e =
        let x = axes_same q ok in
        let l = s.low in
        record {
          low = omega arith;
          high = omega arith;
          now = e ∙ ap (λ w. table (length w) (one_child (plan_grid q) array (summed_in q mask) b j (read w))) s.now ∙ formed_child (plan_grid q) (lawful q ok) array (summed_in q mask) downs shares w0 rooms b j on t (omega arith) l;
        }

    pub children_done : q.axes ≤ j → w ≡ table (length w0) (children_to (plan_grid q) array (summed_in q mask) b (plan_grid q).axes (read w0))
    children_done h =
        let x = axes_same q ok in
        let k = s.high in
        let z : j ≡ (plan_grid q).axes = omega arith in
        s.now ∙ ap (λ j. table (length w0) (children_to (plan_grid q) array (summed_in q mask) b j (read w0))) z

  -- ---- the leads

  pub ranks_begin : (count : ℕ) → count ≡ leads (plan_grid q) (summed_in q mask) → count ≤ 1024 → Ranks q mask array count w0 w0 0
  ranks_begin count e f = record { all = e; few = f; high = omega arith; now = led_start (plan_grid q) (lawful q ok) array (summed_in q mask) downs shares w0 rooms }

  module _ {count r : ℕ} {w : List ℤ} (s : Ranks q mask array count w0 w r) where
    pub ranks_length : length w ≡ length w0
    ranks_length = ap length s.now ∙ table_length (length w0) 0 (ranks_to (plan_grid q) array (summed_in q mask) r (read w0))

    pub ranks_expand : plan_refusal q ≡ 0 → r < count → Expands q mask r (length w)
    ranks_expand p h = let e = s.all in record { passed = p; below = omega arith; room = rw ranks_length room }

    -- one lead more
    pub ranks_turn : r < count → (w' : List ℤ) → w' ≡ table (length w) (children_to (plan_grid q) array (summed_in q mask) (lead_at (plan_grid q) (summed_in q mask) r) (plan_grid q).axes (read w)) → Ranks q mask array count w0 w' (r + 1)
    ranks_turn h w' e =
        let a = s.all in
        record {
          all = s.all;
          few = s.few;
          high = omega arith;
          now = e ∙ ap (λ w. table (length w) (children_to (plan_grid q) array (summed_in q mask) (lead_at (plan_grid q) (summed_in q mask) r) (plan_grid q).axes (read w))) s.now ∙ led_lead (plan_grid q) (lawful q ok) array (summed_in q mask) downs shares w0 rooms r (omega arith);
        }

pub ranks_done : {q : Plan} (ok : Accepted q) (mask : ℕ) (array w0 : List ℤ) (room : work_cells (lists_of q) ≤ length w0) {count r : ℕ} {w : List ℤ} → Ranks q mask (read array) count w0 w r → count ≤ r → w ≡ stepped (plan_grid q) array (expand (summed_in q mask)) w0
ranks_done {q} ok mask array w0 room {count} {r} s h =
    let e = s.all in
    s.now ∙ led_end (plan_grid q) (lawful q ok) array (summed_in q mask) (downs ok mask (read array) w0 room) w0 r (omega arith)
