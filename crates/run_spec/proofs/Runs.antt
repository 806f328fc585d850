-- A run's totals are exact: the induction on the walk. No index is computed with here.
use Prim.Native.Nat.{ℕ, zero, suc, ◌+◌, ◌-◌, ◌≤◌, ◌<◌}
use mathlib.Core.Path.{◌≡◌, sym, ◌∙◌, refl, ap, ap₂}
use mathlib.Core.Bool.{Bool, true, false}
use mathlib.Core.List.{List, [], ◌∷◌, ◌++◌}
use native.Mathlib.Nat.{zero-add}
use native.Mathlib.Omega.{arith}
use borrow.Author.Tests.{eqb-true, eqb-false, le-leb}
use lib.Dec.{eqb, leb}
use lib.IntN.{ℤ, ◌+ℤ◌, +ℤ_idl}
use Rattle.cube_spec.specs.Boxes.{pick, sum_z, put, Within}
use Rattle.cube_spec.specs.Tree.{has, kept, next, last_of}
use Rattle.cube_spec.proofs.Sums.{by, put_same, put_other, sum_cong, sum_append}
use Rattle.cube_spec.proofs.Naturals.{both}
use Rattle.cube_spec.proofs.Sets.{Down, down_up, down_out, has_head}
use Rattle.rack_spec.specs.Grids.{Grid, Lawful, boards, label, with_label, lead, extent, box, cells, global, board_of, region_of, cell_at}
use Rattle.rack_spec.specs.Steps.{TreeStep, expand, transfer, finish, each, sends, transfers, around, walk, steps}
use Rattle.rack_spec.proofs.Boards as Boards
use Rattle.rack_spec.proofs.Moving.{lead_each}
use Rattle.cell_spec.specs.Wrapped.{wrapped}
use Rattle.run_spec.specs.Memory.{source, after}
use Rattle.run_spec.proofs.Memory as Memory
use Rattle.run_spec.proofs.Memory.{run}
use Rattle.run_spec.proofs.Totals.{Law}
use Rattle.cell_spec.proofs.Modulo.{wrapped_both, wrapped_twice, wrapped_sum}

-- on the leads of Y the cells of Y are the totals T, modulo 2^64
unfoldable pub Final : Grid → (List ℕ → (ℕ → ℕ) → ℤ) → List ℕ → (ℕ → ℤ) → Type 0
Final g T Y work =
    (b : ℕ) (x : ℕ → ℕ) → b < boards g → lead g Y b ≡ true → Within g.axes (box g Y b) x → work (cell_at g Y b x) ≡ wrapped (T Y (global g b x))

module _ (g : Grid) (ok : Lawful g) where
  -- ---- leads and senders

  -- a lead's label on the axis just summed is 0, and it is a lead of the parent
  lead_zero : (Y : List ℕ) (b j : ℕ) → lead g (j ∷ Y) b ≡ true → label g b j ≡ 0
  lead_zero Y b j t = lead_each g ok (j ∷ Y) b j t (has_head j Y)

  lead_parent : (Y : List ℕ) (b j : ℕ) → lead g (j ∷ Y) b ≡ true → lead g Y b ≡ true
  unfolding lead
  lead_parent Y b j t = (both (eqb (label g b j) 0) _ t).1

  -- a sender is no lead
  sender_apart : (Y : List ℕ) (b j l c : ℕ) → b < boards g → suc l < g.parts j → j < g.axes → lead g (j ∷ Y) c ≡ true → with_label g b j (suc l) ≡ c → ⊥
  sender_apart Y b j l c h k r t e =
      let p = lead_zero Y c j t in
      let q = Boards.sender_same g ok b j (suc l) h k r in
      let s : label g (with_label g b j (suc l)) j ≡ label g c j = ap (λ b. label g b j) e in
      omega arith

  -- a sender of a lead of Y is a lead of Y
  sender_leads : (Y : List ℕ) (b j l : ℕ) → b < boards g → l < g.parts j → j < g.axes → Down Y j → lead g Y (with_label g b j l) ≡ lead g Y b
  unfolding lead
  sender_leads [] b j l h k r q = refl
  sender_leads (i ∷ Y) b j l h k r q =
      let u = q.0 in
      rw (Boards.sender_other g ok b j l i h k (omega arith) (λ e. omega arith), sender_leads Y b j l h k r (down_up Y i j (omega arith) q.1))

  -- ---- positions

  -- x with m on axis j is a cell of the parent
  pub parent_within : (Y : List ℕ) (b j m : ℕ) (x : ℕ → ℕ) → has Y j ≡ false → Within g.axes (box g (j ∷ Y) b) x → m < extent g b j → Within g.axes (box g Y b) (put x j m)
  unfolding box kept has
  parent_within Y b j m x out w h d u =
      by (eqb d j)
      (λ e. rw (eqb-true d j e, put_same, out) h)
      (λ e. let ne = eqb-false d j e in let v : x d < pick (has Y d) 1 (extent g b d) = (rw e at (w d u)) in rw (put_other x j m d ne) v)

  pub global_put : (b j m : ℕ) (x : ℕ → ℕ) (d : ℕ) → global g b (put x j m) d ≡ put (global g b x) j (g.start j (label g b j) + m) d
  unfolding global
  global_put b j m x d =
      by (eqb d j)
      (λ e. rw (eqb-true d j e) (simp put_same))
      (λ e. let ne = eqb-false d j e in simp (put_other x j m d ne, put_other (λ d. g.start d (label g b d) + x d) j (g.start j (label g b j) + m) d ne))

  -- a portion ends within its axis
  pub start_le : (d l : ℕ) → d < g.axes → l ≤ g.parts d → g.start d l ≤ g.len d
  start_le d l r h = go (g.parts d - l) l (omega arith)
    where
      go : (m l : ℕ) → l + m ≡ g.parts d → g.start d l ≤ g.len d
      go zero l e = let q : l ≡ g.parts d = omega arith in rw (q, ok.last d r) (omega arith)
      go (suc m) l e = let p = go m (suc l) (omega arith) in let q = ok.rising d l r (omega arith) in omega arith

  pub global_within : (b : ℕ) (x : ℕ → ℕ) → b < boards g → Within g.axes (box g [] b) x → Within g.axes g.len (global g b x)
  unfolding global box kept has extent
  global_within b x h w d u =
      let l = Boards.label_lt g ok b d h u in
      let p = start_le d (suc (label g b d)) u l in
      let q : x d < g.start d (suc (label g b d)) - g.start d (label g b d) = w d u in
      omega arith

-- ---- what a step finds

-- the part of the sum over axis j that portion l holds
unfoldable pub piece : Grid → (List ℕ → (ℕ → ℕ) → ℤ) → List ℕ → ℕ → (ℕ → ℕ) → ℕ → ℤ
piece g T Y j z l = sum_z (g.start j (suc l) - g.start j l) (λ m. T Y (put z j (g.start j l + m)))

-- a transfer: the lead's cells hold the sum of the pieces up to some label, and the sender's cells the next piece
pub record Sending (g : Grid) (T : List ℕ → (ℕ → ℕ) → ℤ) (Y : List ℕ) (j s b n : ℕ) (work : ℕ → ℤ) : Type 0 where
  pub board : b < boards g
  pub axis : j < g.axes
  pub out : has Y j ≡ false
  pub upto : ℕ
  pub less : suc upto < g.parts j
  pub sender : s ≡ with_label g b j (suc upto)
  pub count : n ≡ cells g (j ∷ Y) s
  pub own : (x : ℕ → ℕ) → Within g.axes (box g (j ∷ Y) b) x → work (cell_at g (j ∷ Y) b x) ≡ wrapped (sum_z (suc upto) (piece g T Y j (global g b x)))
  pub other : (x : ℕ → ℕ) → Within g.axes (box g (j ∷ Y) b) x → work (cell_at g (j ∷ Y) s x) ≡ wrapped (piece g T Y j (global g b x) (suc upto))

module _ (g : Grid) (array : ℕ → ℤ) (T : List ℕ → (ℕ → ℕ) → ℤ) where
  run_append : (a b : List TreeStep) (work : ℕ → ℤ) → run g array (a ++ b) work ≡ run g array b (run g array a work)
  unfolding run
  run_append [] b work = refl
  run_append (s ∷ a) b work = run_append a b (after g array s work)

  -- steps that leave index i alone, one after the other
  append_keeps : (a b : List TreeStep) (work : ℕ → ℤ) (i : ℕ) → ((w : ℕ → ℤ) → run g array a w i ≡ w i) → ((w : ℕ → ℤ) → run g array b w i ≡ w i) → run g array (a ++ b) work i ≡ work i
  append_keeps a b work i p q = rw run_append (q (run g array a work) ∙ p work)

  each_keeps : (n : ℕ) (f : ℕ → List TreeStep) (work : ℕ → ℤ) (i : ℕ) → ((b : ℕ) → b < n → (w : ℕ → ℤ) → run g array (f b) w i ≡ w i) → run g array (each n f) work i ≡ work i
  unfolding each run
  each_keeps zero f work i h = refl
  each_keeps (suc n) f work i h = append_keeps (each n f) (f n) work i (λ w. each_keeps n f w i (λ b l. h b (omega arith))) (h n (omega arith))

  -- ---- each step of a list finds what it needs: an expansion the totals of its choice, and so does a finish

  abbrev pub Right : TreeStep → (ℕ → ℤ) → Type 0
  Right (expand []) work = Unit {0}
  Right (expand (k ∷ Z)) work = Down (k ∷ Z) g.axes × Final g T (k ∷ Z) work
  Right (transfer [] s b n) work = ⊥
  Right (transfer (j ∷ Y) s b n) work = Sending g T Y j s b n work
  Right (finish Y) work = Final g T Y work

  abbrev pub Exact : List TreeStep → (ℕ → ℤ) → Type 0
  Exact [] work = Unit {0}
  Exact (s ∷ l) work = Right s work × Exact l (after g array s work)

  pub exact_append : (a b : List TreeStep) (work : ℕ → ℤ) → Exact a work → Exact b (run g array a work) → Exact (a ++ b) work
  unfolding run
  exact_append [] b work p q = q
  exact_append (s ∷ a) b work p q = (p.0, exact_append a b (after g array s work) p.1 q)

  exact_each : (n : ℕ) (f : ℕ → List TreeStep) (work : ℕ → ℤ) → ((b : ℕ) → b < n → Exact (f b) (run g array (each b f) work)) → Exact (each n f) work
  unfolding each
  exact_each zero f work h = tt
  exact_each (suc n) f work h = exact_append (each n f) (f n) work (exact_each n f work (λ b l. h b (omega arith))) (h n (omega arith))

  module _ (ok : Lawful g) (law : Law g array T) where
    -- ---- what transfers leave alone

    -- every region but that of the axis just summed
    transfers_keep_region : (Y : List ℕ) (j n i : ℕ) (work : ℕ → ℤ) → (region_of g i ≡ j → ⊥) → run g array (transfers g (j ∷ Y) n) work i ≡ work i
    unfolding transfers sends run
    transfers_keep_region Y j n i work h = each_keeps n _ work i (λ b _ w. one b (lead g (j ∷ Y) b) w)
      where
        one : (b : ℕ) (t : Bool) (w : ℕ → ℤ) → run g array (pick t (sends g (j ∷ Y) b (g.parts j - 1)) []) w i ≡ w i
        one b true w = each_keeps (g.parts j - 1) _ w i (λ l _ v. Memory.transfer_keeps_region g ok array v Y j _ b _ i h)
        one b false w = refl

    -- every board but the receiver
    sends_keep : (Y : List ℕ) (b n i : ℕ) (work : ℕ → ℤ) → (board_of g i ≡ b → ⊥) → run g array (sends g Y b n) work i ≡ work i
    unfolding sends run
    sends_keep Y b n i work h = each_keeps n _ work i (λ l _ w. Memory.transfer_keeps_board g ok array w Y _ b _ i h)

    -- every board that is no lead, and every board not yet reached
    transfers_keep_board : (Y : List ℕ) (n i : ℕ) (work : ℕ → ℤ) → ((b : ℕ) → b < n → lead g Y b ≡ true → board_of g i ≡ b → ⊥) → run g array (transfers g Y n) work i ≡ work i
    unfolding transfers run
    transfers_keep_board Y n i work h =
        each_keeps n _ work i (λ b u w. by (lead g Y b) (λ t. rw t (sends_keep Y b (g.parts (last_of Y) - 1) i w (h b u t))) (λ t. rw t))

    -- ---- one axis: portions make up the whole

    pub pieces : (Y : List ℕ) (j : ℕ) (z : ℕ → ℕ) → j < g.axes → (n : ℕ) → n ≤ g.parts j → sum_z n (piece g T Y j z) ≡ sum_z (g.start j n) (λ v. T Y (put z j v))
    unfolding sum_z piece
    pieces Y j z r zero h = rw (ok.first j r)
    pieces Y j z r (suc n) h =
        let e : g.start j n + (g.start j (suc n) - g.start j n) ≡ g.start j (suc n) = (let q = ok.rising j n r h in omega arith) in
        ap (λ s. s +ℤ piece g T Y j z n) (pieces Y j z r n (omega arith)) ∙ sym (sum_append (g.start j n) (g.start j (suc n) - g.start j n) (λ v. T Y (put z j v))) ∙ ap (λ n. sum_z n (λ v. T Y (put z j v))) e

    pieces_total : (Y : List ℕ) (j : ℕ) (z : ℕ → ℕ) → j < g.axes → has Y j ≡ false → sum_z (g.parts j) (piece g T Y j z) ≡ T (j ∷ Y) z
    pieces_total Y j z r out =
        pieces Y j z r (g.parts j) (omega arith) ∙ ap (λ n. sum_z n (λ v. T Y (put z j v))) (ok.last j r) ∙ sym (law.sum Y j z out r)

    -- ---- transfers make the cells of a choice final

    module _ (Y : List ℕ) (j b : ℕ) (x : ℕ → ℕ) (r : j < g.axes) (h : b < boards g) (t : lead g (j ∷ Y) b ≡ true) (w : Within g.axes (box g (j ∷ Y) b) x) where
      sender_within : (l : ℕ) → l < g.parts j → Within g.axes (box g (j ∷ Y) (with_label g b j l)) x
      sender_within l k d u = rw (Boards.sender_box g ok Y b j l h k d u) (w d u)

      sender_kept : (l n : ℕ) (work : ℕ → ℤ) → suc l < g.parts j → run g array (sends g (j ∷ Y) b n) work (cell_at g (j ∷ Y) (with_label g b j (suc l)) x) ≡ work (cell_at g (j ∷ Y) (with_label g b j (suc l)) x)
      sender_kept l n work k =
          let s = with_label g b j (suc l) in
          sends_keep (j ∷ Y) b n _ work (λ e. sender_apart g ok Y b j l b h k r t (sym (Boards.cell_board g ok Y s j x (Boards.sender_lt g ok b j (suc l) h k) r (sender_within (suc l) k)) ∙ e))

      -- the lead's cell and the senders' cells at x hold the pieces z
      record Pieces (z : ℕ → ℤ) (work : ℕ → ℤ) : Type 0 where
        own : work (cell_at g (j ∷ Y) b x) ≡ wrapped (z 0)
        others : (l : ℕ) → suc l < g.parts j → work (cell_at g (j ∷ Y) (with_label g b j (suc l)) x) ≡ wrapped (z (suc l))

      sends_add : (z : ℕ → ℤ) (work : ℕ → ℤ) → Pieces z work → (n : ℕ) → n < g.parts j → run g array (sends g (j ∷ Y) b n) work (cell_at g (j ∷ Y) b x) ≡ wrapped (sum_z (suc n) z)
      unfolding sends each run sum_z
      sends_add z work p zero k = p.own ∙ ap wrapped (sym (+ℤ_idl (z 0)))
      sends_add z work p (suc n) k =
          rw (run_append) (Memory.transfer_adds g ok array _ Y b j (suc n) x h r k w ∙ ap₂ (λ a c. wrapped (a +ℤ c)) (sends_add z work p n (omega arith)) (sender_kept n n work k ∙ p.others n k) ∙ wrapped_both (sum_z (suc n) z) (z (suc n)))

      -- transfers to the boards before n leave these cells alone as long as b is not reached
      not_reached : (z : ℕ → ℤ) (work : ℕ → ℤ) (n : ℕ) → n ≤ b → Pieces z work → Pieces z (run g array (transfers g (j ∷ Y) n) work)
      not_reached z work n u p =
          record {
            own =
                transfers_keep_board (j ∷ Y) n _ work (λ c v s e. let q = Boards.cell_board g ok Y b j x h r w in omega arith) ∙ p.own;
            others =
                λ l k.
                transfers_keep_board (j ∷ Y) n _ work (λ c v s e. sender_apart g ok Y b j l c h k r s (sym (Boards.cell_board g ok Y (with_label g b j (suc l)) j x (Boards.sender_lt g ok b j (suc l) h k) r (sender_within (suc l) k)) ∙ e)) ∙ p.others l k;
          }

      transfers_add : (z : ℕ → ℤ) (work : ℕ → ℤ) → Pieces z work → (n : ℕ) → b < n → run g array (transfers g (j ∷ Y) n) work (cell_at g (j ∷ Y) b x) ≡ wrapped (sum_z (g.parts j) z)
      unfolding transfers each
      transfers_add z work p zero u = absurd (omega arith)
      transfers_add z work p (suc n) u =
          let e : suc (g.parts j - 1) ≡ g.parts j = (let q = ok.some j r in omega arith) in
          let before : ℕ → ℤ = run g array (transfers g (j ∷ Y) n) work in
          by (eqb b n)
          (λ s.
          let q = eqb-true b n s in
          rw (run_append, ← q, t) (sends_add z (run g array (transfers g (j ∷ Y) b) work) (not_reached z work b (omega arith) p) (g.parts j - 1) (omega arith) ∙ ap (λ n. wrapped (sum_z n z)) e))
          (λ s.
          let ne = eqb-false b n s in
          rw run_append (other n (lead g (j ∷ Y) n) before ne ∙ transfers_add z work p n (omega (arith, ne))))
        where
          other : (n : ℕ) (s : Bool) (v : ℕ → ℤ) → (b ≡ n → ⊥) → run g array (pick s (sends g (j ∷ Y) n (g.parts j - 1)) []) v (cell_at g (j ∷ Y) b x) ≡ v (cell_at g (j ∷ Y) b x)
          other n true v ne = sends_keep (j ∷ Y) n (g.parts j - 1) _ v (λ e. ne (sym (Boards.cell_board g ok Y b j x h r w) ∙ e))
          other n false v ne = unfold run in refl

    -- ---- the two invariants

    -- the cells of (Y , j), on the boards that form them, hold the sums over the board's own portion of axis j
    Formed : List ℕ → ℕ → (ℕ → ℤ) → Type 0
    Formed Y j work =
        (b : ℕ) (x : ℕ → ℕ) → b < boards g → lead g Y b ≡ true → Within g.axes (box g (j ∷ Y) b) x → work (cell_at g (j ∷ Y) b x) ≡ wrapped (piece g T Y j (global g b x) (label g b j))

    -- a piece is the same seen from the lead and from the sender
    piece_cong : (Y : List ℕ) (j l : ℕ) (z z' : ℕ → ℕ) → ((d : ℕ) → d < g.axes → (d ≡ j → ⊥) → z d ≡ z' d) → piece g T Y j z l ≡ piece g T Y j z' l
    unfolding piece
    piece_cong Y j l z z' h =
        sum_cong (g.start j (suc l) - g.start j l)
        (λ m _.
        law.alike Y _ _
        (λ d u s. by (eqb d j) (λ e. rw (eqb-true d j e) (simp put_same)) (λ e. rw (put_other z j _ d (eqb-false d j e), put_other z' j _ d (eqb-false d j e)) (h d u (eqb-false d j e)))))

    module _ (Y : List ℕ) (j : ℕ) (work : ℕ → ℤ) (r : j < g.axes) (q : Down Y j) (f : Formed Y j work) where
      pieces_formed : (b : ℕ) (x : ℕ → ℕ) (h : b < boards g) (t : lead g (j ∷ Y) b ≡ true) (w : Within g.axes (box g (j ∷ Y) b) x) → Pieces Y j b x r h t w (piece g T Y j (global g b x)) work
      unfolding Formed global
      pieces_formed b x h t w =
          record {
            own = f b x h (lead_parent g ok Y b j t) w ∙ ap (λ l. wrapped (piece g T Y j (global g b x) l)) (lead_zero g ok Y b j t);
            others =
                λ l k.
                f (with_label g b j (suc l)) x (Boards.sender_lt g ok b j (suc l) h k) (sender_leads g ok Y b j (suc l) h k r q ∙ lead_parent g ok Y b j t) (sender_within Y j b x r h t w (suc l) k) ∙ ap wrapped (ap (piece g T Y j _) (Boards.sender_same g ok b j (suc l) h k r) ∙ piece_cong Y j (suc l) _ _ (λ d u ne. ap (λ l. g.start d l + x d) (Boards.sender_other g ok b j (suc l) d h k u ne)));
          }

      transfers_final : Final g T (j ∷ Y) (run g array (transfers g (j ∷ Y) (boards g)) work)
      unfolding Final
      transfers_final b x h t w =
          transfers_add Y j b x r h t w (piece g T Y j (global g b x)) work (pieces_formed b x h t w) (boards g) h ∙ ap wrapped (pieces_total Y j (global g b x) r (down_out Y j j q (omega arith)))

      sends_exact : (b : ℕ) → b < boards g → lead g (j ∷ Y) b ≡ true → Exact (sends g (j ∷ Y) b (g.parts j - 1)) (run g array (transfers g (j ∷ Y) b) work)
      unfolding sends
      sends_exact b h t = exact_each (g.parts j - 1) _ _ (λ l u. (one l (omega arith), tt))
        where
          one : (l : ℕ) → suc l < g.parts j → Sending g T Y j (with_label g b j (suc l)) b (cells g (j ∷ Y) (with_label g b j (suc l))) (run g array (sends g (j ∷ Y) b l) (run g array (transfers g (j ∷ Y) b) work))
          one l k =
              record {
                board = h;
                axis = r;
                out = down_out Y j j q (omega arith);
                upto = l;
                less = k;
                sender = refl;
                count = refl;
                own =
                    λ x w.
                    sends_add Y j b x r h t w (piece g T Y j (global g b x)) _ (not_reached Y j b x r h t w (piece g T Y j (global g b x)) work b (omega arith) (pieces_formed b x h t w)) l (omega arith);
                other =
                    λ x w.
                    sender_kept Y j b x r h t w l l _ k ∙ (not_reached Y j b x r h t w (piece g T Y j (global g b x)) work b (omega arith) (pieces_formed b x h t w)).others l k;
              }

      transfers_exact : Exact (transfers g (j ∷ Y) (boards g)) work
      unfolding transfers
      transfers_exact = exact_each (boards g) _ work (λ b u. by (lead g (j ∷ Y) b) (λ t. rw t (unfold transfers in sends_exact b u t)) (λ t. rw t tt))

    -- ---- expanding a choice whose cells are final forms its children

    -- the parent's cells are its totals, modulo 2 ^ 64
    Ready : List ℕ → (ℕ → ℤ) → Type 0
    Ready Y work =
        (b : ℕ) (x : ℕ → ℕ) → b < boards g → lead g Y b ≡ true → Within g.axes (box g Y b) x → wrapped (source g array work Y b x) ≡ wrapped (T Y (global g b x))

    expand_formed : (Y : List ℕ) (j : ℕ) (work : ℕ → ℤ) → j < g.axes → has Y j ≡ false → leb (next Y) j ≡ true → Ready Y work → Formed Y j (after g array (expand Y) work)
    unfolding Formed Ready piece extent
    expand_formed Y j work r out s f b x h t w =
        Memory.expand_forms g ok array work Y b j x h r w t s ∙ wrapped_sum (g.start j (suc (label g b j)) - g.start j (label g b j)) _ _ (λ m k. f b (put x j m) h t (parent_within g ok Y b j m x out w k) ∙ ap wrapped (law.alike Y _ _ (λ d u _. global_put g ok b j m x d)))

    totals_ready : (Y : List ℕ) (j : ℕ) (work : ℕ → ℤ) → Final g T (j ∷ Y) work → Ready (j ∷ Y) work
    unfolding Final Ready source
    totals_ready Y j work f b x h t w = ap wrapped (f b x h t w) ∙ wrapped_twice (T (j ∷ Y) (global g b x))

    -- the root: its cells are points of the array
    root_ready : (work : ℕ → ℤ) → Ready [] work
    unfolding Ready source
    root_ready work b x h t w = ap wrapped (sym (law.root (global g b x) (global_within g ok b x h w)))

    -- ---- the walk

    -- (a) a walk from axis d on writes only regions from d on
    visit_keeps : (m j : ℕ) (Y : List ℕ) (inner : List TreeStep) (work : ℕ → ℤ) (i : ℕ) → region_of g i ≤ j → ((w : ℕ → ℤ) → run g array inner w i ≡ w i) → run g array (around (j ∷ Y) m inner) work i ≡ work i
    unfolding run after
    visit_keeps zero j Y inner work i h p = append_keeps inner (finish (j ∷ Y) ∷ []) work i p (λ w. refl)
    visit_keeps (suc m) j Y inner work i h p =
        append_keeps inner (finish (j ∷ Y) ∷ []) (after g array (expand (j ∷ Y)) work) i p (λ w. refl) ∙ Memory.expand_keeps g ok array work Y j i h

    walk_keeps : (m d : ℕ) (Y : List ℕ) (work : ℕ → ℤ) (i : ℕ) → region_of g i < d → run g array (walk g m d Y) work i ≡ work i
    unfolding walk
    walk_keeps zero d Y work i h = unfold run in refl
    walk_keeps (suc m) d Y work i h =
        append_keeps (walk g m (d + 1) Y) _ work i (λ w. walk_keeps m (d + 1) Y w i (omega arith)) (λ w. append_keeps (transfers g (d ∷ Y) (boards g)) _ w i (λ v. transfers_keep_region Y d (boards g) i v (λ e. omega arith)) (λ v. visit_keeps m d Y _ v i (omega arith) (λ u. walk_keeps m (d + 1) (d ∷ Y) u i (omega arith))))

    -- so the cells of a choice whose last summed axis is before d stay
    formed_kept : (Y : List ℕ) (j : ℕ) (work work' : ℕ → ℤ) → j < g.axes → ((i : ℕ) → region_of g i ≡ j → work' i ≡ work i) → Formed Y j work → Formed Y j work'
    unfolding Formed
    formed_kept Y j work work' r p f b x h t w = p (cell_at g (j ∷ Y) b x) (Boards.cell_region g ok Y b j x h r w) ∙ f b x h t w

    totals_kept : (Y : List ℕ) (j : ℕ) (work work' : ℕ → ℤ) → j < g.axes → ((i : ℕ) → region_of g i ≡ j → work' i ≡ work i) → Final g T (j ∷ Y) work → Final g T (j ∷ Y) work'
    unfolding Final
    totals_kept Y j work work' r p f b x h t w = p (cell_at g (j ∷ Y) b x) (Boards.cell_region g ok Y b j x h r w) ∙ f b x h t w

    -- (b) at each finish the totals stand
    visit_exact : (m j : ℕ) (Y : List ℕ) (inner : List TreeStep) (work : ℕ → ℤ) → j + 1 + m ≡ g.axes → Down Y j → ((w : ℕ → ℤ) (i : ℕ) → region_of g i ≤ j → run g array inner w i ≡ w i) → ((w : ℕ → ℤ) → ((k : ℕ) → j < k → k < g.axes → Formed (j ∷ Y) k w) → Exact inner w) → Final g T (j ∷ Y) work → Exact (around (j ∷ Y) m inner) work
    visit_exact zero j Y inner work e q keep exact f =
        exact_append inner (finish (j ∷ Y) ∷ []) work (exact work (λ k l r. absurd (omega arith))) (totals_kept Y j work _ (omega arith) (λ i h. keep work i (omega arith)) f, tt)
    visit_exact (suc m) j Y inner work e q keep exact f =
        let formed : ℕ → ℤ = after g array (expand (j ∷ Y)) work in
        (((omega arith, q), f), exact_append inner (finish (j ∷ Y) ∷ []) formed (exact formed (λ k l r. expand_formed (j ∷ Y) k work r (down_out (j ∷ Y) k k (l, q) (omega arith)) (le-leb (suc j) k l) (totals_ready Y j work f))) (totals_kept Y j work _ (omega arith) (λ i h. keep formed i (omega arith) ∙ Memory.expand_keeps g ok array work Y j i (omega arith)) f, tt))

    walk_exact : (m d : ℕ) (Y : List ℕ) (work : ℕ → ℤ) → d + m ≡ g.axes → Down Y d → ((j : ℕ) → d ≤ j → j < g.axes → Formed Y j work) → Exact (walk g m d Y) work
    unfolding walk
    walk_exact zero d Y work e q f = tt
    walk_exact (suc m) d Y work e q f =
        let w₁ : ℕ → ℤ = run g array (walk g m (d + 1) Y) work in
        let w₂ : ℕ → ℤ = run g array (transfers g (d ∷ Y) (boards g)) w₁ in
        let f₁ : Formed Y d w₁ = formed_kept Y d work w₁ (omega arith) (λ i h. walk_keeps m (d + 1) Y work i (omega arith)) (f d (omega arith) (omega arith)) in
        exact_append (walk g m (d + 1) Y) _ work (walk_exact m (d + 1) Y work (omega arith) (down_up Y d (d + 1) (omega arith) q) (λ j l r. f j (omega arith) r)) (exact_append (transfers g (d ∷ Y) (boards g)) _ w₁ (transfers_exact Y d w₁ (omega arith) q f₁) (visit_exact m d Y _ w₂ (omega arith) q (λ w i h. walk_keeps m (d + 1) (d ∷ Y) w i (omega arith)) (λ w k. walk_exact m (d + 1) (d ∷ Y) w (omega arith) (omega arith, q) (λ j l r. k j (omega arith) r)) (transfers_final Y d w₁ (omega arith) q f₁)))

    -- the whole list, from any work area
    pub steps_exact : (work : ℕ → ℤ) → Exact (steps g) work
    unfolding steps
    steps_exact work =
        (tt, walk_exact g.axes 0 [] (after g array (expand []) work) (zero-add g.axes) tt (λ j l r. expand_formed [] j work r (unfold has in refl) (le-leb 0 j (omega arith)) (root_ready work)))

  -- right after any finish of such a list
  exact_at : (before rest : List TreeStep) (Y : List ℕ) (work : ℕ → ℤ) → Exact (before ++ (finish Y ∷ rest)) work → Final g T Y (run g array (before ++ (finish Y ∷ [])) work)
  unfolding run after
  exact_at [] rest Y work p = p.0
  exact_at (s ∷ before) rest Y work p = exact_at before rest Y (after g array s work) p.1

-- THE RUN. Take the list of steps of any lawful grid, any array and any work area. Wherever the list finishes a choice, that choice's cells on each of its leads are its totals, modulo 2^64.
pub run_exact : (g : Grid) → Lawful g → (array : ℕ → ℤ) (T : List ℕ → (ℕ → ℕ) → ℤ) → Law g array T → (work : ℕ → ℤ) (before rest : List TreeStep) (Y : List ℕ) → steps g ≡ before ++ (finish Y ∷ rest) → Final g T Y (run g array (before ++ (finish Y ∷ [])) work)
run_exact g ok array T law work before rest Y e = exact_at g array T before rest Y work (rw e at (steps_exact g array T ok law work))
