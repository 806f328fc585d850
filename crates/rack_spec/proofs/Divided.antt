-- "exactly then each board has a point": exponents that sum to p are a grid division exactly if each of the 2^p boards has a point, in whatever order these are numbered.
use Prim.Native.Nat.{ℕ, zero, suc, ◌-◌, ◌^◌, ◌≤◌, ◌<◌}
use mathlib.Core.Path.{◌≡◌, sym, ◌∙◌, refl, ap}
use mathlib.Core.List.{List, [], ◌∷◌}
use native.Mathlib.Nat.{le_refl}
use native.Mathlib.Omega.{arith}
use lib.ListN.{length, get_or}
use lib.Pow.{pow_pos}
use Rattle.cube_spec.specs.Boxes.{position}
use Rattle.cube_spec.specs.Portions.{portion_start}
use Rattle.cube_spec.specs.Ways.{Way, Division, sum_list, cost_by, moved_by}
use Rattle.cube_spec.proofs.Portions.{extent_some, parts_le}
use Rattle.plan_spec.specs.Plans.{PlanLists, Sound, count, find, length_at, exponent_at, board_count}
use Rattle.plan_spec.proofs.Orders.{order_below, rank_below, order_rank}
use Rattle.rack_spec.specs.Grids.{grid_of, boards, label, with_label, extent}
use Rattle.rack_spec.specs.Pointed.{HasPoint, Pointed}
use Rattle.rack_spec.proofs.Lawful.{grid_lawful}
use Rattle.rack_spec.proofs.Boards.{sender_lt, sender_same}
use Rattle.rack_spec.proofs.Counting.{board_count_lem}

-- ---- lengths that the exponents fit: labels and the number of boards do not depend on the lengths

widest : List ℕ → List ℕ
widest [] = []
widest (k ∷ l) = 2 ^ k ∷ widest l

widest_length : (l : List ℕ) → length (widest l) ≡ length l
unfolding widest
widest_length [] = refl
widest_length (k ∷ l) = ap suc (widest_length l)

widest_get : (l : List ℕ) (d : ℕ) → d < length l → get_or (widest l) d 0 ≡ 2 ^ get_or l d 0
unfolding widest
widest_get [] d h = absurd (omega arith)
widest_get (k ∷ l) zero h = refl
widest_get (k ∷ l) (suc d) h = widest_get l d (omega arith)

module _ (ds ks order : List ℕ) (p : ℕ) (each : length ks ≡ length ds) (sums : sum_list ks ≡ p) (places : length order ≡ length ds) (once : (d : ℕ) → d < length ds → count d order ≡ 1) where
  abbrev divided : PlanLists
  divided = record { lengths = ds; order = order; exponents = ks; p = p }

  abbrev roomy : PlanLists
  roomy = record { lengths = widest ks; order = order; exponents = ks; p = p }

  as_many : length (widest ks) ≡ length ds
  as_many = widest_length ks ∙ each

  sound : Sound roomy
  sound = record {
    places = places ∙ sym as_many;
    once = λ d h. once d (rw (← as_many) h);
    cut = λ d h. rw (widest_get ks d (rw (← widest_length ks) h)) (le_refl (2 ^ get_or ks d 0));
    each = sym (widest_length ks);
    sums = sums;
  }

  label_same : (b d : ℕ) → label (grid_of divided) b d ≡ label (grid_of roomy) b d
  unfolding label grid_of
  label_same b d = ap (λ n. position (λ i. 2 ^ exponent_at divided i) n 0 b d) (sym as_many)

  -- exponents that fit leave no board without a point
  pub each_pointed : ((d : ℕ) → d < length ds → 2 ^ get_or ks d 0 ≤ get_or ds d 0) → (b : ℕ) → HasPoint (grid_of divided) b
  unfolding grid_of extent
  each_pointed fits b d h =
      let q = extent_some (length_at divided d) (2 ^ exponent_at divided d) (pow_pos _) (fits (get_or order d 0) (rw (← as_many) (order_below roomy sound d (rw as_many h)))) (label (grid_of divided) b d) in
      omega arith

  -- and where no board is without a point the exponents fit
  module _ (points : (b : ℕ) → b < 2 ^ p → HasPoint (grid_of divided) b) where
    there : (d : ℕ) → d < length ds → (l : ℕ) → l < 2 ^ exponent_at divided d → portion_start (length_at divided d) (2 ^ exponent_at divided d) l < portion_start (length_at divided d) (2 ^ exponent_at divided d) (suc l)
    there d h l r =
        let g = grid_of roomy in
        let law = grid_lawful roomy sound in
        let n : boards g ≡ 2 ^ p = board_count_lem roomy sound ∙ (unfold board_count in refl) in
        let o : 0 < boards g = rw n (pow_pos p) in
        let r' : l < g.parts d = (unfold grid_of in r) in
        let b = with_label g 0 d l in
        let below : b < 2 ^ p = rw (← n) (sender_lt g law 0 d l o r') in
        let h' : d < g.axes = (unfold grid_of in rw as_many h) in
        let same : label (grid_of divided) b d ≡ l = label_same b d ∙ sender_same g law 0 d l o r' h' in
        let x : 1 ≤ extent (grid_of divided) b d = points b below d (unfold grid_of in h) in
        let y : extent (grid_of divided) b d ≡ portion_start (length_at divided d) (2 ^ exponent_at divided d) (suc (label (grid_of divided) b d)) - portion_start (length_at divided d) (2 ^ exponent_at divided d) (label (grid_of divided) b d) = (unfold extent grid_of in refl) in
        let z = rw same at y in
        omega arith

    pub pointed_fits : (d : ℕ) → d < length ds → 2 ^ get_or ks d 0 ≤ get_or ds d 0
    pointed_fits d h =
        let i : find d order < length ds = rw (← as_many) (rank_below roomy sound d (rw as_many h)) in
        let e : get_or order (find d order) 0 ≡ d = order_rank roomy sound d (rw as_many h) in
        let q : 2 ^ get_or ks (get_or order (find d order) 0) 0 ≤ get_or ds (get_or order (find d order) 0) 0 = parts_le (length_at divided (find d order)) (2 ^ exponent_at divided (find d order)) (pow_pos _) (there (find d order) i) in
        rw e at q

-- THE LAW, both ways: the exponents are the same
pub pointed_division : {ds : List ℕ} {p : ℕ} → Pointed ds p → Division ds p
pointed_division {ds} {p} c = record {
  exponents = c.exponents;
  each = c.each;
  fits = pointed_fits ds c.exponents c.order p c.each c.sums c.places c.once c.points;
  sums = c.sums;
}

-- so that it moves what these exponents move
pub pointed_moves : {ds : List ℕ} {p : ℕ} (c : Pointed ds p) (w : Way (length ds)) → moved_by ds (pointed_division c) w ≡ cost_by (λ d. 1) ds c.exponents w
unfolding moved_by pointed_division
pointed_moves c w = refl

pub division_pointed : {ds : List ℕ} {p : ℕ} → Division ds p → (order : List ℕ) → length order ≡ length ds → ((d : ℕ) → d < length ds → count d order ≡ 1) → Pointed ds p
division_pointed {ds} {p} e order places once = record {
  exponents = e.exponents;
  each = e.each;
  sums = e.sums;
  order = order;
  places = places;
  once = once;
  points = λ b l. each_pointed ds e.exponents order p e.each e.sums places once e.fits b;
}

-- so each board of a lawful plan has a point
pub sound_pointed : (a : PlanLists) → Sound a → (b : ℕ) → HasPoint (grid_of a) b
sound_pointed a ok b = each_pointed a.lengths a.exponents a.order a.p ok.each ok.sums ok.places ok.once ok.cut b
