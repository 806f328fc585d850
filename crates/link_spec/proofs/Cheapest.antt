-- The first cheapest of a list of divisions, and that more of the list never costs more.
use Prim.Native.Nat.{ℕ, zero, suc, ◌≤◌, ◌<◌}
use mathlib.Core.Path.{◌≡◌, ◌∙◌, sym, refl}
use mathlib.Core.List.{List, [], ◌∷◌}
use native.Mathlib.Omega.{arith}
use native.Mathlib.Nat.{le_refl}
use lib.Dec.{ltb}
use lib.ListN.{length, get_or, take, length-take}
use lib.Seq.{get_or-take}
use borrow.Author.Tests.{ltb-true, ltb-false}
use Rattle.cube_spec.proofs.Sums.{by}
use Rattle.link_spec.specs.Search.{cheaper, first_cheapest}
use Rattle.link_spec.specs.Anytime.{First}

module _ (cost : List ℕ → ℕ) where
  -- the next one takes over, as it costs less
  takes : (b e : List ℕ) (l : List (List ℕ)) (r : List ℕ) → cost e < cost b → First cost (e ∷ l) r → First cost (b ∷ e ∷ l) r
  takes b e l r h f =
      let z = f.least 0 (omega arith) in
      record { place = suc f.place; within = let w = f.within in omega arith; here = f.here; before = before z; least = least z }
    where
      before : cost r ≤ cost e → (j : ℕ) → j < suc f.place → cost r < cost (get_or (b ∷ e ∷ l) j [])
      before z zero k = omega arith
      before z (suc j) k = f.before j (omega arith)

      least : cost r ≤ cost e → (j : ℕ) → j < suc (suc (length l)) → cost r ≤ cost (get_or (b ∷ e ∷ l) j [])
      least z zero k = omega arith
      least z (suc j) k = f.least j (omega arith)

  -- or it is passed over
  passes : (b e : List ℕ) (l : List (List ℕ)) (r : List ℕ) → cost b ≤ cost e → First cost (b ∷ l) r → First cost (b ∷ e ∷ l) r
  passes b e l r h f = go f.place f.within f.here f.before
    where
      least : (j : ℕ) → j < suc (suc (length l)) → cost r ≤ cost (get_or (b ∷ e ∷ l) j [])
      least zero k = f.least 0 (omega arith)
      least (suc zero) k = let z = f.least 0 (omega arith) in omega arith
      least (suc (suc j)) k = f.least (suc j) (omega arith)

      go : (i : ℕ) → i < suc (length l) → get_or (b ∷ l) i [] ≡ r → ((j : ℕ) → j < i → cost r < cost (get_or (b ∷ l) j [])) → First cost (b ∷ e ∷ l) r
      go zero w q o = record { place = 0; within = omega arith; here = q; before = λ j k. absurd (omega arith); least = least }
      go (suc i) w q o = record { place = suc (suc i); within = omega arith; here = q; before = before; least = least }
        where
          before : (j : ℕ) → j < suc (suc i) → cost r < cost (get_or (b ∷ e ∷ l) j [])
          before zero k = o 0 (omega arith)
          before (suc zero) k = let z = o 0 (omega arith) in omega arith
          before (suc (suc j)) k = o (suc j) (omega arith)

  cheaper_first : (b : List ℕ) (l : List (List ℕ)) → First cost (b ∷ l) (cheaper cost b l)
  unfolding cheaper
  cheaper_first b [] = record { place = 0; within = omega arith; here = refl; before = λ j k. absurd (omega arith); least = only }
    where
      only : (j : ℕ) → j < 1 → cost b ≤ cost (get_or (b ∷ []) j [])
      only zero k = le_refl _
      only (suc j) k = absurd (omega arith)
  cheaper_first b (e ∷ l) =
      by (ltb (cost e) (cost b))
      (λ t. rw t (takes b e l _ (ltb-true (cost e) (cost b) t) (cheaper_first e l)))
      (λ t. rw t (passes b e l _ (let h = ltb-false (cost e) (cost b) t in omega arith) (cheaper_first b l)))

  -- THE FIRST CHEAPEST
  pub first_cheapest_lem : (l : List (List ℕ)) → 0 < length l → First cost l (first_cheapest cost l)
  unfolding first_cheapest
  first_cheapest_lem [] h = absurd (omega arith)
  first_cheapest_lem (e ∷ l) h = cheaper_first e l

  -- of the first m, and of the first n, which are more
  pub more_cheaper : (m n : ℕ) (l : List (List ℕ)) → 0 < m → m ≤ n → 0 < length l → cost (first_cheapest cost (take n l)) ≤ cost (first_cheapest cost (take m l))
  more_cheaper m n l h k p =
      let a = length-take m l in
      let b = length-take n l in
      let f = first_cheapest_lem (take m l) (omega arith) in
      let g = first_cheapest_lem (take n l) (omega arith) in
      let w = f.within in
      let i = f.place in
      let q : get_or (take n l) i [] ≡ first_cheapest cost (take m l) = get_or-take n l i [] (omega arith) ∙ sym (get_or-take m l i [] (omega arith)) ∙ f.here in
      rw q at (g.least i (omega arith))
