-- What holds of every step of the list: shown once for a walk, for any property of a step.
use Prim.Native.Nat.{ℕ, zero, suc, ◌+◌, ◌-◌, ◌<◌}
use mathlib.Core.Path.{◌≡◌, refl, subst}
use mathlib.Core.Bool.{Bool, true, false}
use mathlib.Core.Option.{Option, none, some}
use mathlib.Core.List.{List, [], ◌∷◌, ◌++◌}
use native.Mathlib.Nat.{zero-add}
use native.Mathlib.Omega.{arith}
use lib.ListN.{get_elem?}
use Rattle.cube_spec.proofs.Sets.{Down, down_up}
use Rattle.cube_spec.specs.Boxes.{pick}
use Rattle.cube_spec.specs.Tree.{next}
use Rattle.rack_spec.specs.Grids.{Grid, boards, with_label, lead, cells}
use Rattle.rack_spec.specs.Steps.{TreeStep, each, expand, finish, steps, sends, transfer, transfers, around, walk}

none_some : {s : TreeStep} → ◌≡◌ {A = Option TreeStep} none (some s) → ⊥
none_some e = let z : ◌≡◌ {A = ℕ} 0 1 = cc in omega arith

some_same : {r s : TreeStep} → ◌≡◌ {A = Option TreeStep} (some r) (some s) → r ≡ s
some_same e = cc

module _ (P : TreeStep → Type 0) where
  abbrev pub Every : List TreeStep → Type 0
  Every [] = Unit {0}
  Every (s ∷ l) = P s × Every l

  pub every_append : (a b : List TreeStep) → Every a → Every b → Every (a ++ b)
  every_append [] b p q = q
  every_append (s ∷ a) b p q = (p.0, every_append a b p.1 q)

  pub every_first : (a b : List TreeStep) → Every (a ++ b) → Every a
  every_first [] b p = tt
  every_first (s ∷ a) b p = (p.0, every_first a b p.1)

  pub every_at : (a : List TreeStep) (s : TreeStep) (b : List TreeStep) → Every (a ++ (s ∷ b)) → P s
  every_at [] s b p = p.0
  every_at (r ∷ a) s b p = every_at a s b p.1

  pub every_get : (l : List TreeStep) (at : ℕ) (s : TreeStep) → Every l → get_elem? l at ≡ some s → P s
  every_get [] at s p e = absurd (none_some e)
  every_get (r ∷ l) zero s p e = subst P (some_same e) p.0
  every_get (r ∷ l) (suc at) s p e = every_get l at s p.1 e

  every_each : (n : ℕ) (f : ℕ → List TreeStep) → ((b : ℕ) → b < n → Every (f b)) → Every (each n f)
  unfolding each
  every_each zero f h = tt
  every_each (suc n) f h = every_append (each n f) (f n) (every_each n f (λ b l. h b (omega arith))) (h n (omega arith))

  -- a transfer is known by its choice, its lead, and the sender's label on the axis just summed
  module _ (g : Grid) (on-expand : (Y : List ℕ) → Down Y g.axes → P (expand Y)) (on-transfer : (Y : List ℕ) (j b l : ℕ) → Down (j ∷ Y) g.axes → b < boards g → lead g (j ∷ Y) b ≡ true → suc l < g.parts j → P (transfer (j ∷ Y) (with_label g b j (suc l)) b (cells g (j ∷ Y) (with_label g b j (suc l))))) (on-finish : (Y : List ℕ) → Down Y g.axes → 0 < next Y → P (finish Y)) where
    every_transfers : (Y : List ℕ) (j : ℕ) → Down (j ∷ Y) g.axes → Every (transfers g (j ∷ Y) (boards g))
    unfolding transfers sends
    every_transfers Y j d = every_each (boards g) _ (λ b h. one b h (lead g (j ∷ Y) b) refl)
      where
        one : (b : ℕ) → b < boards g → (t : Bool) → lead g (j ∷ Y) b ≡ t → Every (pick t (sends g (j ∷ Y) b (g.parts j - 1)) [])
        one b h true e = every_each (g.parts j - 1) _ (λ l r. (on-transfer Y j b l d h e (omega arith), tt))
        one b h false e = tt

    every_visit : (Y : List ℕ) (m : ℕ) (inner : List TreeStep) → Down Y g.axes → 0 < next Y → Every inner → Every (around Y m inner)
    every_visit Y zero inner d n h = every_append inner (finish Y ∷ []) h (on-finish Y d n, tt)
    every_visit Y (suc m) inner d n h = (on-expand Y d, every_append inner (finish Y ∷ []) h (on-finish Y d n, tt))

    every_walk : (m d : ℕ) (Y : List ℕ) → d + m ≡ g.axes → Down Y d → Every (walk g m d Y)
    unfolding walk
    every_walk zero d Y e h = tt
    every_walk (suc m) d Y e h =
        every_append (walk g m (d + 1) Y) _ (every_walk m (d + 1) Y (omega arith) (down_up Y d (d + 1) (omega arith) h)) (every_append (transfers g (d ∷ Y) (boards g)) _ (every_transfers Y d (omega arith, h)) (every_visit (d ∷ Y) m _ (omega arith, h) (omega arith) (every_walk m (d + 1) (d ∷ Y) (omega arith) (omega arith, h))))

    pub every_step : Every (steps g)
    unfolding steps
    every_step = (on-expand [] tt, every_walk g.axes 0 [] (zero-add g.axes) tt)
