-- From what is told of the step at a position back to that step.
use Prim.Native.Nat.{ℕ, suc, ◌<◌}
use mathlib.Core.Path.{◌≡◌, sym, refl}
use mathlib.Core.Bool.{true}
use mathlib.Core.Option.{Option, none, some}
use mathlib.Core.List.{List, ◌∷◌}
use lib.ListN.{get_elem?}
use Rattle.cube_spec.specs.Tree.{next}
use Rattle.cube_spec.proofs.Sets.{Down}
use Rattle.cube_spec.proofs.Naturals.{impossible}
use Rattle.rack_spec.specs.Grids.{Grid, Lawful, mask_of, summed, boards, with_label, lead, cells}
use Rattle.rack_spec.specs.Steps.{TreeStep, expand, transfer, finish, steps}
use Rattle.cube_choice.specs.declared.types.Choice.{Choice}
use Rattle.rack_spec.specs.declared.types.Step.{Step}
use Rattle.rack_spec.specs.declared.types.Step.TheVariants as Step'
use Rattle.rack_spec.specs.Answers.{told, expands, transfers, finishes, done, refused, telling_or, told_at}
use Rattle.rack_spec.proofs.Every.{Every, every_get, every_step}
use Rattle.rack_spec.proofs.Masks.{set_mask}

-- what is known of a transfer of the list
pub record Known (g : Grid) (Z : List ℕ) (s r n : ℕ) : Type 0 where
  pub Y : List ℕ
  pub j : ℕ
  pub l : ℕ
  pub set : Z ≡ j ∷ Y
  pub down : Down (j ∷ Y) g.axes
  pub receiver : r < boards g
  pub lead_of : lead g (j ∷ Y) r ≡ true
  pub label_lt : suc l < g.parts j
  pub sender : s ≡ with_label g r j (suc l)
  pub count : n ≡ cells g (j ∷ Y) s

module _ (g : Grid) where
  abbrev Shape : TreeStep → Type 0
  Shape (expand Y) = Down Y g.axes
  Shape (transfer Z s r n) = Known g Z s r n
  Shape (finish Y) = Down Y g.axes

  shapes : Every Shape (steps g)
  shapes =
      every_step Shape g (λ Y h. h)
      (λ Y j b l d h t r. record { Y = Y; j = j; l = l; set = refl; down = d; receiver = h; lead_of = t; label_lt = r; sender = refl; count = refl })
      (λ Y h n. h)

  module _ (ok : Lawful g) (at mask : ℕ) where
    back : (Z : List ℕ) → Down Z g.axes → mask_of g Z ≡ mask → summed g mask ≡ Z
    unfolding summed
    back Z d e = set_mask g ok Z mask d e

    pub expand_told : expands mask ≡ told_at g (steps g) at → (get_elem? (steps g) at ≡ some (expand (summed g mask))) × Down (summed g mask) g.axes
    unfolding told_at
    expand_told t = go (get_elem? (steps g) at) refl t
      where
        go : (m : Option TreeStep) → get_elem? (steps g) at ≡ m → expands mask ≡ telling_or g m → (get_elem? (steps g) at ≡ some (expand (summed g mask))) × Down (summed g mask) g.axes
        go none e t = impossible (cc)
        go (some (expand Z)) e t =
            let d = every_get Shape (steps g) at (expand Z) shapes e in
            let b = back Z d (cc) in
            rw b (e, d)
        go (some (transfer Z s r n)) e t = impossible (cc)
        go (some (finish Z)) e t = impossible (cc)

    pub finish_told : finishes mask ≡ told_at g (steps g) at → (get_elem? (steps g) at ≡ some (finish (summed g mask))) × Down (summed g mask) g.axes
    unfolding told_at
    finish_told t = go (get_elem? (steps g) at) refl t
      where
        go : (m : Option TreeStep) → get_elem? (steps g) at ≡ m → finishes mask ≡ telling_or g m → (get_elem? (steps g) at ≡ some (finish (summed g mask))) × Down (summed g mask) g.axes
        go none e t = impossible (cc)
        go (some (expand Z)) e t = impossible (cc)
        go (some (transfer Z s r n)) e t = impossible (cc)
        go (some (finish Z)) e t =
            let d = every_get Shape (steps g) at (finish Z) shapes e in
            let b = back Z d (cc) in
            rw b (e, d)

    pub transfer_told : (s r n : ℕ) → transfers s r mask n ≡ told_at g (steps g) at → (get_elem? (steps g) at ≡ some (transfer (summed g mask) s r n)) × Known g (summed g mask) s r n
    unfolding told_at
    transfer_told s r n t = go (get_elem? (steps g) at) refl t
      where
        go : (m : Option TreeStep) → get_elem? (steps g) at ≡ m → transfers s r mask n ≡ telling_or g m → (get_elem? (steps g) at ≡ some (transfer (summed g mask) s r n)) × Known g (summed g mask) s r n
        go none e t = impossible (cc)
        go (some (expand Z)) e t = impossible (cc)
        go (some (transfer Z s' r' n')) e t =
            let k = every_get Shape (steps g) at (transfer Z s' r' n') shapes e in
            let es : s ≡ s' = cc in
            let er : r ≡ r' = cc in
            let en : n ≡ n' = cc in
            let em : mask ≡ mask_of g Z = cc in
            let b = back Z (rw k.set k.down) (sym em) in
            rw (b, es, er, en) (e, k)
        go (some (finish Z)) e t = impossible (cc)

    pub done_told : done ≡ told_at g (steps g) at → get_elem? (steps g) at ≡ none
    unfolding told_at
    done_told t = go (get_elem? (steps g) at) refl t
      where
        go : (m : Option TreeStep) → get_elem? (steps g) at ≡ m → done ≡ telling_or g m → get_elem? (steps g) at ≡ none
        go none e t = e
        go (some (expand Z)) e t = impossible (cc)
        go (some (transfer Z s r n)) e t = impossible (cc)
        go (some (finish Z)) e t = impossible (cc)

    -- no step of the list is told as a refusal
    pub never_refused : (n : ℕ) → refused n ≡ told_at g (steps g) at → ⊥
    unfolding told_at
    never_refused n t = go (get_elem? (steps g) at) t
      where
        go : (m : Option TreeStep) → refused n ≡ telling_or g m → ⊥
        go none t = impossible (cc)
        go (some (expand Z)) t = impossible (cc)
        go (some (transfer Z s r k)) t = impossible (cc)
        go (some (finish Z)) t = impossible (cc)

-- a transfer of the list
pub known_step : (g : Grid) (at : ℕ) (Z : List ℕ) (s r n : ℕ) → get_elem? (steps g) at ≡ some (transfer Z s r n) → Known g Z s r n
known_step g at Z s r n e = every_get (Shape g) (steps g) at (transfer Z s r n) (shapes g) e

-- the root is never finished
abbrev NotRoot : TreeStep → Type 0
NotRoot (expand Y) = Unit {0}
NotRoot (transfer Y s r n) = Unit {0}
NotRoot (finish Y) = 0 < next Y

pub finish_some : (g : Grid) (at : ℕ) (Z : List ℕ) → get_elem? (steps g) at ≡ some (finish Z) → 0 < next Z
finish_some g at Z e = every_get NotRoot (steps g) at (finish Z) (every_step NotRoot g (λ Y h. tt) (λ Y j b l d h t r. tt) (λ Y h n. n)) e

-- a step of another variant tells no finish
pub not_finish : (s : Step) → ((x : Choice) → s ≡ Step'.Finish x → ⊥) → (mask : ℕ) → finishes mask ≡ told s → ⊥
not_finish (Step'.Expand x) k m e = cc
not_finish (Step'.Transfer x) k m e = cc
not_finish (Step'.Finish x) k m e = k x refl
not_finish Step'.Done k m e = cc
