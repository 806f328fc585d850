-- A part of demand 3's claim about a whole list of calls (run_claims states it over the calls themselves): by the list of steps and which calls are accepted.
use Prim.Native.Nat.{ℕ, zero, suc, ◌+◌, ◌≤◌, ◌<◌}
use mathlib.Core.Path.{◌≡◌, sym, ◌∙◌, refl, ap}
use mathlib.Core.Bool.{Bool, true, false}
use mathlib.Core.Option.{Option, none, some}
use mathlib.Core.List.{List, [], ◌∷◌}
use native.Mathlib.Nat.{zero-add, add-zero, add_assoc}
use native.Mathlib.Numerals.{add-one}
use native.Mathlib.Omega.{arith}
use lib.ListN.{length, take, get_elem?}
use lib.Seq.{take_all}
use Rattle.cube_spec.specs.Boxes.{pick}
use Rattle.plan_spec.specs.Plans.{PlanLists, Sound, moved, board_count, step_count}
use Rattle.rack_spec.specs.Grids.{Grid, grid_of}
use Rattle.rack_spec.specs.Steps.{TreeStep, expand, transfer, finish, steps, values_of, values}
use Rattle.rack_spec.specs.Held.{held}
use Rattle.rack_spec.specs.Answers.{Told, done, telling, reported_by}
use Rattle.rack_spec.proofs.Lawful.{grid_lawful}
use Rattle.rack_spec.proofs.Moving.{values_moved}
use Rattle.rack_spec.proofs.Counting.{board_count_lem, steps_length}
use Rattle.rack_spec.proofs.Holding.{held_most}

-- a call that is not refused, given the step at its position: what it answers, and where it leaves the position
abbrev pub answers : Grid → Option TreeStep → Told
answers g none = done
answers g (some m) = telling g m

abbrev pub moves : ℕ → Option TreeStep → ℕ
moves at none = at
moves at (some m) = at + 1

-- A list of calls from position `at`: true for a call that is not refused. "A refused call, and one that answers done, moves nothing and leaves the position;
-- any other takes exactly the next step": the position that they reach, and the values that they report.
unfoldable pub reached : Grid → ℕ → List Bool → ℕ
reached g at [] = at
reached g at (c ∷ l) = reached g (pick c (moves at (get_elem? (steps g) at)) at) l

unfoldable pub reported : Grid → ℕ → List Bool → ℕ
reported g at [] = 0
reported g at (c ∷ l) = pick c (reported_by (answers g (get_elem? (steps g) at))) 0 + reported g (pick c (moves at (get_elem? (steps g) at)) at) l

-- ---- one call

-- an answer reports what its step moves
pub telling_values : (g : Grid) (m : TreeStep) → reported_by (telling g m) ≡ values_of m
telling_values g (expand Y) = refl
telling_values g (transfer Y s r n) = refl
telling_values g (finish Y) = refl

-- one step more
values_next : (l : List TreeStep) (at : ℕ) (m : TreeStep) → get_elem? l at ≡ some m → values (take (suc at) l) ≡ values (take at l) + values_of m
unfolding values
values_next [] at m e = absurd (let z : ◌≡◌ {A = ℕ} 0 1 = cc in omega arith)
values_next (s ∷ l) zero m e = let q : s ≡ m = cc in rw q (add-zero (values_of m) ∙ sym (zero-add (values_of m)))
values_next (s ∷ l) (suc at) m e =
    ap (λ n. values_of s + n) (values_next l at m e) ∙ sym (add_assoc (values_of s) (values (take at l)) (values_of m))

values_first : (l : List TreeStep) (at : ℕ) → values (take at l) ≤ values l
unfolding values
values_first l zero = omega arith
values_first [] (suc at) = omega arith
values_first (s ∷ l) (suc at) = let q = values_first l at in omega arith

pub some_below : (l : List TreeStep) (at : ℕ) (m : TreeStep) → get_elem? l at ≡ some m → at < length l
some_below [] at m e = absurd (let z : ◌≡◌ {A = ℕ} 0 1 = cc in omega arith)
some_below (s ∷ l) zero m e = omega arith
some_below (s ∷ l) (suc at) m e = let q = some_below l at m e in omega arith

pub none_past : (l : List TreeStep) (at : ℕ) → get_elem? l at ≡ none → length l ≤ at
none_past [] at e = omega arith
none_past (s ∷ l) zero e = absurd (let z : ◌≡◌ {A = ℕ} 0 1 = cc in omega arith)
none_past (s ∷ l) (suc at) e = let q = none_past l at e in omega arith

module _ (g : Grid) where
  -- what was moved before a call and what it reports is what was moved after it
  pub call_values : (at : ℕ) → values (take at (steps g)) + reported_by (answers g (get_elem? (steps g) at)) ≡ values (take (moves at (get_elem? (steps g) at)) (steps g))
  call_values at = go (get_elem? (steps g) at) refl
    where
      go : (o : Option TreeStep) → get_elem? (steps g) at ≡ o → values (take at (steps g)) + reported_by (answers g o) ≡ values (take (moves at o) (steps g))
      go none e = add-zero _
      go (some m) e = rw (telling_values g m, add-one) (sym (values_next (steps g) at m e))

  pub call_within : (at : ℕ) → at ≤ length (steps g) → moves at (get_elem? (steps g) at) ≤ length (steps g)
  call_within at h = go (get_elem? (steps g) at) refl
    where
      go : (o : Option TreeStep) → get_elem? (steps g) at ≡ o → moves at o ≤ length (steps g)
      go none e = h
      go (some m) e = let q = some_below (steps g) at m e in omega arith

  -- ---- a list of calls

  calls_values : (at : ℕ) (l : List Bool) → values (take at (steps g)) + reported g at l ≡ values (take (reached g at l) (steps g))
  unfolding reached reported
  calls_values at [] = add-zero _
  calls_values at (true ∷ l) =
      let o = get_elem? (steps g) at in
      sym (add_assoc (values (take at (steps g))) (reported_by (answers g o)) (reported g (moves at o) l)) ∙ ap (λ n. n + reported g (moves at o) l) (call_values at) ∙ calls_values (moves at o) l
  calls_values at (false ∷ l) = rw zero-add (calls_values at l)

  calls_within : (at : ℕ) (l : List Bool) → at ≤ length (steps g) → reached g at l ≤ length (steps g)
  unfolding reached
  calls_within at [] h = h
  calls_within at (true ∷ l) h = calls_within (moves at (get_elem? (steps g) at)) l (call_within at h)
  calls_within at (false ∷ l) h = calls_within at l h

  calls_start : (l : List Bool) → reported g 0 l ≡ values (take (reached g 0 l) (steps g))
  calls_start l = sym (zero-add _) ∙ (unfold values in calls_values 0 l)

-- THE CLAIM, for any list of calls from position 0
module _ (a : PlanLists) (sound : Sound a) (axes : 0 < length a.lengths) (l : List Bool) where
  -- no call passes T
  pub claim_within : reached (grid_of a) 0 l ≤ step_count a
  claim_within = rw (← steps_length a sound axes) (calls_within (grid_of a) 0 l (omega arith))

  -- the reports add up to at most the plan's values moved
  pub claim_moved : reported (grid_of a) 0 l ≤ moved a
  claim_moved = rw (calls_start (grid_of a) l, ← values_moved a sound) (values_first (steps (grid_of a)) (reached (grid_of a) 0 l))

  -- and to exactly these when the last step is taken
  pub claim_all : reached (grid_of a) 0 l ≡ step_count a → reported (grid_of a) 0 l ≡ moved a
  claim_all e =
      let q : length (steps (grid_of a)) ≡ reached (grid_of a) 0 l = steps_length a sound axes ∙ sym e in
      calls_start (grid_of a) l ∙ ap values (take_all (reached (grid_of a) 0 l) (steps (grid_of a)) (omega arith)) ∙ values_moved a sound

  -- and no board below 2^p holds more than at position 1
  pub claim_held : (b : ℕ) → b < board_count a → held (grid_of a) (reached (grid_of a) 0 l) b ≤ held (grid_of a) 1 b
  claim_held b h = held_most (grid_of a) (grid_lawful a sound) b (rw (board_count_lem a sound) h) (reached (grid_of a) 0 l)
