-- What the search for a step asks at a place of the tree, and what it finds.
use Rattle.std.specs.Prelude.{ℕ, ◌-◌, ◌≡◌}
use Rattle.plan_spec.specs.Accepted.{Accepted}
use Rattle.plan_spec.specs.declared.types.Plan.{Plan}
use Rattle.rack_spec.specs.Counts.{span}
use Rattle.rack_spec.specs.Steps.{visit, walk}
use Rattle.rack_spec.specs.Finding.{plan_grid, summed_in, found, Walking, Sending}
use Rattle.rack_spec.specs.Answers.{Told, expands, finishes, done, telling, told_at}
use Rattle.rack_count.specs.Tallied.{Tallied}
use Rattle.rack_count.specs.declared.counts.Tallies.{Tallies}
use Rattle.rack_find.specs.declared.steps.Found.{Found}
use Rattle.rack_find.specs.declared.steps.Found.TheVariants as Found'

-- The tallies are those of the plan q, and the search is at a place of its tree: the choice with this mask keeps all axes from place d on, which have `rest`
-- labellings, and those before d that it keeps have n.
pub record Searching (q : Plan) (t : Tallies) (mask d n rest : ℕ) : Type 0 where
  pub accepted : Accepted q
  pub tallied : Tallied q t
  pub walking : Walking q mask d n
  pub spans : rest ≡ span (plan_grid q) (q.axes - d) d

-- what is told of a step that is found in the tree of q
abbrev pub found_told : Plan → Found → Told
found_told q (Found'.Expand c) = expands c.mask
found_told q (Found'.Send c d at) = telling (plan_grid q) (found (plan_grid q) (summed_in q c.mask) at)
found_told q (Found'.Finish c) = finishes c.mask
found_told q Found'.Done = done

-- and a transfer that is found is one of its choice's
abbrev pub Sendable : Plan → Found → Type 0
Sendable q (Found'.Expand c) = Unit {0}
Sendable q (Found'.Send c d at) = Sending q c.mask d at
Sendable q (Found'.Finish c) = Unit {0}
Sendable q Found'.Done = Unit {0}

-- the step at a position of the walk, and of the visit
abbrev pub FoundInWalk : Plan → ℕ → ℕ → ℕ → Found → Type 0
FoundInWalk q mask d at r = (found_told q r ≡ told_at (plan_grid q) (walk (plan_grid q) (q.axes - d) d (summed_in q mask)) at) × Sendable q r

abbrev pub FoundInVisit : Plan → ℕ → ℕ → ℕ → Found → Type 0
FoundInVisit q mask d at r = (found_told q r ≡ told_at (plan_grid q) (visit (walk (plan_grid q) (q.axes - d) d) (q.axes - d) (summed_in q mask)) at) × Sendable q r
