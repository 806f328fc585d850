use Rattle.plan_spec.proofs.Accepting.{passed_accepted}
use mathlib.Core.Path.{◌∙◌}
use Rattle.rack_spec.proofs.Seeking.{root_walking}
use Rattle.rack_spec.proofs.Keeping.{none_held, some_held}
use borrow.Author.Rules.{rules}
use Rattle.rack_held.proofs.holds.held_at.Goals as goal

pub returns-then-at-eq0 : goal.returns-then-at-eq0
returns-then-at-eq0 c = let ok = passed_accepted c.args.plan (search rules) (search rules) (search rules) c.requires.0 in none_held ok c.args.board c.if-at-eq0.true

pub held_walk-requires : goal.held_walk-requires
held_walk-requires c = let ok = passed_accepted c.args.plan (search rules) (search rules) (search rules) c.requires.0 in (ok, rw c.full-root.ensures (root_walking ok c.requires.0), c.requires.1, c.tallies_of-tallies.ensures)

pub returns : goal.returns
returns c = let ok = passed_accepted c.args.plan (search rules) (search rules) (search rules) c.requires.0 in let e = rw c.full-root.ensures at c.held_walk.ensures.0 in e ∙ some_held ok c.args.board c.if-at-eq0.false
