-- `link_division::pricing::share_of` meets its contract.
use Rattle.std.proofs.Common.{◌≡◌, get_or}
use Rattle.cube_spec.specs.Boxes.{product}
use Rattle.link_spec.specs.Shares.{factor}
use Rattle.link_division.proofs.pricing.share_of.Given as goal

abbrev pub invariant-loop-j : goal.invariant-loop-j
invariant-loop-j l = l.cells ≡ product (factor (λ d. get_or l.lens d 0) (λ d. get_or l.fares d 0) l.i) l.j 0
