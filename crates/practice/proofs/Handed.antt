-- Statement: what the program learns of its one call of print, by the function's own contract, as the check reads it: of every input that was
-- read into the space, up to where reading stops.
use Prim.Native.Nat.{ℕ, ◌≤◌}
use mathlib.Core.Path.{◌≡◌, sym, ◌∙◌, ap}
use mathlib.Core.List.{List}
use native.Mathlib.Omega.{arith}
use lib.ListN.{length, take}
use lib.Seq.{length-sets}
use contract.Lifetimes.{Lfts}
use borrow.Fn.World.{ArgsD, ResD}
use denote.Triple.Clauses.{AtExit}
use Rattle.cube_spec.proofs.Stores.{stored_first}
use Rattle.practice_spec.specs.Seeds.{practised}
use Rattle.practice_spec.specs.Exercises.{Asks, Prints}
use Rattle.practice_spec.specs.inner.Judged.{longest_tape}
use Rattle.practice_spec.proofs.Printing.{prints_all, same_seed, practised_short}
use Rattle.practice.specs.Openings.{ReadOf}
use Rattle.practice.specs.contracts.writing.print.{signature, ended}
use Rattle.practice.proofs.writing.print.Reads as reads

module _ (κs : Lfts 2) (a : ArgsD signature κs) (r : ResD signature κs) (s : AtExit ended κs) (h : reads.Learnt κs a r s)
    (room : longest_tape ≤ length a.1.1.0.now) (input : List ℕ) (e : ReadOf input a.0.now a.1.0) where
  -- What the buffer then has at its start is what the whole input prints, byte for byte (`write` asks for just these bytes),
  pub handed : take r s.1.1.0.now ≡ practised input
  handed =
      let m = h input e in
      let l = practised_short input in
      let n = ap length m.1 ∙ length-sets a.1.1.0.now 0 (practised input) in
      stored_first a.1.1.0.now s.1.1.0.now (practised input) r m.0 (omega (arith, m.0)) m.1

  -- so it is the tape of the seed that the input asks for, or the refusal line.
  pub handed_prints : Prints input (take r s.1.1.0.now)
  handed_prints = rw handed (prints_all input)

-- "Instructors want identical exercises on every rack.": two calls, on whatever racks, for inputs that ask for one seed, in buffers that hold
-- anything
module _ (κs κs' : Lfts 2) (a : ArgsD signature κs) (a' : ArgsD signature κs') (r : ResD signature κs) (r' : ResD signature κs')
    (s : AtExit ended κs) (s' : AtExit ended κs') (h : reads.Learnt κs a r s) (h' : reads.Learnt κs' a' r' s')
    (room : longest_tape ≤ length a.1.1.0.now) (room' : longest_tape ≤ length a'.1.1.0.now)
    (input input' : List ℕ) (e : ReadOf input a.0.now a.1.0) (e' : ReadOf input' a'.0.now a'.1.0) where
  pub same_bytes : (seed : ℕ) → Asks input seed → Asks input' seed → take r s.1.1.0.now ≡ take r' s'.1.1.0.now
  same_bytes seed q q' =
      handed κs a r s h room input e ∙ same_seed input input' seed q q' ∙ sym (handed κs' a' r' s' h' room' input' e')
