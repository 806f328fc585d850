-- `tape_fill::store` meets its contract: each reading that is decoded is one turn of what is left.
use Rattle.std.proofs.Common.{◌∙◌, sym, ap, length, drop, set, arith, rules, w32}
use mir.Val.{SFits}
use mir.Facts.{to_z-of_z}
use Rattle.tape_reading.specs.declared.types.Reading.TheVariants as Reading'
use Rattle.tape_reading.specs.Readings.{reading_of, centimetres_of, refusal_in}
use Rattle.tape_spec.specs.Decoding.{left, points_in}
use Rattle.tape_spec.proofs.Decoding.{tells}
use Rattle.tape_spec.proofs.Filling as laws
use Rattle.tape_fill.proofs.store.Goals as goal

pub put_points-requires : goal.put_points-requires
put_points-requires c =
    let x = c.in-Points in
    let o = c.loop-command in
    let p = laws.reads _ o.at x.n (Reading'.Centimetres x.v) x.next (rw x.is at c.in-Some.ensures.0) o.invariant.2 in
    let h = laws.room x.n _ _ _ o.done p (length o.slice) o.invariant.1 in
    ((rw x.is at c.in-Some.ensures.1).0, omega arith)

pub loop-command-smaller-in-Points : goal.loop-command-smaller-in-Points
loop-command-smaller-in-Points c = let m = tells _ c.loop-command.at (rw c.in-Points.is at c.in-Some.ensures.0) in omega arith

pub loop-command-preserved-in-Points : goal.loop-command-preserved-in-Points
unfolding centimetres_of
loop-command-preserved-in-Points c =
    let a = c.args in
    let x = c.in-Points in
    let o = c.loop-command in
    let p = laws.reads _ o.at x.n (Reading'.Centimetres x.v) x.next (rw x.is at c.in-Some.ensures.0) o.invariant.2 in
    let ok : SFits w32 x.v = search rules in
    laws.stored x.n _ _ _ o.done p (points_in (left (drop a.start a.tape.now))) a.slice.now o.slice c.put_points.new.slice (rw (to_z-of_z ok) at c.put_points.ensures) o.invariant.0 o.invariant.1 o.invariant.3

pub reading_of-requires : goal.reading_of-requires
reading_of-requires c =
    let x = c.in-Float in
    let o = c.loop-command in
    ((rw x.is at c.in-Some.ensures.1), (laws.reads _ o.at 1 (reading_of x.byte x.bits) x.next (rw x.is at c.in-Some.ensures.0) o.invariant.2).good)

pub point_of-requires : goal.point_of-requires
point_of-requires c =
    let x = c.in-Float in
    let o = c.loop-command in
    ap (λ r. refusal_in (centimetres_of r)) c.reading_of.ensures ∙ (laws.reads _ o.at 1 (reading_of x.byte x.bits) x.next (rw x.is at c.in-Some.ensures.0) o.invariant.2).good

pub bounds-slice-done : goal.bounds-slice-done
bounds-slice-done c =
    let x = c.in-Float in
    let o = c.loop-command in
    let p = laws.reads _ o.at 1 (reading_of x.byte x.bits) x.next (rw x.is at c.in-Some.ensures.0) o.invariant.2 in
    let h = laws.room 1 _ _ _ o.done p (length o.slice) o.invariant.1 in
    omega arith

pub loop-command-smaller : goal.loop-command-smaller
loop-command-smaller c = let m = tells _ c.loop-command.at (rw c.in-Float.is at c.in-Some.ensures.0) in omega arith

pub loop-command-preserved : goal.loop-command-preserved
loop-command-preserved c =
    let a = c.args in
    let x = c.in-Float in
    let o = c.loop-command in
    let p = laws.reads _ o.at 1 (reading_of x.byte x.bits) x.next (rw x.is at c.in-Some.ensures.0) o.invariant.2 in
    let ok : SFits w32 c.point_of.result = record { sfits = c.point_of.type_inv } in
    let v = to_z-of_z ok ∙ c.point_of.ensures ∙ ap laws.value_of c.reading_of.ensures in
    laws.stored 1 _ _ _ o.done p (points_in (left (drop a.start a.tape.now))) a.slice.now o.slice _ (ap (set o.slice o.done) v) o.invariant.0 o.invariant.1 o.invariant.3

pub returns-in_default-command : goal.returns-in_default-command
returns-in_default-command c =
    let d = c.in_default-command in
    rw (laws.nothing_left _ _ _ d.not-Points d.not-Float c.in-Some.ensures.0) at (sym c.loop-command.invariant.3) ∙ laws.filled _ _ c.requires.1

pub returns : goal.returns
returns c = rw (laws.none_left _ _ c.in_default.ensures.0) at (sym c.loop-command.invariant.3) ∙ laws.filled _ _ c.requires.1
