-- Operands of one, two and four bytes, byte by byte.
use Prim.Native.Nat.{ℕ, suc, ◌+◌, ◌*◌, ◌≤◌, ◌<◌}
use mathlib.Core.Path.{◌≡◌, refl}
use mathlib.Core.List.{List}
use native.Mathlib.Omega.{arith}
use native.Mathlib.Numerals.{add-one}
use lib.ListN.{length, get_or, take, drop}
use lib.Seq.{drop-cons}
use Rattle.cube_spec.specs.Bytes.{little}

module _ (l : List ℕ) where
  byte : (n at : ℕ) → at < length l → little (take (suc n) (drop at l)) ≡ get_or l at 0 + 256 * little (take n (drop (at + 1) l))
  unfolding little
  byte n at h = rw (add-one at, drop-cons l at 0 h)

  none : (at : ℕ) → little (take 0 (drop at l)) ≡ 0
  unfolding little
  none at = refl

  module _ (at : ℕ) where
    pub one : at + 1 ≤ length l → little (take 1 (drop at l)) ≡ get_or l at 0
    one h =
        let a = byte 0 at (omega arith) in
        let z = none (at + 1) in
        omega arith

    pub two : at + 2 ≤ length l → little (take 2 (drop at l)) ≡ get_or l at 0 + 256 * get_or l (at + 1) 0
    two h =
        let a = byte 1 at (omega arith) in
        let b = byte 0 (at + 1) (omega arith) in
        let z = none (at + 1 + 1) in
        omega arith

    pub four : at + 4 ≤ length l → little (take 4 (drop at l)) ≡ get_or l at 0 + 256 * get_or l (at + 1) 0 + 65536 * get_or l (at + 2) 0 + 16777216 * get_or l (at + 3) 0
    four h =
        let i : at + 1 + 1 ≡ at + 2 = omega arith in
        let j : at + 2 + 1 ≡ at + 3 = omega arith in
        let a = byte 3 at (omega arith) in
        let b = rw i at (byte 2 (at + 1) (omega arith)) in
        let c = rw j at (byte 1 (at + 2) (omega arith)) in
        let d = byte 0 (at + 3) (omega arith) in
        let z = none (at + 3 + 1) in
        omega arith
